-- Entries in order: a run cut in two, one entry more, the length, and soundness along a run whose entries are within their limit.
use Prim.Native.Nat.{ℕ, suc, ◌+◌, ◌≤◌, ◌<◌}
use mathlib.Core.Bool.{false}
use mathlib.Core.List.{List, [], ◌∷◌, ◌++◌}
use mathlib.Core.Path.{◌≡◌, refl, ◌∙◌}
use native.Mathlib.Numerals.{add-one}
use native.Mathlib.Omega.{arith}
use lib.Dec.{ltb}
use lib.ListN.{length, get_or, take, drop, length-take}
use lib.Seq.{take-suc, get_or-take, get_or-drop}
use borrow.Author.Tests.{ltb-false, le-ltb}
use Rattle.base.specs.Limits.{max_entry}
use Rattle.hire_book.specs.Book.{apply_of, apply_all, any_above, fresh_book, book_of, Sound}
use Rattle.hire_book.specs.Hire.{pump_of, kind_of, day_of}
use Rattle.hire_book.proofs.Cells.{view, length-entered}
use Rattle.hire_book.proofs.Below.{none, none-at}
use Rattle.hire_book.proofs.Sound.{apply-sound, fresh-sound}

pub apply-append : (a b book : List ℕ) → apply_all (a ++ b) book ≡ apply_all b (apply_all a book)
unfolding apply_all
apply-append [] b book = refl
apply-append (e ∷ a) b book = apply-append a b (apply_of e book)

-- one turn of a loop that applies them
pub apply-more : (entries book : List ℕ) (i : ℕ) → i < length entries → apply_all (take (i + 1) entries) book ≡ apply_of (get_or entries i 0) (apply_all (take i entries) book)
unfolding apply_all
apply-more entries book i h = rw (add-one, take-suc entries i 0 h) (apply-append (take i entries) (get_or entries i 0 ∷ []) book)

-- each entry is within its limit
abbrev pub Within : List ℕ → Type 0
Within entries = (i : ℕ) → i < length entries → get_or entries i 0 ≤ max_entry

pub within : (entries : List ℕ) → any_above entries ≡ false → Within entries
unfolding any_above
within entries e i h = ltb-false _ _ (none-at (λ j. ltb max_entry (get_or entries j 0)) (length entries) e i h)

pub none_above : (entries : List ℕ) → Within entries → any_above entries ≡ false
unfolding any_above
none_above entries w = none (λ j. ltb max_entry (get_or entries j 0)) (length entries) (λ i h. le-ltb _ _ (w i h))

-- a part of a list whose entries below its end are within their limit
pub within-part : (entries : List ℕ) (from count : ℕ) → ((i : ℕ) → i < from + count → get_or entries i 0 ≤ max_entry) → Within (take count (drop from entries))
within-part entries from count w i h =
    let l : i < count = omega (arith, simp length-take at h) in
    rw (get_or-take count (drop from entries) i 0 l, get_or-drop from entries i 0) (w (from + i) (omega arith))

pub all_sound : (entries book : List ℕ) → Within entries → Sound book → Sound (apply_all entries book)
unfolding apply_all
all_sound [] book w s = s
all_sound (e ∷ es) book w s = all_sound es (apply_of e book) (λ i h. w (suc i) (omega arith)) (apply-sound e book (w 0 (omega arith)) s)

pub length-all : (entries book : List ℕ) → length (apply_all entries book) ≡ length book
unfolding apply_all
length-all [] book = refl
length-all (e ∷ es) book = length-all es (apply_of e book) ∙ length-entered (view (pump_of e) (kind_of e) (day_of e) book)

-- every book that the rules make from the fresh one has its length and is not broken
pub book-sound : (entries : List ℕ) → Within entries → Sound (book_of entries)
book-sound entries w = all_sound entries fresh_book w fresh-sound
