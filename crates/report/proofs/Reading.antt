-- Bytes read in order: however they are cut the outcome is the same, and a sound book stays sound.
use Prim.Native.Nat.{ℕ, ◌+◌, ◌≤◌, ◌<◌}
use native.Mathlib.Omega.{arith}
use native.Mathlib.Nat.{zero-add}
use native.Mathlib.Numerals.{add-one}
use mathlib.Core.Path.{◌≡◌, refl, sym, ap, subst, ◌∙◌}
use mathlib.Core.Bool.{Bool, true, false, cond, ◌&&◌}
use mathlib.Core.List.{List, [], ◌∷◌, ◌++◌}
use lib.Dec.{leb, eqb}
use lib.ListN.{length, take, get_or}
use lib.Seq.{take-suc, length-take-le}
use borrow.Author.Tests.{leb-true, eq-eqb}
use Rattle.base.proofs.Tests.{both}
use Rattle.base.specs.Limits.{max_entry}
use Rattle.decimal.specs.Text.{Put}
use Rattle.decimal.proofs.Text.{put-length, put-start}
use Rattle.page.specs.Page.{line_end}
use Rattle.hire_book.specs.Book.{book_length, apply_of, Sound}
use Rattle.hire_book.specs.Step.{wrong_length}
use Rattle.hire_book.proofs.Sound.{apply-sound, fresh-sound}
use Rattle.report.specs.Reading.{Reading, reading, with_byte, next_line, marked, end_of, byte_of, feed_of, last_of, output_of}
use Rattle.report.specs.Step.{SeenFed, feed_step, SeenReport, written, Counted, feed_parts, fresh_reading, joined}

-- however the input is cut
pub feed-cut : (d : Reading) (a b : List ℕ) → feed_of (feed_of d a) b ≡ feed_of d (a ++ b)
unfolding feed_of
feed-cut d [] b = refl
feed-cut d (x ∷ a) b = feed-cut (byte_of x d) a b

-- one turn of a loop that takes the bytes
pub feed-more : (d : Reading) (part : List ℕ) (i : ℕ) → i < length part → feed_of d (take (i + 1) part) ≡ byte_of (get_or part i 0) (feed_of d (take i part))
unfolding feed_of
feed-more d part i h = rw (add-one i, take-suc part i 0 h) (sym (feed-cut d (take i part) (get_or part i 0 ∷ [])))

pub feed-turn : (d : Reading) {mid next : Reading} (part : List ℕ) (i : ℕ) → i < length part → mid ≡ feed_of d (take i part) → next ≡ byte_of (get_or part i 0) mid → next ≡ feed_of d (take (i + 1) part)
feed-turn d part i h p q = q ∙ ap (byte_of (get_or part i 0)) p ∙ sym (feed-more d part i h)

-- a book that stays sound whichever way a test goes
either : (t : Bool) (a b : Reading) → (t ≡ true → Sound a.book) → (t ≡ false → Sound b.book) → Sound (cond t a b).book
either true a b f g = f refl
either false a b f g = g refl

pub end-sound : (d : Reading) → Sound d.book → Sound (end_of d).book
unfolding end_of
end-sound d s =
    either (d.reader.any && leb d.reader.value max_entry) (reading (next_line d.reader) (apply_of d.reader.value d.book)) (reading (marked d.reader) d.book)
    (λ e. apply-sound d.reader.value d.book (leb-true d.reader.value max_entry (both d.reader.any (leb d.reader.value max_entry) e).1) s)
    (λ _. s)

pub byte-sound : (b : ℕ) (d : Reading) → Sound d.book → Sound (byte_of b d).book
unfolding byte_of
byte-sound b d s =
    either d.reader.bad d (cond (eqb b line_end) (end_of d) (reading (with_byte b d.reader) d.book)) (λ _. s)
    (λ _. either (eqb b line_end) (end_of d) (reading (with_byte b d.reader) d.book) (λ _. end-sound d s) (λ _. s))

-- whatever is the outcome of a byte has a sound book
pub turn-sound : (b : ℕ) (d : Reading) {next : Reading} → next ≡ byte_of b d → Sound d.book → Sound next.book
turn-sound b d e s = subst (λ (x : Reading). Sound x.book) (sym e) (byte-sound b d s)

pub feed-sound : (d : Reading) (bytes : List ℕ) → Sound d.book → Sound (feed_of d bytes).book
unfolding feed_of
feed-sound d [] s = s
feed-sound d (b ∷ bytes) s = feed-sound (byte_of b d) bytes (byte-sound b d s)

pub last-sound : (d : Reading) → Sound d.book → Sound (last_of d).book
unfolding last_of
last-sound d s =
    either d.reader.bad d (cond d.reader.any (end_of d) d) (λ _. s)
    (λ _. either d.reader.any (end_of d) d (λ _. end-sound d s) (λ _. s))

pub ended-sound : (d : Reading) {last : Reading} → last ≡ last_of d → Sound d.book → Sound last.book
ended-sound d e s = subst (λ (x : Reading). Sound x.book) (sym e) (last-sound d s)

-- a report that was put at the start of the buffer
pub finished : (d last : Reading) (out left : List ℕ) (count : ℕ) → last ≡ last_of d → Put out 0 (output_of last) count left → ◌≡◌ {A = SeenReport} (record { answer = 0; count = count; book = last.book; out = left }) (written (output_of (last_of d)) (last_of d) out)
finished d last out left count e p = subst (λ (x : Reading). ◌≡◌ {A = SeenReport} (record { answer = 0; count = count; book = last.book; out = left }) (written (output_of x) x out)) e (rw (p.place, put-start (output_of last) p, zero-add))

pub put-counted : (text : List ℕ) {out left : List ℕ} {count : ℕ} → Put out 0 text count left → Counted count left
put-counted text {out} {left} {count} p =
    let h : count ≤ length left = omega (arith, p.place, p.room, put-length text p) in
    (h, sym (length-take-le count left h))

-- a sound book is of the right length
pub not-wrong : {book : List ℕ} → Sound book → wrong_length book ≡ false
not-wrong {book} s = rw (eq-eqb (length book) book_length s.cells)

-- a part is taken where the book is sound, and then parts are as one
pub step-taken : (d : Reading) (part : List ℕ) → Sound d.book → feed_step d part ≡ record { answer = 0; reading = feed_of d part }
unfolding feed_step
step-taken d part s = rw (not-wrong s, s.kept)

pub parts-fed : (d : Reading) (parts : List (List ℕ)) → Sound d.book → feed_parts d parts ≡ feed_of d (joined parts)
unfolding feed_parts joined feed_of
parts-fed d [] s = refl
parts-fed d (part ∷ parts) s =
    rw (ap (λ (r : SeenFed). r.reading) (step-taken d part s))
    (parts-fed (feed_of d part) parts (feed-sound d part s) ∙ feed-cut d part (joined parts))

-- so no part that is fed from the start on is refused
pub parts-taken : (parts : List (List ℕ)) (part : List ℕ) → (feed_step (feed_parts fresh_reading parts) part).answer ≡ 0
parts-taken parts part =
    rw (parts-fed fresh_reading parts fresh-sound) (ap (λ (r : SeenFed). r.answer) (step-taken (feed_of fresh_reading (joined parts)) part (feed-sound fresh_reading (joined parts) fresh-sound)))
