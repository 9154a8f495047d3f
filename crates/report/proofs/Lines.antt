-- Lines and the reader: how a row of bytes splits, and where a reader is after a line's first bytes and after its end.
use Prim.Native.Nat.{ℕ, suc, ◌+◌, min}
use native.Mathlib.Omega.{arith}
use mathlib.Core.Path.{◌≡◌, refl}
use mathlib.Core.Bool.{Bool, true, false, cond, ◌&&◌, ◌||◌, not}
use mathlib.Core.List.{List, [], ◌∷◌, ◌++◌}
use lib.Dec.{ltb, leb, eqb}
use borrow.Author.Tests.{lt-ltb, le-ltb, leb-true, leb-false, ltb-true, ltb-false}
use Rattle.base.proofs.Tests.{both}
use Rattle.base.specs.Limits.{max_entry, largest}
use Rattle.decimal.specs.Digits.{all_digits, value_of}
use Rattle.page.specs.Page.{line_end}
use Rattle.hire_book.specs.Book.{apply_of}
use Rattle.report.specs.declared.Reader.{Reader}
use Rattle.report.specs.Report.{lines_of, is_empty, is_bad}
use Rattle.report.specs.Reading.{reading, line_after, with_byte, marked, end_of}
use Rattle.report.proofs.Value.{kept_from, kept-snoc, kept}

-- bytes none of which ends a line
pub data Open : List ℕ → Type 0 where
  none : Open []
  more : {b : ℕ} {line : List ℕ} → eqb b line_end ≡ false → Open line → Open (b ∷ line)

pub open_snoc : (b : ℕ) {line : List ℕ} → Open line → eqb b line_end ≡ false → Open (line ++ (b ∷ []))
open_snoc b none e = more e none
open_snoc b (more q o) e = more q (open_snoc b o e)

-- a line that has its end, and one that lacks it
pub lines_end : {line : List ℕ} (bytes : List ℕ) → Open line → lines_of (line ++ (line_end ∷ bytes)) ≡ line ∷ lines_of bytes
unfolding lines_of
lines_end bytes none = refl
lines_end bytes (more e o) = rw (e, lines_end bytes o)

pub lines-one : (b : ℕ) {line : List ℕ} → eqb b line_end ≡ false → Open line → lines_of (b ∷ line) ≡ (b ∷ line) ∷ []
unfolding lines_of
lines-one b e none = rw e
lines-one b e (more {b = a} q o) = rw (e, lines-one a q o)

-- the reader in line n, after the line's first bytes
abbrev pub reader_at : ℕ → List ℕ → Reader
reader_at n line = record { line = min n largest; any = not (is_empty line); value = kept_from 0 line; bad = false }

some : (b : ℕ) (line : List ℕ) → is_empty (line ++ (b ∷ [])) ≡ false
some b [] = refl
some b (a ∷ line) = refl

pub reader-byte : (n b : ℕ) (line : List ℕ) → with_byte b (reader_at n line) ≡ reader_at n (line ++ (b ∷ []))
reader-byte n b line = rw (some b line, kept-snoc 0 b line)

line-after : (n : ℕ) → line_after (min n largest) ≡ min (suc n) largest
unfolding line_after
line-after n = go (ltb (min n largest) largest) refl
  where
    go : (t : Bool) → ltb (min n largest) largest ≡ t → cond t (min n largest + 1) (min n largest) ≡ min (suc n) largest
    go true e = omega (arith, ltb-true (min n largest) largest e)
    go false e = omega (arith, ltb-false (min n largest) largest e)

above : (v : ℕ) → ltb max_entry v ≡ not (leb v max_entry)
above v = go (leb v max_entry) refl
  where
    go : (t : Bool) → leb v max_entry ≡ t → ltb max_entry v ≡ not t
    go true e = le-ltb max_entry v (leb-true v max_entry e)
    go false e = lt-ltb max_entry v (leb-false v max_entry e)

tests : (e a f : Bool) → (not e && (a && f)) ≡ not (e || not a || not f)
tests true a f = refl
tests false false f = refl
tests false true true = refl
tests false true false = refl

-- what the reader tests at a line's end is that the line is not bad
pub fits : (line : List ℕ) → (not (is_empty line) && leb (kept_from 0 line) max_entry) ≡ not (is_bad line)
unfolding is_bad
fits line = rw ((kept 0 line (omega arith)).fits, above (value_of line)) (tests (is_empty line) (all_digits line) (leb (value_of line) max_entry))

-- a bad line's end, and a good one's
pub end-bad : (n : ℕ) (line book : List ℕ) → is_bad line ≡ true → end_of (reading (reader_at n line) book) ≡ reading (marked (reader_at n line)) book
unfolding end_of
end-bad n line book e = rw (fits line, e)

pub end-good : (n : ℕ) (line book : List ℕ) → is_bad line ≡ false → end_of (reading (reader_at n line) book) ≡ reading (reader_at (suc n) []) (apply_of (value_of line) book)
unfolding end_of kept_from
end-good n line book e =
    let t : (not (is_empty line) && leb (kept_from 0 line) max_entry) ≡ true = rw (fits line, e) in
    let k = (kept 0 line (omega arith)).says (leb-true (kept_from 0 line) max_entry (both (not (is_empty line)) (leb (kept_from 0 line) max_entry) t).1) in
    rw (t, k, line-after n)
