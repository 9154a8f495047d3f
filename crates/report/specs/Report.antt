-- The report (document 01, end of "The hire book"): bytes read to bytes written. Nothing here knows of a reader, a part or a book.
use Rattle.std.specs.Prelude.{ℕ, suc, Bool, true, false, cond, not, ◌||◌, List, [], ◌∷◌, map, ltb, eqb}
use Rattle.base.specs.Limits.{max_entry}
use Rattle.decimal.specs.Digits.{all_digits, value_of}
use Rattle.page.specs.Page.{line_end, bad_line_of, page_of}
use Rattle.hire_book.specs.Hire.{charges_of, days_of, total}

-- Each line ends with byte 10, which the last may lack. A byte that ends no line stands at the start of the line that follows it.
abbrev pub onto : ℕ → List (List ℕ) → List (List ℕ)
onto b [] = (b ∷ []) ∷ []
onto b (line ∷ lines) = (b ∷ line) ∷ lines

unfoldable pub lines_of : List ℕ → List (List ℕ)
lines_of [] = []
lines_of (b ∷ bytes) = cond (eqb b line_end) ([] ∷ lines_of bytes) (onto b (lines_of bytes))

-- a line that is empty, holds anything but digits or is above the entry limit
abbrev pub is_empty : List ℕ → Bool
is_empty [] = true
is_empty (b ∷ line) = false

unfoldable pub is_bad : List ℕ → Bool
is_bad line = is_empty line || not (all_digits line) || ltb max_entry (value_of line)

-- the number of the first bad line, where the first of these lines has number n; 0 where no line is bad
unfoldable pub first_bad_from : ℕ → List (List ℕ) → ℕ
first_bad_from n [] = 0
first_bad_from n (line ∷ lines) = cond (is_bad line) n (first_bad_from (suc n) lines)

-- counted from 1
abbrev pub first_bad : List ℕ → ℕ
first_bad bytes = first_bad_from 1 (lines_of bytes)

-- the entries that the lines say
abbrev pub entries_of : List ℕ → List ℕ
entries_of bytes = map value_of (lines_of bytes)

-- the pumps' charged days and the total are counted from the (pump, day) pairs that the history charges
unfoldable pub report_of : List ℕ → List ℕ
report_of bytes =
    cond (eqb (first_bad bytes) 0)
    (page_of (λ pump. days_of pump (charges_of (entries_of bytes))) (total (entries_of bytes)))
    (bad_line_of (first_bad bytes))
