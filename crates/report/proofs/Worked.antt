-- The reports that R14.4 (docs/RULES.md) works out and some more, computed from the definition.
use Prim.Native.Nat.{ℕ}
use mathlib.Core.Path.{◌≡◌, refl}
use mathlib.Core.List.{List, [], ◌∷◌, ◌++◌}
use Rattle.decimal.specs.Digits.{all_digits, value_from, digits_within, decimal_of}
use Rattle.base.specs.Count.{count}
use Rattle.page.specs.Page.{line_end, head_text, total_text, row_of, rows_below, page_of, bad_line_of}
use Rattle.hire_book.specs.Hire.{hires_from, days_from, pairs_of_all}
use Rattle.report.specs.Report.{lines_of, is_bad, first_bad_from, report_of}

-- `5127`, `7431` and their lines' ends, the last of which may lack
abbrev entries : List ℕ
entries = 53 ∷ 49 ∷ 50 ∷ 55 ∷ line_end ∷ 55 ∷ 52 ∷ 51 ∷ 49 ∷ []

-- `pump days`, `7 4`, `total 4`
pub out-and-back : report_of (entries ++ (line_end ∷ [])) ≡ head_text ++ (55 ∷ 32 ∷ 52 ∷ line_end ∷ []) ++ total_text ++ (52 ∷ line_end ∷ [])
unfolding report_of lines_of is_bad first_bad_from all_digits value_from digits_within decimal_of count row_of rows_below page_of hires_from days_from pairs_of_all
out-and-back = refl

pub no-last-end : report_of entries ≡ report_of (entries ++ (line_end ∷ []))
unfolding report_of lines_of
no-last-end = refl

-- no lines at all: `pump days` and `total 0`
pub no_lines : report_of [] ≡ head_text ++ total_text ++ (48 ∷ line_end ∷ [])
unfolding report_of lines_of first_bad_from digits_within decimal_of count row_of rows_below page_of hires_from pairs_of_all
no_lines = refl

-- an empty line: `bad line 1`
pub empty-line : report_of (line_end ∷ []) ≡ bad_line_of 1
unfolding report_of lines_of is_bad first_bad_from
empty-line = refl
