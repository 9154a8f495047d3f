-- The lines of a report as bytes (document 01, end of "The hire book").
use Rattle.std.specs.Prelude.{ℕ, zero, suc, ◌+◌, ◌*◌, cond, List, [], ◌∷◌, ◌++◌, eqb}
use Rattle.base.specs.Limits.{pumps}
use Rattle.decimal.specs.Digits.{decimal_of}

-- every line ends with byte 10
abbrev pub line_end : ℕ
line_end = 10

abbrev pub space : ℕ
space = 32

-- `bad line N`
abbrev pub bad_text : List ℕ
bad_text = 98 ∷ 97 ∷ 100 ∷ 32 ∷ 108 ∷ 105 ∷ 110 ∷ 101 ∷ 32 ∷ []

unfoldable pub bad_line_of : ℕ → List ℕ
bad_line_of n = bad_text ++ decimal_of n ++ (line_end ∷ [])

-- `pump days`
abbrev pub head_text : List ℕ
head_text = 112 ∷ 117 ∷ 109 ∷ 112 ∷ 32 ∷ 100 ∷ 97 ∷ 121 ∷ 115 ∷ line_end ∷ []

-- `total T`
abbrev pub total_text : List ℕ
total_text = 116 ∷ 111 ∷ 116 ∷ 97 ∷ 108 ∷ 32 ∷ []

-- a line for a pump with at least one charged day
unfoldable pub row_of : ℕ → ℕ → List ℕ
row_of pump days = cond (eqb days 0) [] (decimal_of pump ++ (space ∷ []) ++ decimal_of days ++ (line_end ∷ []))

-- the pumps below n, in rising order
unfoldable pub rows_below : (ℕ → ℕ) → ℕ → List ℕ
rows_below days zero = []
rows_below days (suc n) = rows_below days n ++ row_of n (days n)

unfoldable pub page_of : (ℕ → ℕ) → ℕ → List ℕ
page_of days sum = head_text ++ rows_below days pumps ++ total_text ++ decimal_of sum ++ (line_end ∷ [])

-- the bytes that a report never passes: its heading's 10, for each pump a line of at most 3 digits and 5, and for the total a line of at most 8 digits
abbrev pub row_bytes : ℕ
row_bytes = 3 + 1 + 5 + 1

abbrev pub report_bytes : ℕ
report_bytes = 10 + pumps * row_bytes + (6 + 8 + 1)
