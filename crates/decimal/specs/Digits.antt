-- Decimal numbers as bytes: which bytes are digits, what a row of digits says, and the digits of a number.
use Rattle.std.specs.Prelude.{ℕ, zero, suc, ◌+◌, ◌-◌, ◌*◌, ◌/◌, ◌%◌, Bool, true, cond, ◌&&◌, List, [], ◌∷◌, ◌++◌, ltb, leb}

-- the bytes `0` to `9`
abbrev pub digit0 : ℕ
digit0 = 48

abbrev pub digit9 : ℕ
digit9 = 57

abbrev pub is_digit : ℕ → Bool
is_digit b = leb digit0 b && leb b digit9

unfoldable pub all_digits : List ℕ → Bool
all_digits [] = true
all_digits (b ∷ bs) = is_digit b && all_digits bs

-- what the digits say that follow digits which say v
unfoldable pub value_from : ℕ → List ℕ → ℕ
value_from v [] = v
value_from v (b ∷ bs) = value_from (v * 10 + (b - digit0)) bs

abbrev pub value_of : List ℕ → ℕ
value_of digits = value_from 0 digits

-- the digits of n, the highest first and it no zero unless n is 0; the first argument bounds how many there may be
unfoldable pub digits_within : ℕ → ℕ → List ℕ
digits_within zero n = (digit0 + n) ∷ []
digits_within (suc more) n = cond (ltb n 10) ((digit0 + n) ∷ []) (digits_within more (n / 10) ++ ((digit0 + n % 10) ∷ []))

-- n has at most n + 1 digits
unfoldable pub decimal_of : ℕ → List ℕ
decimal_of n = digits_within n n
