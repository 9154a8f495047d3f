-- The lines of a report: a pump's line, one pump more, and days that agree below the number of pumps.
use Prim.Native.Nat.{ℕ, zero, suc, ◌+◌, ◌<◌}
use native.Mathlib.Omega.{arith}
use native.Mathlib.Numerals.{add-one}
use mathlib.Core.Path.{◌≡◌, refl}
use mathlib.Core.List.{[], ◌∷◌, ◌++◌}
use borrow.Author.Tests.{eq-eqb, ne_eqb}
use Rattle.base.specs.Limits.{pumps}
use Rattle.decimal.specs.Digits.{decimal_of}
use Rattle.page.specs.Page.{line_end, space, row_of, rows_below, page_of}

-- a pump with no charged day has no line
pub row-none : (pump days : ℕ) → days ≡ 0 → row_of pump days ≡ []
unfolding row_of
row-none pump days e = rw (eq-eqb days 0 e)

pub row-some : (pump days : ℕ) → (days ≡ 0 → ⊥) → row_of pump days ≡ decimal_of pump ++ (space ∷ []) ++ decimal_of days ++ (line_end ∷ [])
unfolding row_of
row-some pump days e = rw (ne_eqb days 0 e)

-- one pump more
pub rows_more : (days : ℕ → ℕ) (n : ℕ) → rows_below days (n + 1) ≡ rows_below days n ++ row_of n (days n)
unfolding rows_below
rows_more days n = rw add-one

-- only the days of the pumps count
rows_same : (f g : ℕ → ℕ) (n : ℕ) → ((i : ℕ) → i < n → f i ≡ g i) → rows_below f n ≡ rows_below g n
unfolding rows_below
rows_same f g zero h = refl
rows_same f g (suc n) h = rw (rows_same f g n (λ i l. h i (omega arith)), h n (omega arith))

pub page-same : (f g : ℕ → ℕ) (a b : ℕ) → ((i : ℕ) → i < pumps → f i ≡ g i) → a ≡ b → page_of f a ≡ page_of g b
unfolding page_of
page-same f g a b h e = rw (rows_same f g pumps h, e)
