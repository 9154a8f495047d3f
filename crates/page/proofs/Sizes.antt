-- How long the lines of a report are.
use Prim.Native.Nat.{ℕ, zero, suc, ◌+◌, ◌*◌, ◌≤◌, ◌<◌}
use native.Mathlib.Omega.{arith}
use mathlib.Core.Path.{◌≡◌, refl}
use mathlib.Core.Bool.{Bool, true, false}
use mathlib.Core.List.{List}
use lib.Dec.{eqb}
use lib.ListN.{length, length-append}
use borrow.Author.Tests.{eqb-true, eqb-false}
use Rattle.base.specs.Limits.{pumps, max_day}
use Rattle.decimal.specs.Digits.{decimal_of}
use Rattle.decimal.proofs.Digits.{decimal-length}
use Rattle.hire_book.specs.Below.{sum_below}
use Rattle.hire_book.specs.Book.{charged, stored_days, Sound}
use Rattle.hire_book.proofs.Sound.{sound-pump}
use Rattle.page.specs.Page.{row_of, rows_below, row_bytes}
use Rattle.page.proofs.Rows.{row-none, row-some}

-- a line's bytes
pub row-size : (pump days : ℕ) → (days ≡ 0 → ⊥) → length (row_of pump days) ≡ length (decimal_of pump) + length (decimal_of days) + 2
row-size pump days e = rw (row-some pump days e) (simp length-append (omega arith))

-- a pump's number has at most three digits, and its days at most five
pub row-length : (pump days : ℕ) → pump < pumps → days ≤ max_day → length (row_of pump days) ≤ row_bytes
row-length pump days h k = go (eqb days 0) refl
  where
    go : (t : Bool) → eqb days 0 ≡ t → length (row_of pump days) ≤ row_bytes
    go true e = rw (row-none pump days (eqb-true days 0 e)) (omega arith)
    go false e = rw (row-size pump days (eqb-false days 0 e)) (omega (arith, decimal-length 2 pump (omega arith), decimal-length 4 days (omega arith)))

-- the days that a sound book stores
pub charged-fits : {book : List ℕ} → Sound book → (pump : ℕ) → pump < pumps → charged book pump ≤ max_day
charged-fits s pump h = let k = sound-pump s pump h in omega arith

pub rows-length : {book : List ℕ} → Sound book → (n : ℕ) → n ≤ pumps → length (rows_below (charged book) n) ≤ n * row_bytes
unfolding rows_below
rows-length s zero h = omega arith
rows-length {book} s (suc n) h = rw length-append (omega (arith, rows-length s n (omega arith), row-length n (charged book n) (omega arith) (charged-fits s n (omega arith))))

-- the total has at most eight digits
below-fits : {book : List ℕ} → Sound book → (n : ℕ) → n ≤ pumps → sum_below (charged book) n ≤ n * max_day
unfolding sum_below
below-fits s zero h = omega arith
below-fits s (suc n) h = omega (arith, below-fits s n (omega arith), charged-fits s n (omega arith))

pub total-length : {book : List ℕ} → Sound book → length (decimal_of (stored_days book)) ≤ 8
total-length {book} s = decimal-length 7 (stored_days book) (omega (arith, below-fits s pumps (omega arith)))
