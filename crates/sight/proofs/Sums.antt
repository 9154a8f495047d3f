-- Sums over the numbers below a bound: a part is at most the whole.
use Prim.Native.Nat.{ℕ, zero, suc, ◌+◌, ◌≤◌, ◌<◌}
use mathlib.Core.Path.{◌≡◌, refl}
use mathlib.Core.Bool.{Bool, true, false}
use native.Mathlib.Omega.{arith}
use lib.Dec.{ltb}
use borrow.Author.Tests.{ltb-true, ltb-false}
use Rattle.hire_book.specs.Below.{sum_below}

module _ (f : ℕ → ℕ) where
  pub sum-part : (i n : ℕ) → i ≤ n → sum_below f i ≤ sum_below f n
  unfolding sum_below
  sum-part i zero h = let e : i ≡ 0 = omega arith in rw e (omega arith)
  sum-part i (suc n) h = go (ltb i (suc n)) refl (λ k. sum-part i n k)
    where
      go : (t : Bool) → ltb i (suc n) ≡ t → (i ≤ n → sum_below f i ≤ sum_below f n) → sum_below f i ≤ sum_below f n + f n
      go true e again = let l : i < suc n = ltb-true i (suc n) e in omega (arith, again (omega arith))
      go false e again = let s : i ≡ suc n = omega (arith, ltb-false i (suc n) e) in rw s (omega arith)

  -- a turn of a loop that adds up keeps within what the whole keeps within
  pub sum_room : (i n s v m : ℕ) → s ≡ sum_below f i → v ≡ f i → i < n → sum_below f n ≤ m → s + v ≤ m
  unfolding sum_below
  sum_room i n s v m p q h k =
      let e : s + v ≡ sum_below f (suc i) = rw (p, q) in
      omega (arith, sum-part (suc i) n h)
