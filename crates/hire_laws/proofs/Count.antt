-- Counts over two lists joined, and sums over the numbers below a bound.
use Prim.Native.Nat.{ℕ, zero, suc, ◌+◌, ◌≤◌, ◌<◌}
use mathlib.Core.Bool.{Bool}
use mathlib.Core.List.{List, [], ◌∷◌, ◌++◌}
use mathlib.Core.Path.{◌≡◌, refl}
use native.Mathlib.Decide.{ℕ_discrete}
use native.Mathlib.Omega.{arith}
use lib.Dec.{eqb}
use borrow.Author.Tests.{eq-eqb, ne_eqb}
use Rattle.base.specs.Count.{count, one}
use Rattle.hire_book.specs.Below.{sum_below}

pub count-append : {A : Type 0} (f : A → Bool) (a b : List A) → count f (a ++ b) ≡ count f a + count f b
unfolding count
count-append f [] b = omega arith
count-append f (x ∷ a) b = rw (count-append f a b) (omega arith)

pub sum_same : (f g : ℕ → ℕ) (n : ℕ) → ((i : ℕ) → i < n → f i ≡ g i) → sum_below f n ≡ sum_below g n
unfolding sum_below
sum_same f g zero h = refl
sum_same f g (suc n) h = rw (sum_same f g n (λ i l. h i (omega arith)), h n (omega arith))

pub sum-zero : (n : ℕ) → sum_below (λ _. 0) n ≡ 0
unfolding sum_below
sum-zero zero = refl
sum-zero (suc n) = rw (sum-zero n)

pub sum-add : (f g : ℕ → ℕ) (n : ℕ) → sum_below (λ i. f i + g i) n ≡ sum_below f n + sum_below g n
unfolding sum_below
sum-add f g zero = refl
sum-add f g (suc n) = rw (sum-add f g n) (omega arith)

-- a number stands at no place, and at one place, of those below a bound
sum-none : (q n : ℕ) → n ≤ q → sum_below (λ i. one (eqb q i)) n ≡ 0
unfolding sum_below
sum-none q zero h = refl
sum-none q (suc n) h = rw (sum-none q n (omega arith), ne_eqb q n (omega arith))

pub sum_one : (q n : ℕ) → q < n → sum_below (λ i. one (eqb q i)) n ≡ 1
unfolding sum_below
sum_one q zero h = absurd (omega arith)
sum_one q (suc n) h = go (ℕ_discrete q n) (sum_one q n)
  where
    go : Dec (q ≡ n) → (q < n → sum_below (λ i. one (eqb q i)) n ≡ 1) → sum_below (λ i. one (eqb q i)) n + one (eqb q n) ≡ 1
    go (yes e) r = rw (sum-none q n (omega arith), eq-eqb q n e)
    go (no o) r = rw (r (omega arith), ne_eqb q n o)
