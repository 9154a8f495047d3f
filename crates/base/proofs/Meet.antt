-- Two sets of places that together count more than the places there are share one; a count grows with its set.
use Prim.Native.Nat.{ℕ, zero, suc, ◌+◌, ◌≤◌, ◌<◌}
use mathlib.Core.Path.{◌≡◌, refl}
use mathlib.Core.Bool.{Bool, true, false}
use mathlib.Core.List.{List}
use native.Mathlib.Omega.{arith}
use native.Mathlib.Numerals.{add-one}
use lib.ListN.{length, take, get_or}
use Rattle.base.specs.Count.{one, count_below, count, count-more}

-- a place below n that is in both sets
pub record Shared (f g : ℕ → Bool) (n : ℕ) : Type 0 where
  pub place : ℕ
  pub below : place < n
  pub first : f place ≡ true
  pub second : g place ≡ true

pub one-le : (b : Bool) → one b ≤ 1
one-le true = omega arith
one-le false = omega arith

pub count-le : (f : ℕ → Bool) (n : ℕ) → count_below f n ≤ n
unfolding count_below
count-le f zero = omega arith
count-le f (suc n) = omega (arith, one-le (f n), count-le f n)

pub meet : (f g : ℕ → Bool) (n : ℕ) → n < count_below f n + count_below g n → Shared f g n
unfolding count_below
meet f g zero h = absurd (omega arith)
meet f g (suc n) h = go (f n) (g n) refl refl h (λ k. meet f g n k)
  where
    wider : Shared f g n → Shared f g (suc n)
    wider s = record { place = s.place; below = omega (arith, s.below); first = s.first; second = s.second }

    go : (x y : Bool) → f n ≡ x → g n ≡ y → suc n < (one x + count_below f n) + (one y + count_below g n) → (n < count_below f n + count_below g n → Shared f g n) → Shared f g (suc n)
    go true true p q h again = record { place = n; below = omega arith; first = p; second = q }
    go true false p q h again = wider (again (omega arith))
    go false true p q h again = wider (again (omega arith))
    go false false p q h again = wider (again (omega arith))

pub count-mono : (f g : ℕ → Bool) (n : ℕ) → ((i : ℕ) → i < n → f i ≡ true → g i ≡ true) → count_below f n ≤ count_below g n
unfolding count_below
count-mono f g zero h = omega arith
count-mono f g (suc n) h = go (f n) (g n) refl refl (count-mono f g n (λ i l. h i (omega arith)))
  where
    go : (x y : Bool) → f n ≡ x → g n ≡ y → count_below f n ≤ count_below g n → one x + count_below f n ≤ one y + count_below g n
    go true true p q k = omega arith
    go true false p q k = absurd (let w : ◌≡◌ {A = ℕ} 0 1 = cc (h n (omega arith) p) in omega arith)
    go false true p q k = omega arith
    go false false p q k = omega arith

-- counting the first n of a list is counting the places below n
pub count-places : {A : Type 0} (d : A) (f : A → Bool) (l : List A) (n : ℕ) → n ≤ length l → count f (take n l) ≡ count_below (λ i. f (get_or l i d)) n
unfolding count_below count
count-places d f l zero h = refl
count-places d f l (suc n) h =
    let e : count f (take (n + 1) l) ≡ count f (take n l) + one (f (get_or l n d)) = count-more f l n d (omega arith) in
    let s : count f (take (suc n) l) ≡ count f (take n l) + one (f (get_or l n d)) = rw add-one at e in
    rw (s, count-places d f l n (omega arith)) (omega arith)
