-- Counting and the largest over a list, with one more element at the end.
use Rattle.std.specs.Prelude.{ℕ, zero, suc, ◌+◌, ◌<◌, max, ◌≡◌, Bool, true, false, take, get_or, length}
use Rattle.std.proofs.Common.{take-suc, add-one}
use mathlib.Core.List.{List, [], ◌∷◌, ◌++◌}
use native.Mathlib.Omega.{arith}

-- a test as a number
abbrev pub one : Bool → ℕ
one true = 1
one false = 0

module _ {A : Type 0} where
  unfoldable pub count : (A → Bool) → List A → ℕ
  count f [] = 0
  count f (x ∷ xs) = one (f x) + count f xs

  unfoldable pub most : (A → ℕ) → List A → ℕ
  most f [] = 0
  most f (x ∷ xs) = max (f x) (most f xs)

  pub count-snoc : (f : A → Bool) (l : List A) (x : A) → count f (l ++ (x ∷ [])) ≡ count f l + one (f x)
  unfolding count
  count-snoc f [] x = omega arith
  count-snoc f (y ∷ l) x = rw (count-snoc f l x) (omega arith)

  pub most-snoc : (f : A → ℕ) (l : List A) (x : A) → most f (l ++ (x ∷ [])) ≡ max (most f l) (f x)
  unfolding most
  most-snoc f [] x = omega arith
  most-snoc f (y ∷ l) x = rw (most-snoc f l x) (omega arith)

  pub count-more : (f : A → Bool) (l : List A) (i : ℕ) (d : A) → i < length l → count f (take (i + 1) l) ≡ count f (take i l) + one (f (get_or l i d))
  count-more f l i d h = rw (add-one, take-suc l i d) (count-snoc f (take i l) (get_or l i d))

  pub most-more : (f : A → ℕ) (l : List A) (i : ℕ) (d : A) → i < length l → most f (take (i + 1) l) ≡ max (most f (take i l)) (f (get_or l i d))
  most-more f l i d h = rw (add-one, take-suc l i d) (most-snoc f (take i l) (get_or l i d))

  -- one turn of a loop that counts, and of one that takes the largest
  pub count-step : (d : A) (f : A → Bool) (l : List A) (i n v : ℕ) → n ≡ count f (take i l) → v ≡ one (f (get_or l i d)) → i < length l → n + v ≡ count f (take (i + 1) l)
  count-step d f l i n v p q h = rw (count-more f l i d h, p, q)

  pub most_step : (d : A) (f : A → ℕ) (l : List A) (i n v r : ℕ) → n ≡ most f (take i l) → v ≡ f (get_or l i d) → r ≡ max n v → i < length l → r ≡ most f (take (i + 1) l)
  most_step d f l i n v r p q e h = rw (most-more f l i d h, ← p, ← q, e)

-- how many of the places below n pass a test
unfoldable pub count_below : (ℕ → Bool) → ℕ → ℕ
count_below f zero = 0
count_below f (suc n) = one (f n) + count_below f n
