-- A test over the numbers below a bound, as it goes over two lists side by side, and over a range.
use Prim.Native.Nat.{ℕ, zero, suc, ◌+◌}
use mathlib.Core.Path.{◌≡◌, refl, sym, ap, ◌∙◌}
use mathlib.Core.Bool.{Bool, ◌||◌}
use mathlib.Core.List.{List, [], ◌∷◌}
use native.Mathlib.Omega.{arith}
use lib.ListN.{length, get_or}
use Rattle.std.proofs.Math.Bool.{or-false, or_assoc}
use Rattle.std.specs.List.{list_any, zip, range_with_len}
use Rattle.hire_book.specs.Below.{any_below}

any-alike : (f g : ℕ → Bool) (n : ℕ) → ((k : ℕ) → f k ≡ g k) → any_below f n ≡ any_below g n
unfolding any_below
any-alike f g zero h = refl
any-alike f g (suc n) h = rw (any-alike f g n h, h n)

-- the first number apart
any-front : (f : ℕ → Bool) (n : ℕ) → any_below f (suc n) ≡ (f 0 || any_below (λ k. f (suc k)) n)
unfolding any_below
any-front f zero = sym (or-false (f 0))
any-front f (suc n) =
    ap (λ b. b || f (suc n)) (any-front f n) ∙ or_assoc (f 0) (any_below (λ k. f (suc k)) n) (f (suc n))

pub any-zip : {A B : Type 0} (t : A × B → Bool) (x : A) (y : B) (xs : List A) (ys : List B) → length xs ≡ length ys → list_any t (zip xs ys) ≡ any_below (λ k. t (get_or xs k x, get_or ys k y)) (length xs)
unfolding any_below
any-zip t x y [] ys h = refl
any-zip t x y (a ∷ xs) [] h = absurd (omega arith)
any-zip t x y (a ∷ xs) (b ∷ ys) h =
    ap (λ r. t (a, b) || r) (any-zip t x y xs ys (omega arith))
    ∙ sym (any-front (λ k. t (get_or (a ∷ xs) k x, get_or (b ∷ ys) k y)) (length xs))

any-from : (f : ℕ → Bool) (a n : ℕ) → list_any f (range_with_len a n) ≡ any_below (λ k. f (a + k)) n
unfolding any_below
any-from f a zero = refl
any-from f a (suc n) =
    let here : f a ≡ f (a + 0) = let e : a ≡ a + 0 = omega arith in ap f e in
    let later : any_below (λ k. f (a + 1 + k)) n ≡ any_below (λ k. f (a + suc k)) n = any-alike _ _ n (λ k. let e : a + 1 + k ≡ a + suc k = omega arith in ap f e) in
    ap (λ r. f a || r) (any-from f (a + 1) n ∙ later) ∙ ap (λ b. b || any_below (λ k. f (a + suc k)) n) here ∙ sym (any-front (λ k. f (a + k)) n)

pub any-range : (f : ℕ → Bool) (n : ℕ) → list_any f (range_with_len 0 n) ≡ any_below f n
any-range f n = any-from f 0 n ∙ any-alike _ _ n (λ k. let e : 0 + k ≡ k = omega arith in ap f e)
