-- Tests over the numbers below a bound: found, none found, one more number, and what `any` answers over a list or over those numbers.
use Prim.Native.Nat.{ℕ, zero, suc, ◌+◌, ◌<◌}
use Rattle.std.specs.List.{list_any, range_with_len}
use Rattle.std.proofs.Common.{zero-add}
use Rattle.std.proofs.Math.Bool.{or_assoc}
use Rattle.std.proofs.lemmas.List.FromFn.{length-range_with_len, get_or-range_with_len}
use lib.ListN.{length, get_or}
use mathlib.Core.List.{List, [], ◌∷◌}
use mathlib.Core.Bool.{Bool, true, false, ◌||◌, or-true, or-false}
use mathlib.Core.Logic.{⊎_elim}
use mathlib.Core.Path.{◌≡◌, refl, sym}
use native.Mathlib.Nat.{eq-or-lt_of_le, le_of_suc-le-suc, not-suc-le-zero}
use native.Mathlib.Numerals.{add-one}
use native.Mathlib.Omega.{arith}
use Rattle.hire_book.specs.Below.{any_below}

-- both sides of an `or` that is false
pub neither : (a b : Bool) → (a || b) ≡ false → (a ≡ false) × (b ≡ false)
neither true b e = absurd (let z : ◌≡◌ {A = ℕ} 0 1 = cc in omega arith)
neither false b e = (refl, e)

module _ (f : ℕ → Bool) where
  pub found : (n i : ℕ) → i < n → f i ≡ true → any_below f n ≡ true
  unfolding any_below
  found zero i h e = absurd (not-suc-le-zero h)
  found (suc n) i h e =
      ⊎_elim (λ q. rw (← q, e) (or-true (any_below f i))) (λ l. rw (found n i l e)) (eq-or-lt_of_le (le_of_suc-le-suc h))

  pub none-at : (n : ℕ) → any_below f n ≡ false → (i : ℕ) → i < n → f i ≡ false
  unfolding any_below
  none-at zero e i h = absurd (not-suc-le-zero h)
  none-at (suc n) e i h =
      let p = neither (any_below f n) (f n) e in
      ⊎_elim (λ q. rw q p.1) (λ l. none-at n p.0 i l) (eq-or-lt_of_le (le_of_suc-le-suc h))

  pub none : (n : ℕ) → ((i : ℕ) → i < n → f i ≡ false) → any_below f n ≡ false
  unfolding any_below
  none zero h = refl
  none (suc n) h = rw (none n (λ i l. h i (omega arith)), h n (omega arith))

  -- one turn of a loop that has found none yet
  pub none_more : (i : ℕ) → any_below f i ≡ false → f i ≡ false → any_below f (i + 1) ≡ false
  unfolding any_below
  none_more i e q = rw (add-one, e, q)

-- the numbers below a bound and one more, counted from the front
any-front : (f : ℕ → Bool) (n : ℕ) → any_below f (suc n) ≡ (f 0 || any_below (λ i. f (suc i)) n)
unfolding any_below
any-front f zero = sym (or-false (f 0))
any-front f (suc n) = rw (any-front f n) (or_assoc (f 0) (any_below (λ i. f (suc i)) n) (f (suc n)))

any-same : (f g : ℕ → Bool) (n : ℕ) → ((i : ℕ) → i < n → f i ≡ g i) → any_below f n ≡ any_below g n
unfolding any_below
any-same f g zero h = refl
any-same f g (suc n) h = rw (any-same f g n (λ i l. h i (omega arith)), h n (omega arith))

pub any-places : {A : Type 0} (test : A → Bool) (l : List A) (d : A) → list_any test l ≡ any_below (λ i. test (get_or l i d)) (length l)
unfolding any_below
any-places test [] d = refl
any-places test (x ∷ l) d = rw (any-front (λ i. test (get_or (x ∷ l) i d)) (length l), any-places test l d)

pub any-range : (test : ℕ → Bool) (n : ℕ) → list_any test (range_with_len 0 n) ≡ any_below test n
any-range test n =
    rw (any-places test (range_with_len 0 n) 0, length-range_with_len 0 n)
    (any-same (λ i. test (get_or (range_with_len 0 n) i 0)) test n (λ i h. rw (get_or-range_with_len 0 n i 0 h, zero-add)))
