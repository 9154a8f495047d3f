-- The first number that passes a test: one turn of a loop that looks for it, and what it says of the numbers below a bound.
use Prim.Native.Nat.{ℕ, zero, suc, ◌+◌, ◌-◌, ◌≤◌, ◌<◌}
use mathlib.Core.Path.{◌≡◌, refl, sym}
use mathlib.Core.Bool.{Bool, true, false, cond}
use mathlib.Core.List.{List}
use native.Mathlib.Omega.{arith}
use native.Mathlib.Numerals.{add-one}
use lib.Dec.{ltb}
use borrow.Author.Tests.{ltb-true, ltb-false}
use Rattle.hire_book.specs.Below.{any_below}
use Rattle.hire_book.proofs.Below.{found, none}
use Rattle.sight.specs.Sight.{first_from, changes_at, first_change}

module _ (f : ℕ → Bool) where
  more : (i n : ℕ) → i < n → n - i ≡ suc (n - (i + 1))
  more i n h = omega arith

  pub first-here : (i n : ℕ) → i < n → f i ≡ true → first_from f i (n - i) ≡ i
  unfolding first_from
  first-here i n h e = rw (more i n h, e)

  pub first-turn : (i n : ℕ) → i < n → f i ≡ false → first_from f i (n - i) ≡ first_from f (i + 1) (n - (i + 1))
  unfolding first_from
  first-turn i n h e = rw (more i n h, e, add-one)

  pub first-end : (n : ℕ) → first_from f n (n - n) ≡ n
  unfolding first_from
  first-end n = let e : n - n ≡ 0 = omega arith in rw e

  -- what the answer says: none before it passes, and it passes where it lies among the numbers looked at
  pub record First (i k r : ℕ) : Type 0 where
    pub from : i ≤ r
    pub upto : r ≤ i + k
    pub before : (j : ℕ) → i ≤ j → j < r → f j ≡ false
    pub here : r < i + k → f r ≡ true

  pub first_says : (i k : ℕ) → First i k (first_from f i k)
  unfolding first_from
  first_says i zero = record { from = omega arith; upto = omega arith; before = λ j l h. absurd (omega arith); here = λ h. absurd (omega arith) }
  first_says i (suc k) = go (f i) refl (first_says (suc i) k)
    where
      again : First (suc i) k (first_from f (suc i) k) → f i ≡ false → First i (suc k) (first_from f (suc i) k)
      again p e =
          record {
            from = omega (arith, p.from);
            upto = omega (arith, p.upto);
            before = λ j l h. split j l h p e;
            here = λ h. p.here (omega arith);
          }
        where
          split : (j : ℕ) → i ≤ j → j < first_from f (suc i) k → First (suc i) k (first_from f (suc i) k) → f i ≡ false → f j ≡ false
          split j l h p e = at_most (ltb i j) refl
            where
              at_most : (t : Bool) → ltb i j ≡ t → f j ≡ false
              at_most true q = p.before j (ltb-true i j q) h
              at_most false q = let s : j ≡ i = omega (arith, ltb-false i j q) in rw s e

      go : (t : Bool) → f i ≡ t → First (suc i) k (first_from f (suc i) k) → First i (suc k) (cond t i (first_from f (suc i) k))
      go true e p = record { from = omega arith; upto = omega arith; before = λ j l h. absurd (omega arith); here = λ h. e }
      go false e p = again p e

  -- of a bound that is within the numbers looked at, the answer is below it exactly when some number below it passes
  pub first_below : (n d : ℕ) → d ≤ n → ltb (first_from f 0 n) d ≡ any_below f d
  first_below n d h = go (ltb (first_from f 0 n) d) refl
    where
      p : First 0 n (first_from f 0 n)
      p = first_says 0 n

      go : (t : Bool) → ltb (first_from f 0 n) d ≡ t → t ≡ any_below f d
      go true e =
          let l : first_from f 0 n < d = ltb-true (first_from f 0 n) d e in
          sym (found f d (first_from f 0 n) l (p.here (omega arith)))
      go false e =
          let l : d ≤ first_from f 0 n = ltb-false (first_from f 0 n) d e in
          sym (none f d (λ i k. p.before i (omega arith) (omega arith)))

-- the first change is below the own decided index exactly when the suffix changes a place below it
pub change-below : (log : List ℕ) (len start : ℕ) (suffix : List ℕ) (decided : ℕ) → decided ≤ len → ltb (first_change log len start suffix) decided ≡ any_below (changes_at log start suffix) decided
unfolding first_change
change-below log len start suffix decided h = first_below (changes_at log start suffix) len decided h
