-- Stretches of cells that lie within N cells, each apart from those before it, are together at most N long: each cell is counted once.
use Prim.Native.Nat.{ℕ, zero, suc, ◌+◌, ◌-◌, ◌≤◌, ◌<◌, min}
use mathlib.Core.Path.{◌≡◌, refl}
use mathlib.Core.Bool.{Bool, true, false, ◌&&◌, ◌||◌}
use native.Mathlib.Omega.{arith}
use lib.Dec.{leb, ltb}
use borrow.Author.Tests.{ltb-true, ltb-false, leb-true, leb-false}
use Rattle.base.specs.Count.{one, count_below}
use Rattle.base.proofs.Meet.{count-le}
use Rattle.hire_book.specs.Below.{any_below, sum_below}
use Rattle.hire_book.proofs.Below.{none}

-- cell p is one of the n from a on
abbrev pub covers : ℕ → ℕ → ℕ → Bool
covers a n p = leb a p && ltb p (a + n)

-- the cells of a stretch below N, counted
stretch : (a n N : ℕ) → min N (a + n) - a ≤ count_below (covers a n) N
unfolding count_below
stretch a n zero = omega arith
stretch a n (suc N) = go (leb a N) (ltb N (a + n)) refl refl (stretch a n N)
  where
    go : (x y : Bool) → leb a N ≡ x → ltb N (a + n) ≡ y → min N (a + n) - a ≤ count_below (covers a n) N → min (suc N) (a + n) - a ≤ one (x && y) + count_below (covers a n) N
    go true true p q h = let l : N < a + n = ltb-true N (a + n) q in let k : a ≤ N = leb-true a N p in omega arith
    go true false p q h = let l : a + n ≤ N = ltb-false N (a + n) q in omega arith
    go false y p q h = let l : N < a = leb-false a N p in omega arith

-- two tests that no number passes both of: one count is the sum of both
both : (f g : ℕ → Bool) (N : ℕ) → ((p : ℕ) → g p ≡ true → f p ≡ false) → count_below f N + count_below g N ≤ count_below (λ p. f p || g p) N
unfolding count_below
both f g zero h = omega arith
both f g (suc N) h = go (f N) (g N) refl refl (both f g N h)
  where
    go : (x y : Bool) → f N ≡ x → g N ≡ y → count_below f N + count_below g N ≤ count_below (λ p. f p || g p) N → (one x + count_below f N) + (one y + count_below g N) ≤ one (x || y) + count_below (λ p. f p || g p) N
    go true true p q k = absurd (let z : ◌≡◌ {A = ℕ} 0 1 = cc (h N q) in omega arith)
    go true false p q k = omega arith
    go false true p q k = omega arith
    go false false p q k = omega arith

module _ (N : ℕ) (start count : ℕ → ℕ) where
  -- some of the first n stretches covers p
  abbrev covered : ℕ → ℕ → Bool
  covered n p = any_below (λ i. covers (start i) (count i) p) n

  counted :
      (n : ℕ)
      → ((i : ℕ) → i < n → 0 < count i → start i + count i ≤ N)
      → ((i j p : ℕ) → i < j → j < n → covers (start j) (count j) p ≡ true → covers (start i) (count i) p ≡ false)
      → sum_below count n ≤ count_below (covered n) N
  unfolding sum_below any_below
  counted zero within apart = omega arith
  counted (suc n) within apart =
      let before = counted n (λ i l. within i (omega arith)) (λ i j p l k. apart i j p l (omega arith)) in
      let here : count n ≤ count_below (covers (start n) (count n)) N = last (ltb 0 (count n)) refl (λ h. within n (omega arith) h) in
      let joined = both (covered n) (covers (start n) (count n)) N (λ p e. none (λ i. covers (start i) (count i) p) n (λ i l. apart i n p l (omega arith) e)) in
      omega arith
    where
      last : (t : Bool) → ltb 0 (count n) ≡ t → (0 < count n → start n + count n ≤ N) → count n ≤ count_below (covers (start n) (count n)) N
      last true e h = let k = h (ltb-true 0 (count n) e) in omega (arith, stretch (start n) (count n) N)
      last false e h = omega (arith, ltb-false 0 (count n) e)

  pub apart_fits :
      (n : ℕ)
      → ((i : ℕ) → i < n → 0 < count i → start i + count i ≤ N)
      → ((i j p : ℕ) → i < j → j < n → covers (start j) (count j) p ≡ true → covers (start i) (count i) p ≡ false)
      → sum_below count n ≤ N
  apart_fits n within apart = omega (arith, counted n within apart, count-le (covered n) N)
