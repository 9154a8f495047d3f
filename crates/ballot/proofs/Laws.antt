-- The order of ballots is total, irreflexive and transitive, and every descent of it ends.
use Prim.Native.Nat.{ℕ, zero, suc, ◌<◌}
use mathlib.Core.Path.{◌≡◌, refl, sym}
use mathlib.Core.Logic.{◌⊎◌, inl, inr}
use mathlib.Core.Bool.{Bool, true, false, cond}
use native.Mathlib.Omega.{arith}
use lib.Dec.{ltb, eqb}
use borrow.Author.Tests.{lt-ltb, le-ltb, ltb-true, ltb-false, eqb-true}
use Rattle.ballot.specs.Ballot.{by_num, compare_of, is_above, is_same, above, same, default, is_default}
use Rattle.ballot.specs.declared.Ballot.{Ballot}
use Rattle.std.specs.declared.cmp.Ordering.{Ordering}
use Rattle.std.specs.declared.cmp.Ordering.TheVariants.{Less, Equal, Greater}

-- the order in words: a higher round, or the same and a higher priority, or both the same and a higher pid
abbrev pub Above : Ballot → Ballot → Type 0
Above a b = (b.n < a.n) ⊎ ((a.n ≡ b.n) × ((b.priority < a.priority) ⊎ ((a.priority ≡ b.priority) × (b.pid < a.pid))))

-- one number is above, or they are equal and the rest decides
num-above : (x y : ℕ) (s t : Bool) (next : Ordering) → ltb x y ≡ s → ltb y x ≡ t → is_above (cond s Less (cond t Greater next)) ≡ true → (y < x) ⊎ ((x ≡ y) × (is_above next ≡ true))
num-above x y true t next p q e = absurd (let w : ◌≡◌ {A = ℕ} 0 1 = cc in omega arith)
num-above x y false true next p q e = inl (ltb-true y x q)
num-above x y false false next p q e = inr (omega (arith, ltb-false x y p, ltb-false y x q), e)

num-same : (x y : ℕ) (s t : Bool) (next : Ordering) → ltb x y ≡ s → ltb y x ≡ t → is_same (cond s Less (cond t Greater next)) ≡ true → (x ≡ y) × (is_same next ≡ true)
num-same x y true t next p q e = absurd (let w : ◌≡◌ {A = ℕ} 0 1 = cc in omega arith)
num-same x y false true next p q e = absurd (let w : ◌≡◌ {A = ℕ} 0 1 = cc in omega arith)
num-same x y false false next p q e = (omega (arith, ltb-false x y p, ltb-false y x q), e)

pub above-words : (a b : Ballot) → above a b ≡ true → Above a b
unfolding above compare_of
above-words a b e = first (num-above a.n b.n _ _ _ refl refl e)
  where
    third : (a.n ≡ b.n) → (a.priority ≡ b.priority) → (b.pid < a.pid) ⊎ ((a.pid ≡ b.pid) × (is_above Equal ≡ true)) → Above a b
    third p q (inl l) = inr (p, inr (q, l))
    third p q (inr l) = absurd (let w : ◌≡◌ {A = ℕ} 0 1 = cc l.1 in omega arith)

    second : (a.n ≡ b.n) → (b.priority < a.priority) ⊎ ((a.priority ≡ b.priority) × (is_above (by_num a.pid b.pid Equal) ≡ true)) → Above a b
    second p (inl l) = inr (p, inl l)
    second p (inr l) = third p l.0 (num-above a.pid b.pid _ _ _ refl refl l.1)

    first : (b.n < a.n) ⊎ ((a.n ≡ b.n) × (is_above (by_num a.priority b.priority (by_num a.pid b.pid Equal)) ≡ true)) → Above a b
    first (inl l) = inl l
    first (inr l) = second l.0 (num-above a.priority b.priority _ _ _ refl refl l.1)

pub words-above : (a b : Ballot) → Above a b → above a b ≡ true
unfolding above compare_of
words-above a b (inl l) = rw (le-ltb a.n b.n (omega arith), lt-ltb b.n a.n l)
words-above a b (inr (e, inl l)) =
    rw (le-ltb a.n b.n (omega arith), le-ltb b.n a.n (omega arith), le-ltb a.priority b.priority (omega arith), lt-ltb b.priority a.priority l)
words-above a b (inr (e, inr (f, l))) =
    rw (le-ltb a.n b.n (omega arith), le-ltb b.n a.n (omega arith), le-ltb a.priority b.priority (omega arith), le-ltb b.priority a.priority (omega arith), le-ltb a.pid b.pid (omega arith), lt-ltb b.pid a.pid l)

-- a ballot is its three numbers
whole : ℕ → ℕ → ℕ → Ballot
whole x y z = record { n = x; priority = y; pid = z }

pub alike : (a b : Ballot) → a.n ≡ b.n → a.priority ≡ b.priority → a.pid ≡ b.pid → a ≡ b
unfolding whole
alike a b p q r = parts
  where
    parts : whole a.n a.priority a.pid ≡ whole b.n b.priority b.pid
    parts = rw (p, q, r)

pub same-eq : (a b : Ballot) → same a b ≡ true → a ≡ b
unfolding same compare_of
same-eq a b e =
    let x = num-same a.n b.n _ _ _ refl refl e in
    let y = num-same a.priority b.priority _ _ _ refl refl x.1 in
    let z = num-same a.pid b.pid _ _ _ refl refl y.1 in
    alike a b x.0 y.0 z.0

pub same_refl : (a : Ballot) → same a a ≡ true
unfolding same compare_of
same_refl a = rw (le-ltb a.n a.n (omega arith), le-ltb a.priority a.priority (omega arith), le-ltb a.pid a.pid (omega arith))

-- no ballot is above itself
pub irreflexive : (a : Ballot) → above a a ≡ true → ⊥
irreflexive a e = go (above-words a a e)
  where
    go : Above a a → ⊥
    go (inl l) = omega arith
    go (inr (p, inl l)) = omega arith
    go (inr (p, inr (q, l))) = omega arith

pub transitive : (a b c : Ballot) → above a b ≡ true → above b c ≡ true → above a c ≡ true
transitive a b c p q = words-above a c (go (above-words a b p) (above-words b c q))
  where
    go : Above a b → Above b c → Above a c
    go (inl l) (inl m) = inl (omega arith)
    go (inl l) (inr m) = inl (omega (arith, m.0))
    go (inr l) (inl m) = inl (omega (arith, l.0))
    go (inr (p, inl l)) (inr (q, inl m)) = inr (omega arith, inl (omega arith))
    go (inr (p, inl l)) (inr (q, inr m)) = inr (omega arith, inl (omega (arith, m.0)))
    go (inr (p, inr l)) (inr (q, inl m)) = inr (omega arith, inl (omega (arith, l.0)))
    go (inr (p, inr (r, l))) (inr (q, inr (s, m))) = inr (omega arith, inr (omega arith, omega arith))

-- of two numbers one is above the other, or they are one
three : (x y : ℕ) → (y < x) ⊎ ((x ≡ y) ⊎ (x < y))
three x y = go (ltb y x) (ltb x y) refl refl
  where
    go : (s t : Bool) → ltb y x ≡ s → ltb x y ≡ t → (y < x) ⊎ ((x ≡ y) ⊎ (x < y))
    go true t p q = inl (ltb-true y x p)
    go false true p q = inr (inr (ltb-true x y q))
    go false false p q = inr (inl (omega (arith, ltb-false y x p, ltb-false x y q)))

-- of two ballots one is above the other, or they are one
pub total : (a b : Ballot) → (above a b ≡ true) ⊎ ((a ≡ b) ⊎ (above b a ≡ true))
total a b = first (three a.n b.n)
  where
    third : a.n ≡ b.n → a.priority ≡ b.priority → (b.pid < a.pid) ⊎ ((a.pid ≡ b.pid) ⊎ (a.pid < b.pid)) → (above a b ≡ true) ⊎ ((a ≡ b) ⊎ (above b a ≡ true))
    third p q (inl l) = inl (words-above a b (inr (p, inr (q, l))))
    third p q (inr (inl r)) = inr (inl (alike a b p q r))
    third p q (inr (inr l)) = inr (inr (words-above b a (inr (sym p, inr (sym q, l)))))

    second : a.n ≡ b.n → (b.priority < a.priority) ⊎ ((a.priority ≡ b.priority) ⊎ (a.priority < b.priority)) → (above a b ≡ true) ⊎ ((a ≡ b) ⊎ (above b a ≡ true))
    second p (inl l) = inl (words-above a b (inr (p, inl l)))
    second p (inr (inl q)) = third p q (three a.pid b.pid)
    second p (inr (inr l)) = inr (inr (words-above b a (inr (sym p, inl l))))

    first : (b.n < a.n) ⊎ ((a.n ≡ b.n) ⊎ (a.n < b.n)) → (above a b ≡ true) ⊎ ((a ≡ b) ⊎ (above b a ≡ true))
    first (inl l) = inl (words-above a b (inl l))
    first (inr (inl p)) = second p (three a.priority b.priority)
    first (inr (inr l)) = inr (inr (words-above b a (inl l)))

-- what holds of a ballot whenever it holds of all below it holds of every ballot
module _ (P : Ballot → Type 0) (step : (a : Ballot) → ((b : Ballot) → above a b ≡ true → P b) → P a) where
  -- by the pid, where all of a lower round or priority is known
  by-pid : (x y : ℕ) → ((b : Ballot) → (b.n < x) ⊎ ((b.n ≡ x) × (b.priority < y)) → P b) → (z : ℕ) (a : Ballot) → a.n ≡ x → a.priority ≡ y → a.pid < z → P a
  by-pid x y lower zero a e f h = absurd (omega arith)
  by-pid x y lower (suc z) a e f h = step a (λ b g. pick (λ b p q r. by-pid x y lower z b p q r) b (above-words a b g))
    where
      pick : ((b : Ballot) → b.n ≡ x → b.priority ≡ y → b.pid < z → P b) → (b : Ballot) → Above a b → P b
      pick again b (inl l) = lower b (inl (omega arith))
      pick again b (inr (p, inl l)) = lower b (inr (omega arith, omega arith))
      pick again b (inr (p, inr (q, l))) = again b (omega arith) (omega arith) (omega arith)

  by-priority : (x : ℕ) → ((b : Ballot) → b.n < x → P b) → (y : ℕ) (a : Ballot) → a.n ≡ x → a.priority < y → P a
  by-priority x lower zero a e h = absurd (omega arith)
  by-priority x lower (suc y) a e h = by-pid x a.priority (pick (λ b p q. by-priority x lower y b p q)) (suc a.pid) a e refl (omega arith)
    where
      pick : ((b : Ballot) → b.n ≡ x → b.priority < y → P b) → (b : Ballot) → (b.n < x) ⊎ ((b.n ≡ x) × (b.priority < a.priority)) → P b
      pick again b (inl l) = lower b l
      pick again b (inr l) = again b l.0 (omega (arith, l.1))

  by-round : (x : ℕ) (a : Ballot) → a.n < x → P a
  by-round zero a h = absurd (omega arith)
  by-round (suc x) a h = by-priority a.n (λ b l. by-round x b (omega arith)) (suc a.priority) a refl (omega arith)

  pub descent : (a : Ballot) → P a
  descent a = by-round (suc a.n) a (omega arith)

-- every ballot but the default is above it
pub default-lowest : (a : Ballot) → above default a ≡ true → ⊥
default-lowest a e = go (above-words default a e)
  where
    go : Above default a → ⊥
    go (inl l) = omega arith
    go (inr (p, inl l)) = omega arith
    go (inr (p, inr (q, l))) = omega arith

pub default-zero : (a : Ballot) → is_default a ≡ true → a ≡ default
unfolding is_default
default-zero a e = go (eqb a.n 0) (eqb a.priority 0) refl refl e
  where
    go : (s t : Bool) → eqb a.n 0 ≡ s → eqb a.priority 0 ≡ t → cond s (cond t (eqb a.pid 0) false) false ≡ true → a ≡ default
    go true true p q e = alike a default (eqb-true _ _ p) (eqb-true _ _ q) (eqb-true _ _ e)
    go true false p q e = absurd (let w : ◌≡◌ {A = ℕ} 0 1 = cc in omega arith)
    go false t p q e = absurd (let w : ◌≡◌ {A = ℕ} 0 1 = cc in omega arith)
