-- Laws of the order of ballots, and of pairs of a ballot and an index.
use Prim.Native.Nat.{ℕ}
use mathlib.Core.Path.{◌≡◌, refl, sym, ◌∙◌, subst}
use mathlib.Core.Logic.{◌⊎◌, inl, inr, ◌≢◌}
use mathlib.Core.Bool.{Bool, true, false}
use native.Mathlib.Omega.{arith}
use lib.Dec.{ltb}
use borrow.Author.Tests.{ltb-true, ltb-false}
use Rattle.base.proofs.Tests.{not-both}
use Rattle.ballot.specs.Ballot.{above, default}
use Rattle.ballot.specs.declared.Ballot.{Ballot}
use Rattle.ballot.proofs.Laws.{irreflexive, transitive, total, default-lowest}
use Rattle.agreement.specs.Order.{Below, Upto, Within, lower, level, Beats, higher, longer}

pub is_true : (t : Bool) → (t ≡ false → ⊥) → t ≡ true
is_true true p = refl
is_true false p = absurd (p refl)

-- one ballot is below the other, or it is not
pub compare : (m n : Ballot) → Below m n ⊎ Upto n m
compare m n = go (above n m) refl
  where
    go : (t : Bool) → above n m ≡ t → Below m n ⊎ Upto n m
    go true e = inl (record { is = e })
    go false e = inr (record { is = e })

pub never : {m n : Ballot} → Below m n → Upto n m → ⊥
never p q = not-both p.is q.is

pub not-self : {m : Ballot} → Below m m → ⊥
not-self {m} p = irreflexive m p.is

pub below-trans : {l m n : Ballot} → Below l m → Below m n → Below l n
below-trans {l} {m} {n} p q = record { is = transitive n m l q.is p.is }

pub upto-of : {m n : Ballot} → Below m n → Upto m n
upto-of {m} {n} p = go (compare n m)
  where
    go : Below n m ⊎ Upto m n → Upto m n
    go (inl q) = absurd (not-self (below-trans p q))
    go (inr q) = q

pub upto-refl : {m : Ballot} → Upto m m
upto-refl {m} = go (compare m m)
  where
    go : Below m m ⊎ Upto m m → Upto m m
    go (inl q) = absurd (not-self q)
    go (inr q) = q

pub upto-eq : {m n : Ballot} → m ≡ n → Upto m n
upto-eq {m} e = subst (Upto m) e upto-refl

pub upto-split : {m n : Ballot} → Upto m n → (m ≡ n) ⊎ Below m n
upto-split {m} {n} p = go (total n m)
  where
    go : (above n m ≡ true) ⊎ ((n ≡ m) ⊎ (above m n ≡ true)) → (m ≡ n) ⊎ Below m n
    go (inl q) = inr (record { is = q })
    go (inr (inl q)) = inl (sym q)
    go (inr (inr q)) = absurd (not-both q p.is)

pub upto-apart : {m n : Ballot} → Upto m n → m ≢ n → Below m n
upto-apart {m} {n} p ne = go (upto-split p)
  where
    go : (m ≡ n) ⊎ Below m n → Below m n
    go (inl e) = absurd (ne e)
    go (inr l) = l

pub below-upto : {l m n : Ballot} → Below l m → Upto m n → Below l n
below-upto {l} {m} {n} p q = go (upto-split q)
  where
    go : (m ≡ n) ⊎ Below m n → Below l n
    go (inl e) = subst (Below l) e p
    go (inr r) = below-trans p r

pub upto-below : {l m n : Ballot} → Upto l m → Below m n → Below l n
upto-below {l} {m} {n} p q = go (upto-split p)
  where
    go : (l ≡ m) ⊎ Below l m → Below l n
    go (inl e) = subst (λ k. Below k n) (sym e) q
    go (inr r) = below-trans r q

pub upto-trans : {l m n : Ballot} → Upto l m → Upto m n → Upto l n
upto-trans {l} {m} {n} p q = go (upto-split p)
  where
    go : (l ≡ m) ⊎ Below l m → Upto l n
    go (inl e) = subst (λ k. Upto k n) (sym e) q
    go (inr r) = upto-of (below-upto r q)

pub upto-both : {m n : Ballot} → Upto m n → Upto n m → m ≡ n
upto-both {m} {n} p q = go (upto-split p)
  where
    go : (m ≡ n) ⊎ Below m n → m ≡ n
    go (inl e) = e
    go (inr r) = absurd (never r q)

pub below_apart : {m n : Ballot} → Below m n → m ≢ n
below_apart {m} p e = not-self (subst (Below m) (sym e) p)

pub default-upto : (n : Ballot) → Upto default n
default-upto n = go (compare n default)
  where
    go : Below n default ⊎ Upto default n → Upto default n
    go (inl q) = absurd (default-lowest n q.is)
    go (inr q) = q

-- ---- pairs

pub within-refl : {m : Ballot} {k : ℕ} → Within m k m k
within-refl = level refl (omega arith)

pub within-trans : {l m n : Ballot} {i j k : ℕ} → Within l i m j → Within m j n k → Within l i n k
within-trans (lower p) (lower q) = lower (below-trans p q)
within-trans {l = l} (lower p) (level e q) = lower (subst (Below l) e p)
within-trans {n = n} (level e p) (lower q) = lower (subst (λ x. Below x n) (sym e) q)
within-trans (level e p) (level f q) = level (e ∙ f) (omega arith)

pub beats-within : {n m : Ballot} {a k : ℕ} → Beats n a m k → Within m k n a
beats-within (higher p) = lower p
beats-within (longer e p) = level e (omega arith)

pub within-beats : {l m n : Ballot} {i j k : ℕ} → Within l i m j → Beats n k m j → Beats n k l i
within-beats (lower p) (higher q) = higher (below-trans p q)
within-beats {l = l} (lower p) (longer e q) = higher (subst (Below l) e p)
within-beats {n = n} (level e p) (higher q) = higher (subst (λ x. Below x n) (sym e) q)
within-beats (level e p) (longer f q) = longer (e ∙ f) (omega arith)

-- a pair is at most another, or it beats it
pub within-or-beats : (m n : Ballot) (k a : ℕ) → Within m k n a ⊎ Beats m k n a
within-or-beats m n k a = go (total m n) (ltb a k) refl
  where
    go : (above m n ≡ true) ⊎ ((m ≡ n) ⊎ (above n m ≡ true)) → (t : Bool) → ltb a k ≡ t → Within m k n a ⊎ Beats m k n a
    go (inl p) t q = inr (higher (record { is = p }))
    go (inr (inr p)) t q = inl (lower (record { is = p }))
    go (inr (inl p)) true q = inr (longer (sym p) (ltb-true a k q))
    go (inr (inl p)) false q = inl (level p (ltb-false a k q))

-- nothing is at most the default's 0 places but that itself
pub within-nothing : {m : Ballot} {k : ℕ} → Within m k default 0 → (m ≡ default) × (k ≡ 0)
within-nothing {m} (lower p) = absurd (default-lowest m p.is)
within-nothing (level e p) = (e, omega arith)
