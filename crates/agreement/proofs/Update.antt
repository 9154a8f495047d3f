-- Laws of a function changed at one place.
use Prim.Native.Nat.{ℕ}
use mathlib.Core.Path.{◌≡◌, refl, sym, ap, ◌∙◌, subst}
use mathlib.Core.Logic.{◌⊎◌, inl, inr, ◌≢◌}
use mathlib.Core.Bool.{Bool, true, false, cond}
use lib.Dec.{eqb}
use borrow.Author.Tests.{eqb-true, eqb-false, eq-eqb, ne_eqb}
use Rattle.base.proofs.Tests.{not-both}
use Rattle.ballot.specs.Ballot.{same}
use Rattle.ballot.specs.declared.Ballot.{Ballot}
use Rattle.ballot.proofs.Laws.{same-eq, same_refl}
use Rattle.agreement.specs.Update.{put, at_depot, at_ballot, at_both}

-- either two depots are one, or they are not; so of ballots
pub depot-eq : (c b : ℕ) → (c ≡ b) ⊎ (c ≢ b)
depot-eq c b = go (eqb c b) refl
  where
    go : (t : Bool) → eqb c b ≡ t → (c ≡ b) ⊎ (c ≢ b)
    go true e = inl (eqb-true c b e)
    go false e = inr (eqb-false c b e)

pub ballot-eq : (m n : Ballot) → (m ≡ n) ⊎ (m ≢ n)
ballot-eq m n = go (same m n) refl
  where
    go : (t : Bool) → same m n ≡ t → (m ≡ n) ⊎ (m ≢ n)
    go true e = inl (same-eq m n e)
    go false e = inr (λ q. not-both (subst (λ k. same m k ≡ true) q (same_refl m)) e)

module _ {X : Type 0} where
  pub depot-here : (b : ℕ) (x : X) (f : ℕ → X) → at_depot b x f b ≡ x
  unfolding put
  depot-here b x f = rw (eq-eqb b b refl)

  pub depot-other : (b : ℕ) (x : X) (f : ℕ → X) (c : ℕ) → c ≢ b → at_depot b x f c ≡ f c
  unfolding put
  depot-other b x f c ne = rw (ne_eqb c b ne)

  pub ballot-here : (n : Ballot) (x : X) (f : Ballot → X) → at_ballot n x f n ≡ x
  unfolding put
  ballot-here n x f = rw (same_refl n)

  pub ballot-other : (n : Ballot) (x : X) (f : Ballot → X) (m : Ballot) → m ≢ n → at_ballot n x f m ≡ f m
  unfolding put
  ballot-other n x f m ne = go (same m n) refl
    where
      go : (t : Bool) → same m n ≡ t → cond t x (f m) ≡ f m
      go true e = absurd (ne (same-eq m n e))
      go false e = refl

  -- what holds of the new value and of every other place holds everywhere
  pub ballot-each : (P : Ballot → X → Type 0) (n : Ballot) (x : X) (f : Ballot → X) → P n x → ((m : Ballot) → m ≢ n → P m (f m)) → (m : Ballot) → P m (at_ballot n x f m)
  ballot-each P n x f p q m = go (ballot-eq m n)
    where
      go : (m ≡ n) ⊎ (m ≢ n) → P m (at_ballot n x f m)
      go (inl e) = subst (λ k. P k (at_ballot n x f k)) (sym e) (subst (P n) (sym (ballot-here n x f)) p)
      go (inr e) = subst (P m) (sym (ballot-other n x f m e)) (q m e)

-- a depot's ballot: a depot's row of ballots, changed at one
module _ {X : Type 0} where
  pub both-here : (b : ℕ) (n : Ballot) (x : X) (f : ℕ → Ballot → X) → at_both b n x f b n ≡ x
  both-here b n x f = ap (λ (r : Ballot → X). r n) (depot-here b (at_ballot n x (f b)) f) ∙ ballot-here n x (f b)

  pub both-depot : (b : ℕ) (n : Ballot) (x : X) (f : ℕ → Ballot → X) (c : ℕ) (m : Ballot) → c ≢ b → at_both b n x f c m ≡ f c m
  both-depot b n x f c m ne = ap (λ (r : Ballot → X). r m) (depot-other b (at_ballot n x (f b)) f c ne)

  pub both-ballot : (b : ℕ) (n : Ballot) (x : X) (f : ℕ → Ballot → X) (m : Ballot) → m ≢ n → at_both b n x f b m ≡ f b m
  both-ballot b n x f m ne = ap (λ (r : Ballot → X). r m) (depot-here b (at_ballot n x (f b)) f) ∙ ballot-other n x (f b) m ne

  pub both-each : (P : Ballot → X → Type 0) (b : ℕ) (n : Ballot) (x : X) (f : ℕ → Ballot → X) → P n x → ((m : Ballot) → m ≢ n → P m (f b m)) → (m : Ballot) → P m (at_both b n x f b m)
  both-each P b n x f p q m = subst (λ (r : Ballot → X). P m (r m)) (sym (depot-here b (at_ballot n x (f b)) f)) (ballot-each P n x (f b) p q m)
