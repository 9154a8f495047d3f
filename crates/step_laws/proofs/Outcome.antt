-- The two ways of a step: refused with a number, everything as found; or taken, with all that no refusal leaves.
use Prim.Native.Nat.{ℕ, ◌≤◌}
use mathlib.Core.Path.{◌≡◌, refl, ap, ◌∙◌}
use mathlib.Core.Logic.{◌⊎◌, inl, inr}
use mathlib.Core.Bool.{Bool, true, false, cond}
use mathlib.Core.List.{List}
use native.Mathlib.Omega.{arith}
use lib.Dec.{eqb}
use lib.ListN.{length}
use borrow.Author.Tests.{eqb-true, eqb-false, ne_eqb}
use Rattle.quorum.specs.declared.Configuration.{Configuration}
use Rattle.messages.specs.declared.Event.{Event}
use Rattle.paxos_box.specs.declared.SequencePaxos.{SequencePaxos}
use Rattle.outcome.specs.Outcome.{Decision, outcome_refusal, settled}
use Rattle.sequence_paxos.specs.Decide.{taken}
use Rattle.refusals.specs.Refusals.{refusal_of}
use Rattle.refusals.proofs.Exactly.{one-of-five}
use Rattle.refusals.proofs.Taken.{Taken}
use Rattle.refusals.proofs.Sound as refusals
use Rattle.decide_laws.proofs.Table.{Given, is-unfit, at_top, past-log, past-buffer, past-queue, all_fit, outcome}
use Rattle.step.specs.Step.{World, decision_of, refused_with, taken_to, concluded, step_of}
use Rattle.step_laws.proofs.Fits.{found}

-- the box as the step would leave it
abbrev pub outcome_of : Configuration → Event → List ℕ → World → SequencePaxos
outcome_of c e entries w = taken e (length entries) (found c e entries w)

-- which refusal gives a number: one of those that come first, or one that only the outcome shows
abbrev pub Gives : Configuration → Event → List ℕ → World → ℕ → Type 0
Gives c e entries w n = (refusal_of c w.node w.row w.lists e entries ≡ n) ⊎ (outcome_refusal (outcome_of c e entries w) ≡ n)

pub data Ways (c : Configuration) (e : Event) (entries : List ℕ) (w : World) : Type 0 where
  refused : (n : ℕ) → (n ≡ 0 → ⊥) → Gives c e entries w n → step_of c e entries w ≡ refused_with n w → Ways c e entries w
  took : Taken c w.node w.row w.lists e entries → outcome_refusal (outcome_of c e entries w) ≡ 0 → step_of c e entries w ≡ taken_to e entries (outcome_of c e entries w) w → Ways c e entries w

-- a choice by whether a number is 0
by_zero : {A : Type 0} (n : ℕ) (x y : A) → ((n ≡ 0) × (cond (eqb n 0) x y ≡ x)) ⊎ ((n ≡ 0 → ⊥) × (cond (eqb n 0) x y ≡ y))
by_zero {A} n x y = go (eqb n 0) refl
  where
    go : (t : Bool) → eqb n 0 ≡ t → ((n ≡ 0) × (cond t x y ≡ x)) ⊎ ((n ≡ 0 → ⊥) × (cond t x y ≡ y))
    go true q = inl (eqb-true n 0 q, refl)
    go false q = inr (eqb-false n 0 q, refl)

-- the numbers that only the outcome shows
pub record Later (n : ℕ) : Type 0 where
  pub most : n ≤ 8
  pub least : (n ≡ 0 → ⊥) → 4 ≤ n

pub outcome-later : (s : SequencePaxos) → Later (outcome_refusal s)
outcome-later s = by (outcome_refusal s) (outcome s)
  where
    by : (n : ℕ) → Given s n → Later n
    by n (is-unfit u) = record { most = omega arith; least = λ z. omega arith }
    by n (at_top u t) = record { most = omega arith; least = λ z. omega arith }
    by n (past-log u t l) = record { most = omega arith; least = λ z. omega arith }
    by n (past-buffer u t l b) = record { most = omega arith; least = λ z. omega arith }
    by n (past-queue u t l b q) = record { most = omega arith; least = λ z. omega arith }
    by n (all_fit f) = record { most = omega arith; least = λ z. absurd (z refl) }

-- a decision that settles on the step, and one that refuses it
decided-yes : (e : Event) (entries : List ℕ) (d : Decision) (s : SequencePaxos) (w : World) → d ≡ record { no = 0; node = s } → concluded e entries d w ≡ taken_to e entries s w
unfolding concluded
decided-yes e entries d s w q = ap (λ (x : Decision). cond (eqb x.no 0) (taken_to e entries x.node w) (refused_with x.no w)) q

decided-not : (e : Event) (entries : List ℕ) (d : Decision) (n : ℕ) (s : SequencePaxos) (w : World) → (n ≡ 0 → ⊥) → d ≡ record { no = n; node = s } → concluded e entries d w ≡ refused_with n w
unfolding concluded
decided-not e entries d n s w h q =
    ap (λ (x : Decision). cond (eqb x.no 0) (taken_to e entries x.node w) (refused_with x.no w)) q ∙ ap (λ (t : Bool). cond t (taken_to e entries s w) (refused_with n w)) (ne_eqb n 0 h)

module _ (c : Configuration) (e : Event) (entries : List ℕ) (w : World) where
  settles : refusal_of c w.node w.row w.lists e entries ≡ 0 → step_of c e entries w ≡ concluded e entries (decision_of c e entries w) w → Ways c e entries w
  unfolding decision_of settled
  settles z q = by (by_zero (outcome_refusal (outcome_of c e entries w)) (record { no = 0; node = outcome_of c e entries w }) (record { no = outcome_refusal (outcome_of c e entries w); node = found c e entries w }))
    where
      s : SequencePaxos
      s = outcome_of c e entries w

      by : ((outcome_refusal s ≡ 0) × (settled (found c e entries w) s ≡ record { no = 0; node = s })) ⊎ ((outcome_refusal s ≡ 0 → ⊥) × (settled (found c e entries w) s ≡ record { no = outcome_refusal s; node = found c e entries w })) → Ways c e entries w
      by (inl a) = took (refusals.taken c w.node w.row w.lists e entries z) a.0 (q ∙ decided-yes e entries (decision_of c e entries w) s w a.1)
      by (inr a) = refused (outcome_refusal s) a.0 (inr refl) (q ∙ decided-not e entries (decision_of c e entries w) (outcome_refusal s) (found c e entries w) w a.0 a.1)

  pub ways : Ways c e entries w
  unfolding step_of
  ways = by (by_zero (refusal_of c w.node w.row w.lists e entries) (concluded e entries (decision_of c e entries w) w) (refused_with (refusal_of c w.node w.row w.lists e entries) w))
    where
      n : ℕ
      n = refusal_of c w.node w.row w.lists e entries

      by : ((n ≡ 0) × (step_of c e entries w ≡ concluded e entries (decision_of c e entries w) w)) ⊎ ((n ≡ 0 → ⊥) × (step_of c e entries w ≡ refused_with n w)) → Ways c e entries w
      by (inl a) = settles a.0 a.1
      by (inr a) = refused n a.0 (inl refl) a.1

  pub gives-le : (n : ℕ) → Gives c e entries w n → n ≤ 8
  gives-le n (inl q) = let l = one-of-five c w.node w.row w.lists e entries in omega arith
  gives-le n (inr q) = let l = (outcome-later (outcome_of c e entries w)).most in omega arith
