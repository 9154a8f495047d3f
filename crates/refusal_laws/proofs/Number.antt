-- The number that a step answers: that of the refusals that come first, and where they give none, the one that deciding gives.
use Prim.Native.Nat.{ℕ}
use mathlib.Core.Path.{◌≡◌, refl, ap, sym, ◌∙◌}
use mathlib.Core.Logic.{◌≢◌}
use mathlib.Core.Bool.{Bool, cond}
use mathlib.Core.List.{List}
use lib.Dec.{eqb}
use lib.ListN.{length}
use borrow.Author.Tests.{eq-eqb, ne_eqb, eqb-true}
use Rattle.quorum.specs.declared.Configuration.{Configuration}
use Rattle.messages.specs.declared.Event.{Event}
use Rattle.outcome.specs.Outcome.{Decision}
use Rattle.sequence_paxos.specs.Decide.{decide_of}
use Rattle.decide_laws.proofs.Grown.{either}
use Rattle.refusals.specs.Refusals.{refusal_of}
use Rattle.step.specs.Step.{World, Outcome, decision_of, taken_to, refused_with, concluded, step_of}
use Rattle.step_laws.proofs.Fits.{found}

concluded-no : (e : Event) (entries : List ℕ) (d : Decision) (w : World) → (concluded e entries d w).answer.no ≡ d.no
unfolding concluded
concluded-no e entries d w =
    either (λ (o : Outcome). o.answer.no ≡ d.no) (eqb d.no 0) (taken_to e entries d.node w) (refused_with d.no w)
    (λ q. sym (eqb-true d.no 0 q))
    (λ q. refl)

module _ (c : Configuration) (e : Event) (entries : List ℕ) (w : World) where
  choose : (t : Bool) → eqb (refusal_of c w.node w.row w.lists e entries) 0 ≡ t → step_of c e entries w ≡ cond t (concluded e entries (decision_of c e entries w) w) (refused_with (refusal_of c w.node w.row w.lists e entries) w)
  unfolding step_of
  choose t q = ap (λ (b : Bool). cond b (concluded e entries (decision_of c e entries w) w) (refused_with (refusal_of c w.node w.row w.lists e entries) w)) q

  pub number-first : (n : ℕ) → n ≢ 0 → refusal_of c w.node w.row w.lists e entries ≡ n → (step_of c e entries w).answer.no ≡ n
  number-first n h q = ap (λ (o : Outcome). o.answer.no) (choose _ (ne_eqb _ 0 (λ z. h (sym q ∙ z)))) ∙ q

  pub number-decided : refusal_of c w.node w.row w.lists e entries ≡ 0 → (step_of c e entries w).answer.no ≡ (decide_of e (length entries) (found c e entries w)).no
  unfolding decision_of
  number-decided z = ap (λ (o : Outcome). o.answer.no) (choose _ (eq-eqb _ 0 z)) ∙ concluded-no e entries (decision_of c e entries w) w
