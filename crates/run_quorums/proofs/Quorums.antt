-- The steps of these clusters, and what the runs break.
use Prim.Native.Nat.{ℕ, zero, suc, ◌+◌, ◌<◌}
use mathlib.Core.Path.{◌≡◌, refl, ap, ◌∙◌}
use mathlib.Core.Bool.{Bool, true, false, cond}
use mathlib.Core.List.{List, [], ◌∷◌}
use native.Mathlib.Omega.{arith}
use Rattle.quorum.specs.declared.Configuration.{Configuration}
use Rattle.quorum.specs.Quorum.{is_depot, sizes_stand, stands_of}
use Rattle.messages.specs.declared.Event.{Event}
use Rattle.refusals.specs.Refusals.{call_off, wrong_call, refusal_of}
use Rattle.step.specs.Step.{World, refused_with, step_of}
use Rattle.runs.specs.Runs.{State, Move, config_of, moved, after}
use Rattle.runs.proofs.Local.{Turned, still, stepped, turned}
use Rattle.run_cases.specs.Seen.{having}
use Rattle.run_cases.proofs.Seen.{below-three}
use Rattle.run_cases.proofs.Parted.{parted-differ}
use Rattle.run_quorums.specs.Unjudged.{four, unjudged}
use Rattle.run_quorums.specs.Unlike.{unlike}
use Rattle.run_quorums.specs.Quorums.{Quorums, halves, mixed}
use Rattle.run_quorums.proofs.Runs.{halves_parts, mixed-parts}

unjudged-step : (c : Configuration) (e : Event) (entries : List ℕ) (w : World) → call_off c w.lists ≡ false → unjudged c e entries w ≡ step_of c e entries w
unfolding step_of refusal_of
unjudged-step c e entries w h = rw h

either-false : (t : Bool) → cond t false false ≡ false
either-false true = refl
either-false false = refl

four-falls : (i : ℕ) → stands_of (config_of four i) ≡ false
unfolding stands_of sizes_stand
four-falls i = either-false (is_depot (i + 1) 4)

halves-refused : (i : ℕ) (e : Event) (entries : List ℕ) (w : World) → step_of (config_of four i) e entries w ≡ refused_with 1 w
unfolding step_of refusal_of wrong_call
halves-refused i e entries w = rw (four-falls i)

-- a depot of this cluster in one move
turned-still : (i : ℕ) (w v : World) → Turned (config_of four i) w v → v ≡ w
turned-still i w _ still = refl
turned-still i w _ (stepped e entries) = ap (λ x. x.after) (halves-refused i e entries w)

halves-still : (ms : List Move) (σ : State) (i : ℕ) → (after four ms σ).depot i ≡ σ.depot i
unfolding after
halves-still [] σ i = refl
halves-still (m ∷ ms) σ i = halves-still ms (moved four m σ) i ∙ turned-still i (σ.depot i) ((moved four m σ).depot i) (turned four m i σ)

mixed-stands : (i : ℕ) → i < 4 → stands_of (unlike (config_of four i)) ≡ true
unfolding stands_of sizes_stand is_depot
mixed-stands zero h = refl
mixed-stands (suc i) h = below-three (λ k. stands_of (unlike (config_of four (suc k))) ≡ true) refl refl refl i (omega (arith, h))

pub quorums : Quorums
quorums =
    record {
      halves-refused = halves-refused;
      halves-still = halves-still;
      unjudged-step = unjudged-step;
      halves_parts = halves_parts;
      halves-breaks = parted-differ four halves (having 0 []) (having 0 [] ∷ []) (omega arith) halves_parts;
      mixed-stands = mixed-stands;
      mixed-parts = mixed-parts;
      mixed-breaks = parted-differ four mixed (having 0 []) (having 0 [] ∷ []) (omega arith) mixed-parts;
    }
