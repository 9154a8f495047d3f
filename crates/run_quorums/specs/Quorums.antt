-- What quorums that miss each other do to the claim on runs: agreement fails.
use Rattle.std.specs.Prelude.{ℕ, ◌<◌, ◌≡◌, true, false, List, [], ◌∷◌}
use Rattle.quorum.specs.declared.Configuration.{Configuration}
use Rattle.quorum.specs.Quorum.{stands_of}
use Rattle.messages.specs.declared.Event.{Event}
use Rattle.refusals.specs.Refusals.{call_off}
use Rattle.step.specs.Step.{World, refused_with, step_of}
use Rattle.runs.specs.Runs.{State, Move, config_of, after}
use Rattle.run_cases.specs.Seen.{start, Seen, all, having, Agree}
use Rattle.run_cases.specs.Stepping.{after_by}
use Rattle.run_cases.specs.Moves.{out, other}
use Rattle.run_quorums.specs.Unjudged.{four, unjudged}
use Rattle.run_quorums.specs.Unlike.{unlike, unlike_step}
use Rattle.run_quorums.specs.Moves.{halves_moves, unlike_moves}

-- of four depots, depots 0 and 2 have decided different entries at the first place
abbrev pub parted_four : List Seen
parted_four = having 1 (out ∷ []) ∷ having 0 [] ∷ having 1 (other ∷ []) ∷ having 0 [] ∷ []

-- the clusters after the runs
abbrev pub halves : State
halves = after_by unjudged four halves_moves start

abbrev pub mixed : State
mixed = after_by unlike_step four unlike_moves start

pub record Quorums : Type 0 where
  -- read + write equal to the depots: the step refuses all, with 1, so no depot ever changes; the step that does not judge the call, and is the step where the call is right,
  -- parts the depots
  pub halves-refused : (i : ℕ) (e : Event) (entries : List ℕ) (w : World) → step_of (config_of four i) e entries w ≡ refused_with 1 w
  pub halves-still : (ms : List Move) (σ : State) (i : ℕ) → (after four ms σ).depot i ≡ σ.depot i
  pub unjudged-step : (c : Configuration) (e : Event) (entries : List ℕ) (w : World) → call_off c w.lists ≡ false → unjudged c e entries w ≡ step_of c e entries w
  pub halves_parts : all four halves ≡ parted_four
  pub halves-breaks : ¬ Agree four halves
  -- depots of two configurations, both of which stand, part by the step itself
  pub mixed-stands : (i : ℕ) → i < 4 → stands_of (unlike (config_of four i)) ≡ true
  pub mixed-parts : all four mixed ≡ parted_four
  pub mixed-breaks : ¬ Agree four mixed
