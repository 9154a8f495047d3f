-- Moves and runs by any step: the moves of `runs`, with a step that is given in the place of `step_of`.
use Rattle.std.specs.Prelude.{ℕ, ◌+◌, cond, List, [], ◌∷◌, ◌++◌, eqb}
use Rattle.quorum.specs.declared.Configuration.{Configuration}
use Rattle.messages.specs.declared.Event.{Event}
use Rattle.messages.specs.declared.Event.TheVariants as event
use Rattle.outgoing.specs.Queue.{Msg, lent, queue_of}
use Rattle.step.specs.Step.{World, Outcome}
use Rattle.runs.specs.Runs.{Setup, State, Move, deliver, lose, drain, propose, leader, reconnect, resend, restart, config_of, put_at, sent_to, without, moved}

abbrev pub Stepping : Type 0
Stepping = Configuration → Event → List ℕ → World → Outcome

abbrev pub outcome_by : Stepping → Setup → ℕ → Event → List ℕ → State → Outcome
outcome_by step z i e entries σ = step (config_of z i) e entries (σ.depot i)

abbrev pub stepped_by : Stepping → Setup → ℕ → Event → List ℕ → State → State
stepped_by step z i e entries σ = record { depot = put_at i (outcome_by step z i e entries σ).after σ.depot; link = σ.link; proposed = σ.proposed }

abbrev pub handed_by : Stepping → Setup → ℕ → State → List Msg
handed_by step z i σ = queue_of (outcome_by step z i event.Drain [] σ).answer.handed_out (lent (σ.depot i).row (σ.depot i).lists.store)

abbrev pub drained_by : Stepping → Setup → ℕ → State → State
drained_by step z i σ =
    record {
      depot = put_at i (outcome_by step z i event.Drain [] σ).after σ.depot;
      link = λ a b. cond (eqb a i) (σ.link a b ++ sent_to b (handed_by step z i σ)) (σ.link a b);
      proposed = σ.proposed;
    }

abbrev pub arrives_by : Stepping → Setup → ℕ → ℕ → List Msg → State → State
arrives_by step z i j [] σ = σ
arrives_by step z i j (m ∷ q) σ = stepped_by step z j (event.Message (record { from = i + 1; msg = m.msg })) m.entries (without i j q σ)

abbrev pub proposes_by : Stepping → Setup → ℕ → List ℕ → State → State
proposes_by step z i entries σ =
    record {
      depot = put_at i (outcome_by step z i event.Propose entries σ).after σ.depot;
      link = σ.link;
      proposed = cond (eqb (outcome_by step z i event.Propose entries σ).answer.no 0) (σ.proposed ++ entries) σ.proposed;
    }

-- in a loss no depot takes a step
unfoldable pub moved_by : Stepping → Setup → Move → State → State
moved_by step z (deliver i j) σ = arrives_by step z i j (σ.link i j) σ
moved_by step z (lose i j) σ = moved z (lose i j) σ
moved_by step z (drain i) σ = drained_by step z i σ
moved_by step z (propose i entries) σ = proposes_by step z i entries σ
moved_by step z (leader i n) σ = stepped_by step z i (event.Leader n) [] σ
moved_by step z (reconnect i pid) σ = stepped_by step z i (event.Reconnect pid) [] σ
moved_by step z (resend i) σ = stepped_by step z i event.Resend [] σ
moved_by step z (restart i) σ = stepped_by step z i event.Restart [] σ

unfoldable pub after_by : Stepping → Setup → List Move → State → State
after_by step z [] σ = σ
after_by step z (m ∷ ms) σ = after_by step z ms (moved_by step z m σ)
