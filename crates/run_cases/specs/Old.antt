-- A step, a move and a run by a rule, which says what a step keeps of the record. Ours keeps the record as the step leaves it. By the old rule `send_accsync` leaves the
-- remembered AcceptDecide, as the Rust does.
use Rattle.std.specs.Prelude.{ℕ, cond, List, [], ◌∷◌, ltb}
use Rattle.quorum.specs.declared.Configuration.{Configuration}
use Rattle.leader_state.specs.declared.Depot.{Depot}
use Rattle.leader_state.specs.State.{with_depots, set_latest}
use Rattle.messages.specs.declared.Event.{Event}
use Rattle.record.specs.declared.Record.{Record}
use Rattle.step.specs.Step.{World, Outcome, world, step_of}
use Rattle.runs.specs.Runs.{Setup, State, Move, deliver, lose, drain, propose, leader, reconnect, resend, restart, put_at, moved}

-- of the record that a step finds and the one that it leaves
abbrev pub Rule : Type 0
Rule = Record → Record → Record

abbrev pub ours : Rule
ours found left = left

-- only send_accsync raises a session: where the step did, what was remembered before stays
abbrev pub kept_place : Depot → Depot → Depot
kept_place found left = cond (ltb found.seq_num.session left.seq_num.session) (set_latest found.latest left) left

unfoldable pub kept_places : List Depot → List Depot → List Depot
kept_places [] ds = ds
kept_places (f ∷ fs) [] = []
kept_places (f ∷ fs) (d ∷ ds) = kept_place f d ∷ kept_places fs ds

abbrev pub old : Rule
old found left =
    record {
      internal_storage = left.internal_storage;
      state = left.state;
      buffered_proposals = left.buffered_proposals;
      outgoing = left.outgoing;
      leader_state = with_depots (kept_places found.leader_state.depots left.leader_state.depots) left.leader_state;
      latest_accepted_meta = left.latest_accepted_meta;
      current_seq_num = left.current_seq_num;
      cached_promise_message = left.cached_promise_message;
    }

-- the step, and then the rule
abbrev pub ruled : Rule → World → World → World
ruled rule found left = world (rule found.node left.node) left.row left.lists

abbrev pub step_by : Rule → Configuration → Event → List ℕ → World → Outcome
step_by rule c e entries w = record { answer = (step_of c e entries w).answer; after = ruled rule w (step_of c e entries w).after }

-- the depot that takes a step in a move
abbrev pub mover : Move → ℕ
mover (deliver i j) = j
mover (lose i j) = j
mover (drain i) = i
mover (propose i entries) = i
mover (leader i n) = i
mover (reconnect i pid) = i
mover (resend i) = i
mover (restart i) = i

-- the move, and then the rule at the depot that moved
abbrev pub kept_by : Rule → ℕ → State → State → State
kept_by rule i found left = record { depot = put_at i (ruled rule (found.depot i) (left.depot i)) left.depot; link = left.link; proposed = left.proposed }

unfoldable pub moved_by : Rule → Setup → Move → State → State
moved_by rule z m σ = kept_by rule (mover m) σ (moved z m σ)

unfoldable pub after_by : Rule → Setup → List Move → State → State
after_by rule z [] σ = σ
after_by rule z (m ∷ ms) σ = after_by rule z ms (moved_by rule z m σ)
