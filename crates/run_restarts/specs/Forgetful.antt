-- Runs with a restart that they may not make, beside the moves: the depot has forgotten something that outlives a restart.
use Rattle.std.specs.Prelude.{ℕ, List, [], ◌∷◌}
use Rattle.ballot.specs.Ballot.{default}
use Rattle.paxos_box.specs.declared.InternalStorage.{InternalStorage}
use Rattle.record.specs.declared.Record.{Record}
use Rattle.step.specs.Step.{world}
use Rattle.runs.specs.Runs.{Setup, State, Move, restart, put_at, moved}

-- what a depot forgets
pub data Forgotten : Type 0 where
  promise : Forgotten
  round : Forgotten
  log : Forgotten
  decided : Forgotten

pub data Forgetful : Type 0 where
  keeps : Move → Forgetful
  forget : ℕ → Forgotten → Forgetful

-- of what outlives a restart: the promise is as low as the accepted round; the accepted round is as fresh; the log has only its decided entries; nothing is decided
abbrev pub forgotten : Forgotten → InternalStorage → InternalStorage
forgotten promise s = record { promise = s.accepted_round; accepted_round = s.accepted_round; decided_idx = s.decided_idx; accepted_idx = s.accepted_idx }
forgotten round s = record { promise = s.promise; accepted_round = default; decided_idx = s.decided_idx; accepted_idx = s.accepted_idx }
forgotten log s = record { promise = s.promise; accepted_round = s.accepted_round; decided_idx = s.decided_idx; accepted_idx = s.decided_idx }
forgotten decided s = record { promise = s.promise; accepted_round = s.accepted_round; decided_idx = 0; accepted_idx = s.accepted_idx }

abbrev pub forgetful : Forgotten → Record → Record
forgetful x r =
    record {
      internal_storage = forgotten x r.internal_storage;
      state = r.state;
      buffered_proposals = r.buffered_proposals;
      outgoing = r.outgoing;
      leader_state = r.leader_state;
      latest_accepted_meta = r.latest_accepted_meta;
      current_seq_num = r.current_seq_num;
      cached_promise_message = r.cached_promise_message;
    }

abbrev pub forgetful_at : ℕ → Forgotten → State → State
forgetful_at i x σ =
    record { depot = put_at i (world (forgetful x (σ.depot i).node) (σ.depot i).row (σ.depot i).lists) σ.depot; link = σ.link; proposed = σ.proposed }

-- it has forgotten, and then it restarts
unfoldable pub moved_forgetful : Setup → Forgetful → State → State
moved_forgetful z (keeps m) σ = moved z m σ
moved_forgetful z (forget i x) σ = moved z (restart i) (forgetful_at i x σ)

unfoldable pub after_forgetful : Setup → List Forgetful → State → State
after_forgetful z [] σ = σ
after_forgetful z (m ∷ ms) σ = after_forgetful z ms (moved_forgetful z m σ)
