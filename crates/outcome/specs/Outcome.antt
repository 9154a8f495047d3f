-- Drain and restart, and the refusals that only a step's outcome shows (4 where a message would be taken, 7, 5, 8, 6).
use Rattle.std.specs.Prelude.{ℕ, ◌+◌, cond, ltb, eqb, None, Result, Ok, Err}
use Rattle.base.specs.Limits.{max_log, max_buffered, max_messages, max_store}
use Rattle.base.specs.declared.Refusal.{Refusal}
use Rattle.base.specs.Refusal.{number_of}
use Rattle.ballot.specs.Ballot.{default}
use Rattle.sequence.specs.Sequence.{first}
use Rattle.leader_state.specs.State.{with_of, forget_all}
use Rattle.paxos_box.specs.declared.SequencePaxos.{SequencePaxos}
use Rattle.paxos_box.specs.declared.Role.TheVariants.{Follower}
use Rattle.paxos_box.specs.declared.Phase.TheVariants as phase
use Rattle.paxos_box.specs.Box.{with_leader, with_state, set_meta, set_seq, set_cached, set_buffered}

-- the refusal's number, or 0, and the box: as found where refused, as the step leaves it where taken
pub record Decision : Type 0 where
  pub no : ℕ
  pub node : SequencePaxos

-- what a function's result decides of the box as found
abbrev pub as_decision : SequencePaxos → Result SequencePaxos Refusal → Decision
as_decision found (Ok s) = record { no = 0; node = s }
as_decision found (Err e) = record { no = number_of e; node = found }

-- a drain forgets every remembered position, Accepted included (R11.2)
unfoldable pub drained : SequencePaxos → SequencePaxos
drained s = set_meta None (with_leader (forget_all s.config.depots s.leader_state) s)

-- a restart keeps promise, accepted round, log and decided index (R12.1); all else is as fresh, state (Follower, Recover)
unfoldable pub restarted : SequencePaxos → SequencePaxos
restarted s =
    set_cached None
    (set_seq first
    (set_meta None
    (with_leader (with_of default s.config.depots s.leader_state)
    (set_buffered 0
    (with_state (record { role = Follower; phase = phase.Recover }) s)))))

-- 6 (R2.6): the queue would pass 64 messages or 4,096 entries
unfoldable pub queue_refusal : ℕ → ℕ → ℕ
queue_refusal messages entries = cond (ltb max_messages messages) 6 (cond (ltb max_store entries) 6 0)

-- 4, 7, 5, 8 and 6, read off the step as it would be (R2.0). Refusal 2 has let pass only a queue within both limits; so, after it, nothing planned for the queue means no 6
unfoldable pub outcome_refusal : SequencePaxos → ℕ
outcome_refusal s =
    cond s.plan.unfit 4
    (cond s.plan.top 7
    (cond (ltb max_log s.internal_storage.accepted_idx) 5
    (cond (ltb max_buffered s.buffered_proposals) 8
    (queue_refusal (s.outgoing.len + s.plan.sends.messages) (s.outgoing.entries + s.plan.sends.entries)))))

-- refused: as found; taken: the step's own outcome
unfoldable pub settled : SequencePaxos → SequencePaxos → Decision
settled found s = cond (eqb (outcome_refusal s) 0) (record { no = 0; node = s }) (record { no = outcome_refusal s; node = found })
