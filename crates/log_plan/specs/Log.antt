-- What a step decides about the log and the buffered proposals, in numbers. Each function takes the box last.
use Rattle.std.specs.Prelude.{ℕ, ◌+◌, ◌-◌, min, max, Bool, true, false, cond, not, ltb, eqb, Some}
use Rattle.base.specs.Limits.{max_log}
use Rattle.ballot.specs.declared.Ballot.{Ballot}
use Rattle.leader_state.specs.declared.LogSync.{LogSync}
use Rattle.messages.specs.declared.PaxosMsg.TheVariants.{ProposalForward}
use Rattle.paxos_box.specs.declared.SequencePaxos.{SequencePaxos}
use Rattle.paxos_box.specs.declared.LogOp.{LogOp}
use Rattle.paxos_box.specs.declared.LogOp.TheVariants.{Append}
use Rattle.paxos_box.specs.declared.Sent.TheVariants.{New}
use Rattle.paxos_box.specs.declared.Source.{Source}
use Rattle.paxos_box.specs.declared.Source.TheVariants.{Given, Buffered}
use Rattle.paxos_box.specs.Box.{push_of, with_storage, with_writes, set_length, set_buffered, log_op, buffer_op, kept_buffered}

-- where a sync ends, and whether that is past the log's limit
abbrev pub sync_end : LogSync → ℕ
sync_end x = x.sync_idx + x.len

unfoldable pub ends_past : LogSync → Bool
ends_past x = ltb max_log (sync_end x)

-- it starts past that log, changes a place below the own decided index, or ends below that index or the decided index it brings (R2.4.22 to R2.4.25)
unfoldable pub put_unfit : ℕ → ℕ → ℕ → ℕ → ℕ → ℕ → Bool
put_unfit start end change len decided brings =
    cond (ltb len start) true
    (cond (ltb change decided) true
    (cond (ltb end decided) true
    (ltb end brings)))

-- a sync that may not be put on this log; `change` is the first place that it changes
unfoldable pub sync_unfit : LogSync → ℕ → ℕ → SequencePaxos → Bool
sync_unfit x change brings s =
    cond (ends_past x) true
    (put_unfit x.sync_idx (sync_end x) change s.internal_storage.accepted_idx s.internal_storage.decided_idx brings)

-- sync_log (R6.2): the accepted round becomes the given ballot, the decided index rises to the given one, never falling, and the log ends at `end`
abbrev pub synced_to : Ballot → ℕ → ℕ → SequencePaxos → SequencePaxos
synced_to n decided end s =
    with_storage (record { promise = s.internal_storage.promise; accepted_round = n; decided_idx = max s.internal_storage.decided_idx decided; accepted_idx = end }) s

unfoldable pub sync_log : Ballot → ℕ → ℕ → LogOp → SequencePaxos → SequencePaxos
sync_log n decided end op s = with_writes (log_op op s.plan.writes) (synced_to n decided end s)

-- the given entries join the log's end
unfoldable pub append_given : ℕ → SequencePaxos → SequencePaxos
append_given count s = with_writes (log_op (Append count) s.plan.writes) (set_length (s.internal_storage.accepted_idx + count) s)

-- buffered proposals join the log's end; those past 512 are dropped from the end (R6.5)
unfoldable pub kept_of : ℕ → ℕ → ℕ
kept_of waiting len = cond (ltb max_log len) 0 (min waiting (max_log - len))

unfoldable pub append_buffered : SequencePaxos → SequencePaxos
append_buffered s =
    with_writes (kept_buffered (kept_of s.buffered_proposals s.internal_storage.accepted_idx) (s.buffered_proposals - kept_of s.buffered_proposals s.internal_storage.accepted_idx) s.plan.writes)
    (set_buffered 0
    (set_length (s.internal_storage.accepted_idx + kept_of s.buffered_proposals s.internal_storage.accepted_idx) s))

-- the given entries join the buffered proposals
unfoldable pub buffer_given : ℕ → SequencePaxos → SequencePaxos
buffer_given count s = with_writes (buffer_op (Some count) s.plan.writes) (set_buffered (s.buffered_proposals + count) s)

-- the promise's pid is neither 0 nor oneself
unfoldable pub has_leader : SequencePaxos → Bool
has_leader s = cond (eqb s.internal_storage.promise.pid 0) false (not (eqb s.internal_storage.promise.pid s.config.pid))

abbrev pub push_forward : Source → ℕ → SequencePaxos → SequencePaxos
push_forward src count s = push_of (record { to = s.internal_storage.promise.pid; what = New ProposalForward; source = src; count = count }) s

-- forwarding goes to the promise's pid; if that is 0 or oneself, entries are buffered (R9.5)
unfoldable pub forward_proposals : ℕ → SequencePaxos → SequencePaxos
forward_proposals count s = cond (has_leader s) (push_forward Given count s) (buffer_given count s)

-- the same of the buffered proposals, where there are any: buffered again, they are as they were
unfoldable pub forward_buffered : SequencePaxos → SequencePaxos
forward_buffered s =
    cond (eqb s.buffered_proposals 0) s
    (cond (has_leader s) (push_forward Buffered s.buffered_proposals (set_buffered 0 s)) s)
