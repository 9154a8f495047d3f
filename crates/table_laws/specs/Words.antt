-- Refusals 4 and 7 in document 01's words ("When a box says no", and "Unfit:" after it, its part 'only where the message would be taken'), by the event and the box as found.
use Rattle.std.specs.Prelude.{ℕ, ◌+◌, ◌≤◌, ◌<◌, ◌≡◌, ◌⊎◌, Bool, true, Option, None, Some}
use Rattle.base.specs.Limits.{max_log, largest}
use Rattle.ballot.specs.Ballot.{above}
use Rattle.sequence.specs.Sequence.{status_of}
use Rattle.sequence.specs.declared.SequenceNumber.{SequenceNumber}
use Rattle.sequence.specs.declared.MessageStatus.TheVariants.{Expected}
use Rattle.leader_state.specs.declared.LeaderState.{LeaderState}
use Rattle.leader_state.specs.declared.LogSync.{LogSync}
use Rattle.leader_state.specs.declared.PromiseState.{PromiseState}
use Rattle.leader_state.specs.declared.PromiseState.TheVariants.{NotPromised, Promised, PromisedHigher}
use Rattle.leader_state.specs.State.{depot_of}
use Rattle.leader_state.specs.Promises.{beats_best, promise_kept, max_decided, sync_start}
use Rattle.leader_state.specs.Places.{is_follower}
use Rattle.messages.specs.declared.Event.{Event}
use Rattle.messages.specs.declared.Event.TheVariants as event
use Rattle.messages.specs.declared.PaxosMsg.{PaxosMsg}
use Rattle.messages.specs.declared.PaxosMsg.TheVariants as msg
use Rattle.messages.specs.declared.Prepare.{Prepare}
use Rattle.messages.specs.declared.Promise.{Promise}
use Rattle.messages.specs.declared.AcceptSync.{AcceptSync}
use Rattle.messages.specs.declared.AcceptDecide.{AcceptDecide}
use Rattle.messages.specs.declared.Accepted.{Accepted}
use Rattle.messages.specs.declared.Decide.{Decide}
use Rattle.paxos_box.specs.declared.SequencePaxos.{SequencePaxos}
use Rattle.paxos_box.specs.declared.Phase.TheVariants as phase
use Rattle.paxos_box.specs.declared.Standing.{Standing}
use Rattle.paxos_box.specs.declared.Standing.TheVariants.{LeaderPrepare, LeaderAccept, FollowerPrepare, FollowerAccept}
use Rattle.paxos_box.specs.Box.{standing_of}
use Rattle.sends.specs.Sends.{the_depot, log_length, sync_start_of, latest_accdec}
use Rattle.log_plan.specs.Log.{sync_end, kept_of}
use Rattle.leader.specs.Leader.{reached, change_of, set_accepted_of, newly_chosen}
use Rattle.accepting.specs.Accepting.{given_sync}
use Rattle.sequence_paxos.specs.Decide.{report_of, brought_by}

-- Where a box stands, and the index up to which it has decided
abbrev pub standing : SequencePaxos → Standing
standing s = standing_of s.state.role s.state.phase

abbrev pub decided_index : SequencePaxos → ℕ
decided_index s = s.internal_storage.decided_idx

-- A session or counter at 2^64 - 1: none is above
abbrev pub AtTop : ℕ → Type 0
AtTop n = largest ≤ n

-- A promised follower by a leader's record: a depot that has promised and is not the leader itself
pub record SomeFollower (depots : ℕ) (l : LeaderState) (P : ℕ → Type 0) : Type 0 where
  pub pid : ℕ
  pub positive : 0 < pid
  pub within : pid ≤ depots
  pub follows : is_follower pid l ≡ true
  pub so : P pid

-- Where a message would be taken

-- Prepare: a higher ballot, or an equal one only in Phase::Recover
abbrev pub PrepareTaken : Prepare → SequencePaxos → Type 0
PrepareTaken m s =
    (above m.n s.internal_storage.promise ≡ true) ⊎ ((m.n ≡ s.internal_storage.promise) × (s.state.phase ≡ phase.Recover))

-- Promise: the leader's ballot, in (Leader, Prepare) or (Leader, Accept)
abbrev pub PromiseIn : Standing → Promise → SequencePaxos → Type 0
PromiseIn t m s = (m.n ≡ s.leader_state.n_leader) × (standing s ≡ t)

abbrev pub PromiseTaken : Promise → SequencePaxos → Type 0
PromiseTaken m s = PromiseIn LeaderPrepare m s ⊎ PromiseIn LeaderAccept m s

-- AcceptSync: an equal ballot, in (Follower, Prepare)
abbrev pub AcceptSyncTaken : AcceptSync → SequencePaxos → Type 0
AcceptSyncTaken m s = (m.n ≡ s.internal_storage.promise) × (standing s ≡ FollowerPrepare)

-- AcceptDecide and Decide come to the comparison of numbers on an equal ballot, in (Follower, Accept) and in Phase::Accept
abbrev pub AcceptDecideCompared : AcceptDecide → SequencePaxos → Type 0
AcceptDecideCompared m s = (m.n ≡ s.internal_storage.promise) × (standing s ≡ FollowerAccept)

abbrev pub DecideCompared : Decide → SequencePaxos → Type 0
DecideCompared m s = (m.n ≡ s.internal_storage.promise) × (s.state.phase ≡ phase.Accept)

-- a message of the same session is to be compared with an own counter that is at the top
abbrev pub OwnAtTop : SequenceNumber → SequencePaxos → Type 0
OwnAtTop q s = (q.session ≡ s.current_seq_num.session) × (s.current_seq_num.counter ≡ largest)

-- an AcceptDecide is taken where its number is Expected. With the own counter at the top no 64-bit counter is (`none-higher` in proofs/Following)
abbrev pub AcceptDecideTaken : AcceptDecide → SequencePaxos → Type 0
AcceptDecideTaken m s = AcceptDecideCompared m s × (OwnAtTop m.seq_num s → ⊥) × (status_of s.current_seq_num m.seq_num ≡ Expected)

-- Accepted: the leader's ballot, in (Leader, Accept)
abbrev pub AcceptedTaken : Accepted → SequencePaxos → Type 0
AcceptedTaken m s = (m.n ≡ s.leader_state.n_leader) × (standing s ≡ LeaderAccept)

-- The read quorum

-- the leader's record with this Promise kept: its depot has promised, and it is the best where it beats the best
abbrev pub kept_by : Promise → ℕ → ℕ → SequencePaxos → LeaderState
kept_by m count from s = promise_kept (report_of m from) (brought_by m.log_sync count) true s.leader_state

-- whether it is the best, so that the best's sync is the one it brings
abbrev pub is_best : Promise → ℕ → SequencePaxos → Bool
is_best m from s = beats_best (report_of m from) s.leader_state

-- a Promise in (Leader, Prepare) with which a read quorum has promised
abbrev pub Completes : Promise → ℕ → ℕ → SequencePaxos → Type 0
Completes m count from s = PromiseIn LeaderPrepare m s × (reached (report_of m from) (brought_by m.log_sync count) true s ≡ true)

-- the log's length once the best promise's sync, if it has one, is on; and with the buffered entries that fit, which join then
abbrev pub left_by : Option LogSync → ℕ → ℕ
left_by (Some x) len = sync_end x
left_by None len = len

abbrev pub with_buffered : ℕ → SequencePaxos → ℕ
with_buffered len s = len + kept_of s.buffered_proposals len

-- Unfit: refusal 4

-- a sync brought that ends past 512
abbrev pub EndsPast : Option LogSync → Type 0
EndsPast (Some x) = max_log < sync_end x
EndsPast None = ⊥

-- at the step that puts a sync on, to a log of that length and decided index: one that ends past 512, starts past that log, changes a place below the decided index
-- (`change` is the first place it changes), or ends below that index or the decided index it brings
pub data PutUnfit (x : LogSync) (change brings len decided : ℕ) : Type 0 where
  ends-past : max_log < sync_end x → PutUnfit x change brings len decided
  starts-past : len < x.sync_idx → PutUnfit x change brings len decided
  changes-decided : change < decided → PutUnfit x change brings len decided
  ends-below-decided : sync_end x < decided → PutUnfit x change brings len decided
  ends-below-brought : sync_end x < brings → PutUnfit x change brings len decided

-- the same of the best promise's sync, if it has one
abbrev pub BestUnfit : Option LogSync → ℕ → ℕ → ℕ → ℕ → Type 0
BestUnfit (Some x) change brings len decided = PutUnfit x change brings len decided
BestUnfit None change brings len decided = ⊥

-- a log sync to be built for a depot that has promised so, from past a log's end
abbrev pub BuiltPast : PromiseState → LeaderState → ℕ → Type 0
BuiltPast (Promised m) l len = len < sync_start l.n_leader l.max_promise.meta m
BuiltPast NotPromised l len = ⊥
BuiltPast PromisedHigher l len = ⊥

-- at the read quorum, of the leader's record with the Promise kept: the best promise's sync; promises whose highest decided index passes the log they leave;
-- a log sync to be built for a promised follower
pub data QuorumUnfit (l : LeaderState) (best : Bool) (s : SequencePaxos) : Type 0 where
  best-sync : BestUnfit l.max_promise.sync (change_of best s) l.max_promise.meta.decided_idx (log_length s) (decided_index s) → QuorumUnfit l best s
  highest-decided : left_by l.max_promise.sync (log_length s) < max_decided s.config.depots l → QuorumUnfit l best s
  sync-built : SomeFollower s.config.depots l (λ pid. BuiltPast (depot_of pid l).promise l (with_buffered (left_by l.max_promise.sync (log_length s)) s)) → QuorumUnfit l best s

-- Prepare: a log sync to be built from past the own log's end. It is built from the leader's decided index where the own accepted round is above the leader's;
-- in the same round it is built from within the log, if at all
abbrev pub PrepareUnfit : Prepare → SequencePaxos → Type 0
PrepareUnfit m s = PrepareTaken m s × (above s.internal_storage.accepted_round m.n_accepted ≡ true) × (log_length s < m.decided_idx)

pub data PromiseUnfit (m : Promise) (count from : ℕ) (s : SequencePaxos) : Type 0 where
  brings-past : PromiseTaken m s → EndsPast (brought_by m.log_sync count) → PromiseUnfit m count from s
  built-past : PromiseIn LeaderAccept m s → log_length s < sync_start_of (report_of m from) s → PromiseUnfit m count from s
  at-quorum : Completes m count from s → QuorumUnfit (kept_by m count from s) (is_best m from s) s → PromiseUnfit m count from s

abbrev pub AcceptSyncUnfit : AcceptSync → ℕ → SequencePaxos → Type 0
AcceptSyncUnfit m count s = AcceptSyncTaken m s × PutUnfit (given_sync m count) (change_of true s) m.decided_idx (log_length s) (decided_index s)

-- AcceptDecide of no entries, or one that would pass 512
abbrev pub AcceptDecideUnfit : AcceptDecide → ℕ → SequencePaxos → Type 0
AcceptDecideUnfit m count s = AcceptDecideTaken m s × ((count ≡ 0) ⊎ (max_log < log_length s + count))

-- an Accepted index above the leader's log
abbrev pub AcceptedUnfit : Accepted → SequencePaxos → Type 0
AcceptedUnfit m s = AcceptedTaken m s × (log_length s < m.accepted_idx)

abbrev pub UnfitMessage : PaxosMsg → ℕ → ℕ → SequencePaxos → Type 0
UnfitMessage (msg.PrepareReq m) count from s = ⊥
UnfitMessage (msg.Prepare m) count from s = PrepareUnfit m s
UnfitMessage (msg.Promise m) count from s = PromiseUnfit m count from s
UnfitMessage (msg.AcceptSync m) count from s = AcceptSyncUnfit m count s
UnfitMessage (msg.AcceptDecide m) count from s = AcceptDecideUnfit m count s
UnfitMessage (msg.Accepted m) count from s = AcceptedUnfit m s
UnfitMessage (msg.NotAccepted m) count from s = ⊥
UnfitMessage (msg.Decide m) count from s = ⊥
UnfitMessage msg.ProposalForward count from s = ⊥

-- the message, with so many entries, would be taken and is unfit
abbrev pub Unfits : Event → ℕ → SequencePaxos → Type 0
Unfits (event.Message m) count s = UnfitMessage m.msg count m.from s
Unfits event.Propose count s = ⊥
Unfits (event.Leader n) count s = ⊥
Unfits (event.Reconnect pid) count s = ⊥
Unfits event.Resend count s = ⊥
Unfits event.Drain count s = ⊥
Unfits event.Restart count s = ⊥

-- At the top: refusal 7

-- a promised follower whose counter is to be raised is at the top: it has no remembered AcceptDecide, or none stands at its position, so that a new message goes to it
abbrev pub CounterTop : SequencePaxos → Type 0
CounterTop s = SomeFollower s.config.depots s.leader_state (λ pid. (latest_accdec pid s ≡ None) × AtTop (the_depot pid s).seq_num.counter)

-- a proposal in (Leader, Accept) goes to every promised follower
abbrev pub ProposalTop : SequencePaxos → Type 0
ProposalTop s = (standing s ≡ LeaderAccept) × CounterTop s

-- an Accepted with which an index is newly chosen is told to every promised follower
abbrev pub AcceptedTop : Accepted → ℕ → SequencePaxos → Type 0
AcceptedTop m from s = AcceptedTaken m s × (newly_chosen m.accepted_idx (set_accepted_of from m.accepted_idx s) ≡ true) × CounterTop s

-- an AcceptSync raises a session: the sender's in (Leader, Accept), every promised follower's at the read quorum. The counter restarts
pub data PromiseTop (m : Promise) (count from : ℕ) (s : SequencePaxos) : Type 0 where
  sender-top : PromiseIn LeaderAccept m s → AtTop (the_depot from s).seq_num.session → PromiseTop m count from s
  follower-top : Completes m count from s → SomeFollower s.config.depots (kept_by m count from s) (λ pid. AtTop (the_depot pid s).seq_num.session) → PromiseTop m count from s

abbrev pub TopMessage : PaxosMsg → ℕ → ℕ → SequencePaxos → Type 0
TopMessage (msg.PrepareReq m) count from s = ⊥
TopMessage (msg.Prepare m) count from s = ⊥
TopMessage (msg.Promise m) count from s = PromiseTop m count from s
TopMessage (msg.AcceptSync m) count from s = ⊥
TopMessage (msg.AcceptDecide m) count from s = AcceptDecideCompared m s × OwnAtTop m.seq_num s
TopMessage (msg.Accepted m) count from s = AcceptedTop m from s
TopMessage (msg.NotAccepted m) count from s = ⊥
TopMessage (msg.Decide m) count from s = DecideCompared m s × OwnAtTop m.seq_num s
TopMessage msg.ProposalForward count from s = ProposalTop s

-- a session or counter to be raised is at the top, or the own counter is, where a message of the same session is to be compared with it
abbrev pub Tops : Event → ℕ → SequencePaxos → Type 0
Tops (event.Message m) count s = TopMessage m.msg count m.from s
Tops event.Propose count s = ProposalTop s
Tops (event.Leader n) count s = ⊥
Tops (event.Reconnect pid) count s = ⊥
Tops event.Resend count s = ⊥
Tops event.Drain count s = ⊥
Tops event.Restart count s = ⊥
