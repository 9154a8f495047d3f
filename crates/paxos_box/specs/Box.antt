-- A box with one thing changed, and one thing more in its plan. Each function takes the box last.
use Rattle.std.specs.Prelude.{ℕ, ◌+◌, Bool, true, false, cond, ltb, set, Option}
use Rattle.leader_state.specs.declared.LogSync.{LogSync}
use Rattle.paxos_box.specs.declared.AcceptedAt.{AcceptedAt}
use Rattle.paxos_box.specs.declared.CachedPromise.{CachedPromise}
use Rattle.ballot.specs.declared.Ballot.{Ballot}
use Rattle.sequence.specs.declared.SequenceNumber.{SequenceNumber}
use Rattle.leader_state.specs.declared.LeaderState.{LeaderState}
use Rattle.paxos_box.specs.declared.SequencePaxos.{SequencePaxos}
use Rattle.paxos_box.specs.declared.InternalStorage.{InternalStorage}
use Rattle.paxos_box.specs.declared.State.{State}
use Rattle.paxos_box.specs.declared.Plan.{Plan}
use Rattle.paxos_box.specs.declared.Sends.{Sends}
use Rattle.paxos_box.specs.declared.Send.{Send}
use Rattle.paxos_box.specs.declared.Writes.{Writes}
use Rattle.paxos_box.specs.declared.LogOp.{LogOp}
use Rattle.paxos_box.specs.declared.Sent.{Sent}
use Rattle.paxos_box.specs.declared.Sent.TheVariants.{New, Join, Raise}
use Rattle.paxos_box.specs.declared.Role.{Role}
use Rattle.paxos_box.specs.declared.Role.TheVariants.{Follower, Leader}
use Rattle.paxos_box.specs.declared.Phase.{Phase}
use Rattle.paxos_box.specs.declared.Phase.TheVariants as phase
use Rattle.paxos_box.specs.declared.Standing.{Standing}
use Rattle.paxos_box.specs.declared.Standing.TheVariants.{LeaderPrepare, LeaderAccept, FollowerPrepare, FollowerAccept, Other}

-- one field of the box set
abbrev pub with_storage : InternalStorage → SequencePaxos → SequencePaxos
with_storage x s = record { config = s.config; internal_storage = x; state = s.state; buffered_proposals = s.buffered_proposals; outgoing = s.outgoing; leader_state = s.leader_state; latest_accepted_meta = s.latest_accepted_meta; current_seq_num = s.current_seq_num; cached_promise_message = s.cached_promise_message; plan = s.plan }

abbrev pub with_state : State → SequencePaxos → SequencePaxos
with_state x s = record { config = s.config; internal_storage = s.internal_storage; state = x; buffered_proposals = s.buffered_proposals; outgoing = s.outgoing; leader_state = s.leader_state; latest_accepted_meta = s.latest_accepted_meta; current_seq_num = s.current_seq_num; cached_promise_message = s.cached_promise_message; plan = s.plan }

abbrev pub set_buffered : ℕ → SequencePaxos → SequencePaxos
set_buffered x s = record { config = s.config; internal_storage = s.internal_storage; state = s.state; buffered_proposals = x; outgoing = s.outgoing; leader_state = s.leader_state; latest_accepted_meta = s.latest_accepted_meta; current_seq_num = s.current_seq_num; cached_promise_message = s.cached_promise_message; plan = s.plan }

abbrev pub with_leader : LeaderState → SequencePaxos → SequencePaxos
with_leader x s = record { config = s.config; internal_storage = s.internal_storage; state = s.state; buffered_proposals = s.buffered_proposals; outgoing = s.outgoing; leader_state = x; latest_accepted_meta = s.latest_accepted_meta; current_seq_num = s.current_seq_num; cached_promise_message = s.cached_promise_message; plan = s.plan }

abbrev pub set_meta : Option AcceptedAt → SequencePaxos → SequencePaxos
set_meta x s = record { config = s.config; internal_storage = s.internal_storage; state = s.state; buffered_proposals = s.buffered_proposals; outgoing = s.outgoing; leader_state = s.leader_state; latest_accepted_meta = x; current_seq_num = s.current_seq_num; cached_promise_message = s.cached_promise_message; plan = s.plan }

abbrev pub set_seq : SequenceNumber → SequencePaxos → SequencePaxos
set_seq x s = record { config = s.config; internal_storage = s.internal_storage; state = s.state; buffered_proposals = s.buffered_proposals; outgoing = s.outgoing; leader_state = s.leader_state; latest_accepted_meta = s.latest_accepted_meta; current_seq_num = x; cached_promise_message = s.cached_promise_message; plan = s.plan }

abbrev pub set_cached : Option CachedPromise → SequencePaxos → SequencePaxos
set_cached x s = record { config = s.config; internal_storage = s.internal_storage; state = s.state; buffered_proposals = s.buffered_proposals; outgoing = s.outgoing; leader_state = s.leader_state; latest_accepted_meta = s.latest_accepted_meta; current_seq_num = s.current_seq_num; cached_promise_message = x; plan = s.plan }

abbrev pub with_plan : Plan → SequencePaxos → SequencePaxos
with_plan x s = record { config = s.config; internal_storage = s.internal_storage; state = s.state; buffered_proposals = s.buffered_proposals; outgoing = s.outgoing; leader_state = s.leader_state; latest_accepted_meta = s.latest_accepted_meta; current_seq_num = s.current_seq_num; cached_promise_message = s.cached_promise_message; plan = x }

-- one number of what outlives a restart
abbrev pub set_promised : Ballot → SequencePaxos → SequencePaxos
set_promised x s = with_storage (record { promise = x; accepted_round = s.internal_storage.accepted_round; decided_idx = s.internal_storage.decided_idx; accepted_idx = s.internal_storage.accepted_idx }) s

abbrev pub set_decided : ℕ → SequencePaxos → SequencePaxos
set_decided x s = with_storage (record { promise = s.internal_storage.promise; accepted_round = s.internal_storage.accepted_round; decided_idx = x; accepted_idx = s.internal_storage.accepted_idx }) s

abbrev pub set_length : ℕ → SequencePaxos → SequencePaxos
set_length x s = with_storage (record { promise = s.internal_storage.promise; accepted_round = s.internal_storage.accepted_round; decided_idx = s.internal_storage.decided_idx; accepted_idx = x }) s

-- one thing of what the step writes
abbrev pub log_op : LogOp → Writes → Writes
log_op x w = record { log = x; buffered = w.buffered; dropped = w.dropped; cached = w.cached; best = w.best; buffer = w.buffer }

abbrev pub cached_op : Option LogSync → Writes → Writes
cached_op x w = record { log = w.log; buffered = w.buffered; dropped = w.dropped; cached = x; best = w.best; buffer = w.buffer }

abbrev pub best_op : Option ℕ → Writes → Writes
best_op x w = record { log = w.log; buffered = w.buffered; dropped = w.dropped; cached = w.cached; best = x; buffer = w.buffer }

abbrev pub buffer_op : Option ℕ → Writes → Writes
buffer_op x w = record { log = w.log; buffered = w.buffered; dropped = w.dropped; cached = w.cached; best = w.best; buffer = x }

abbrev pub kept_buffered : ℕ → ℕ → Writes → Writes
kept_buffered kept dropped w = record { log = w.log; buffered = kept; dropped = dropped; cached = w.cached; best = w.best; buffer = w.buffer }

abbrev pub writing : Writes → Plan → Plan
writing w p = record { sends = p.sends; writes = w; unfit = p.unfit; top = p.top; sight = p.sight }

abbrev pub with_writes : Writes → SequencePaxos → SequencePaxos
with_writes w s = with_plan (writing w s.plan) s

-- the step is refused with 4, with 7
abbrev pub unfit : SequencePaxos → SequencePaxos
unfit s = with_plan (record { sends = s.plan.sends; writes = s.plan.writes; unfit = true; top = s.plan.top; sight = s.plan.sight }) s

abbrev pub at_top : SequencePaxos → SequencePaxos
at_top s = with_plan (record { sends = s.plan.sends; writes = s.plan.writes; unfit = s.plan.unfit; top = true; sight = s.plan.sight }) s

-- an edit is no new message
abbrev pub is_new : Sent → ℕ
is_new (New m) = 1
is_new (Join j) = 0
is_new (Raise r) = 0

-- one thing more is done to the queue; there is room for eight (a step has six at most)
abbrev pub sending : Send → Sends → Sends
sending m p = record { items = set p.items p.count m; count = p.count + 1; messages = p.messages + is_new m.what; entries = p.entries + m.count }

unfoldable pub planned : Send → Plan → Plan
planned m p = cond (ltb p.sends.count 8) (record { sends = sending m p.sends; writes = p.writes; unfit = p.unfit; top = p.top; sight = p.sight }) p

unfoldable pub push_of : Send → SequencePaxos → SequencePaxos
push_of m s = with_plan (planned m s.plan) s

-- the position that the next new message will have in the queue
abbrev pub next_place : SequencePaxos → ℕ
next_place s = s.outgoing.len + s.plan.sends.messages

-- roles and phases
abbrev pub is_leader : Role → Bool
is_leader Leader = true
is_leader Follower = false

abbrev pub is_recover : Phase → Bool
is_recover phase.Prepare = false
is_recover phase.Accept = false
is_recover phase.Recover = true
is_recover phase.None = false

abbrev pub is_accept_phase : Phase → Bool
is_accept_phase phase.Prepare = false
is_accept_phase phase.Accept = true
is_accept_phase phase.Recover = false
is_accept_phase phase.None = false

abbrev pub leads_in : Phase → Standing
leads_in phase.Prepare = LeaderPrepare
leads_in phase.Accept = LeaderAccept
leads_in phase.Recover = Other
leads_in phase.None = Other

abbrev pub follows_in : Phase → Standing
follows_in phase.Prepare = FollowerPrepare
follows_in phase.Accept = FollowerAccept
follows_in phase.Recover = Other
follows_in phase.None = Other

abbrev pub standing_of : Role → Phase → Standing
standing_of Leader p = leads_in p
standing_of Follower p = follows_in p
