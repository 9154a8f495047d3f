-- What of a depot the protocol reads: its durable part, its role, and the messages that wait. And what a message is to the stream of one ballot.
use Rattle.std.specs.Prelude.{ℕ, Bool, cond, ◌&&◌, List, [], ◌∷◌, ◌++◌, get_or, Option, None, Some}
use Rattle.ballot.specs.Ballot.{same}
use Rattle.paxos_box.specs.declared.AcceptedAt.{AcceptedAt}
use Rattle.paxos_box.specs.declared.CachedPromise.{CachedPromise}
use Rattle.leader_state.specs.declared.LogSync.{LogSync}
use Rattle.ballot.specs.declared.Ballot.{Ballot}
use Rattle.sequence.specs.declared.SequenceNumber.{SequenceNumber}
use Rattle.leader_state.specs.declared.Depot.{Depot}
use Rattle.leader_state.specs.declared.LeaderState.{LeaderState}
use Rattle.leader_state.specs.State.{fresh}
use Rattle.leader_state.specs.Promises.{is_promised}
use Rattle.messages.specs.declared.PaxosMsg.{PaxosMsg}
use Rattle.messages.specs.declared.PaxosMsg.TheVariants as msg
use Rattle.paxos_box.specs.declared.InternalStorage.{InternalStorage}
use Rattle.paxos_box.specs.declared.State.{State}
use Rattle.paxos_box.specs.Box.{is_leader, is_accept_phase}
use Rattle.outgoing.specs.Queue.{Msg}
use Rattle.agreement.specs.Report.{Sync, none, from}
use Rattle.agreement.specs.Stream.{Item, plain, opens, adds, Taker, Feeder}

pub record Face : Type 0 where
  -- what outlives a restart, with the log itself
  pub storage : InternalStorage
  pub log : List ℕ
  -- role and phase; the number taken last; the leader's record, with the entries of the held sync
  pub state : State
  pub seq : SequenceNumber
  pub leader : LeaderState
  pub best : List ℕ
  -- the cached promise, with the entries of its sync; the buffered proposals
  pub message : Option CachedPromise
  pub cached : List ℕ
  pub buffered : List ℕ
  -- the remembered Accepted, and the messages that wait
  pub meta : Option AcceptedAt
  pub queue : List Msg

-- the place of the depot t in a leader's record
abbrev pub place : ℕ → LeaderState → Depot
place t l = get_or l.depots t fresh

-- a sync with its entries: one that is held, one that a Promise brings
abbrev pub sync_of : Option LogSync → List ℕ → Sync ℕ
sync_of None l = none
sync_of (Some x) l = from x.sync_idx l

abbrev pub sync_in : Option ℕ → List ℕ → Sync ℕ
sync_in None l = none
sync_in (Some i) l = from i l

-- a message with these entries, to the stream of ballot n
abbrev pub if_same : Ballot → Ballot → Item ℕ → Item ℕ
if_same m n x = cond (same m n) x plain

abbrev pub item_of : Ballot → PaxosMsg → List ℕ → Item ℕ
item_of n (msg.PrepareReq m) es = plain
item_of n (msg.Prepare m) es = plain
item_of n (msg.Promise m) es = plain
item_of n (msg.AcceptSync m) es = if_same m.n n (opens m.seq_num.session m.seq_num.counter m.sync_idx es)
item_of n (msg.AcceptDecide m) es = if_same m.n n (adds m.seq_num.session m.seq_num.counter es)
item_of n (msg.Accepted m) es = plain
item_of n (msg.NotAccepted m) es = plain
item_of n (msg.Decide m) es = if_same m.n n (adds m.seq_num.session m.seq_num.counter [])
item_of n msg.ProposalForward es = plain

abbrev pub item : Ballot → Msg → Item ℕ
item n m = item_of n m.msg m.entries

-- a depot as a follower in ballot n: it takes that ballot's items in phase Accept, with n promised
abbrev pub takes_in : Ballot → Face → Bool
takes_in n x = is_accept_phase x.state.phase && same x.storage.promise n

abbrev pub taker : Ballot → Face → ℕ → Taker
taker n x length = record { takes = takes_in n x; session = x.seq.session; counter = x.seq.counter; length = length }

-- a depot as the leader of ballot n: it leads it; it feeds t all that its log gains
unfoldable pub leads_by : Ballot → State → LeaderState → Bool
leads_by n s l = is_leader s.role && same l.n_leader n

unfoldable pub feeds_by : Ballot → ℕ → State → LeaderState → Bool
feeds_by n t s l = leads_by n s l && (is_accept_phase s.phase && is_promised (place t l).promise)

abbrev pub leads_in : Ballot → Face → Bool
leads_in n x = leads_by n x.state x.leader

abbrev pub feeds_in : Ballot → ℕ → Face → Bool
feeds_in n t x = feeds_by n t x.state x.leader

abbrev pub feeder : Bool → Ballot → ℕ → Face → Feeder
feeder fed n t x = record { leads = leads_in n x; feeds = fed; session = (place t x.leader).seq_num.session; counter = (place t x.leader).seq_num.counter }

-- one part of a face changed
abbrev pub with_queue : List Msg → Face → Face
with_queue q x = record { storage = x.storage; log = x.log; state = x.state; seq = x.seq; leader = x.leader; best = x.best; message = x.message; cached = x.cached; buffered = x.buffered; meta = x.meta; queue = q }

abbrev pub with_meta : Option AcceptedAt → Face → Face
with_meta m x = record { storage = x.storage; log = x.log; state = x.state; seq = x.seq; leader = x.leader; best = x.best; message = x.message; cached = x.cached; buffered = x.buffered; meta = m; queue = x.queue }

abbrev pub with_state : State → Face → Face
with_state s x = record { storage = x.storage; log = x.log; state = s; seq = x.seq; leader = x.leader; best = x.best; message = x.message; cached = x.cached; buffered = x.buffered; meta = x.meta; queue = x.queue }

abbrev pub with_leader : LeaderState → Face → Face
with_leader l x = record { storage = x.storage; log = x.log; state = x.state; seq = x.seq; leader = l; best = x.best; message = x.message; cached = x.cached; buffered = x.buffered; meta = x.meta; queue = x.queue }

abbrev pub with_storage : InternalStorage → List ℕ → Face → Face
with_storage st log x = record { storage = st; log = log; state = x.state; seq = x.seq; leader = x.leader; best = x.best; message = x.message; cached = x.cached; buffered = x.buffered; meta = x.meta; queue = x.queue }

abbrev pub with_buffered : List ℕ → Face → Face
with_buffered es x = record { storage = x.storage; log = x.log; state = x.state; seq = x.seq; leader = x.leader; best = x.best; message = x.message; cached = x.cached; buffered = es; meta = x.meta; queue = x.queue }

abbrev pub with_best : List ℕ → Face → Face
with_best es x = record { storage = x.storage; log = x.log; state = x.state; seq = x.seq; leader = x.leader; best = es; message = x.message; cached = x.cached; buffered = x.buffered; meta = x.meta; queue = x.queue }

-- one message more at the queue's end
abbrev pub push : Msg → Face → Face
push m x = with_queue (x.queue ++ (m ∷ [])) x
