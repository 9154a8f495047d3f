-- What an event says that none of these refusals is given: bounds and places that later code reads off.
use Rattle.std.specs.Prelude.{Option, None, Some}
use Prim.Native.Nat.{ℕ, ◌+◌, ◌≤◌, ◌<◌}
use mathlib.Core.Path.{◌≡◌}
use mathlib.Core.Bool.{true, false}
use mathlib.Core.List.{List}
use mathlib.Core.Logic.{◌⊎◌}
use lib.ListN.{length, get_or}
use Rattle.base.specs.Limits.{max_log, max_messages, max_buffered, max_store, max_entry, max_proposal}
use Rattle.ballot.specs.Ballot.{is_default}
use Rattle.paxos_box.specs.declared.AcceptedAt.{AcceptedAt}
use Rattle.paxos_box.specs.declared.CachedPromise.{CachedPromise}
use Rattle.leader_state.specs.declared.LogSync.{LogSync}
use Rattle.ballot.specs.declared.Ballot.{Ballot}
use Rattle.quorum.specs.declared.Configuration.{Configuration}
use Rattle.quorum.proofs.Laws.{Stands}
use Rattle.leader_state.specs.State.{depot_of}
use Rattle.leader_state.specs.declared.PromiseState.{PromiseState}
use Rattle.leader_state.specs.declared.PromiseState.TheVariants.{NotPromised, Promised, PromisedHigher}
use Rattle.messages.specs.declared.Head.{Head}
use Rattle.messages.specs.declared.Row.{Row}
use Rattle.messages.specs.declared.PaxosMsg.{PaxosMsg}
use Rattle.messages.specs.declared.PaxosMsg.TheVariants.{PrepareReq, Prepare, Promise, AcceptSync, AcceptDecide, Accepted, NotAccepted, Decide, ProposalForward}
use Rattle.messages.specs.declared.Event.{Event}
use Rattle.messages.specs.declared.Event.TheVariants.{Message, Propose, Leader, Reconnect, Resend, Drain, Restart}
use Rattle.paxos_box.specs.Box.{is_leader}
use Rattle.record.specs.declared.Record.{Record}
use Rattle.hire_book.specs.Book.{book_length, Sound}
use Rattle.sight.specs.Sight.{head_at, queue_entries}
use Rattle.broken.specs.Lent.{Lent}
use Rattle.broken.specs.Broken.{best_sync, cached_sync}

-- a pid that is a depot's; a ballot that is the default or a depot's; one that is a depot's
abbrev pub Depot : Configuration → ℕ → Type 0
Depot c pid = (0 < pid) × (pid ≤ c.depots)

abbrev pub Known : Configuration → Ballot → Type 0
Known c n = is_default n ≡ false → Depot c n.pid

abbrev pub Real : Configuration → Ballot → Type 0
Real c n = (is_default n ≡ false) × Depot c n.pid

-- the first n cells of a list, and its cells from a place on, are within the entry limit
abbrev pub Fit : List ℕ → ℕ → Type 0
Fit l n = (i : ℕ) → i < n → get_or l i 0 ≤ max_entry

abbrev pub FitFrom : List ℕ → ℕ → ℕ → Type 0
FitFrom l start n = (i : ℕ) → i < n → get_or l (start + i) 0 ≤ max_entry

-- Refusal 1 is not given: the configuration stands, and the slices have their lengths

pub record Lengths (l : Lent) : Type 0 where
  pub log : length l.log ≡ max_log
  pub cached : length l.cached ≡ max_log
  pub best : length l.best ≡ max_log
  pub store : length l.store ≡ max_store
  pub book : length l.book ≡ book_length

-- Refusal 2 is not given: the record is whole

abbrev pub SyncFit : Option LogSync → List ℕ → Type 0
SyncFit None buffer = Unit
SyncFit (Some x) buffer = (x.sync_idx + x.len ≤ max_log) × Fit buffer x.len

abbrev pub LatestBelow : ℕ → Option ℕ → Type 0
LatestBelow len None = Unit
LatestBelow len (Some at) = at < len

abbrev pub PromiseFit : Configuration → ℕ → PromiseState → Type 0
PromiseFit c pid NotPromised = Unit
PromiseFit c pid (Promised m) = (m.pid ≡ pid) × Known c m.n_accepted
PromiseFit c pid PromisedHigher = Unit

abbrev pub MetaFit : Configuration → ℕ → Option AcceptedAt → Type 0
MetaFit c len None = Unit
MetaFit c len (Some a) = (a.at < len) × Known c a.n

abbrev pub CachedFit : Configuration → Option CachedPromise → Type 0
CachedFit c None = Unit
CachedFit c (Some m) = Real c m.n × Known c m.n_accepted

-- the ballots that a message names
abbrev pub BallotsKnown : Configuration → PaxosMsg → Type 0
BallotsKnown c (PrepareReq m) = Known c m.n
BallotsKnown c (Prepare m) = Known c m.n × Known c m.n_accepted
BallotsKnown c (Promise m) = Known c m.n × Known c m.n_accepted
BallotsKnown c (AcceptSync m) = Known c m.n
BallotsKnown c (AcceptDecide m) = Known c m.n
BallotsKnown c (Accepted m) = Known c m.n
BallotsKnown c (NotAccepted m) = Known c m.n
BallotsKnown c (Decide m) = Known c m.n
BallotsKnown c ProposalForward = Unit

pub record HeadFit (c : Configuration) (store : List ℕ) (h : Head) : Type 0 where
  pub inside : 0 < h.count → h.start + h.count ≤ max_store
  pub entries : FitFrom store h.start h.count
  pub ballots : BallotsKnown c h.msg

-- the entries of two heads lie apart
abbrev pub Apart : Head → Head → Type 0
Apart h g = 0 < h.count → 0 < g.count → (h.start + h.count ≤ g.start) ⊎ (g.start + g.count ≤ h.start)

pub record PlaceFit (c : Configuration) (r : Record) (pid : ℕ) : Type 0 where
  pub latest : LatestBelow r.outgoing (depot_of pid r.leader_state).latest
  pub promise : PromiseFit c pid (depot_of pid r.leader_state).promise

pub record Whole (c : Configuration) (r : Record) (row : Row) (l : Lent) : Type 0 where
  pub decided : r.internal_storage.decided_idx ≤ r.internal_storage.accepted_idx
  pub ends : r.internal_storage.accepted_idx ≤ max_log
  pub log : Fit l.log r.internal_storage.accepted_idx
  pub buffer : r.buffered_proposals.len ≤ max_buffered
  pub buffered : Fit r.buffered_proposals.entries r.buffered_proposals.len
  pub cached : SyncFit (cached_sync r) l.cached
  pub best : SyncFit (best_sync r) l.best
  pub queue : r.outgoing ≤ max_messages
  pub heads : (k : ℕ) → k < r.outgoing → HeadFit c l.store (head_at row k)
  pub apart : (i j : ℕ) → i < j → j < r.outgoing → Apart (head_at row j) (head_at row i)
  pub carried : queue_entries row r.outgoing ≤ max_store
  pub places : (pid : ℕ) → Depot c pid → PlaceFit c r pid
  pub accepted : MetaFit c r.outgoing r.latest_accepted_meta
  pub leader : is_leader r.state.role ≡ true → r.leader_state.n_leader.pid ≡ c.pid
  pub promise : Known c r.internal_storage.promise
  pub round : Known c r.internal_storage.accepted_round
  pub leads : Known c r.leader_state.n_leader
  pub best-round : Known c r.leader_state.max_promise.meta.n_accepted
  pub message : CachedFit c r.cached_promise_message
  pub book : Sound l.book

-- Refusals 3 and 4 are not given: a sender is another depot, a depot named is one, and the message is fit in every state

pub record Sender (c : Configuration) (from : ℕ) : Type 0 where
  pub depot : Depot c from
  pub other : from ≡ c.pid → ⊥

pub record Proposal (entries : List ℕ) : Type 0 where
  pub some : 0 < length entries
  pub few : length entries ≤ max_proposal
  pub fit : Fit entries (length entries)

pub record Reports (c : Configuration) (n round : Ballot) (decided accepted : ℕ) : Type 0 where
  pub ballot : Real c n
  pub round-known : Known c round
  pub within : decided ≤ accepted
  pub last : accepted ≤ max_log

pub record Led (c : Configuration) (from : ℕ) (n : Ballot) (decided : ℕ) : Type 0 where
  pub ballot : Real c n
  pub sender : from ≡ n.pid
  pub last : decided ≤ max_log

abbrev pub Brings : Option ℕ → List ℕ → Type 0
Brings None entries = Unit
Brings (Some start) entries = (start ≤ max_log) × Fit entries (length entries)

abbrev pub MessageFit : Configuration → ℕ → PaxosMsg → List ℕ → Type 0
MessageFit c from (PrepareReq m) entries = Known c m.n
MessageFit c from (Prepare m) entries = Reports c m.n m.n_accepted m.decided_idx m.accepted_idx × (from ≡ m.n.pid)
MessageFit c from (Promise m) entries = Reports c m.n m.n_accepted m.decided_idx m.accepted_idx × Brings m.log_sync entries
MessageFit c from (AcceptSync m) entries = Led c from m.n m.decided_idx × (m.sync_idx ≤ max_log) × Fit entries (length entries)
MessageFit c from (AcceptDecide m) entries = Led c from m.n m.decided_idx × Fit entries (length entries)
MessageFit c from (Accepted m) entries = Real c m.n × (m.accepted_idx ≤ max_log)
MessageFit c from (NotAccepted m) entries = Real c m.n
MessageFit c from (Decide m) entries = Led c from m.n m.decided_idx
MessageFit c from ProposalForward entries = Proposal entries

abbrev pub EventFit : Configuration → Event → List ℕ → Type 0
EventFit c (Message m) entries = Sender c m.from × MessageFit c m.from m.msg entries
EventFit c Propose entries = Proposal entries
EventFit c (Leader n) entries = Depot c n.pid
EventFit c (Reconnect pid) entries = Depot c pid
EventFit c Resend entries = Unit
EventFit c Drain entries = Unit
EventFit c Restart entries = Unit

-- all of it
pub record Taken (c : Configuration) (r : Record) (row : Row) (l : Lent) (e : Event) (entries : List ℕ) : Type 0 where
  pub stands : Stands c
  pub lengths : Lengths l
  pub whole : Whole c r row l
  pub event : EventFit c e entries
