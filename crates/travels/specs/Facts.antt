-- What is claimed of a message under way and of a depot, over the ghost data. P says which entries were proposed.
use Rattle.std.specs.Prelude.{ℕ, ◌+◌, ◌≤◌, ◌<◌, ◌≡◌, true, List, [], length, Option, None, Some}
use Rattle.base.specs.Limits.{max_depots}
use Rattle.paxos_box.specs.declared.AcceptedAt.{AcceptedAt}
use Rattle.paxos_box.specs.declared.CachedPromise.{CachedPromise}
use Rattle.ballot.specs.declared.Ballot.{Ballot}
use Rattle.leader_state.specs.declared.Depot.{Depot}
use Rattle.leader_state.specs.declared.LeaderState.{LeaderState}
use Rattle.leader_state.specs.declared.PromiseMetaData.{PromiseMetaData}
use Rattle.leader_state.specs.declared.PromiseState.TheVariants.{Promised}
use Rattle.messages.specs.declared.PaxosMsg.{PaxosMsg}
use Rattle.messages.specs.declared.PaxosMsg.TheVariants as msg
use Rattle.messages.specs.declared.AcceptDecide.{AcceptDecide}
use Rattle.paxos_box.specs.declared.InternalStorage.{InternalStorage}
use Rattle.paxos_box.specs.declared.Role.{Role}
use Rattle.paxos_box.specs.declared.Role.TheVariants.{Leader, Follower}
use Rattle.paxos_box.specs.declared.Phase.{Phase}
use Rattle.paxos_box.specs.declared.Phase.TheVariants as phase
use Rattle.paxos_box.specs.Box.{is_leader}
use Rattle.outgoing.specs.Queue.{Msg}
use Rattle.agreement.specs.Core.{Sizes, Ghost}
use Rattle.agreement.specs.Facts.{Comm, Holds}
use Rattle.agreement.specs.Report.{Report, Asks, Answer, Told, Prepares, Leads, Syncs}
use Rattle.agreement.specs.All.{All}
use Rattle.agreement.specs.Queue.{There}
use Rattle.travels.specs.Face.{Face, place, sync_of, sync_in}

-- ---- of a message from depot i to depot j

-- a message of a started ballot, with a decided index that the ballot bears out
pub record Led (z : Sizes) (g : Ghost ℕ) (n : Ballot) (d : ℕ) : Type 0 where
  pub started : g.started n ≡ true
  pub decided : Comm z g n d

-- an accepted index that depot i has reached
pub record Reached (g : Ghost ℕ) (i : ℕ) (n : Ballot) (k : ℕ) : Type 0 where
  pub has : k ≤ g.A i n

abbrev pub MsgOk : Sizes → (ℕ → Type 0) → Ghost ℕ → ℕ → ℕ → PaxosMsg → List ℕ → Type 0
MsgOk z P g i j (msg.PrepareReq m) es = Unit {0}
MsgOk z P g i j (msg.Prepare m) es = Asks z g m.n m.n_accepted m.accepted_idx m.decided_idx
MsgOk z P g i j (msg.Promise m) es = Answer z g m.n i m.n_accepted m.accepted_idx m.decided_idx (sync_in m.log_sync es)
MsgOk z P g i j (msg.AcceptSync m) es = Syncs z g j m.n m.sync_idx es m.decided_idx
MsgOk z P g i j (msg.AcceptDecide m) es = Led z g m.n m.decided_idx
MsgOk z P g i j (msg.Accepted m) es = Reached g i m.n m.accepted_idx
MsgOk z P g i j (msg.NotAccepted m) es = Unit {0}
MsgOk z P g i j (msg.Decide m) es = Led z g m.n m.decided_idx
MsgOk z P g i j msg.ProposalForward es = All P es

abbrev pub Ok : Sizes → (ℕ → Type 0) → Ghost ℕ → ℕ → ℕ → Msg → Type 0
Ok z P g i j m = MsgOk z P g i j m.msg m.entries

-- ---- of a depot b

-- its durable part
pub record Own (z : Sizes) (g : Ghost ℕ) (b : ℕ) (st : InternalStorage) (log : List ℕ) : Type 0 where
  pub holds : Holds z g b st.promise st.accepted_round log st.decided_idx
  pub length : st.accepted_idx ≡ length log

-- its place for depot t, as a leader of n: the accepted index noted there was reached
pub record Noted (g : Ghost ℕ) (n : Ballot) (t : ℕ) (d : Depot) : Type 0 where
  pub reached : d.accepted_idx ≤ g.A t n

-- (Leader, Prepare)
pub record Preparing (z : Sizes) (g : Ghost ℕ) (b : ℕ) (st : InternalStorage) (log : List ℕ) (l : LeaderState) (best : List ℕ) : Type 0 where
  pub now : l.n_leader ≡ st.promise
  pub own : l.n_leader.pid ≡ b + 1
  pub prepares : Prepares g b st.promise st.accepted_round log l.max_promise.meta.n_accepted l.max_promise.meta.accepted_idx (sync_of l.max_promise.sync best)
  pub told : (t : ℕ) (m : PromiseMetaData) → t < z.depots → (place t l).promise ≡ Promised m
      → Told z g st.promise l.max_promise.meta.n_accepted l.max_promise.meta.accepted_idx t m.n_accepted m.accepted_idx m.decided_idx
  pub noted : (t : ℕ) → t < z.depots → Noted g st.promise t (place t l)

-- (Leader, Accept)
pub record Leading (z : Sizes) (g : Ghost ℕ) (b : ℕ) (st : InternalStorage) (log : List ℕ) (l : LeaderState) : Type 0 where
  pub now : l.n_leader ≡ st.promise
  pub own : l.n_leader.pid ≡ b + 1
  pub round : st.accepted_round ≡ st.promise
  pub leads : Leads g b st.promise log l.max_promise.meta.n_accepted l.max_promise.meta.accepted_idx
  pub told : (t : ℕ) (m : PromiseMetaData) → t < z.depots → (place t l).promise ≡ Promised m → Report z g st.promise t m.n_accepted m.accepted_idx m.decided_idx
  pub noted : (t : ℕ) → t < z.depots → Noted g st.promise t (place t l)

abbrev pub InRole : Sizes → Ghost ℕ → ℕ → InternalStorage → List ℕ → LeaderState → List ℕ → Role → Phase → Type 0
InRole z g b st log l best Leader phase.Prepare = Preparing z g b st log l best
InRole z g b st log l best Leader phase.Accept = Leading z g b st log l
InRole z g b st log l best Leader phase.Recover = ⊥
InRole z g b st log l best Leader phase.None = ⊥
InRole z g b st log l best Follower phase.Prepare = Unit {0}
InRole z g b st log l best Follower phase.Accept = st.accepted_round ≡ st.promise
InRole z g b st log l best Follower phase.Recover = Unit {0}
InRole z g b st log l best Follower phase.None = Unit {0}

-- its cached promise is a report that it gave
abbrev pub CachedOk : Sizes → Ghost ℕ → ℕ → Option CachedPromise → List ℕ → Type 0
CachedOk z g b None es = Unit {0}
CachedOk z g b (Some p) es = Answer z g p.n b p.n_accepted p.accepted_idx p.decided_idx (sync_of p.sync es)

-- what stands past the end of a queue
abbrev pub no_msg : Msg
no_msg = record { to = 0; msg = msg.ProposalForward; entries = [] }

-- an AcceptDecide of ballot n for t stands at a place, with the number sent last
pub record Standing (n : Ballot) (t : ℕ) (d : Depot) (at : ℕ) (q : List Msg) : Type 0 where
  pub what : AcceptDecide
  pub entries : List ℕ
  pub there : There (λ (m : Msg). m.to) no_msg (t + 1) at (record { to = t + 1; msg = msg.AcceptDecide what; entries = entries }) q
  pub ballot : what.n ≡ n
  pub number : what.seq_num ≡ d.seq_num

-- what a leader remembers for t stands there
pub record Remembers (n : Ballot) (t : ℕ) (d : Depot) (q : List Msg) : Type 0 where
  pub stands : (at : ℕ) → d.latest ≡ Some at → Standing n t d at q

-- an Accepted of ballot n stands at a place
pub record Waits (n : Ballot) (at : ℕ) (q : List Msg) : Type 0 where
  pub index : ℕ
  pub there : There (λ (m : Msg). m.to) no_msg n.pid at (record { to = n.pid; msg = msg.Accepted (record { n = n; accepted_idx = index }); entries = [] }) q

abbrev pub MetaOk : Option AcceptedAt → List Msg → Type 0
MetaOk None q = Unit {0}
MetaOk (Some x) q = Waits x.n x.at q

pub record NodeOk (z : Sizes) (P : ℕ → Type 0) (g : Ghost ℕ) (b : ℕ) (x : Face) : Type 0 where
  pub own : Own z g b x.storage x.log
  pub role : InRole z g b x.storage x.log x.leader x.best x.state.role x.state.phase
  pub cached : CachedOk z g b x.message x.cached
  pub buffered : All P x.buffered
  pub remembers : is_leader x.state.role ≡ true → (t : ℕ) → t < z.depots → Remembers x.leader.n_leader t (place t x.leader) x.queue
  pub meta : MetaOk x.meta x.queue
  -- a place for each of seven depots
  pub row : length x.leader.depots ≡ max_depots
