-- The small moves of which every step is made, each with what is known where it is made. A fact that is closed under all of them holds of the step's outcome.
use Rattle.std.specs.Prelude.{Option, None, Some}
use Prim.Native.Nat.{ℕ, ◌+◌, ◌≤◌, ◌<◌}
use mathlib.Core.Path.{◌≡◌}
use mathlib.Core.Logic.{◌⊎◌}
use mathlib.Core.Bool.{true, false}
use mathlib.Core.List.{List}
use lib.ListN.{length}
use Rattle.base.specs.Limits.{max_log}
use Rattle.ballot.specs.Ballot.{is_default}
use Rattle.ballot.specs.declared.Ballot.{Ballot}
use Rattle.sequence.specs.declared.SequenceNumber.{SequenceNumber}
use Rattle.quorum.specs.declared.Configuration.{Configuration}
use Rattle.leader_state.specs.declared.Depot as place
use Rattle.leader_state.specs.declared.LogSync.{LogSync}
use Rattle.leader_state.specs.declared.PromiseMetaData.{PromiseMetaData}
use Rattle.leader_state.specs.State.{with_of}
use Rattle.leader_state.specs.Promises.{is_promised, beats_best}
use Rattle.messages.specs.declared.Event.{Event}
use Rattle.paxos_box.specs.declared.SequencePaxos.{SequencePaxos}
use Rattle.paxos_box.specs.declared.Writes.{Writes}
use Rattle.paxos_box.specs.declared.Role.TheVariants.{Leader, Follower}
use Rattle.paxos_box.specs.declared.Phase.{Phase}
use Rattle.paxos_box.specs.declared.Phase.TheVariants as phase
use Rattle.paxos_box.specs.declared.Source.TheVariants.{Given, Buffered}
use Rattle.paxos_box.specs.declared.LogOp.TheVariants.{Keep, PutGiven, PutHeld}
use Rattle.paxos_box.specs.declared.CachedPromise.{CachedPromise}
use Rattle.paxos_box.specs.Box.{unfit, at_top, with_state, with_leader, set_promised, set_decided, set_seq, set_cached, set_buffered, is_leader}
use Rattle.sends.specs.Sends.{on_depot, log_length, suffix_length, send_prepare, push_acc_sync, join_to, new_accept_decide, push_decide, send_prepare_req}
use Rattle.log_plan.specs.Log.{sync_end, sync_log, append_given, append_buffered, buffer_given, push_forward}
use Rattle.leader.specs.Leader.{keep_promise, own_promise, sync_taken, keep_sync}
use Rattle.accepting.specs.Accepting.{not_accepted, send_accepted, raise_accepted}
use Rattle.follower.specs.Follower.{log_source, cached_source, promise_of, send_promise, cache_promise}
use Rattle.sight.specs.Sight.{brought}
use Rattle.decide_laws.proofs.Log.{PutFits}
use Rattle.refusals.proofs.Taken.{Depot, Known, Real, Fit}

-- nothing is written yet
pub record Unwritten (w : Writes) : Type 0 where
  pub log : w.log ≡ Keep
  pub buffered : w.buffered ≡ 0
  pub cached : w.cached ≡ None
  pub best : w.best ≡ None
  pub buffer : w.buffer ≡ None

-- a change of a depot's place that remembers no new position and keeps no new promise
pub record Mild (f : place.Depot → place.Depot) : Type 0 where
  pub latest : (d : place.Depot) → ((f d).latest ≡ d.latest) ⊎ ((f d).latest ≡ None)
  pub promise : (d : place.Depot) → ((f d).promise ≡ d.promise) ⊎ (is_promised (f d).promise ≡ false)

-- the sync that the event brings, with the entries given
pub record Brought (e : Event) (entries : List ℕ) (x : LogSync) : Type 0 where
  pub start : brought e ≡ Some x.sync_idx
  pub count : x.len ≡ length entries
  pub fit : Fit entries (length entries)

-- the sync of a Promise that arrives, fit to be held
abbrev pub Holds : Event → List ℕ → Option LogSync → Type 0
Holds e entries None = Unit {0}
Holds e entries (Some x) = Brought e entries x × (sync_end x ≤ max_log)

-- the sync of a Promise that is told: the log from a place on
abbrev pub Tells : ℕ → Option LogSync → Type 0
Tells len None = Unit {0}
Tells len (Some x) = (x.len ≡ suffix_length len x.sync_idx) × (x.sync_idx ≤ max_log)

-- a fact of a box that holds of the found one, with a bound on the things planned so far: each move keeps it
pub record Closed (c : Configuration) (e : Event) (entries : List ℕ) (found : SequencePaxos) (I : ℕ → SequencePaxos → Type 0) : Type 0 where
  pub more : (k n : ℕ) (s : SequencePaxos) → k ≤ n → I k s → I n s
  pub config : (k : ℕ) (s : SequencePaxos) → I k s → s.config ≡ c
  -- flags
  pub not-fit : (k : ℕ) (s : SequencePaxos) → I k s → I k (unfit s)
  pub at_top : (k : ℕ) (s : SequencePaxos) → I k s → I k (at_top s)
  -- role and phase, own number
  pub follow : (k : ℕ) (p : Phase) (s : SequencePaxos) → I k s → I k (with_state (record { role = Follower; phase = p }) s)
  pub lead : (k : ℕ) (s : SequencePaxos) → s.leader_state.n_leader.pid ≡ c.pid → I k s → I k (with_state (record { role = Leader; phase = phase.Prepare }) s)
  pub lead-on : (k : ℕ) (s : SequencePaxos) → is_leader s.state.role ≡ true → I k s → I k (with_state (record { role = Leader; phase = phase.Accept }) s)
  pub number : (k : ℕ) (q : SequenceNumber) (s : SequencePaxos) → I k s → I k (set_seq q s)
  -- what outlives a restart
  pub promises : (k : ℕ) (n : Ballot) (s : SequencePaxos) → Real c n → I k s → I k (set_promised n s)
  pub decides : (k idx : ℕ) (s : SequencePaxos) → s.plan.writes.buffered ≡ 0 → s.internal_storage.decided_idx ≤ idx → idx ≤ log_length s → I k s → I k (set_decided idx s)
  -- the leader's record
  pub leads-anew : (n : Ballot) (s : SequencePaxos) → Real c n → n.pid ≡ c.pid → I 0 s → I 0 (with_leader (with_of n s.config.depots s.leader_state) s)
  pub promises-itself : (s : SequencePaxos) → I 0 s → I 0 (own_promise s)
  pub keeps : (m : PromiseMetaData) (s : SequencePaxos) → Depot c m.pid → Known c m.n_accepted → I 0 s → I 0 (keep_promise m None false s)
  pub keeps-held : (m : PromiseMetaData) (x : Option LogSync) (s : SequencePaxos) → Depot c m.pid → Known c m.n_accepted → Holds e entries x → Unwritten s.plan.writes → I 0 s → I 0 (keep_sync (beats_best m s.leader_state) x (keep_promise m x true s))
  pub keeps-put : (m : PromiseMetaData) (x : Option LogSync) (s : SequencePaxos) → Depot c m.pid → Known c m.n_accepted → I 0 s → I 0 (sync_taken (keep_promise m x true s))
  pub changes-place : (k to : ℕ) (f : place.Depot → place.Depot) (s : SequencePaxos) → Depot c to → Mild f → I k s → I k (on_depot to f s)
  -- the log and the buffered proposals
  pub puts_none : (n : Ballot) (decided : ℕ) (s : SequencePaxos) → Unwritten s.plan.writes → Real c n → decided ≤ log_length s → I 0 s → I 0 (sync_log n decided (log_length s) Keep s)
  pub puts-given :
      (n : Ballot) (decided brings : ℕ) (x : LogSync) (s : SequencePaxos)
      → Unwritten s.plan.writes
      → Real c n
      → Brought e entries x
      → PutFits x found.plan.sight.brought_change brings (log_length s) s.internal_storage.decided_idx
      → decided ≤ sync_end x
      → I 0 s
      → I 0 (sync_log n decided (sync_end x) (PutGiven x) s)
  pub puts-held :
      (n : Ballot) (decided brings : ℕ) (x : LogSync) (s : SequencePaxos)
      → Unwritten s.plan.writes
      → Real c n
      → found.leader_state.max_promise.sync ≡ Some x
      → PutFits x found.plan.sight.held_change brings (log_length s) s.internal_storage.decided_idx
      → decided ≤ sync_end x
      → I 0 s
      → I 0 (sync_log n decided (sync_end x) (PutHeld x) s)
  pub appends : (s : SequencePaxos) → Unwritten s.plan.writes → Fit entries (length entries) → I 0 s → I 0 (append_given (length entries) s)
  pub joins-buffered : (s : SequencePaxos) → s.plan.writes.buffered ≡ 0 → s.plan.writes.buffer ≡ None → s.buffered_proposals ≡ found.buffered_proposals → I 0 s → I 0 (append_buffered s)
  pub buffers : (s : SequencePaxos) → Unwritten s.plan.writes → s.buffered_proposals ≡ found.buffered_proposals → Fit entries (length entries) → I 0 s → I 0 (buffer_given (length entries) s)
  -- the cached promise
  pub forgets-cached : (s : SequencePaxos) → I 0 s → I 0 (set_cached None s)
  -- what is sent
  pub sends-prepare : (k to : ℕ) (s : SequencePaxos) → k < 8 → I k s → I (k + 1) (send_prepare to s)
  pub sends-request : (k to : ℕ) (s : SequencePaxos) → k < 8 → I k s → I (k + 1) (send_prepare_req to s)
  pub sends-sync : (k from to : ℕ) (s : SequencePaxos) → k < 8 → I k s → I (k + 1) (push_acc_sync from to s)
  pub sends-entries : (k from count to : ℕ) (s : SequencePaxos) → k < 8 → Depot c to → from + count ≤ log_length s → I k s → I (k + 1) (new_accept_decide from count to s)
  pub sends-join : (k from count to at : ℕ) (s : SequencePaxos) → k < 8 → from + count ≤ log_length s → I k s → I (k + 1) (join_to from count to at s)
  pub sends-decide : (k to : ℕ) (s : SequencePaxos) → k < 8 → I k s → I (k + 1) (push_decide to s)
  pub tells-promise :
      (to : ℕ) (x : Option LogSync) (s : SequencePaxos)
      → Tells (log_length s) x
      → is_default s.internal_storage.promise ≡ false
      → Unwritten s.plan.writes
      → I 0 s
      → I 1 (send_promise to (promise_of x s) (log_source x) (cache_promise x s))
  pub tells-again : (to : ℕ) (p : CachedPromise) (s : SequencePaxos) → s.cached_promise_message ≡ Some p → Unwritten s.plan.writes → I 0 s → I 1 (send_promise to p (cached_source p.sync) s)
  pub tells-higher : (k : ℕ) (n : Ballot) (s : SequencePaxos) → k < 8 → I k s → I (k + 1) (not_accepted n s)
  pub sends-accepted : (k : ℕ) (n : Ballot) (idx to : ℕ) (s : SequencePaxos) → k < 8 → Real c n → I k s → I (k + 1) (send_accepted n idx to s)
  pub raises-accepted : (k : ℕ) (n : Ballot) (at idx : ℕ) (s : SequencePaxos) → k < 8 → I k s → I (k + 1) (raise_accepted n at idx s)
  pub forwards : (k : ℕ) (s : SequencePaxos) → k < 8 → Fit entries (length entries) → I k s → I (k + 1) (push_forward Given (length entries) s)
  pub forwards-buffered : (k : ℕ) (s : SequencePaxos) → k < 8 → s.plan.writes.buffer ≡ None → s.buffered_proposals ≡ found.buffered_proposals → I k s → I (k + 1) (push_forward Buffered s.buffered_proposals (set_buffered 0 s))

-- what refusals 1 and 2 leave of the found box, as far as the handlers need it
pub record Found (c : Configuration) (s : SequencePaxos) : Type 0 where
  pub writes : Unwritten s.plan.writes
  pub decided : s.internal_storage.decided_idx ≤ log_length s
  pub depots : c.depots ≤ 7
  pub own : Depot c c.pid
