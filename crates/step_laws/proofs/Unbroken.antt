-- A record that is whole is not broken: the converse of what refusals 1 and 2 leave.
use Rattle.std.specs.Prelude.{Option, None, Some}
use Prim.Native.Nat.{ℕ, ◌+◌, ◌≤◌, ◌<◌}
use mathlib.Core.Path.{◌≡◌, refl}
use mathlib.Core.Logic.{◌⊎◌, inl, inr}
use mathlib.Core.Bool.{Bool, true, false, not, ◌&&◌, ◌||◌}
use mathlib.Core.List.{List}
use native.Mathlib.Omega.{arith}
use lib.Dec.{ltb, eqb}
use lib.ListN.{take, drop, length-take}
use lib.Seq.{get_or-take, get_or-drop}
use borrow.Author.Tests.{le-ltb, lt-leb, eq-eqb, ltb-true}
use Rattle.base.specs.Limits.{max_log, max_messages, max_buffered, max_store}
use Rattle.ballot.specs.Ballot.{is_default}
use Rattle.paxos_box.specs.declared.AcceptedAt.{AcceptedAt}
use Rattle.paxos_box.specs.declared.CachedPromise.{CachedPromise}
use Rattle.leader_state.specs.declared.LogSync.{LogSync}
use Rattle.ballot.specs.declared.Ballot.{Ballot}
use Rattle.quorum.specs.declared.Configuration.{Configuration}
use Rattle.quorum.proofs.Laws.{range-depot}
use Rattle.leader_state.specs.declared.Depot as place
use Rattle.leader_state.specs.declared.LeaderState.{LeaderState}
use Rattle.leader_state.specs.declared.PromiseState.{PromiseState}
use Rattle.leader_state.specs.declared.PromiseState.TheVariants.{NotPromised, Promised, PromisedHigher}
use Rattle.leader_state.specs.State.{depot_of}
use Rattle.messages.specs.declared.Head.{Head}
use Rattle.messages.specs.declared.Row.{Row}
use Rattle.messages.specs.declared.PaxosMsg.{PaxosMsg}
use Rattle.messages.specs.declared.PaxosMsg.TheVariants.{PrepareReq, Prepare, Promise, AcceptSync, AcceptDecide, Accepted, NotAccepted, Decide, ProposalForward}
use Rattle.paxos_box.specs.Box.{is_leader}
use Rattle.log_plan.specs.Log.{ends_past, sync_end}
use Rattle.record.specs.declared.Record.{Record}
use Rattle.hire_book.specs.Book.{any_above, broken_of}
use Rattle.hire_book.proofs.Below.{none}
use Rattle.hire_book.proofs.Entries.{none_above}
use Rattle.sight.specs.Sight.{head_at}
use Rattle.unfit.specs.Unfit.{no_depot, foreign, either_foreign, ballot_foreign}
use Rattle.heads.specs.Heads.{any_head, head_above, outside, overlap, head_outside, heads_overlap, overlaps, any_overlap, head_foreign}
use Rattle.places.specs.Places.{any_place, place_past, latest_past, promise_else, misplaced, promise_foreign, place_foreign}
use Rattle.broken.specs.Lent.{Lent}
use Rattle.broken.specs.Broken.{decided_past, length_past, log_above, buffer_above, held_above, best_sync, cached_sync, kept_above, over_limit, meta_past, position_past, head_off, promise_misplaced, held_past, sync_past, leader_off, cached_foreign, meta_foreign, kept_foreign, message_default, state_broken, record_broken}
use Rattle.refusals.proofs.Taken.{Depot, Known, FitFrom, SyncFit, LatestBelow, PromiseFit, MetaFit, CachedFit, BallotsKnown, Apart, Whole}
use Rattle.step_laws.proofs.Log.{none_first}

-- neither of two tests holds; the second of two is not reached
both : (a b : Bool) → a ≡ false → b ≡ false → (a || b) ≡ false
both true b p q = p
both false b p q = q

not-both : (a b : Bool) → (a ≡ true → b ≡ false) → (a && b) ≡ false
not-both true b f = f refl
not-both false b f = refl

-- ballots
not-foreign : (c : Configuration) (n : Ballot) → Known c n → foreign c n ≡ false
unfolding foreign
not-foreign c n k = by (is_default n) refl
  where
    by : (t : Bool) → is_default n ≡ t → (not t && no_depot c n.pid) ≡ false
    by true e = refl
    by false e = let d = k e in rw (range-depot n.pid c.depots d.0 d.1)

neither-foreign : (c : Configuration) (a b : Ballot) → Known c a → Known c b → either_foreign c a b ≡ false
unfolding either_foreign
neither-foreign c a b k l = both (foreign c a) (foreign c b) (not-foreign c a k) (not-foreign c b l)

message-known : (c : Configuration) (m : PaxosMsg) → BallotsKnown c m → ballot_foreign c m ≡ false
message-known c (PrepareReq m) k = not-foreign c m.n k
message-known c (Prepare m) k = neither-foreign c m.n m.n_accepted k.0 k.1
message-known c (Promise m) k = neither-foreign c m.n m.n_accepted k.0 k.1
message-known c (AcceptSync m) k = not-foreign c m.n k
message-known c (AcceptDecide m) k = not-foreign c m.n k
message-known c (Accepted m) k = not-foreign c m.n k
message-known c (NotAccepted m) k = not-foreign c m.n k
message-known c (Decide m) k = not-foreign c m.n k
message-known c ProposalForward k = refl

-- entries
none_from : (l : List ℕ) (start n : ℕ) → FitFrom l start n → any_above (take n (drop start l)) ≡ false
none_from l start n f =
    none_above (take n (drop start l)) (λ i h. let m : i < n = omega (arith, length-take n (drop start l)) in rw (get_or-take n (drop start l) i 0 m, get_or-drop start l i 0) (f i m))

not-above : (s : Option LogSync) (buffer : List ℕ) → SyncFit s buffer → held_above s buffer ≡ false
not-above None buffer f = refl
not-above (Some x) buffer f = none_first buffer x.len x.len (omega arith) f.1

not-past : (s : Option LogSync) (buffer : List ℕ) → SyncFit s buffer → held_past s ≡ false
unfolding ends_past
not-past None buffer f = refl
not-past (Some x) buffer f = le-ltb max_log (sync_end x) f.0

-- positions
latest-below : (n : ℕ) (l : Option ℕ) → LatestBelow n l → latest_past n l ≡ false
latest-below n None b = refl
latest-below n (Some at) b = lt-leb n at b

meta-below : (c : Configuration) (n : ℕ) (m : Option AcceptedAt) → MetaFit c n m → meta_past n m ≡ false
meta-below c n None f = refl
meta-below c n (Some a) f = lt-leb n a.at f.0

meta-known : (c : Configuration) (n : ℕ) (m : Option AcceptedAt) → MetaFit c n m → meta_foreign c m ≡ false
meta-known c n None f = refl
meta-known c n (Some a) f = not-foreign c a.n f.1

-- places
every-place : (f : ℕ → place.Depot → Bool) (depots : ℕ) (l : LeaderState) → ((pid : ℕ) → (0 < pid) × (pid ≤ depots) → f pid (depot_of pid l) ≡ false) → any_place f depots l ≡ false
unfolding any_place
every-place f depots l g = none (λ i. f (i + 1) (depot_of (i + 1) l)) depots (λ i h. g (i + 1) (omega arith, omega arith))

promise-placed : (c : Configuration) (pid : ℕ) (p : PromiseState) → PromiseFit c pid p → promise_else pid p ≡ false
promise-placed c pid NotPromised f = refl
promise-placed c pid (Promised m) f = rw (eq-eqb m.pid pid f.0)
promise-placed c pid PromisedHigher f = refl

promise-known : (c : Configuration) (pid : ℕ) (p : PromiseState) → PromiseFit c pid p → promise_foreign c p ≡ false
promise-known c pid NotPromised f = refl
promise-known c pid (Promised m) f = not-foreign c m.n_accepted f.1
promise-known c pid PromisedHigher f = refl

cached-known : (c : Configuration) (m : Option CachedPromise) → CachedFit c m → cached_foreign c m ≡ false
cached-known c None f = refl
cached-known c (Some m) f = neither-foreign c m.n m.n_accepted (λ d. f.0.1) f.1

cached-real : (c : Configuration) (m : Option CachedPromise) → CachedFit c m → message_default m ≡ false
cached-real c None f = refl
cached-real c (Some m) f = f.0.0

-- heads
every-head : (f : Head → Bool) (row : Row) (len : ℕ) → ((k : ℕ) → k < len → f (head_at row k) ≡ false) → any_head f row len ≡ false
unfolding any_head
every-head f row len g = none (λ i. f (head_at row i)) len g

not-outside : (h : Head) → (0 < h.count → h.start + h.count ≤ max_store) → head_outside h ≡ false
unfolding outside
not-outside h f = not-both (ltb 0 h.count) (ltb max_store (h.start + h.count)) (λ t. le-ltb max_store (h.start + h.count) (f (ltb-true 0 h.count t)))

not-overlap : (h g : Head) → Apart h g → heads_overlap h g ≡ false
unfolding overlap
not-overlap h g f = by (ltb 0 h.count) (ltb 0 g.count) refl refl
  where
    last : (a b : Bool) → (a ≡ false) ⊎ (b ≡ false) → (a && b) ≡ false
    last true b (inl p) = absurd (let w : ◌≡◌ {A = ℕ} 0 1 = cc in omega arith)
    last true b (inr q) = q
    last false b p = refl

    apart : (h.start + h.count ≤ g.start) ⊎ (g.start + g.count ≤ h.start) → (ltb h.start (g.start + g.count) ≡ false) ⊎ (ltb g.start (h.start + h.count) ≡ false)
    apart (inl p) = inr (le-ltb g.start (h.start + h.count) p)
    apart (inr p) = inl (le-ltb h.start (g.start + g.count) p)

    by : (x y : Bool) → ltb 0 h.count ≡ x → ltb 0 g.count ≡ y → (x && y && ltb h.start (g.start + g.count) && ltb g.start (h.start + h.count)) ≡ false
    by false y p q = refl
    by true false p q = refl
    by true true p q = last (ltb h.start (g.start + g.count)) (ltb g.start (h.start + h.count)) (apart (f (ltb-true 0 h.count p) (ltb-true 0 g.count q)))

none-overlap : (row : Row) (len : ℕ) → ((i j : ℕ) → i < j → j < len → Apart (head_at row j) (head_at row i)) → any_overlap row len ≡ false
unfolding any_overlap
none-overlap row len f = none (overlaps row) len (λ j l. every-head (heads_overlap (head_at row j)) row j (λ i h. not-overlap (head_at row j) (head_at row i) (f i j h l)))

module _ (c : Configuration) (r : Record) (row : Row) (l : Lent) (w : Whole c r row l) where
  kept-within : kept_above r row l.log l.cached l.best l.store ≡ false
  unfolding kept_above
  kept-within =
      both (log_above r l.log) _ (none_first l.log r.internal_storage.accepted_idx r.internal_storage.accepted_idx (omega arith) w.log)
      (both (buffer_above r) _ (none_first r.buffered_proposals.entries r.buffered_proposals.len r.buffered_proposals.len (omega arith) w.buffered)
      (both (held_above (cached_sync r) l.cached) _ (not-above (cached_sync r) l.cached w.cached)
      (both (held_above (best_sync r) l.best) _ (not-above (best_sync r) l.best w.best)
      (every-head (head_above l.store) row r.outgoing (λ k h. none_from l.store (head_at row k).start (head_at row k).count (w.heads k h).entries)))))

  within-limits : over_limit r ≡ false
  unfolding over_limit
  within-limits = both (ltb max_messages r.outgoing) _ (le-ltb max_messages r.outgoing w.queue) (le-ltb max_buffered r.buffered_proposals.len w.buffer)

  positions-below : position_past c r ≡ false
  unfolding position_past
  positions-below =
      both (any_place (place_past r.outgoing) c.depots r.leader_state) _
      (every-place (place_past r.outgoing) c.depots r.leader_state (λ pid d. latest-below r.outgoing (depot_of pid r.leader_state).latest (w.places pid d).latest))
      (meta-below c r.outgoing r.latest_accepted_meta w.accepted)

  heads-stand : head_off r row ≡ false
  unfolding head_off
  heads-stand =
      both (any_head head_outside row r.outgoing) _ (every-head head_outside row r.outgoing (λ k h. not-outside (head_at row k) (w.heads k h).inside)) (none-overlap row r.outgoing w.apart)

  promises-placed : promise_misplaced c r ≡ false
  promises-placed = every-place misplaced c.depots r.leader_state (λ pid d. promise-placed c pid (depot_of pid r.leader_state).promise (w.places pid d).promise)

  syncs-within : sync_past r ≡ false
  unfolding sync_past
  syncs-within = both (held_past (best_sync r)) _ (not-past (best_sync r) l.best w.best) (not-past (cached_sync r) l.cached w.cached)

  leads-own : leader_off c r ≡ false
  unfolding leader_off
  leads-own = not-both (is_leader r.state.role) (not (eqb r.leader_state.n_leader.pid c.pid)) (λ t. rw (eq-eqb r.leader_state.n_leader.pid c.pid (w.leader t)))

  none-foreign : kept_foreign c r row ≡ false
  unfolding kept_foreign
  none-foreign =
      both (either_foreign c r.internal_storage.promise r.internal_storage.accepted_round) _ (neither-foreign c r.internal_storage.promise r.internal_storage.accepted_round w.promise w.round)
      (both (either_foreign c r.leader_state.n_leader r.leader_state.max_promise.meta.n_accepted) _ (neither-foreign c r.leader_state.n_leader r.leader_state.max_promise.meta.n_accepted w.leads w.best-round)
      (both (any_place (place_foreign c) c.depots r.leader_state) _ (every-place (place_foreign c) c.depots r.leader_state (λ pid d. promise-known c pid (depot_of pid r.leader_state).promise (w.places pid d).promise))
      (both (cached_foreign c r.cached_promise_message) _ (cached-known c r.cached_promise_message w.message)
      (both (meta_foreign c r.latest_accepted_meta) _ (meta-known c r.outgoing r.latest_accepted_meta w.accepted)
      (every-head (head_foreign c) row r.outgoing (λ k h. message-known c (head_at row k).msg (w.heads k h).ballots))))))

  state-stands : state_broken c r row ≡ false
  unfolding state_broken
  state-stands =
      both (position_past c r) _ positions-below
      (both (head_off r row) _ heads-stand
      (both (promise_misplaced c r) _ promises-placed
      (both (sync_past r) _ syncs-within
      (both (leader_off c r) _ leads-own
      (both (kept_foreign c r row) _ none-foreign (cached-real c r.cached_promise_message w.message))))))

  pub whole-unbroken : record_broken c r row l ≡ false
  unfolding record_broken
  whole-unbroken =
      both (decided_past r) _ (le-ltb r.internal_storage.accepted_idx r.internal_storage.decided_idx w.decided)
      (both (length_past r) _ (le-ltb max_log r.internal_storage.accepted_idx w.ends)
      (both (kept_above r row l.log l.cached l.best l.store) _ kept-within
      (both (over_limit r) _ within-limits
      (both (state_broken c r row) (broken_of l.book) state-stands w.book.kept))))
