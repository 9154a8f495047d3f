-- An event that none of these refusals is given: all that later code needs of it and of the record, and the room in which a step decides.
use Prim.Native.Nat.{ℕ}
use mathlib.Core.Path.{◌≡◌, refl}
use mathlib.Core.Bool.{false}
use mathlib.Core.List.{List}
use native.Mathlib.Omega.{arith}
use lib.Dec.{ltb}
use lib.ListN.{length}
use borrow.Author.Tests.{ltb-false, eqb-true, not-false}
use Rattle.base.specs.Limits.{max_log, max_messages, max_buffered}
use Rattle.quorum.specs.declared.Configuration.{Configuration}
use Rattle.quorum.proofs.Laws.{Stands}
use Rattle.leader_state.specs.State.{depot_of}
use Rattle.messages.specs.declared.Row.{Row}
use Rattle.messages.specs.declared.Event.{Event}
use Rattle.paxos_box.specs.Room.{new_in, count_in, Room}
use Rattle.paxos_box.specs.declared.Sight.{Sight}
use Rattle.record.specs.declared.Record.{Record}
use Rattle.record.specs.Record.{load_of}
use Rattle.hire_book.specs.Book.{book_length, broken_of}
use Rattle.hire_book.proofs.Below.{neither}
use Rattle.sight.specs.Sight.{head_at, queue_entries}
use Rattle.unfit.specs.Unfit.{either_foreign}
use Rattle.heads.specs.Heads.{any_head, head_above, head_outside, any_overlap, head_foreign}
use Rattle.heads.proofs.Tests.{no-head, inside, no-overlap, carried}
use Rattle.places.specs.Places.{any_place, place_past, misplaced, place_foreign}
use Rattle.places.proofs.Tests.{no_place}
use Rattle.broken.specs.Lent.{Lent}
use Rattle.broken.specs.Broken.{decided_past, length_past, log_above, buffer_above, held_above, best_sync, cached_sync, queued_above, kept_above, over_limit, meta_past, position_past, head_off, promise_misplaced, held_past, sync_past, leader_off, cached_foreign, meta_foreign, kept_foreign, cached_default, state_broken, record_broken}
use Rattle.refusals.specs.Refusals.{refusal_of}
use Rattle.refusals.proofs.Exactly.{refused_none}
use Rattle.refusals.proofs.Taken.{Whole, Taken}
use Rattle.refusals.proofs.Says.{call-says, first-fit, from-fit, known_both, ballots, sync-says, latest-says, promise-says, meta-says, cached-says, apart-says, event-says}

-- each clause of the table's row 2 that does not hold, by its name
pub record Unbroken (c : Configuration) (r : Record) (row : Row) (l : Lent) : Type 0 where
  pub decided : decided_past r ≡ false
  pub ends : length_past r ≡ false
  pub kept : kept_above r row l.log l.cached l.best l.store ≡ false
  pub over : over_limit r ≡ false
  pub position : position_past c r ≡ false
  pub head : head_off r row ≡ false
  pub misplaced : promise_misplaced c r ≡ false
  pub sync : sync_past r ≡ false
  pub leader : leader_off c r ≡ false
  pub foreign : kept_foreign c r row ≡ false
  pub default : cached_default r ≡ false
  pub book : broken_of l.book ≡ false

pub unbroken : (c : Configuration) (r : Record) (row : Row) (l : Lent) → record_broken c r row l ≡ false → Unbroken c r row l
unfolding record_broken state_broken
unbroken c r row l e =
    let a = neither (decided_past r) _ e in
    let b = neither (length_past r) _ a.1 in
    let d = neither (kept_above r row l.log l.cached l.best l.store) _ b.1 in
    let f = neither (over_limit r) _ d.1 in
    let g = neither (state_broken c r row) (broken_of l.book) f.1 in
    let s₁ = neither (position_past c r) _ g.0 in
    let s₂ = neither (head_off r row) _ s₁.1 in
    let s₃ = neither (promise_misplaced c r) _ s₂.1 in
    let s₄ = neither (sync_past r) _ s₃.1 in
    let s₅ = neither (leader_off c r) _ s₄.1 in
    let s₆ = neither (kept_foreign c r row) _ s₅.1 in
    record { decided = a.0; ends = b.0; kept = d.0; over = f.0; position = s₁.0; head = s₂.0; misplaced = s₃.0; sync = s₄.0; leader = s₅.0; foreign = s₆.0; default = s₆.1; book = g.1 }

pub whole : (c : Configuration) (r : Record) (row : Row) (l : Lent) → length l.book ≡ book_length → record_broken c r row l ≡ false → Whole c r row l
unfolding kept_above over_limit position_past head_off sync_past leader_off kept_foreign
whole c r row l cells e =
    let u = unbroken c r row l e in
    let k₁ = neither (log_above r l.log) _ u.kept in
    let k₂ = neither (buffer_above r) _ k₁.1 in
    let k₃ = neither (held_above (cached_sync r) l.cached) _ k₂.1 in
    let k₄ = neither (held_above (best_sync r) l.best) (queued_above r row l.store) k₃.1 in
    let o = neither (ltb max_messages r.outgoing) (ltb max_buffered r.buffered_proposals.len) u.over in
    let p = neither (any_place (place_past r.outgoing) c.depots r.leader_state) (meta_past r.outgoing r.latest_accepted_meta) u.position in
    let h = neither (any_head head_outside row r.outgoing) (any_overlap row r.outgoing) u.head in
    let s = neither (held_past (best_sync r)) (held_past (cached_sync r)) u.sync in
    let f₁ = neither (either_foreign c r.internal_storage.promise r.internal_storage.accepted_round) _ u.foreign in
    let f₂ = neither (either_foreign c r.leader_state.n_leader r.leader_state.max_promise.meta.n_accepted) _ f₁.1 in
    let f₃ = neither (any_place (place_foreign c) c.depots r.leader_state) _ f₂.1 in
    let f₄ = neither (cached_foreign c r.cached_promise_message) _ f₃.1 in
    let f₅ = neither (meta_foreign c r.latest_accepted_meta) (any_head (head_foreign c) row r.outgoing) f₄.1 in
    let n₁ = known_both c r.internal_storage.promise r.internal_storage.accepted_round f₁.0 in
    let n₂ = known_both c r.leader_state.n_leader r.leader_state.max_promise.meta.n_accepted f₂.0 in
    record {
      decided = ltb-false r.internal_storage.accepted_idx r.internal_storage.decided_idx u.decided;
      ends = ltb-false max_log r.internal_storage.accepted_idx u.ends;
      log = first-fit l.log r.internal_storage.accepted_idx k₁.0;
      buffer = ltb-false max_buffered r.buffered_proposals.len o.1;
      buffered = first-fit r.buffered_proposals.entries r.buffered_proposals.len k₂.0;
      cached = sync-says (cached_sync r) l.cached k₃.0 s.1;
      best = sync-says (best_sync r) l.best k₄.0 s.0;
      queue = ltb-false max_messages r.outgoing o.0;
      heads = λ k lt. record {
        inside = inside (head_at row k).start (head_at row k).count (no-head head_outside row r.outgoing h.0 k lt);
        entries = from-fit l.store (head_at row k).start (head_at row k).count (no-head (head_above l.store) row r.outgoing k₄.1 k lt);
        ballots = ballots c (head_at row k).msg (no-head (head_foreign c) row r.outgoing f₅.1 k lt);
      };
      apart = λ i j x y. apart-says (head_at row j) (head_at row i) (no-overlap row r.outgoing h.1 i j x y);
      carried = carried row r.outgoing h.0 h.1;
      places = λ pid d. record {
        latest = latest-says r.outgoing (depot_of pid r.leader_state).latest (no_place (place_past r.outgoing) c.depots r.leader_state p.0 pid d.0 d.1);
        promise = promise-says c pid (depot_of pid r.leader_state).promise (no_place misplaced c.depots r.leader_state u.misplaced pid d.0 d.1) (no_place (place_foreign c) c.depots r.leader_state f₃.0 pid d.0 d.1);
      };
      accepted = meta-says c r.outgoing r.latest_accepted_meta p.1 f₅.0;
      leader = λ on. eqb-true r.leader_state.n_leader.pid c.pid (not-false _ (rw on at u.leader));
      promise = n₁.0;
      round = n₁.1;
      leads = n₂.0;
      best-round = n₂.1;
      message = cached-says c r.cached_promise_message f₄.0 u.default;
      book = record { cells = cells; kept = u.book };
    }

pub taken : (c : Configuration) (r : Record) (row : Row) (l : Lent) (e : Event) (entries : List ℕ) → refusal_of c r row l e entries ≡ 0 → Taken c r row l e entries
taken c r row l e entries z =
    let n = (refused_none c r row l e entries).0 z in
    let s = call-says c l n.one in
    record { stands = s.0; lengths = s.1; whole = whole c r row l s.1.book n.two; event = event-says c e entries n.three n.four }

-- the room in which a step decides
pub room : (c : Configuration) (r : Record) (row : Row) (l : Lent) (sight : Sight) → Stands c → Whole c r row l → Room (load_of c (queue_entries row r.outgoing) sight r)
unfolding new_in count_in
room c r row l sight s w =
    record {
      count = omega arith;
      messages = omega arith;
      entries = omega arith;
      sums = record { room = refl; messages = refl; entries = refl };
      log = omega (arith, w.ends);
      queue = w.queue;
      stored = w.carried;
      buffer = omega (arith, w.buffer);
      depots = s.most;
      own = (s.own.0, omega (arith, s.own, s.most));
    }
