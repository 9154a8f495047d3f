-- What goes to one depot, and to each of several, reads and changes no place past the depots.
use Rattle.std.specs.Prelude.{Option, None, Some}
use Prim.Native.Nat.{ℕ, zero, suc, ◌-◌, ◌≤◌}
use mathlib.Core.Path.{◌≡◌, refl, ap}
use mathlib.Core.Bool.{Bool, false}
use mathlib.Core.List.{List}
use native.Mathlib.Omega.{arith}
use lib.Dec.{leb, ltb}
use lib.ListN.{get_or}
use Rattle.base.specs.Limits.{largest}
use Rattle.quorum.specs.declared.Configuration.{Configuration}
use Rattle.leader_state.specs.declared.Depot as place
use Rattle.leader_state.specs.declared.PromiseMetaData.{PromiseMetaData}
use Rattle.leader_state.specs.declared.PromiseState.{PromiseState}
use Rattle.leader_state.specs.declared.PromiseState.TheVariants.{NotPromised, Promised, PromisedHigher}
use Rattle.leader_state.specs.State.{set_latest, next_session, next_counter}
use Rattle.paxos_box.specs.declared.SequencePaxos.{SequencePaxos}
use Rattle.paxos_box.specs.Box.{unfit, at_top, next_place}
use Rattle.sends.specs.declared.Each.{Each}
use Rattle.sends.specs.declared.Each.TheVariants as each
use Rattle.sends.specs.Sends.{the_depot, on_depot, log_length, sync_fits, next_session_of, next_seq_num_of, set_latest_of, send_prepare, new_session, push_acc_sync, sync_start_of, send_acc_sync, by_promise, acc_sync_to, stands, latest_accdec, join_to, push_accept_decide, new_accept_decide, accept_decide_by, accept_decide_to, push_decide, decide_by, decide_to, send_prepare_req, send_one, for_marked}
use Rattle.refusals.proofs.Taken.{Depot}
use Rattle.unread_laws.specs.InUse.{past_box}
use Rattle.unread_laws.proofs.Boxes.{Pair, lift, choose, push, depot-alike, on-depot}

module _ (c : Configuration) (z : List place.Depot) where
  is-unfit : (s t : SequencePaxos) → Pair c z s t → Pair c z (unfit s) (unfit t)
  is-unfit = lift c z unfit (λ s e. (refl, e))

  top : (s t : SequencePaxos) → Pair c z s t → Pair c z (at_top s) (at_top t)
  top = lift c z at_top (λ s e. (refl, e))

  pub fits : (from : ℕ) (s t : SequencePaxos) → Pair c z s t → Pair c z (sync_fits from s) (sync_fits from t)
  unfolding sync_fits
  fits from = lift c z (sync_fits from) (λ s e. choose c z (ltb (log_length s) from) (ltb (log_length s) from) refl (unfit s) s (unfit (past_box c.depots z s)) (past_box c.depots z s) (refl, e) (refl, e))

  module _ (to : ℕ) (d : Depot c to) where
    next-session : (s t : SequencePaxos) → Pair c z s t → Pair c z (next_session_of to s) (next_session_of to t)
    unfolding next_session_of
    next-session =
        lift c z (next_session_of to)
        (λ s e.
        let u = past_box c.depots z s in
        choose c z (leb largest (the_depot to s).seq_num.session) (leb largest (the_depot to u).seq_num.session) (ap (λ (x : place.Depot). leb largest x.seq_num.session) (depot-alike c z to s d))
        (at_top s) (on_depot to next_session s) (at_top u) (on_depot to next_session u) (refl, e) (on-depot c z to next_session d s u (refl, e)))

    next-number : (s t : SequencePaxos) → Pair c z s t → Pair c z (next_seq_num_of to s) (next_seq_num_of to t)
    unfolding next_seq_num_of
    next-number =
        lift c z (next_seq_num_of to)
        (λ s e.
        let u = past_box c.depots z s in
        choose c z (leb largest (the_depot to s).seq_num.counter) (leb largest (the_depot to u).seq_num.counter) (ap (λ (x : place.Depot). leb largest x.seq_num.counter) (depot-alike c z to s d))
        (at_top s) (on_depot to next_counter s) (at_top u) (on_depot to next_counter u) (refl, e) (on-depot c z to next_counter d s u (refl, e)))

    pub remember : (l : Option ℕ) (s t : SequencePaxos) → Pair c z s t → Pair c z (set_latest_of to l s) (set_latest_of to l t)
    remember l = on-depot c z to (set_latest l) d

    session : (s t : SequencePaxos) → Pair c z s t → Pair c z (new_session to s) (new_session to t)
    unfolding new_session
    session s t p =
        let a = next-session s t p in
        let b = next-number (next_session_of to s) (next_session_of to t) a in
        remember None (next_seq_num_of to (next_session_of to s)) (next_seq_num_of to (next_session_of to t)) b

    push-sync : (from : ℕ) (s t : SequencePaxos) → Pair c z s t → Pair c z (push_acc_sync from to s) (push_acc_sync from to t)
    unfolding push_acc_sync
    push-sync from =
        lift c z (push_acc_sync from to)
        (λ s e. rw (depot-alike c z to s d) (push c z _ s (past_box c.depots z s) (refl, e)))

    send-sync : (m : PromiseMetaData) (s t : SequencePaxos) → Pair c z s t → Pair c z (send_acc_sync to m s) (send_acc_sync to m t)
    unfolding send_acc_sync
    send-sync m =
        lift c z (send_acc_sync to m)
        (λ s e.
        let u = past_box c.depots z s in
        let from = sync_start_of m s in
        push-sync from (new_session to (sync_fits from s)) (new_session to (sync_fits from u))
        (session (sync_fits from s) (sync_fits from u) (fits from s u (refl, e))))

    pub sync-to : (s t : SequencePaxos) → Pair c z s t → Pair c z (acc_sync_to to s) (acc_sync_to to t)
    unfolding acc_sync_to
    sync-to =
        lift c z (acc_sync_to to)
        (λ s e. rw (depot-alike c z to s d) (by (the_depot to s).promise s e))
      where
        by : (p : PromiseState) (s : SequencePaxos) → s.config ≡ c → Pair c z (by_promise to p s) (by_promise to p (past_box c.depots z s))
        by (Promised m) s e = send-sync m s (past_box c.depots z s) (refl, e)
        by NotPromised s e = (refl, e)
        by PromisedHigher s e = (refl, e)

    -- the remembered AcceptDecide
    latest-alike : (s : SequencePaxos) → latest_accdec to (past_box c.depots z s) ≡ latest_accdec to s
    unfolding latest_accdec
    latest-alike s = ap (λ (x : place.Depot). stands (get_or s.plan.sight.accdec (to - 1) false) x.latest) (depot-alike c z to s d)

    pub join-to : (from count at : ℕ) (s t : SequencePaxos) → Pair c z s t → Pair c z (join_to from count to at s) (join_to from count to at t)
    unfolding join_to
    join-to from count at = lift c z (join_to from count to at) (λ s e. push c z _ s (past_box c.depots z s) (refl, e))

    push-entries : (from count : ℕ) (s t : SequencePaxos) → Pair c z s t → Pair c z (push_accept_decide from count to s) (push_accept_decide from count to t)
    unfolding push_accept_decide
    push-entries from count =
        lift c z (push_accept_decide from count to)
        (λ s e. rw (depot-alike c z to s d) (push c z _ s (past_box c.depots z s) (refl, e)))

    new-entries : (from count : ℕ) (s t : SequencePaxos) → Pair c z s t → Pair c z (new_accept_decide from count to s) (new_accept_decide from count to t)
    unfolding new_accept_decide
    new-entries from count =
        lift c z (new_accept_decide from count to)
        (λ s e.
        let u = past_box c.depots z s in
        let a = set_latest_of to (Some (next_place s)) s in
        let b = set_latest_of to (Some (next_place s)) u in
        push-entries from count (next_seq_num_of to a) (next_seq_num_of to b) (next-number a b (remember (Some (next_place s)) s u (refl, e))))

    pub entries-to : (from count : ℕ) (s t : SequencePaxos) → Pair c z s t → Pair c z (accept_decide_to from count to s) (accept_decide_to from count to t)
    unfolding accept_decide_to
    entries-to from count =
        lift c z (accept_decide_to from count to)
        (λ s e. rw (latest-alike s) (by (latest_accdec to s) s e))
      where
        by : (l : Option ℕ) (s : SequencePaxos) → s.config ≡ c → Pair c z (accept_decide_by from count to l s) (accept_decide_by from count to l (past_box c.depots z s))
        by (Some at) s e = join-to from count at s (past_box c.depots z s) (refl, e)
        by None s e = new-entries from count s (past_box c.depots z s) (refl, e)

    push-decide : (s t : SequencePaxos) → Pair c z s t → Pair c z (push_decide to s) (push_decide to t)
    unfolding push_decide
    push-decide =
        lift c z (push_decide to)
        (λ s e. rw (depot-alike c z to s d) (push c z _ s (past_box c.depots z s) (refl, e)))

    pub decide-to : (s t : SequencePaxos) → Pair c z s t → Pair c z (decide_to to s) (decide_to to t)
    unfolding decide_to
    decide-to =
        lift c z (decide_to to)
        (λ s e. rw (latest-alike s) (by (latest_accdec to s) s e))
      where
        by : (l : Option ℕ) (s : SequencePaxos) → s.config ≡ c → Pair c z (decide_by to l s) (decide_by to l (past_box c.depots z s))
        by (Some at) s e = join-to 0 0 at s (past_box c.depots z s) (refl, e)
        by None s e =
            let u = past_box c.depots z s in
            push-decide (next_seq_num_of to s) (next_seq_num_of to u) (next-number s u (refl, e))

  -- these read no place
  pub prepare : (to : ℕ) (s t : SequencePaxos) → Pair c z s t → Pair c z (send_prepare to s) (send_prepare to t)
  unfolding send_prepare
  prepare to = lift c z (send_prepare to) (λ s e. push c z _ s (past_box c.depots z s) (refl, e))

  pub request : (to : ℕ) (s t : SequencePaxos) → Pair c z s t → Pair c z (send_prepare_req to s) (send_prepare_req to t)
  unfolding send_prepare_req
  request to = lift c z (send_prepare_req to) (λ s e. push c z _ s (past_box c.depots z s) (refl, e))

  -- one of them to a depot, and to each of several
  one : (what : Each) (to : ℕ) → Depot c to → (s t : SequencePaxos) → Pair c z s t → Pair c z (send_one what to s) (send_one what to t)
  one each.Prepare to d s t p = prepare to s t p
  one each.AcceptSync to d s t p = sync-to to d s t p
  one (each.AcceptDecide from count) to d s t p = entries-to to d from count s t p
  one each.Decide to d s t p = decide-to to d s t p
  one each.PrepareReq to d s t p = request to s t p

  pub each-marked : (marked : List Bool) (what : Each) (n : ℕ) → n ≤ c.depots → (s t : SequencePaxos) → Pair c z s t → Pair c z (for_marked marked what n s) (for_marked marked what n t)
  unfolding for_marked
  each-marked marked what zero h s t p = p
  each-marked marked what (suc i) h s t p =
      let a = for_marked marked what i s in
      let b = for_marked marked what i t in
      let q = each-marked marked what i (omega arith) s t p in
      choose c z (get_or marked i false) (get_or marked i false) refl (send_one what (suc i) a) a (send_one what (suc i) b) b
      (one what (suc i) (omega arith, h) a b q)
      q
