-- What a follower does with each message, `reconnected`, a drain and a restart read and change no place past the depots.
use Rattle.std.specs.Prelude.{Option, None, Some}
use Prim.Native.Nat.{ℕ, ◌+◌, min}
use mathlib.Core.Path.{◌≡◌, refl, ap}
use mathlib.Core.Bool.{cond}
use mathlib.Core.List.{List}
use lib.Dec.{eqb, ltb}
use Rattle.base.specs.Limits.{max_log}
use Rattle.ballot.specs.Ballot.{above, same, compare_of, default}
use Rattle.paxos_box.specs.declared.AcceptedAt.{AcceptedAt}
use Rattle.paxos_box.specs.declared.CachedPromise.{CachedPromise}
use Rattle.leader_state.specs.declared.LogSync.{LogSync}
use Rattle.ballot.specs.declared.Ballot.{Ballot}
use Rattle.std.specs.declared.cmp.Ordering.{Ordering}
use Rattle.std.specs.declared.cmp.Ordering.TheVariants.{Less, Equal, Greater}
use Rattle.sequence.specs.Sequence.{status_of}
use Rattle.sequence.specs.declared.SequenceNumber.{SequenceNumber}
use Rattle.sequence.specs.declared.MessageStatus.{MessageStatus}
use Rattle.sequence.specs.declared.MessageStatus.TheVariants.{Expected, DroppedPreceding, Outdated}
use Rattle.quorum.specs.declared.Configuration.{Configuration}
use Rattle.leader_state.specs.declared.Depot as place
use Rattle.leader_state.specs.declared.LeaderState.{LeaderState}
use Rattle.leader_state.specs.State.{with_depots, set_latest, forget_all}
use Rattle.messages.specs.declared.AcceptSync.{AcceptSync}
use Rattle.messages.specs.declared.Prepare.{Prepare}
use Rattle.paxos_box.specs.declared.SequencePaxos.{SequencePaxos}
use Rattle.paxos_box.specs.declared.Phase.{Phase}
use Rattle.paxos_box.specs.declared.Phase.TheVariants as phase
use Rattle.paxos_box.specs.declared.LogOp.TheVariants.{PutGiven}
use Rattle.paxos_box.specs.declared.Source.TheVariants as source
use Rattle.paxos_box.specs.declared.Standing.{Standing}
use Rattle.paxos_box.specs.declared.Standing.TheVariants.{LeaderPrepare, LeaderAccept, FollowerPrepare, FollowerAccept, Other}
use Rattle.paxos_box.specs.Box.{unfit, at_top, with_leader, set_meta, set_seq, set_cached, set_buffered, set_decided, next_place, is_recover, is_accept_phase, standing_of}
use Rattle.sends.specs.declared.Each.TheVariants as each
use Rattle.sends.specs.Sends.{log_length, send_prepare_req}
use Rattle.log_plan.specs.Log.{sync_end, sync_unfit, sync_log, append_given, has_leader, push_forward, forward_buffered}
use Rattle.reconnect.specs.Reconnect.{recovering, left_leader, reconnected_of}
use Rattle.accepting.specs.Accepting.{not_accepted, by_ballot, send_accepted, given_sync, acceptsync_put, following, acceptsync_taken, acceptsync_in, handle_acceptsync, counter_at_top, by_status, if_expected, latest_accepted, reply_by, reply_accepted, update_decided, acceptdecide_taken, acceptdecide_fit, acceptdecide_in, handle_acceptdecide, decide_taken, decide_in_accept, handle_decide}
use Rattle.follower.specs.Follower.{promised_sync, build_fits, cache_promise, tell_promise, promise_to, prepare_taken, handle_prepare, prepare_reqs, resend_cached, resend_in, resend_messages_follower}
use Rattle.outcome.specs.Outcome.{drained, restarted}
use Rattle.refusals.proofs.Taken.{Depot}
use Rattle.unread_laws.specs.InUse.{past_in, past_box}
use Rattle.unread_laws.proofs.Mix.{mix_first}
use Rattle.unread_laws.proofs.Boxes.{Pair, lift, choose, push}
use Rattle.unread_laws.proofs.Sending.{fits, request}
use Rattle.unread_laws.proofs.Leading.{to-peers, places-anew}

module _ (c : Configuration) (z : List place.Depot) (own : Depot c c.pid) where
  -- reconnected
  left : (pid : ℕ) (s t : SequencePaxos) → Pair c z s t → Pair c z (left_leader pid s) (left_leader pid t)
  unfolding left_leader
  left pid =
      lift c z (left_leader pid)
      (λ s e.
      let u = past_box c.depots z s in
      choose c z (eqb pid s.internal_storage.promise.pid) _ refl (recovering s) s (recovering u) u (refl, e) (refl, e))

  pub reconnects : (pid : ℕ) (s t : SequencePaxos) → Pair c z s t → Pair c z (reconnected_of pid s) (reconnected_of pid t)
  unfolding reconnected_of
  reconnects pid =
      lift c z (reconnected_of pid)
      (λ s e.
      let u = past_box c.depots z s in
      choose c z (eqb pid s.config.pid) _ refl s (send_prepare_req pid (left_leader pid s)) u (send_prepare_req pid (left_leader pid u))
      (refl, e)
      (request c z pid (left_leader pid s) (left_leader pid u) (left pid s u (refl, e))))

  -- the ballot is looked at first
  by-ballot : (p : Ordering) (n : Ballot) (x y : SequencePaxos) → Pair c z x y → (s t : SequencePaxos) → Pair c z s t → Pair c z (by_ballot p n x s) (by_ballot p n y t)
  by-ballot Equal n x y q s t p = q
  by-ballot Greater n x y q s t p = lift c z (not_accepted n) (λ s e. push c z _ s (past_box c.depots z s) (refl, e)) s t p
  by-ballot Less n x y q s t p = reconnects n.pid s t p

  -- AcceptSync
  sends-accepted : (n : Ballot) (idx to : ℕ) (s t : SequencePaxos) → Pair c z s t → Pair c z (send_accepted n idx to s) (send_accepted n idx to t)
  unfolding send_accepted
  sends-accepted n idx to =
      lift c z (send_accepted n idx to)
      (λ s e.
      let u = past_box c.depots z s in
      let at = Some (record { n = n; at = next_place s }) in
      push c z _ (set_meta at s) (set_meta at u) (refl, e))

  forwards-buffered : (s t : SequencePaxos) → Pair c z s t → Pair c z (forward_buffered s) (forward_buffered t)
  unfolding forward_buffered has_leader
  forwards-buffered =
      lift c z forward_buffered
      (λ s e.
      let u = past_box c.depots z s in
      let k = s.buffered_proposals in
      let f = push_forward source.Buffered k (set_buffered 0 s) in
      let g = push_forward source.Buffered k (set_buffered 0 u) in
      choose c z (eqb k 0) _ refl s (cond (has_leader s) f s) u (cond (has_leader s) g u)
      (refl, e)
      (choose c z (has_leader s) _ refl f s g u (push c z _ (set_buffered 0 s) (set_buffered 0 u) (refl, e)) (refl, e)))

  puts : (m : AcceptSync) (count : ℕ) (s t : SequencePaxos) → Pair c z s t → Pair c z (acceptsync_put m count s) (acceptsync_put m count t)
  unfolding acceptsync_put sync_log
  puts m count =
      lift c z (acceptsync_put m count)
      (λ s e.
      let u = past_box c.depots z s in
      let put : SequencePaxos → SequencePaxos = λ x. sync_log m.n m.decided_idx (sync_end (given_sync m count)) (PutGiven (given_sync m count)) (set_cached None x) in
      forwards-buffered (put s) (put u) (refl, e))

  follows : (q : SequenceNumber) (s t : SequencePaxos) → Pair c z s t → Pair c z (following q s) (following q t)
  unfolding following
  follows q = lift c z (following q) (λ s e. (refl, e))

  sync-taken : (m : AcceptSync) (count from : ℕ) (s t : SequencePaxos) → Pair c z s t → Pair c z (acceptsync_taken m count from s) (acceptsync_taken m count from t)
  unfolding acceptsync_taken sync_unfit
  sync-taken m count from =
      lift c z (acceptsync_taken m count from)
      (λ s e.
      let u = past_box c.depots z s in
      let x = given_sync m count in
      let a = following m.seq_num (acceptsync_put m count s) in
      let b = following m.seq_num (acceptsync_put m count u) in
      choose c z (sync_unfit x s.plan.sight.brought_change m.decided_idx s) _ refl
      (unfit s) (send_accepted m.n (sync_end x) from a) (unfit u) (send_accepted m.n (sync_end x) from b)
      (refl, e)
      (sends-accepted m.n (sync_end x) from a b (follows m.seq_num (acceptsync_put m count s) (acceptsync_put m count u) (puts m count s u (refl, e)))))

  pub synced : (m : AcceptSync) (count from : ℕ) (s t : SequencePaxos) → Pair c z s t → Pair c z (handle_acceptsync m count from s) (handle_acceptsync m count from t)
  unfolding handle_acceptsync
  synced m count from =
      lift c z (handle_acceptsync m count from)
      (λ s e.
      let u = past_box c.depots z s in
      let at = standing_of s.state.role s.state.phase in
      by-ballot (compare_of s.internal_storage.promise m.n) m.n (acceptsync_in at m count from s) (acceptsync_in at m count from u) (by at s e) s u (refl, e))
    where
      by : (p : Standing) (s : SequencePaxos) → s.config ≡ c → Pair c z (acceptsync_in p m count from s) (acceptsync_in p m count from (past_box c.depots z s))
      by FollowerPrepare s e = sync-taken m count from s (past_box c.depots z s) (refl, e)
      by FollowerAccept s e = (refl, e)
      by LeaderPrepare s e = (refl, e)
      by LeaderAccept s e = (refl, e)
      by Other s e = (refl, e)

  -- then the number
  by-status : (p : MessageStatus) (pid : ℕ) (x y : SequencePaxos) → Pair c z x y → (s t : SequencePaxos) → Pair c z s t → Pair c z (by_status p pid x s) (by_status p pid y t)
  by-status Expected pid x y q s t p = q
  by-status DroppedPreceding pid x y q s t p = reconnects pid s t p
  by-status Outdated pid x y q s t p = p

  expected : (q : SequenceNumber) (pid : ℕ) (x y : SequencePaxos) → Pair c z x y → (s : SequencePaxos) → s.config ≡ c → Pair c z (if_expected q pid x s) (if_expected q pid y (past_box c.depots z s))
  unfolding counter_at_top
  expected q pid x y p s e =
      let u = past_box c.depots z s in
      let status = status_of s.current_seq_num q in
      choose c z (counter_at_top q s) _ refl (at_top s) (by_status status pid x s) (at_top u) (by_status status pid y u) (refl, e) (by-status status pid x y p s u (refl, e))

  -- the answer
  replies : (n : Ballot) (idx : ℕ) (s t : SequencePaxos) → Pair c z s t → Pair c z (reply_accepted n idx s) (reply_accepted n idx t)
  unfolding reply_accepted latest_accepted
  replies n idx = lift c z (reply_accepted n idx) (λ s e. by (latest_accepted n s) s e)
    where
      by : (m : Option AcceptedAt) (s : SequencePaxos) → s.config ≡ c → Pair c z (reply_by m n idx s) (reply_by m n idx (past_box c.depots z s))
      by (Some x) s e = push c z _ s (past_box c.depots z s) (refl, e)
      by None s e = sends-accepted n idx n.pid s (past_box c.depots z s) (refl, e)

  updates : (idx : ℕ) (s t : SequencePaxos) → Pair c z s t → Pair c z (update_decided idx s) (update_decided idx t)
  unfolding update_decided
  updates idx =
      lift c z (update_decided idx)
      (λ s e.
      let u = past_box c.depots z s in
      let d = set_decided (min idx (log_length s)) in
      choose c z (ltb s.internal_storage.decided_idx idx) _ refl (d s) s (d u) u (refl, e) (refl, e))

  -- AcceptDecide
  entries-taken : (n : Ballot) (decided count : ℕ) (s t : SequencePaxos) → Pair c z s t → Pair c z (acceptdecide_taken n decided count s) (acceptdecide_taken n decided count t)
  unfolding acceptdecide_taken append_given
  entries-taken n decided count =
      lift c z (acceptdecide_taken n decided count)
      (λ s e.
      let u = past_box c.depots z s in
      replies n (log_length s + count) (update_decided decided (append_given count s)) (update_decided decided (append_given count u))
      (updates decided (append_given count s) (append_given count u) (refl, e)))

  entries_fit : (n : Ballot) (q : SequenceNumber) (decided count : ℕ) (s t : SequencePaxos) → Pair c z s t → Pair c z (acceptdecide_fit n q decided count s) (acceptdecide_fit n q decided count t)
  unfolding acceptdecide_fit
  entries_fit n q decided count =
      lift c z (acceptdecide_fit n q decided count)
      (λ s e.
      let u = past_box c.depots z s in
      let f = acceptdecide_taken n decided count (set_seq q s) in
      let g = acceptdecide_taken n decided count (set_seq q u) in
      let past = ltb max_log (log_length s + count) in
      choose c z (eqb count 0) _ refl (unfit s) (cond past (unfit s) f) (unfit u) (cond past (unfit u) g)
      (refl, e)
      (choose c z past _ refl (unfit s) f (unfit u) g (refl, e) (entries-taken n decided count (set_seq q s) (set_seq q u) (refl, e))))

  pub given : (n : Ballot) (q : SequenceNumber) (decided count : ℕ) (s t : SequencePaxos) → Pair c z s t → Pair c z (handle_acceptdecide n q decided count s) (handle_acceptdecide n q decided count t)
  unfolding handle_acceptdecide
  given n q decided count =
      lift c z (handle_acceptdecide n q decided count)
      (λ s e.
      let u = past_box c.depots z s in
      let at = standing_of s.state.role s.state.phase in
      by-ballot (compare_of s.internal_storage.promise n) n (acceptdecide_in at n q decided count s) (acceptdecide_in at n q decided count u) (by at s e) s u (refl, e))
    where
      by : (p : Standing) (s : SequencePaxos) → s.config ≡ c → Pair c z (acceptdecide_in p n q decided count s) (acceptdecide_in p n q decided count (past_box c.depots z s))
      by FollowerAccept s e =
          let u = past_box c.depots z s in
          expected q n.pid (acceptdecide_fit n q decided count s) (acceptdecide_fit n q decided count u) (entries_fit n q decided count s u (refl, e)) s e
      by FollowerPrepare s e = (refl, e)
      by LeaderPrepare s e = (refl, e)
      by LeaderAccept s e = (refl, e)
      by Other s e = (refl, e)

  -- Decide
  decide-taken : (n : Ballot) (decided : ℕ) (s t : SequencePaxos) → Pair c z s t → Pair c z (decide_taken n decided s) (decide_taken n decided t)
  unfolding decide_taken
  decide-taken n decided =
      lift c z (decide_taken n decided)
      (λ s e.
      let u = past_box c.depots z s in
      let a = update_decided decided s in
      let b = update_decided decided u in
      let p = updates decided s u (refl, e) in
      choose c z (ltb (log_length s) decided) _ refl (reply_accepted n (log_length s) a) a (reply_accepted n (log_length s) b) b (replies n (log_length s) a b p) p)

  pub decided-told : (n : Ballot) (q : SequenceNumber) (decided : ℕ) (s t : SequencePaxos) → Pair c z s t → Pair c z (handle_decide n q decided s) (handle_decide n q decided t)
  unfolding handle_decide
  decided-told n q decided =
      lift c z (handle_decide n q decided)
      (λ s e.
      let u = past_box c.depots z s in
      let f = decide_taken n decided (set_seq q s) in
      let g = decide_taken n decided (set_seq q u) in
      by-ballot (compare_of s.internal_storage.promise n) n (decide_in_accept n q decided s) (decide_in_accept n q decided u)
      (choose c z (is_accept_phase s.state.phase) _ refl (if_expected q n.pid f s) s (if_expected q n.pid g u) u
      (expected q n.pid f g (decide-taken n decided (set_seq q s) (set_seq q u) (refl, e)) s e)
      (refl, e))
      s u (refl, e))

  -- Prepare
  builds : (x : Option LogSync) (s t : SequencePaxos) → Pair c z s t → Pair c z (build_fits x s) (build_fits x t)
  builds (Some x) = fits c z x.sync_idx
  builds None = λ s t p. p

  tells : (from : ℕ) (x : Option LogSync) (s t : SequencePaxos) → Pair c z s t → Pair c z (tell_promise from x s) (tell_promise from x t)
  unfolding tell_promise cache_promise
  tells from x =
      lift c z (tell_promise from x)
      (λ s e.
      let u = past_box c.depots z s in
      push c z _ (cache_promise x (build_fits x s)) (cache_promise x (build_fits x u))
      (lift c z (cache_promise x) (λ s e. (refl, e)) (build_fits x s) (build_fits x u) (builds x s u (refl, e))))

  prepare-taken : (m : Prepare) (from : ℕ) (s t : SequencePaxos) → Pair c z s t → Pair c z (prepare_taken m from s) (prepare_taken m from t)
  unfolding prepare_taken promised_sync promise_to
  prepare-taken m from =
      lift c z (prepare_taken m from)
      (λ s e. tells from (promised_sync m s) (promise_to m.n s) (promise_to m.n (past_box c.depots z s)) (refl, e))

  pub prepares : (m : Prepare) (from : ℕ) (s t : SequencePaxos) → Pair c z s t → Pair c z (handle_prepare m from s) (handle_prepare m from t)
  unfolding handle_prepare
  prepares m from =
      lift c z (handle_prepare m from)
      (λ s e.
      let u = past_box c.depots z s in
      let f = prepare_taken m from s in
      let g = prepare_taken m from u in
      let p = prepare-taken m from s u (refl, e) in
      let b = same m.n s.internal_storage.promise in
      let r = is_recover s.state.phase in
      choose c z (above m.n s.internal_storage.promise) _ refl f (cond b (cond r f s) s) g (cond b (cond r g u) u) p
      (choose c z b _ refl (cond r f s) s (cond r g u) u (choose c z r _ refl f s g u p (refl, e)) (refl, e)))

  -- a resend
  all-requests : (s t : SequencePaxos) → Pair c z s t → Pair c z (prepare_reqs s) (prepare_reqs t)
  all-requests = to-peers c z own each.PrepareReq

  pub resends-following : (s t : SequencePaxos) → Pair c z s t → Pair c z (resend_messages_follower s) (resend_messages_follower t)
  unfolding resend_messages_follower
  resends-following = lift c z resend_messages_follower (λ s e. by s.state.phase s e)
    where
      again : (m : Option CachedPromise) (s : SequencePaxos) → s.config ≡ c → Pair c z (resend_cached m s) (resend_cached m (past_box c.depots z s))
      again (Some p) s e = push c z _ s (past_box c.depots z s) (refl, e)
      again None s e = all-requests (recovering s) (recovering (past_box c.depots z s)) (refl, e)

      by : (p : Phase) (s : SequencePaxos) → s.config ≡ c → Pair c z (resend_in p s) (resend_in p (past_box c.depots z s))
      by phase.Prepare s e = again s.cached_promise_message s e
      by phase.Recover s e = all-requests s (past_box c.depots z s) (refl, e)
      by phase.Accept s e = (refl, e)
      by phase.None s e = (refl, e)

  -- a drain and a restart
  forgets-alike : (k : ℕ) (l : LeaderState) → k ≡ c.depots → forget_all k (past_in c.depots z l) ≡ past_in c.depots z (forget_all k l)
  unfolding forget_all
  forgets-alike k l h = rw h (ap (λ (r : List place.Depot). with_depots r l) (mix_first c.depots (set_latest None) l.depots z))

  pub drains : (s t : SequencePaxos) → Pair c z s t → Pair c z (drained s) (drained t)
  unfolding drained
  drains =
      lift c z drained
      (λ s e. (ap (λ (l : LeaderState). set_meta None (with_leader l s)) (forgets-alike s.config.depots s.leader_state (ap (λ (x : Configuration). x.depots) e)), e))

  pub restarts : (s t : SequencePaxos) → Pair c z s t → Pair c z (restarted s) (restarted t)
  unfolding restarted
  restarts =
      lift c z restarted
      (λ s e. (ap (λ (l : LeaderState). with_leader l (restarted s)) (places-anew c z own default s.config.depots s.leader_state (ap (λ (x : Configuration). x.depots) e)), e))
