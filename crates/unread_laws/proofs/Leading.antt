-- What a leader does with each event reads and changes no place past the depots.
use Rattle.std.specs.Prelude.{Option, None, Some}
use Prim.Native.Nat.{ℕ}
use mathlib.Core.Path.{◌≡◌, refl, ap, sym, subst, ◌∙◌}
use mathlib.Core.Bool.{Bool, true, false, cond}
use mathlib.Core.List.{List}
use native.Mathlib.Omega.{arith}
use lib.Dec.{eqb, ltb}
use Rattle.ballot.specs.Ballot.{above, same}
use Rattle.leader_state.specs.declared.LogSync.{LogSync}
use Rattle.ballot.specs.declared.Ballot.{Ballot}
use Rattle.quorum.specs.Quorum.{reaches_read, reaches_write}
use Rattle.quorum.specs.declared.Configuration.{Configuration}
use Rattle.leader_state.specs.declared.Depot as place
use Rattle.leader_state.specs.declared.LeaderState.{LeaderState}
use Rattle.leader_state.specs.declared.PromiseMetaData.{PromiseMetaData}
use Rattle.leader_state.specs.declared.PromiseState.TheVariants.{NotPromised, Promised, PromisedHigher}
use Rattle.leader_state.specs.State.{fresh, with_depots, with_best, with_of, set_accepted, set_promise_state}
use Rattle.leader_state.specs.Promises.{beats_best, best_after, promised_count, promise_kept, max_decided}
use Rattle.leader_state.specs.Places.{accepted_at, promised_followers, preparable_peers}
use Rattle.leader_state.proofs.Past.{counts-alike, marked-alike}
use Rattle.paxos_box.specs.declared.SequencePaxos.{SequencePaxos}
use Rattle.paxos_box.specs.declared.Role.TheVariants.{Leader}
use Rattle.paxos_box.specs.declared.Phase.{Phase}
use Rattle.paxos_box.specs.declared.Phase.TheVariants as phase
use Rattle.paxos_box.specs.declared.Standing.{Standing}
use Rattle.paxos_box.specs.declared.Standing.TheVariants.{LeaderPrepare, LeaderAccept, FollowerPrepare, FollowerAccept, Other}
use Rattle.paxos_box.specs.declared.LogOp.{LogOp}
use Rattle.paxos_box.specs.declared.LogOp.TheVariants.{Keep}
use Rattle.paxos_box.specs.Box.{unfit, with_leader, with_state, set_promised, set_decided, is_leader, standing_of}
use Rattle.sends.specs.declared.Each.{Each}
use Rattle.sends.specs.declared.Each.TheVariants as each
use Rattle.sends.specs.Sends.{on_depot, log_length, set_latest_of, for_marked, peers_of}
use Rattle.paxos_box.specs.declared.Source.TheVariants.{Given}
use Rattle.log_plan.specs.Log.{sync_end, sync_unfit, sync_log, append_given, append_buffered, buffer_given, has_leader, push_forward, forward_proposals}
use Rattle.leader.specs.Leader.{for_followers, for_preparable, for_peers, own_meta, keep_promise, reached, new_leader, own_promise, become_leader, become_follower, handle_leader, prepare_again, handle_prepare_req, set_accepted_of, own_accepted, accept_entries_leader, proposal_in, handle_forwarded_proposal, change_of, put_op, leader_syncs, sync_held, sync_by, sync_with_best, sync_taken, handle_majority_promises, keep_sync, handle_promise_prepare, handle_promise_accept, brings_past, promise_in, handle_promise, newly_chosen, decide_if_chosen, accepted_taken, accepted_in, handle_accepted, lost_promise, handle_not_accepted, resend_in, resend_messages_leader}
use Rattle.refusals.proofs.Taken.{Depot}
use Rattle.unread_laws.specs.InUse.{past_in, past_box}
use Rattle.unread_laws.proofs.Mix.{mix_first}
use Rattle.unread_laws.proofs.Boxes.{Pair, lift, choose, push, on-depot, place_set, leaders-alike}
use Rattle.unread_laws.proofs.Sending.{remember, sync-to, prepare, each-marked}

module _ (c : Configuration) (z : List place.Depot) (own : Depot c c.pid) where
  -- the depots of a box are those of its configuration
  counted : (s : SequencePaxos) → s.config ≡ c → s.config.depots ≡ c.depots
  counted s e = ap (λ (x : Configuration). x.depots) e

  -- marks that are alike, over the depots
  marked : (n : ℕ) (m a : List Bool) → n ≡ c.depots → a ≡ m → (what : Each) (s t : SequencePaxos) → Pair c z s t → Pair c z (for_marked m what n s) (for_marked a what n t)
  marked n m a h e what s t p = rw e (each-marked c z m what n (omega (arith, h)) s t p)

  followers-alike : (n : ℕ) (l : LeaderState) → n ≡ c.depots → promised_followers n (past_in c.depots z l) ≡ promised_followers n l
  followers-alike n l h = rw h (marked-alike c.depots (past_in c.depots z l) l (leaders-alike c z l) 0).0

  preparable-alike : (own n : ℕ) (l : LeaderState) → n ≡ c.depots → preparable_peers own n (past_in c.depots z l) ≡ preparable_peers own n l
  preparable-alike own n l h = rw h (marked-alike c.depots (past_in c.depots z l) l (leaders-alike c z l) own).1

  -- to each promised follower, to each peer that has not promised, to each peer
  pub to-followers : (what : Each) (s t : SequencePaxos) → Pair c z s t → Pair c z (for_followers what s) (for_followers what t)
  to-followers what =
      lift c z (for_followers what)
      (λ s e. marked s.config.depots (promised_followers s.config.depots s.leader_state) (promised_followers s.config.depots (past_in c.depots z s.leader_state)) (counted s e) (followers-alike s.config.depots s.leader_state (counted s e)) what s (past_box c.depots z s) (refl, e))

  pub to-preparable : (what : Each) (s t : SequencePaxos) → Pair c z s t → Pair c z (for_preparable what s) (for_preparable what t)
  to-preparable what =
      lift c z (for_preparable what)
      (λ s e. marked s.config.depots (preparable_peers s.config.pid s.config.depots s.leader_state) (preparable_peers s.config.pid s.config.depots (past_in c.depots z s.leader_state)) (counted s e) (preparable-alike s.config.pid s.config.depots s.leader_state (counted s e)) what s (past_box c.depots z s) (refl, e))

  pub to-peers : (what : Each) (s t : SequencePaxos) → Pair c z s t → Pair c z (for_peers what s) (for_peers what t)
  to-peers what =
      lift c z (for_peers what)
      (λ s e. marked s.config.depots (peers_of s.config) (peers_of s.config) (counted s e) refl what s (past_box c.depots z s) (refl, e))

  -- a leader event
  pub places-anew : (n : Ballot) (k : ℕ) (l : LeaderState) → k ≡ c.depots → with_of n k (past_in c.depots z l) ≡ past_in c.depots z (with_of n k l)
  unfolding with_of
  places-anew n k l h = rw h (ap (λ (r : List place.Depot). with_depots r (with_of n c.depots l)) (mix_first c.depots (λ d. fresh) l.depots z))

  anew : (n : Ballot) (s t : SequencePaxos) → Pair c z s t → Pair c z (new_leader n s) (new_leader n t)
  unfolding new_leader
  anew n =
      lift c z (new_leader n)
      (λ s e. (ap (λ (l : LeaderState). set_promised n (with_leader l s)) (places-anew n s.config.depots s.leader_state (counted s e)), e))

  -- a promise kept, and whether a read quorum has promised
  kept-alike : (m : PromiseMetaData) (sync : Option LogSync) (check : Bool) (l : LeaderState) → Depot c m.pid → promise_kept m sync check (past_in c.depots z l) ≡ past_in c.depots z (promise_kept m sync check l)
  kept-alike m sync check l d = ap (with_best (best_after m sync check l)) (place_set c z m.pid (set_promise_state (Promised m)) l d)

  keeps : (m : PromiseMetaData) (sync : Option LogSync) (check : Bool) → Depot c m.pid → (s t : SequencePaxos) → Pair c z s t → Pair c z (keep_promise m sync check s) (keep_promise m sync check t)
  keeps m sync check d =
      lift c z (keep_promise m sync check)
      (λ s e. (ap (λ (l : LeaderState). with_leader l s) (kept-alike m sync check s.leader_state d), e))

  promised-alike : (n : ℕ) (l : LeaderState) → n ≡ c.depots → promised_count n (past_in c.depots z l) ≡ promised_count n l
  promised-alike n l h = rw h (counts-alike c.depots (past_in c.depots z l) l (leaders-alike c z l) 0).1

  reached-alike : (m : PromiseMetaData) (sync : Option LogSync) (check : Bool) (s : SequencePaxos) → s.config ≡ c → Depot c m.pid → reached m sync check (past_box c.depots z s) ≡ reached m sync check s
  reached-alike m sync check s e d =
      ap (reaches_read s.config.quorum)
      (ap (promised_count s.config.depots) (kept-alike m sync check s.leader_state d)
      ∙ promised-alike s.config.depots (promise_kept m sync check s.leader_state) (counted s e))

  own-pid : (s : SequencePaxos) → s.config ≡ c → Depot c s.config.pid
  own-pid s e = subst (λ (x : Configuration). Depot c x.pid) (sym e) own

  own-promise : (s t : SequencePaxos) → Pair c z s t → Pair c z (own_promise s) (own_promise t)
  unfolding own_promise
  own-promise = lift c z own_promise (λ s e. keeps (own_meta s) None true (own-pid s e) s (past_box c.depots z s) (refl, e))

  becomes-leader : (n : Ballot) (s t : SequencePaxos) → Pair c z s t → Pair c z (become_leader n s) (become_leader n t)
  unfolding become_leader
  becomes-leader n s t p =
      let a = own-promise (new_leader n s) (new_leader n t) (anew n s t p) in
      let lead = with_state (record { role = Leader; phase = phase.Prepare }) in
      to-peers each.Prepare (lead (own_promise (new_leader n s))) (lead (own_promise (new_leader n t)))
      (lift c z lead (λ s e. (refl, e)) (own_promise (new_leader n s)) (own_promise (new_leader n t)) a)

  pub leads : (n : Ballot) (s t : SequencePaxos) → Pair c z s t → Pair c z (handle_leader n s) (handle_leader n t)
  unfolding handle_leader
  leads n =
      lift c z (handle_leader n)
      (λ s e.
      let u = past_box c.depots z s in
      choose c z (above n s.leader_state.n_leader) _ refl
      (cond (above n s.internal_storage.promise) (cond (eqb n.pid s.config.pid) (become_leader n s) (become_follower s)) s) s
      (cond (above n s.internal_storage.promise) (cond (eqb n.pid s.config.pid) (become_leader n u) (become_follower u)) u) u
      (choose c z (above n s.internal_storage.promise) _ refl
      (cond (eqb n.pid s.config.pid) (become_leader n s) (become_follower s)) s
      (cond (eqb n.pid s.config.pid) (become_leader n u) (become_follower u)) u
      (choose c z (eqb n.pid s.config.pid) _ refl (become_leader n s) (become_follower s) (become_leader n u) (become_follower u) (becomes-leader n s u (refl, e)) (refl, e))
      (refl, e))
      (refl, e))

  -- PrepareReq
  again : (from : ℕ) → Depot c from → (s t : SequencePaxos) → Pair c z s t → Pair c z (prepare_again from s) (prepare_again from t)
  unfolding prepare_again
  again from d s t p =
      let a = on-depot c z from (set_promise_state NotPromised) d s t p in
      let b = remember c z from d None (on_depot from (set_promise_state NotPromised) s) (on_depot from (set_promise_state NotPromised) t) a in
      prepare c z from (set_latest_of from None (on_depot from (set_promise_state NotPromised) s)) (set_latest_of from None (on_depot from (set_promise_state NotPromised) t)) b

  pub requested : (n : Ballot) (from : ℕ) → Depot c from → (s t : SequencePaxos) → Pair c z s t → Pair c z (handle_prepare_req n from s) (handle_prepare_req n from t)
  unfolding handle_prepare_req
  requested n from d =
      lift c z (handle_prepare_req n from)
      (λ s e.
      let u = past_box c.depots z s in
      let h = above n s.leader_state.n_leader in
      choose c z (is_leader s.state.role) _ refl (cond h s (prepare_again from s)) s (cond h u (prepare_again from u)) u
      (choose c z h _ refl s (prepare_again from s) u (prepare_again from u) (refl, e) (again from d s u (refl, e)))
      (refl, e))

  -- a proposal
  own-accepted : (s t : SequencePaxos) → Pair c z s t → Pair c z (own_accepted s) (own_accepted t)
  own-accepted = lift c z own_accepted (λ s e. on-depot c z s.config.pid (set_accepted (log_length s)) (own-pid s e) s (past_box c.depots z s) (refl, e))

  accepts : (count : ℕ) (s t : SequencePaxos) → Pair c z s t → Pair c z (accept_entries_leader count s) (accept_entries_leader count t)
  unfolding accept_entries_leader append_given
  accepts count =
      lift c z (accept_entries_leader count)
      (λ s e.
      let u = past_box c.depots z s in
      to-followers (each.AcceptDecide (log_length s) count) (own_accepted (append_given count s)) (own_accepted (append_given count u))
      (own-accepted (append_given count s) (append_given count u) (refl, e)))

  buffers : (count : ℕ) (s t : SequencePaxos) → Pair c z s t → Pair c z (buffer_given count s) (buffer_given count t)
  unfolding buffer_given
  buffers count = lift c z (buffer_given count) (λ s e. (refl, e))

  forwards : (count : ℕ) (s t : SequencePaxos) → Pair c z s t → Pair c z (forward_proposals count s) (forward_proposals count t)
  unfolding forward_proposals has_leader
  forwards count =
      lift c z (forward_proposals count)
      (λ s e.
      let u = past_box c.depots z s in
      choose c z (has_leader s) _ refl (push_forward Given count s) (buffer_given count s) (push_forward Given count u) (buffer_given count u)
      (push c z _ s u (refl, e))
      (buffers count s u (refl, e)))

  pub proposed : (count : ℕ) (s t : SequencePaxos) → Pair c z s t → Pair c z (handle_forwarded_proposal count s) (handle_forwarded_proposal count t)
  unfolding handle_forwarded_proposal
  proposed count = lift c z (handle_forwarded_proposal count) (λ s e. by (standing_of s.state.role s.state.phase) s e)
    where
      by : (x : Standing) (s : SequencePaxos) → s.config ≡ c → Pair c z (proposal_in x count s) (proposal_in x count (past_box c.depots z s))
      by LeaderPrepare s e = buffers count s (past_box c.depots z s) (refl, e)
      by LeaderAccept s e = accepts count s (past_box c.depots z s) (refl, e)
      by FollowerPrepare s e = forwards count s (past_box c.depots z s) (refl, e)
      by FollowerAccept s e = forwards count s (past_box c.depots z s) (refl, e)
      by Other s e = forwards count s (past_box c.depots z s) (refl, e)

  -- a read quorum has promised
  most-alike : (n : ℕ) (l : LeaderState) → n ≡ c.depots → max_decided n (past_in c.depots z l) ≡ max_decided n l
  most-alike n l h = rw h (counts-alike c.depots (past_in c.depots z l) l (leaders-alike c z l) 0).2

  syncs : (highest end : ℕ) (op : LogOp) (s t : SequencePaxos) → Pair c z s t → Pair c z (leader_syncs highest end op s) (leader_syncs highest end op t)
  unfolding sync_log
  syncs highest end op =
      lift c z (leader_syncs highest end op)
      (λ s e.
      let u = past_box c.depots z s in
      let put = sync_log s.leader_state.n_leader highest end op in
      choose c z (ltb end highest) _ refl (unfit s) (put s) (unfit u) (put u) (refl, e) (refl, e))

  syncs-by : (x : Option LogSync) (brought : Bool) (highest : ℕ) (s t : SequencePaxos) → Pair c z s t → Pair c z (sync_by x brought highest s) (sync_by x brought highest t)
  unfolding sync_held sync_unfit
  syncs-by (Some x) brought highest = lift c z (sync_held x brought highest) (λ s e. by brought s e)
    where
      by : (b : Bool) (s : SequencePaxos) → s.config ≡ c → Pair c z (sync_held x b highest s) (sync_held x b highest (past_box c.depots z s))
      by true s e =
          let u = past_box c.depots z s in
          choose c z (sync_unfit x (change_of true s) s.leader_state.max_promise.meta.decided_idx s) _ refl
          (unfit s) (leader_syncs highest (sync_end x) (put_op true x) s) (unfit u) (leader_syncs highest (sync_end x) (put_op true x) u)
          (refl, e) (syncs highest (sync_end x) (put_op true x) s u (refl, e))
      by false s e =
          let u = past_box c.depots z s in
          choose c z (sync_unfit x (change_of false s) s.leader_state.max_promise.meta.decided_idx s) _ refl
          (unfit s) (leader_syncs highest (sync_end x) (put_op false x) s) (unfit u) (leader_syncs highest (sync_end x) (put_op false x) u)
          (refl, e) (syncs highest (sync_end x) (put_op false x) s u (refl, e))
  syncs-by None brought highest = lift c z (sync_by None brought highest) (λ s e. syncs highest (log_length s) Keep s (past_box c.depots z s) (refl, e))

  with-best : (brought : Bool) (s t : SequencePaxos) → Pair c z s t → Pair c z (sync_with_best brought s) (sync_with_best brought t)
  unfolding sync_with_best
  with-best brought =
      lift c z (sync_with_best brought)
      (λ s e.
      let u = past_box c.depots z s in
      let x = s.leader_state.max_promise.sync in
      subst (λ (n : ℕ). Pair c z (sync_by x brought (max_decided s.config.depots s.leader_state) s) (sync_by x brought n u)) (sym (most-alike s.config.depots s.leader_state (counted s e)))
      (syncs-by x brought (max_decided s.config.depots s.leader_state) s u (refl, e)))

  joins : (s t : SequencePaxos) → Pair c z s t → Pair c z (append_buffered s) (append_buffered t)
  unfolding append_buffered
  joins = lift c z append_buffered (λ s e. (refl, e))

  majority : (brought : Bool) (s t : SequencePaxos) → Pair c z s t → Pair c z (handle_majority_promises brought s) (handle_majority_promises brought t)
  unfolding handle_majority_promises
  majority brought s t p =
      let lead = with_state (record { role = Leader; phase = phase.Accept }) in
      let a = with-best brought s t p in
      let b = lift c z sync_taken (λ s e. (refl, e)) (sync_with_best brought s) (sync_with_best brought t) a in
      let d = joins (sync_taken (sync_with_best brought s)) (sync_taken (sync_with_best brought t)) b in
      let f = append_buffered (sync_taken (sync_with_best brought s)) in
      let g = append_buffered (sync_taken (sync_with_best brought t)) in
      let h = lift c z lead (λ s e. (refl, e)) f g d in
      to-followers each.AcceptSync (own_accepted (lead f)) (own_accepted (lead g)) (own-accepted (lead f) (lead g) h)

  -- a Promise
  keeps_sync : (b : Bool) (x : Option LogSync) (s t : SequencePaxos) → Pair c z s t → Pair c z (keep_sync b x s) (keep_sync b x t)
  keeps_sync true x = lift c z (keep_sync true x) (λ s e. (refl, e))
  keeps_sync false x = λ s t p. p

  prepared : (m : PromiseMetaData) (x : Option LogSync) → Depot c m.pid → (s t : SequencePaxos) → Pair c z s t → Pair c z (handle_promise_prepare m x s) (handle_promise_prepare m x t)
  unfolding handle_promise_prepare
  prepared m x d =
      lift c z (handle_promise_prepare m x)
      (λ s e.
      let u = past_box c.depots z s in
      let b = beats_best m s.leader_state in
      let k = keeps m x true d s u (refl, e) in
      choose c z (reached m x true s) (reached m x true u) (reached-alike m x true s e d)
      (handle_majority_promises b (keep_promise m x true s)) (keep_sync b x (keep_promise m x true s))
      (handle_majority_promises b (keep_promise m x true u)) (keep_sync b x (keep_promise m x true u))
      (majority b (keep_promise m x true s) (keep_promise m x true u) k)
      (keeps_sync b x (keep_promise m x true s) (keep_promise m x true u) k))

  late : (m : PromiseMetaData) → Depot c m.pid → (s t : SequencePaxos) → Pair c z s t → Pair c z (handle_promise_accept m s) (handle_promise_accept m t)
  unfolding handle_promise_accept
  late m d s t p = sync-to c z m.pid d (keep_promise m None false s) (keep_promise m None false t) (keeps m None false d s t p)

  pub promises : (n : Ballot) (m : PromiseMetaData) (x : Option LogSync) → Depot c m.pid → (s t : SequencePaxos) → Pair c z s t → Pair c z (handle_promise n m x s) (handle_promise n m x t)
  unfolding handle_promise
  promises n m x d =
      lift c z (handle_promise n m x)
      (λ s e.
      let u = past_box c.depots z s in
      let at = standing_of s.state.role s.state.phase in
      choose c z (same n s.leader_state.n_leader) _ refl (promise_in at m x s) s (promise_in at m x u) u (by at s e) (refl, e))
    where
      by : (p : Standing) (s : SequencePaxos) → s.config ≡ c → Pair c z (promise_in p m x s) (promise_in p m x (past_box c.depots z s))
      by LeaderPrepare s e =
          let u = past_box c.depots z s in
          choose c z (brings_past x) _ refl (unfit s) (handle_promise_prepare m x s) (unfit u) (handle_promise_prepare m x u) (refl, e) (prepared m x d s u (refl, e))
      by LeaderAccept s e =
          let u = past_box c.depots z s in
          choose c z (brings_past x) _ refl (unfit s) (handle_promise_accept m s) (unfit u) (handle_promise_accept m u) (refl, e) (late m d s u (refl, e))
      by FollowerPrepare s e = (refl, e)
      by FollowerAccept s e = (refl, e)
      by Other s e = (refl, e)

  -- Accepted
  chosen-alike : (idx n : ℕ) (l : LeaderState) → n ≡ c.depots → accepted_at idx n (past_in c.depots z l) ≡ accepted_at idx n l
  chosen-alike idx n l h = rw h (counts-alike c.depots (past_in c.depots z l) l (leaders-alike c z l) idx).0

  newly-alike : (idx : ℕ) (s : SequencePaxos) → s.config ≡ c → newly_chosen idx (past_box c.depots z s) ≡ newly_chosen idx s
  unfolding newly_chosen
  newly-alike idx s e =
      ap (λ (n : ℕ). cond (ltb s.internal_storage.decided_idx idx) (reaches_write s.config.quorum n) false)
      (chosen-alike idx s.config.depots s.leader_state (counted s e))

  decides : (idx : ℕ) (s t : SequencePaxos) → Pair c z s t → Pair c z (decide_if_chosen idx s) (decide_if_chosen idx t)
  unfolding decide_if_chosen
  decides idx =
      lift c z (decide_if_chosen idx)
      (λ s e.
      let u = past_box c.depots z s in
      choose c z (newly_chosen idx s) (newly_chosen idx u) (newly-alike idx s e) (for_followers each.Decide (set_decided idx s)) s (for_followers each.Decide (set_decided idx u)) u
      (to-followers each.Decide (set_decided idx s) (set_decided idx u) (refl, e))
      (refl, e))

  accepted-taken : (idx from : ℕ) → Depot c from → (s t : SequencePaxos) → Pair c z s t → Pair c z (accepted_taken idx from s) (accepted_taken idx from t)
  unfolding accepted_taken
  accepted-taken idx from d =
      lift c z (accepted_taken idx from)
      (λ s e.
      let u = past_box c.depots z s in
      choose c z (ltb (log_length s) idx) _ refl (unfit s) (decide_if_chosen idx (set_accepted_of from idx s)) (unfit u) (decide_if_chosen idx (set_accepted_of from idx u))
      (refl, e)
      (decides idx (set_accepted_of from idx s) (set_accepted_of from idx u) (on-depot c z from (set_accepted idx) d s u (refl, e))))

  pub accepted : (n : Ballot) (idx from : ℕ) → Depot c from → (s t : SequencePaxos) → Pair c z s t → Pair c z (handle_accepted n idx from s) (handle_accepted n idx from t)
  unfolding handle_accepted
  accepted n idx from d =
      lift c z (handle_accepted n idx from)
      (λ s e.
      let u = past_box c.depots z s in
      let at = standing_of s.state.role s.state.phase in
      choose c z (same n s.leader_state.n_leader) _ refl (accepted_in at idx from s) s (accepted_in at idx from u) u (by at s e) (refl, e))
    where
      by : (p : Standing) (s : SequencePaxos) → s.config ≡ c → Pair c z (accepted_in p idx from s) (accepted_in p idx from (past_box c.depots z s))
      by LeaderAccept s e = accepted-taken idx from d s (past_box c.depots z s) (refl, e)
      by LeaderPrepare s e = (refl, e)
      by FollowerPrepare s e = (refl, e)
      by FollowerAccept s e = (refl, e)
      by Other s e = (refl, e)

  -- NotAccepted, and a resend
  pub not-accepted : (n : Ballot) (from : ℕ) → Depot c from → (s t : SequencePaxos) → Pair c z s t → Pair c z (handle_not_accepted n from s) (handle_not_accepted n from t)
  unfolding handle_not_accepted
  not-accepted n from d =
      lift c z (handle_not_accepted n from)
      (λ s e.
      let u = past_box c.depots z s in
      let h = above n s.leader_state.n_leader in
      choose c z (is_leader s.state.role) _ refl (cond h (lost_promise from s) s) s (cond h (lost_promise from u) u) u
      (choose c z h _ refl (lost_promise from s) s (lost_promise from u) u (on-depot c z from (set_promise_state PromisedHigher) d s u (refl, e)) (refl, e))
      (refl, e))

  pub resends : (s t : SequencePaxos) → Pair c z s t → Pair c z (resend_messages_leader s) (resend_messages_leader t)
  unfolding resend_messages_leader
  resends = lift c z resend_messages_leader (λ s e. by s.state.phase s e)
    where
      by : (p : Phase) (s : SequencePaxos) → s.config ≡ c → Pair c z (resend_in p s) (resend_in p (past_box c.depots z s))
      by phase.Prepare s e = to-preparable each.Prepare s (past_box c.depots z s) (refl, e)
      by phase.Accept s e = to-preparable each.Prepare s (past_box c.depots z s) (refl, e)
      by phase.Recover s e = (refl, e)
      by phase.None s e = (refl, e)
