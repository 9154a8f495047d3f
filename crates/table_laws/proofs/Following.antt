-- The flags of each handler of a follower, in words.
use Rattle.std.specs.Prelude.{Option, None, Some}
use Prim.Native.Nat.{ℕ, ◌+◌, ◌<◌, ◌≤◌, min}
use mathlib.Core.Path.{◌≡◌, refl, ap, sym, ◌∙◌}
use mathlib.Core.Logic.{◌⊎◌, inl, inr, ◌↔◌}
use mathlib.Core.Bool.{Bool, true, false, cond, ◌&&◌}
use native.Mathlib.Omega.{arith}
use lib.Dec.{ltb, eqb}
use borrow.Author.Tests.{ltb-true, ltb-false, lt-ltb, le-ltb, eqb-true, eqb-false, eq-eqb}
use Rattle.base.proofs.Tests.{not-both}
use Rattle.base.specs.Limits.{max_log, largest}
use Rattle.ballot.specs.Ballot.{compare_of, above, same}
use Rattle.paxos_box.specs.declared.AcceptedAt.{AcceptedAt}
use Rattle.paxos_box.specs.declared.CachedPromise.{CachedPromise}
use Rattle.ballot.specs.declared.Ballot.{Ballot}
use Rattle.std.specs.declared.cmp.Ordering.{Ordering}
use Rattle.std.specs.declared.cmp.Ordering.TheVariants.{Less, Equal, Greater}
use Rattle.ballot.proofs.Laws.{same-eq, same_refl}
use Rattle.sequence.specs.Sequence.{status_of}
use Rattle.sequence.specs.declared.SequenceNumber.{SequenceNumber}
use Rattle.sequence.proofs.Laws.{same-outdated}
use Rattle.sequence.specs.declared.MessageStatus.{MessageStatus}
use Rattle.sequence.specs.declared.MessageStatus.TheVariants.{Expected, DroppedPreceding, Outdated}
use Rattle.leader_state.specs.declared.LogSync.{LogSync}
use Rattle.messages.specs.declared.Prepare.{Prepare}
use Rattle.messages.specs.declared.AcceptSync.{AcceptSync}
use Rattle.messages.specs.declared.AcceptDecide.{AcceptDecide}
use Rattle.messages.specs.declared.Decide.{Decide}
use Rattle.paxos_box.specs.declared.SequencePaxos.{SequencePaxos}
use Rattle.paxos_box.specs.declared.LogOp.TheVariants.{PutGiven}
use Rattle.paxos_box.specs.declared.Source.TheVariants.{Buffered}
use Rattle.paxos_box.specs.declared.Phase.{Phase}
use Rattle.paxos_box.specs.declared.Phase.TheVariants as phase
use Rattle.paxos_box.specs.declared.Standing.{Standing}
use Rattle.paxos_box.specs.declared.Standing.TheVariants.{LeaderPrepare, LeaderAccept, FollowerPrepare, FollowerAccept, Other}
use Rattle.paxos_box.specs.Box.{unfit, at_top, next_place, set_decided, set_buffered, set_cached, set_meta, set_seq, is_recover, is_accept_phase}
use Rattle.sends.specs.Sends.{log_length, sync_fits, send_prepare_req, peers_of}
use Rattle.log_plan.specs.Log.{sync_end, ends_past, put_unfit, sync_unfit, sync_log, append_given, has_leader, push_forward, forward_buffered}
use Rattle.reconnect.specs.Reconnect.{recovering, left_leader, reconnected_of}
use Rattle.accepting.specs.Accepting.{not_accepted, by_ballot, if_valid_ballot, send_accepted, given_sync, acceptsync_put, following, acceptsync_taken, acceptsync_in, handle_acceptsync, counter_at_top, by_status, if_expected, latest_accepted, reply_by, reply_accepted, update_decided, acceptdecide_taken, acceptdecide_fit, acceptdecide_in, handle_acceptdecide, decide_taken, decide_expected, decide_in_accept, handle_decide}
use Rattle.follower.specs.Follower.{log_from, promised_sync, build_fits, cache_promise, tell_promise, promise_to, prepare_taken, handle_prepare, resend_cached, resend_in, resend_messages_follower}
use Rattle.decide_laws.proofs.Grown.{either}
use Rattle.decide_laws.proofs.Log.{put-fits}
use Rattle.table_laws.specs.Words.{standing, decided_index, PrepareTaken, AcceptSyncTaken, AcceptDecideCompared, DecideCompared, OwnAtTop, AcceptDecideTaken, PutUnfit, ends-past, starts-past, changes-decided, ends-below-decided, ends-below-brought, PrepareUnfit, AcceptSyncUnfit, AcceptDecideUnfit}
use Rattle.table_laws.proofs.Flagged.{apart, both_true, first-true, second-true, Unflagged, clear-push, clear-requests, Says, says_none, says-unfit, says-top, says-push}

-- reconnected(pid)
pub clear-reconnected : (pid : ℕ) (s : SequencePaxos) → Unflagged s → Unflagged (reconnected_of pid s)
unfolding reconnected_of left_leader send_prepare_req
clear-reconnected pid s c =
    either Unflagged (eqb pid s.config.pid) s (send_prepare_req pid (left_leader pid s))
    (λ e. c)
    (λ e. clear-push _ (left_leader pid s) (either Unflagged (eqb pid s.internal_storage.promise.pid) (recovering s) s (λ f. c) (λ f. c)))

-- Prepare

-- the sync that a Promise would bring starts past a log's end
start_past : Option LogSync → ℕ → Bool
start_past (Some x) len = ltb len x.sync_idx
start_past None len = false

-- only the branch that builds from the leader's decided index can
promised-past : (m : Prepare) (s : SequencePaxos) → start_past (promised_sync m s) (log_length s) ≡ (above s.internal_storage.accepted_round m.n_accepted && ltb (log_length s) m.decided_idx)
unfolding promised_sync start_past
promised-past m s = go (above s.internal_storage.accepted_round m.n_accepted) (same s.internal_storage.accepted_round m.n_accepted) (ltb m.accepted_idx (log_length s)) refl
  where
    go : (a b c : Bool) → ltb m.accepted_idx (log_length s) ≡ c → start_past (cond a (log_from m.decided_idx s) (cond b (cond c (log_from m.accepted_idx s) None) None)) (log_length s) ≡ (a && ltb (log_length s) m.decided_idx)
    go true b c e = refl
    go false true true e = le-ltb (log_length s) m.accepted_idx (omega (arith, ltb-true m.accepted_idx (log_length s) e))
    go false true false e = refl
    go false false c e = refl

-- what is told raises the flag where that sync is built from past the log's end
raised-build : (x : Option LogSync) (s : SequencePaxos) → s.plan.unfit ≡ false → (build_fits x s).plan.unfit ≡ start_past x (log_length s)
unfolding sync_fits start_past
raised-build (Some x) s e = go (ltb (log_length s) x.sync_idx)
  where
    go : (b : Bool) → (cond b (unfit s) s).plan.unfit ≡ b
    go true = refl
    go false = e
raised-build None s e = e

below-build : (x : Option LogSync) (s : SequencePaxos) → s.plan.top ≡ false → (build_fits x s).plan.top ≡ false
unfolding sync_fits
below-build (Some x) s e = either (λ (r : SequencePaxos). r.plan.top ≡ false) (ltb (log_length s) x.sync_idx) (unfit s) s (λ f. e) (λ f. e)
below-build None s e = e

tell-says : (U : Type 0) (from : ℕ) (x : Option LogSync) (s : SequencePaxos) → Unflagged s → (start_past x (log_length s) ≡ true) ↔ U → Says U ⊥ (tell_promise from x s)
unfolding tell_promise cache_promise
tell-says U from x s c h = says-push U ⊥ _ (cache_promise x (build_fits x s)) (record { unfit = (λ e. h.0 (sym (raised-build x s c.fit) ∙ e), λ u. raised-build x s c.fit ∙ h.1 u); top = λ k. ((λ e. not-both {b = (build_fits x s).plan.top} e (below-build x s c.below)), λ b. absurd b) })

module _ (m : Prepare) (from : ℕ) (s : SequencePaxos) (c : Unflagged s) where
  prepare-taken : PrepareTaken m s → Says (PrepareUnfit m s) ⊥ (prepare_taken m from s)
  unfolding prepare_taken promise_to
  prepare-taken t = tell-says (PrepareUnfit m s) from (promised_sync m s) (promise_to m.n s) c (there, back)
    where
      round : Bool
      round = above s.internal_storage.accepted_round m.n_accepted

      past : Bool
      past = ltb (log_length s) m.decided_idx

      there : start_past (promised_sync m s) (log_length s) ≡ true → PrepareUnfit m s
      there e =
          let f : (round && past) ≡ true = sym (promised-past m s) ∙ e in
          (t, first-true round past f, ltb-true (log_length s) m.decided_idx (second-true round past f))

      back : PrepareUnfit m s → start_past (promised_sync m s) (log_length s) ≡ true
      back u = promised-past m s ∙ both_true round past u.1 (lt-ltb (log_length s) m.decided_idx u.2)

  not_taken : (PrepareTaken m s → ⊥) → Says (PrepareUnfit m s) ⊥ s
  not_taken h = says_none (PrepareUnfit m s) ⊥ s c (λ u. h u.0) (λ b. b)

  pub says-prepare : Says (PrepareUnfit m s) ⊥ (handle_prepare m from s)
  unfolding handle_prepare
  says-prepare =
      either (Says (PrepareUnfit m s) ⊥) (above m.n p) (prepare_taken m from s) _
      (λ e. prepare-taken (inl e))
      (λ e. either (Says (PrepareUnfit m s) ⊥) (same m.n p) _ s
      (λ f. either (Says (PrepareUnfit m s) ⊥) (is_recover s.state.phase) (prepare_taken m from s) s
      (λ g. prepare-taken (inr (same-eq m.n p f, in-recover s.state.phase g)))
      (λ g. not_taken (λ t. elsewhere e (inr g) t)))
      (λ f. not_taken (λ t. elsewhere e (inl f) t)))
    where
      p : Ballot
      p = s.internal_storage.promise

      in-recover : (q : Phase) → is_recover q ≡ true → q ≡ phase.Recover
      in-recover phase.Recover g = refl
      in-recover phase.Prepare g = absurd (not-both {b = false} g refl)
      in-recover phase.Accept g = absurd (not-both {b = false} g refl)
      in-recover phase.None g = absurd (not-both {b = false} g refl)

      elsewhere : above m.n p ≡ false → (same m.n p ≡ false) ⊎ (is_recover s.state.phase ≡ false) → PrepareTaken m s → ⊥
      elsewhere e f (inl t) = not-both {b = above m.n p} t e
      elsewhere e (inl f) (inr t) = not-both {b = same m.n p} (rw t.0 (same_refl p)) f
      elsewhere e (inr f) (inr t) = not-both {b = is_recover s.state.phase} (ap is_recover t.1) f

-- an unequal ballot gets NotAccepted or `reconnected`
says-by-ballot : (U T : Type 0) (n : Ballot) (taken s : SequencePaxos) → Unflagged s → (U → n ≡ s.internal_storage.promise) → (T → n ≡ s.internal_storage.promise) → (n ≡ s.internal_storage.promise → Says U T taken) → Says U T (if_valid_ballot n taken s)
unfolding same
says-by-ballot U T n taken s c f g h = by (compare_of s.internal_storage.promise n) refl
  where
    p : Ballot
    p = s.internal_storage.promise

    unequal : n ≡ p → same p n ≡ false → ⊥
    unequal e k = not-both {b = same p n} (rw e (same_refl p)) k

    by : (o : Ordering) → compare_of p n ≡ o → Says U T (by_ballot o n taken s)
    by Equal e = h (sym (same-eq p n (rw e)))
    by Greater e = says_none U T (not_accepted n s) (clear-push _ s c) (λ u. unequal (f u) (rw e)) (λ t. unequal (g t) (rw e))
    by Less e = says_none U T (reconnected_of n.pid s) (clear-reconnected n.pid s c) (λ u. unequal (f u) (rw e)) (λ t. unequal (g t) (rw e))

-- AcceptSync

module _ (x : LogSync) (change brings : ℕ) (s : SequencePaxos) where
  put-unfit : sync_unfit x change brings s ≡ true → PutUnfit x change brings (log_length s) (decided_index s)
  unfolding sync_unfit put_unfit ends_past
  put-unfit e = go (ltb max_log (sync_end x)) (ltb len x.sync_idx) (ltb change decided) (ltb (sync_end x) decided) refl refl refl refl e
    where
      len : ℕ
      len = s.internal_storage.accepted_idx

      decided : ℕ
      decided = s.internal_storage.decided_idx

      go : (a b d f : Bool) → ltb max_log (sync_end x) ≡ a → ltb len x.sync_idx ≡ b → ltb change decided ≡ d → ltb (sync_end x) decided ≡ f → cond a true (cond b true (cond d true (cond f true (ltb (sync_end x) brings)))) ≡ true → PutUnfit x change brings (log_length s) (decided_index s)
      go true b d f p q r t k = ends-past (ltb-true _ _ p)
      go false true d f p q r t k = starts-past (ltb-true _ _ q)
      go false false true f p q r t k = changes-decided (ltb-true _ _ r)
      go false false false true p q r t k = ends-below-decided (ltb-true _ _ t)
      go false false false false p q r t k = ends-below-brought (ltb-true _ _ k)

  unfit-put : PutUnfit x change brings (log_length s) (decided_index s) → sync_unfit x change brings s ≡ true
  unfit-put u = go (sync_unfit x change brings s) refl
    where
      clash : PutUnfit x change brings (log_length s) (decided_index s) → sync_unfit x change brings s ≡ false → ⊥
      clash (ends-past h) e = let f = put-fits x change brings s e in omega (arith, f.within)
      clash (starts-past h) e = let f = put-fits x change brings s e in omega (arith, f.starts)
      clash (changes-decided h) e = let f = put-fits x change brings s e in omega (arith, f.changes)
      clash (ends-below-decided h) e = let f = put-fits x change brings s e in omega (arith, f.own)
      clash (ends-below-brought h) e = let f = put-fits x change brings s e in omega (arith, f.brought)

      go : (b : Bool) → sync_unfit x change brings s ≡ b → b ≡ true
      go true e = refl
      go false e = absurd (clash u e)

  pub put-exactly : (sync_unfit x change brings s ≡ true) ↔ PutUnfit x change brings (log_length s) (decided_index s)
  put-exactly = (put-unfit, unfit-put)

clear-forward : (s : SequencePaxos) → Unflagged s → Unflagged (forward_buffered s)
unfolding forward_buffered
clear-forward s c =
    either Unflagged (eqb s.buffered_proposals 0) s (cond (has_leader s) (push_forward Buffered s.buffered_proposals (set_buffered 0 s)) s)
    (λ e. c)
    (λ e. either Unflagged (has_leader s) (push_forward Buffered s.buffered_proposals (set_buffered 0 s)) s (λ f. clear-push _ (set_buffered 0 s) c) (λ f. c))

clear-accepted : (n : Ballot) (idx to : ℕ) (s : SequencePaxos) → Unflagged s → Unflagged (send_accepted n idx to s)
unfolding send_accepted
clear-accepted n idx to s c = clear-push _ (set_meta (Some (record { n = n; at = next_place s })) s) c

clear-put : (m : AcceptSync) (count : ℕ) (s : SequencePaxos) → Unflagged s → Unflagged (acceptsync_put m count s)
unfolding acceptsync_put sync_log
clear-put m count s c = clear-forward (sync_log m.n m.decided_idx (sync_end (given_sync m count)) (PutGiven (given_sync m count)) (set_cached None s)) c

clear-following : (q : SequenceNumber) (s : SequencePaxos) → Unflagged s → Unflagged (following q s)
unfolding following
clear-following q s c = c

module _ (m : AcceptSync) (count from : ℕ) (s : SequencePaxos) (c : Unflagged s) where
  acceptsync-taken : AcceptSyncTaken m s → Says (AcceptSyncUnfit m count s) ⊥ (acceptsync_taken m count from s)
  unfolding acceptsync_taken
  acceptsync-taken t =
      let x = given_sync m count in
      let change = s.plan.sight.brought_change in
      let p = acceptsync_put m count s in
      let r = send_accepted m.n (sync_end x) from (following m.seq_num p) in
      let clear = clear-accepted m.n (sync_end x) from (following m.seq_num p) (clear-following m.seq_num p (clear-put m count s c)) in
      either (Says (AcceptSyncUnfit m count s) ⊥) (sync_unfit x change m.decided_idx s) (unfit s) r
      (λ e. says-unfit (AcceptSyncUnfit m count s) ⊥ (unfit s) refl (t, (put-exactly x change m.decided_idx s).0 e))
      (λ e. says_none (AcceptSyncUnfit m count s) ⊥ r clear (λ u. not-both {b = sync_unfit x change m.decided_idx s} ((put-exactly x change m.decided_idx s).1 u.1) e) (λ b. b))

  pub says-acceptsync : Says (AcceptSyncUnfit m count s) ⊥ (handle_acceptsync m count from s)
  unfolding handle_acceptsync
  says-acceptsync =
      says-by-ballot (AcceptSyncUnfit m count s) ⊥ m.n (acceptsync_in (standing s) m count from s) s c (λ u. u.0.0) (λ b. absurd b)
      (λ n. by n (standing s) refl)
    where
      other : (t : Standing) → standing s ≡ t → (t ≡ FollowerPrepare → ⊥) → Says (AcceptSyncUnfit m count s) ⊥ s
      other t e h = says_none (AcceptSyncUnfit m count s) ⊥ s c (λ u. h (sym e ∙ u.0.1)) (λ b. b)

      by : m.n ≡ s.internal_storage.promise → (t : Standing) → standing s ≡ t → Says (AcceptSyncUnfit m count s) ⊥ (acceptsync_in t m count from s)
      by n FollowerPrepare e = acceptsync-taken (n, e)
      by n FollowerAccept e = other FollowerAccept e (λ k. apart k (omega arith))
      by n LeaderPrepare e = other LeaderPrepare e (λ k. apart k (omega arith))
      by n LeaderAccept e = other LeaderAccept e (λ k. apart k (omega arith))
      by n Other e = other Other e (λ k. apart k (omega arith))

-- AcceptDecide and Decide

own-top : (q : SequenceNumber) (s : SequencePaxos) → (counter_at_top q s ≡ true) ↔ OwnAtTop q s
unfolding counter_at_top
own-top q s = (there (eqb q.session s.current_seq_num.session) refl, λ o. rw (eq-eqb q.session s.current_seq_num.session o.0) (eq-eqb s.current_seq_num.counter largest o.1))
  where
    there : (b : Bool) → eqb q.session s.current_seq_num.session ≡ b → cond b (eqb s.current_seq_num.counter largest) false ≡ true → OwnAtTop q s
    there true p e = (eqb-true _ _ p, eqb-true _ _ e)
    there false p e = absurd (not-both {b = false} e refl)

-- with the own counter at the top no counter of 64 bits is one higher
pub none-higher : (q : SequenceNumber) (s : SequencePaxos) → q.counter ≤ largest → OwnAtTop q s → status_of s.current_seq_num q ≡ Expected → ⊥
none-higher q s h o e = unexpected (same-outdated s.current_seq_num q o.0 (omega (arith, o.1)) ∙ e)
  where
    unexpected : Outdated ≡ Expected → ⊥
    unexpected k = absurd (let w : ◌≡◌ {A = ℕ} 0 1 = cc in omega arith)

clear-update : (idx : ℕ) (s : SequencePaxos) → Unflagged s → Unflagged (update_decided idx s)
unfolding update_decided
clear-update idx s c = either Unflagged (ltb s.internal_storage.decided_idx idx) (set_decided (min idx (log_length s)) s) s (λ e. c) (λ e. c)

clear-reply : (n : Ballot) (idx : ℕ) (s : SequencePaxos) → Unflagged s → Unflagged (reply_accepted n idx s)
unfolding reply_accepted
clear-reply n idx s c = by (latest_accepted n s)
  where
    by : (x : Option AcceptedAt) → Unflagged (reply_by x n idx s)
    by (Some x) = clear-push _ s c
    by None = clear-accepted n idx n.pid s c

clear-append : (n : Ballot) (decided count : ℕ) (s : SequencePaxos) → Unflagged s → Unflagged (acceptdecide_taken n decided count s)
unfolding acceptdecide_taken append_given
clear-append n decided count s c = clear-reply n (log_length s + count) (update_decided decided (append_given count s)) (clear-update decided (append_given count s) c)

clear-decide : (n : Ballot) (decided : ℕ) (s : SequencePaxos) → Unflagged s → Unflagged (decide_taken n decided s)
unfolding decide_taken
clear-decide n decided s c =
    let t = update_decided decided s in
    let d = clear-update decided s c in
    either Unflagged (ltb (log_length s) decided) (reply_accepted n (log_length s) t) t (λ e. clear-reply n (log_length s) t d) (λ e. d)

-- the own counter at the top is 7; a number that is not Expected gets `reconnected` or nothing
says-by-number : (U T : Type 0) (q : SequenceNumber) (pid : ℕ) (taken s : SequencePaxos) → Unflagged s → (U → (OwnAtTop q s → ⊥) × (status_of s.current_seq_num q ≡ Expected)) → T ↔ OwnAtTop q s → ((OwnAtTop q s → ⊥) → status_of s.current_seq_num q ≡ Expected → Says U T taken) → Says U T (if_expected q pid taken s)
says-by-number U T q pid taken s c f g h =
    either (Says U T) (counter_at_top q s) (at_top s) (by_status (status_of s.current_seq_num q) pid taken s)
    (λ e. let o = (own-top q s).0 e in says-top U T (at_top s) c.fit refl (λ u. (f u).0 o) (g.1 o))
    (λ e. by (λ o. not-both {b = counter_at_top q s} ((own-top q s).1 o) e) (status_of s.current_seq_num q) refl)
  where
    by : (OwnAtTop q s → ⊥) → (t : MessageStatus) → status_of s.current_seq_num q ≡ t → Says U T (by_status t pid taken s)
    by o Expected e = h o e
    by o DroppedPreceding e = says_none U T (reconnected_of pid s) (clear-reconnected pid s c) (λ u. unexpected (sym e ∙ (f u).1)) (λ t. o (g.0 t))
      where
        unexpected : DroppedPreceding ≡ Expected → ⊥
        unexpected k = absurd (let w : ◌≡◌ {A = ℕ} 0 1 = cc in omega arith)
    by o Outdated e = says_none U T s c (λ u. unexpected (sym e ∙ (f u).1)) (λ t. o (g.0 t))
      where
        unexpected : Outdated ≡ Expected → ⊥
        unexpected k = absurd (let w : ◌≡◌ {A = ℕ} 0 1 = cc in omega arith)

module _ (m : AcceptDecide) (count : ℕ) (s : SequencePaxos) (c : Unflagged s) where
  abbrev AcceptDecideTop : Type 0
  AcceptDecideTop = AcceptDecideCompared m s × OwnAtTop m.seq_num s

  acceptdecide-fit : AcceptDecideTaken m s → Says (AcceptDecideUnfit m count s) AcceptDecideTop (acceptdecide_fit m.n m.seq_num m.decided_idx count s)
  unfolding acceptdecide_fit
  acceptdecide-fit t =
      let U = AcceptDecideUnfit m count s in
      let r = acceptdecide_taken m.n m.decided_idx count (set_seq m.seq_num s) in
      either (Says U AcceptDecideTop) (eqb count 0) (unfit s) _
      (λ e. says-unfit U AcceptDecideTop (unfit s) refl (t, inl (eqb-true count 0 e)))
      (λ e. either (Says U AcceptDecideTop) (ltb max_log (log_length s + count)) (unfit s) r
      (λ f. says-unfit U AcceptDecideTop (unfit s) refl (t, inr (ltb-true max_log (log_length s + count) f)))
      (λ f. says_none U AcceptDecideTop r (clear-append m.n m.decided_idx count (set_seq m.seq_num s) c) (λ u. fits e f u.1) (λ o. t.1 o.1)))
    where
      fits : eqb count 0 ≡ false → ltb max_log (log_length s + count) ≡ false → (count ≡ 0) ⊎ (max_log < log_length s + count) → ⊥
      fits e f (inl k) = eqb-false count 0 e k
      fits e f (inr k) = let w = ltb-false max_log (log_length s + count) f in omega arith

  pub says-acceptdecide : Says (AcceptDecideUnfit m count s) AcceptDecideTop (handle_acceptdecide m.n m.seq_num m.decided_idx count s)
  unfolding handle_acceptdecide
  says-acceptdecide =
      says-by-ballot (AcceptDecideUnfit m count s) AcceptDecideTop m.n (acceptdecide_in (standing s) m.n m.seq_num m.decided_idx count s) s c (λ u. u.0.0.0) (λ t. t.0.0)
      (λ n. by n (standing s) refl)
    where
      other : (t : Standing) → standing s ≡ t → (t ≡ FollowerAccept → ⊥) → Says (AcceptDecideUnfit m count s) AcceptDecideTop s
      other t e h = says_none (AcceptDecideUnfit m count s) AcceptDecideTop s c (λ u. h (sym e ∙ u.0.0.1)) (λ o. h (sym e ∙ o.0.1))

      by : m.n ≡ s.internal_storage.promise → (t : Standing) → standing s ≡ t → Says (AcceptDecideUnfit m count s) AcceptDecideTop (acceptdecide_in t m.n m.seq_num m.decided_idx count s)
      by n FollowerAccept e =
          says-by-number (AcceptDecideUnfit m count s) AcceptDecideTop m.seq_num m.n.pid (acceptdecide_fit m.n m.seq_num m.decided_idx count s) s c
          (λ u. (u.0.1, u.0.2))
          ((λ t. t.1), (λ o. ((n, e), o)))
          (λ o x. acceptdecide-fit ((n, e), o, x))
      by n FollowerPrepare e = other FollowerPrepare e (λ k. apart k (omega arith))
      by n LeaderPrepare e = other LeaderPrepare e (λ k. apart k (omega arith))
      by n LeaderAccept e = other LeaderAccept e (λ k. apart k (omega arith))
      by n Other e = other Other e (λ k. apart k (omega arith))

module _ (m : Decide) (s : SequencePaxos) (c : Unflagged s) where
  abbrev DecideTop : Type 0
  DecideTop = DecideCompared m s × OwnAtTop m.seq_num s

  pub says-decide : Says ⊥ DecideTop (handle_decide m.n m.seq_num m.decided_idx s)
  unfolding handle_decide
  says-decide =
      says-by-ballot ⊥ DecideTop m.n (decide_in_accept m.n m.seq_num m.decided_idx s) s c (λ b. absurd b) (λ t. t.0.0)
      (λ n. either (Says ⊥ DecideTop) (is_accept_phase s.state.phase) (decide_expected m.n m.seq_num m.decided_idx s) s
      (λ e. says-by-number ⊥ DecideTop m.seq_num m.n.pid (decide_taken m.n m.decided_idx (set_seq m.seq_num s)) s c
      (λ b. absurd b)
      ((λ t. t.1), (λ o. ((n, in-accept s.state.phase e), o)))
      (λ o x. says_none ⊥ DecideTop (decide_taken m.n m.decided_idx (set_seq m.seq_num s)) (clear-decide m.n m.decided_idx (set_seq m.seq_num s) c) (λ b. b) (λ t. o t.1)))
      (λ e. says_none ⊥ DecideTop s c (λ b. b) (λ t. not-both {b = is_accept_phase s.state.phase} (ap is_accept_phase t.0.1) e)))
    where
      in-accept : (q : Phase) → is_accept_phase q ≡ true → q ≡ phase.Accept
      in-accept phase.Accept g = refl
      in-accept phase.Prepare g = absurd (not-both {b = false} g refl)
      in-accept phase.Recover g = absurd (not-both {b = false} g refl)
      in-accept phase.None g = absurd (not-both {b = false} g refl)

-- a Follower's resend
pub clear-resend-follower : (s : SequencePaxos) → Unflagged s → Unflagged (resend_messages_follower s)
unfolding resend_messages_follower
clear-resend-follower s c = by s.state.phase
  where
    from-cache : (x : Option CachedPromise) → Unflagged (resend_cached x s)
    from-cache (Some p) = clear-push _ s c
    from-cache None = clear-requests (peers_of s.config) (recovering s) c

    by : (p : Phase) → Unflagged (resend_in p s)
    by phase.Prepare = from-cache s.cached_promise_message
    by phase.Recover = clear-requests (peers_of s.config) s c
    by phase.Accept = c
    by phase.None = c
