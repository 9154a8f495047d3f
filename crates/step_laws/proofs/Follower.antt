-- A closed fact along each handler of a follower.
use Rattle.std.specs.Prelude.{Option, None, Some}
use Prim.Native.Nat.{ℕ, ◌+◌, ◌≤◌, min}
use mathlib.Core.Path.{◌≡◌, refl}
use mathlib.Core.Bool.{false, cond}
use mathlib.Core.List.{List}
use native.Mathlib.Omega.{arith}
use lib.Dec.{ltb, eqb}
use lib.ListN.{length}
use borrow.Author.Tests.{ltb-true}
use Rattle.base.specs.Limits.{max_log}
use Rattle.ballot.specs.Ballot.{compare_of, above, same}
use Rattle.paxos_box.specs.declared.AcceptedAt.{AcceptedAt}
use Rattle.paxos_box.specs.declared.CachedPromise.{CachedPromise}
use Rattle.leader_state.specs.declared.LogSync.{LogSync}
use Rattle.ballot.specs.declared.Ballot.{Ballot}
use Rattle.std.specs.declared.cmp.Ordering.{Ordering}
use Rattle.std.specs.declared.cmp.Ordering.TheVariants.{Less, Equal, Greater}
use Rattle.sequence.specs.Sequence.{first, status_of}
use Rattle.sequence.specs.declared.SequenceNumber.{SequenceNumber}
use Rattle.sequence.specs.declared.MessageStatus.{MessageStatus}
use Rattle.sequence.specs.declared.MessageStatus.TheVariants.{Expected, DroppedPreceding, Outdated}
use Rattle.quorum.specs.declared.Configuration.{Configuration}
use Rattle.messages.specs.declared.Event.{Event}
use Rattle.messages.specs.declared.Prepare.{Prepare}
use Rattle.messages.specs.declared.AcceptSync.{AcceptSync}
use Rattle.paxos_box.specs.declared.SequencePaxos.{SequencePaxos}
use Rattle.paxos_box.specs.declared.LogOp.TheVariants.{PutGiven}
use Rattle.paxos_box.specs.declared.Role.TheVariants as role
use Rattle.paxos_box.specs.declared.Phase.{Phase}
use Rattle.paxos_box.specs.declared.Phase.TheVariants as phase
use Rattle.paxos_box.specs.declared.Source.TheVariants.{Buffered}
use Rattle.paxos_box.specs.declared.Standing.{Standing}
use Rattle.paxos_box.specs.declared.Standing.TheVariants.{LeaderPrepare, LeaderAccept, FollowerPrepare, FollowerAccept, Other}
use Rattle.paxos_box.specs.Box.{unfit, at_top, with_state, set_promised, set_decided, set_cached, set_seq, set_buffered, is_recover, is_accept_phase, standing_of}
use Rattle.sends.specs.declared.Each.TheVariants as each
use Rattle.sends.specs.Sends.{log_length, sync_fits, send_prepare_req, peers_of}
use Rattle.log_plan.specs.Log.{sync_end, sync_unfit, sync_log, append_given, has_leader, push_forward, forward_buffered}
use Rattle.reconnect.specs.Reconnect.{recovering, left_leader, reconnected_of}
use Rattle.accepting.specs.Accepting.{by_ballot, if_valid_ballot, send_accepted, given_sync, acceptsync_put, following, acceptsync_taken, acceptsync_in, handle_acceptsync, counter_at_top, by_status, if_expected, latest_accepted, reply_by, reply_accepted, update_decided, acceptdecide_taken, acceptdecide_fit, acceptdecide_in, handle_acceptdecide, decide_taken, decide_expected, handle_decide}
use Rattle.follower.specs.Follower.{log_from, promised_sync, log_source, build_fits, promise_of, send_promise, cache_promise, tell_promise, promise_to, prepare_taken, handle_prepare, resend_cached, resend_in, resend_messages_follower}
use Rattle.refusals.proofs.Taken.{Real, Fit, Reports}
use Rattle.decide_laws.proofs.Grown.{either}
use Rattle.step_laws.proofs.Moves.{Unwritten, Brought, Tells, Closed, Found}
use Rattle.step_laws.proofs.Sends.{along-marked}
use Rattle.decide_laws.proofs.Log.{put-fits}

-- the sync that a Promise tells is a part of the log
tells : (prep : Prepare) (s : SequencePaxos) → prep.decided_idx ≤ max_log → prep.accepted_idx ≤ max_log → Tells (log_length s) (promised_sync prep s)
unfolding promised_sync
tells prep s d a =
    let P = Tells (log_length s) in
    either P (above s.internal_storage.accepted_round prep.n_accepted) (log_from prep.decided_idx s) _
    (λ x. (refl, d))
    (λ x. either P (same s.internal_storage.accepted_round prep.n_accepted) _ None
    (λ y. either P (ltb prep.accepted_idx (log_length s)) (log_from prep.accepted_idx s) None (λ z. (refl, a)) (λ z. tt))
    (λ y. tt))

module _ (c : Configuration) (e : Event) (entries : List ℕ) (s : SequencePaxos) (I : ℕ → SequencePaxos → Type 0) (o : Closed c e entries s I) (f : Found c s) (i : I 0 s) where
  stay : (k : ℕ) → I k s
  stay k = o.more 0 k s (omega arith) i

  -- reconnected(pid)
  along-left : (pid : ℕ) → I 0 (left_leader pid s)
  unfolding left_leader
  along-left pid = either (I 0) (eqb pid s.internal_storage.promise.pid) (recovering s) s (λ a. o.follow 0 phase.Recover s i) (λ a. i)

  pub along-reconnected : (pid : ℕ) → I 7 (reconnected_of pid s)
  unfolding reconnected_of
  along-reconnected pid =
      either (I 7) (eqb pid s.config.pid) s (send_prepare_req pid (left_leader pid s))
      (λ a. stay 7)
      (λ a. o.more 1 7 _ (omega arith) (o.sends-request 0 pid (left_leader pid s) (omega arith) (along-left pid)))

  -- Prepare
  along-tell : (n : Ballot) (to : ℕ) (x : Option LogSync) → Real c n → Tells (log_length s) x → I 7 (tell_promise to x (promise_to n s))
  unfolding tell_promise promise_to sync_fits
  along-tell n to x real w = by x w
    where
      t : SequencePaxos
      t = set_seq first (with_state (record { role = role.Follower; phase = phase.Prepare }) (set_promised n s))

      j : I 0 t
      j = o.number 0 first _ (o.follow 0 phase.Prepare (set_promised n s) (o.promises 0 n s real i))

      told : (x : Option LogSync) (r : SequencePaxos) → Tells (log_length r) x → r.internal_storage.promise ≡ n → Unwritten r.plan.writes → I 0 r → I 7 (send_promise to (promise_of x r) (log_source x) (cache_promise x r))
      told x r w p u k = o.more 1 7 _ (omega arith) (o.tells-promise to x r w (rw p real.0) u k)

      by : (x : Option LogSync) → Tells (log_length s) x → I 7 (send_promise to (promise_of x t) (log_source x) (cache_promise x (build_fits x t)))
      by (Some y) w =
          either (λ (r : SequencePaxos). I 7 (send_promise to (promise_of (Some y) t) (log_source (Some y)) (cache_promise (Some y) r))) (ltb (log_length t) y.sync_idx) (unfit t) t
          (λ a. told (Some y) (unfit t) w refl f.writes (o.not-fit 0 t j))
          (λ a. told (Some y) t w refl f.writes j)
      by None w = told None t w refl f.writes j

  along-prepare-taken : (prep : Prepare) (from : ℕ) → Reports c prep.n prep.n_accepted prep.decided_idx prep.accepted_idx → I 7 (prepare_taken prep from s)
  unfolding prepare_taken
  along-prepare-taken prep from r =
      along-tell prep.n from (promised_sync prep s) r.ballot (tells prep s (omega (arith, r.within, r.last)) r.last)

  pub along-prepare : (prep : Prepare) (from : ℕ) → Reports c prep.n prep.n_accepted prep.decided_idx prep.accepted_idx → I 7 (handle_prepare prep from s)
  unfolding handle_prepare
  along-prepare prep from r =
      either (I 7) (above prep.n s.internal_storage.promise) (prepare_taken prep from s) _
      (λ a. along-prepare-taken prep from r)
      (λ a. either (I 7) (same prep.n s.internal_storage.promise) _ s
      (λ b. either (I 7) (is_recover s.state.phase) (prepare_taken prep from s) s (λ d. along-prepare-taken prep from r) (λ d. stay 7))
      (λ b. stay 7))

  -- an unequal ballot gets NotAccepted or `reconnected`
  along-ballot : (n : Ballot) (taken : SequencePaxos) → I 7 taken → I 7 (if_valid_ballot n taken s)
  along-ballot n taken x = by (compare_of s.internal_storage.promise n)
    where
      by : (p : Ordering) → I 7 (by_ballot p n taken s)
      by Equal = x
      by Greater = o.more 1 7 _ (omega arith) (o.tells-higher 0 n s (omega arith) i)
      by Less = along-reconnected n.pid

  -- AcceptSync
  along-forward-buffered : (u : SequencePaxos) → u.plan.writes.buffer ≡ None → u.buffered_proposals ≡ s.buffered_proposals → I 0 u → I 1 (forward_buffered u)
  unfolding forward_buffered
  along-forward-buffered u w b j =
      either (I 1) (eqb u.buffered_proposals 0) u (cond (has_leader u) (push_forward Buffered u.buffered_proposals (set_buffered 0 u)) u)
      (λ x. o.more 0 1 u (omega arith) j)
      (λ x. either (I 1) (has_leader u) (push_forward Buffered u.buffered_proposals (set_buffered 0 u)) u
      (λ y. o.forwards-buffered 0 u (omega arith) w b j)
      (λ y. o.more 0 1 u (omega arith) j))

  module _ (m : AcceptSync) (from : ℕ) (real : Real c m.n) (g : Brought e entries (given_sync m (length entries))) where
    along-put : sync_unfit (given_sync m (length entries)) s.plan.sight.brought_change m.decided_idx s ≡ false → I 1 (acceptsync_put m (length entries) s)
    unfolding acceptsync_put sync_log
    along-put a =
        let x = given_sync m (length entries) in
        let p = put-fits x s.plan.sight.brought_change m.decided_idx s a in
        let t = set_cached None s in
        along-forward-buffered (sync_log m.n m.decided_idx (sync_end x) (PutGiven x) t) f.writes.buffer refl
        (o.puts-given m.n m.decided_idx m.decided_idx x t f.writes real g p p.brought (o.forgets-cached s i))

    along-acceptsync-taken : I 7 (acceptsync_taken m (length entries) from s)
    unfolding acceptsync_taken following
    along-acceptsync-taken =
        let x = given_sync m (length entries) in
        let t = acceptsync_put m (length entries) s in
        either (I 7) (sync_unfit x s.plan.sight.brought_change m.decided_idx s) (unfit s) (send_accepted m.n (sync_end x) from (following m.seq_num t))
        (λ a. o.not-fit 7 s (stay 7))
        (λ a. o.more 2 7 _ (omega arith) (o.sends-accepted 1 m.n (sync_end x) from (following m.seq_num t) (omega arith) real (o.number 1 m.seq_num _ (o.follow 1 phase.Accept t (along-put a)))))

    pub along-acceptsync : I 7 (handle_acceptsync m (length entries) from s)
    unfolding handle_acceptsync
    along-acceptsync = along-ballot m.n _ (by (standing_of s.state.role s.state.phase))
      where
        by : (t : Standing) → I 7 (acceptsync_in t m (length entries) from s)
        by FollowerPrepare = along-acceptsync-taken
        by FollowerAccept = stay 7
        by LeaderPrepare = stay 7
        by LeaderAccept = stay 7
        by Other = stay 7

  -- a number that is not Expected gets `reconnected` or nothing
  along-number : (q : SequenceNumber) (pid : ℕ) (taken : SequencePaxos) → I 7 taken → I 7 (if_expected q pid taken s)
  along-number q pid taken x =
      either (I 7) (counter_at_top q s) (at_top s) (by_status (status_of s.current_seq_num q) pid taken s)
      (λ a. o.at_top 7 s (stay 7))
      (λ a. by (status_of s.current_seq_num q))
    where
      by : (t : MessageStatus) → I 7 (by_status t pid taken s)
      by Expected = x
      by DroppedPreceding = along-reconnected pid
      by Outdated = stay 7

  -- the decided index is cut to the log length
  along-update : (idx : ℕ) (t : SequencePaxos) → t.plan.writes.buffered ≡ 0 → t.internal_storage.decided_idx ≤ log_length t → I 0 t → I 0 (update_decided idx t)
  unfolding update_decided
  along-update idx t z d j =
      either (I 0) (ltb t.internal_storage.decided_idx idx) (set_decided (min idx (log_length t)) t) t
      (λ a. let m = ltb-true t.internal_storage.decided_idx idx a in o.decides 0 (min idx (log_length t)) t z (omega arith) (omega arith) j)
      (λ a. j)

  -- an Accepted, new or raised
  along-reply : (n : Ballot) (idx : ℕ) (t : SequencePaxos) → Real c n → I 0 t → I 7 (reply_accepted n idx t)
  unfolding reply_accepted
  along-reply n idx t real j = o.more 1 7 _ (omega arith) (by (latest_accepted n t))
    where
      by : (x : Option AcceptedAt) → I 1 (reply_by x n idx t)
      by (Some x) = o.raises-accepted 0 n x.at idx t (omega arith) j
      by None = o.sends-accepted 0 n idx n.pid t (omega arith) real j

  -- AcceptDecide
  along-acceptdecide-taken : (n : Ballot) (q : SequenceNumber) (decided : ℕ) → Real c n → Fit entries (length entries) → I 7 (acceptdecide_taken n decided (length entries) (set_seq q s))
  unfolding acceptdecide_taken append_given
  along-acceptdecide-taken n q decided real w =
      let t = append_given (length entries) (set_seq q s) in
      along-reply n (log_length s + length entries) (update_decided decided t) real
      (along-update decided t f.writes.buffered (omega (arith, f.decided)) (o.appends (set_seq q s) f.writes w (o.number 0 q s i)))

  along-acceptdecide-fit : (n : Ballot) (q : SequenceNumber) (decided : ℕ) → Real c n → Fit entries (length entries) → I 7 (acceptdecide_fit n q decided (length entries) s)
  unfolding acceptdecide_fit
  along-acceptdecide-fit n q decided real w =
      either (I 7) (eqb (length entries) 0) (unfit s) _
      (λ a. o.not-fit 7 s (stay 7))
      (λ a. either (I 7) (ltb max_log (log_length s + length entries)) (unfit s) (acceptdecide_taken n decided (length entries) (set_seq q s))
      (λ b. o.not-fit 7 s (stay 7))
      (λ b. along-acceptdecide-taken n q decided real w))

  pub along-acceptdecide : (n : Ballot) (q : SequenceNumber) (decided : ℕ) → Real c n → Fit entries (length entries) → I 7 (handle_acceptdecide n q decided (length entries) s)
  unfolding handle_acceptdecide
  along-acceptdecide n q decided real w = along-ballot n _ (by (standing_of s.state.role s.state.phase))
    where
      by : (t : Standing) → I 7 (acceptdecide_in t n q decided (length entries) s)
      by FollowerAccept = along-number q n.pid (acceptdecide_fit n q decided (length entries) s) (along-acceptdecide-fit n q decided real w)
      by FollowerPrepare = stay 7
      by LeaderPrepare = stay 7
      by LeaderAccept = stay 7
      by Other = stay 7

  -- Decide
  along-decide-taken : (n : Ballot) (q : SequenceNumber) (decided : ℕ) → Real c n → I 7 (decide_taken n decided (set_seq q s))
  unfolding decide_taken
  along-decide-taken n q decided real =
      let t = set_seq q s in
      let j = along-update decided t f.writes.buffered f.decided (o.number 0 q s i) in
      either (I 7) (ltb (log_length t) decided) (reply_accepted n (log_length t) (update_decided decided t)) (update_decided decided t)
      (λ a. along-reply n (log_length t) (update_decided decided t) real j)
      (λ a. o.more 0 7 _ (omega arith) j)

  pub along-told-decided : (n : Ballot) (q : SequenceNumber) (decided : ℕ) → Real c n → I 7 (handle_decide n q decided s)
  unfolding handle_decide
  along-told-decided n q decided real =
      along-ballot n _
      (either (I 7) (is_accept_phase s.state.phase) (decide_expected n q decided s) s
      (λ a. along-number q n.pid (decide_taken n decided (set_seq q s)) (along-decide-taken n q decided real))
      (λ a. stay 7))

  -- a Follower's resend
  pub along-resend-follower : I 7 (resend_messages_follower s)
  unfolding resend_messages_follower
  along-resend-follower = by s.state.phase
    where
      asked : (t : SequencePaxos) → I 0 t → I 7 (resend_in phase.Recover t)
      asked t j = along-marked c e entries s I o (peers_of t.config) each.PrepareReq t f.depots tt j

      again : (x : Option CachedPromise) → s.cached_promise_message ≡ x → I 7 (resend_cached x s)
      again (Some p) h = o.more 1 7 _ (omega arith) (o.tells-again p.n.pid p s h f.writes i)
      again None h = asked (recovering s) (o.follow 0 phase.Recover s i)

      by : (p : Phase) → I 7 (resend_in p s)
      by phase.Prepare = again s.cached_promise_message refl
      by phase.Recover = asked s i
      by phase.Accept = stay 7
      by phase.None = stay 7
