-- What each handler of a follower leaves, and by how much its plan grows.
use Rattle.std.specs.Prelude.{Option, None, Some}
use Prim.Native.Nat.{ℕ, ◌+◌, ◌≤◌, min}
use mathlib.Core.Path.{◌≡◌, refl}
use mathlib.Core.Logic.{inl, inr}
use mathlib.Core.Bool.{false}
use native.Mathlib.Omega.{arith}
use lib.Dec.{ltb, eqb}
use borrow.Author.Tests.{ltb-true, ltb-false}
use Rattle.base.specs.Limits.{max_log}
use Rattle.ballot.specs.Ballot.{compare_of, above, same}
use Rattle.paxos_box.specs.declared.AcceptedAt.{AcceptedAt}
use Rattle.paxos_box.specs.declared.CachedPromise.{CachedPromise}
use Rattle.leader_state.specs.declared.LogSync.{LogSync}
use Rattle.ballot.specs.declared.Ballot.{Ballot}
use Rattle.std.specs.declared.cmp.Ordering.{Ordering}
use Rattle.std.specs.declared.cmp.Ordering.TheVariants.{Less, Equal, Greater}
use Rattle.ballot.proofs.Laws.{same-eq}
use Rattle.sequence.specs.Sequence.{status_of}
use Rattle.sequence.specs.declared.SequenceNumber.{SequenceNumber}
use Rattle.sequence.specs.declared.MessageStatus.{MessageStatus}
use Rattle.sequence.specs.declared.MessageStatus.TheVariants.{Expected, DroppedPreceding, Outdated}
use Rattle.quorum.specs.declared.Configuration.{Configuration}
use Rattle.messages.specs.declared.Prepare.{Prepare}
use Rattle.messages.specs.declared.AcceptSync.{AcceptSync}
use Rattle.paxos_box.specs.declared.SequencePaxos.{SequencePaxos}
use Rattle.paxos_box.specs.declared.LogOp.TheVariants.{PutGiven}
use Rattle.paxos_box.specs.declared.Phase.{Phase}
use Rattle.paxos_box.specs.declared.Phase.TheVariants as phase
use Rattle.paxos_box.specs.declared.Standing.{Standing}
use Rattle.paxos_box.specs.declared.Standing.TheVariants.{LeaderPrepare, LeaderAccept, FollowerPrepare, FollowerAccept, Other}
use Rattle.paxos_box.specs.Box.{unfit, at_top, next_place, set_decided, set_cached, set_meta, set_seq, is_recover, is_accept_phase, standing_of}
use Rattle.sends.specs.declared.Each.TheVariants as each
use Rattle.sends.specs.Sends.{log_length, send_prepare_req}
use Rattle.log_plan.specs.Log.{sync_end, sync_unfit, sync_log, append_given}
use Rattle.reconnect.specs.Reconnect.{recovering, left_leader, reconnected_of}
use Rattle.accepting.specs.Accepting.{by_ballot, if_valid_ballot, send_accepted, given_sync, acceptsync_put, following, acceptsync_taken, acceptsync_in, handle_acceptsync, counter_at_top, by_status, if_expected, latest_accepted, reply_by, reply_accepted, update_decided, acceptdecide_taken, acceptdecide_fit, acceptdecide_in, handle_acceptdecide, decide_taken, decide_expected, handle_decide}
use Rattle.follower.specs.Follower.{log_from, promised_sync, count_of, build_fits, cache_promise, tell_promise, promise_to, prepare_taken, handle_prepare, resend_cached, resend_in, resend_messages_follower}
use Rattle.decide_laws.proofs.Grown.{either, InPlace, Step, Rises, step-none, step_then, step-more, step-stored, quiet_step, one-step}
use Rattle.decide_laws.proofs.Sends.{suffix-le, sent-push, sent-fits, sent-request}
use Rattle.decide_laws.proofs.Log.{PromisedWithin, put-fits, step-synced, step-appended, step-forward-buffered}
use Rattle.decide_laws.proofs.Leader.{Placed, most_sent, sent-peers, once-step}

-- reconnected(pid)
step_left : (pid : ℕ) (s : SequencePaxos) → Step 0 0 s (left_leader pid s)
unfolding left_leader
step_left pid s = either (Step 0 0 s) (eqb pid s.internal_storage.promise.pid) (recovering s) s (λ e. step-none s) (λ e. step-none s)

pub step-reconnected : (pid : ℕ) (s : SequencePaxos) → InPlace pid s.config → Step 1 1 s (reconnected_of pid s)
unfolding reconnected_of
step-reconnected pid s p =
    either (Step 1 1 s) (eqb pid s.config.pid) s (send_prepare_req pid (left_leader pid s))
    (λ e. step-more (step-none s) 1 (omega arith))
    (λ e. step_then (step_left pid s) (one-step pid (sent-request pid (left_leader pid s) (rw (step_left pid s).config p))))

-- Prepare: the sync that a Promise brings is a part of the log
promised-le : (prep : Prepare) (s : SequencePaxos) → count_of (promised_sync prep s) ≤ log_length s
unfolding promised_sync
promised-le prep s =
    let P : Option LogSync → Type 0 = λ x. count_of x ≤ log_length s in
    either P (above s.internal_storage.accepted_round prep.n_accepted) (log_from prep.decided_idx s) _
    (λ e. suffix-le (log_length s) prep.decided_idx)
    (λ e. either P (same s.internal_storage.accepted_round prep.n_accepted) _ None
    (λ f. either P (ltb prep.accepted_idx (log_length s)) (log_from prep.accepted_idx s) None (λ g. suffix-le (log_length s) prep.accepted_idx) (λ g. omega arith))
    (λ f. omega arith))

step-tell : (from : ℕ) (x : Option LogSync) (s : SequencePaxos) → InPlace from s.config → count_of x ≤ max_log → Step 1 1 s (tell_promise from x s)
unfolding tell_promise cache_promise
step-tell from x s p h = step_then (built x) (one-step from (sent-push _ (cache_promise x (build_fits x s)) (rw (built x).config p) h))
  where
    built : (x : Option LogSync) → Step 0 0 s (build_fits x s)
    built (Some y) = quiet_step (sent-fits y.sync_idx s)
    built None = step-none s

step-prepare-taken : (prep : Prepare) (from : ℕ) (s : SequencePaxos) → InPlace from s.config → log_length s ≤ max_log → Rises s.internal_storage.promise prep.n → Step 1 1 s (prepare_taken prep from s)
unfolding prepare_taken promise_to
step-prepare-taken prep from s p l r =
    step_then (step-stored r (λ d. (omega arith, d)) (omega arith)) (step-tell from (promised_sync prep s) (promise_to prep.n s) p (omega (arith, promised-le prep s)))

pub step-prepare : (prep : Prepare) (from : ℕ) (s : SequencePaxos) → InPlace from s.config → log_length s ≤ max_log → Step 1 1 s (handle_prepare prep from s)
unfolding handle_prepare
step-prepare prep from s p l =
    let stay = step-more {n = 1} (step-none s) 1 (omega arith) in
    either (Step 1 1 s) (above prep.n s.internal_storage.promise) (prepare_taken prep from s) _
    (λ e. step-prepare-taken prep from s p l (inr e))
    (λ e. either (Step 1 1 s) (same prep.n s.internal_storage.promise) _ s
    (λ f. either (Step 1 1 s) (is_recover s.state.phase) (prepare_taken prep from s) s (λ g. step-prepare-taken prep from s p l (inl (same-eq prep.n s.internal_storage.promise f))) (λ g. stay))
    (λ f. stay))

-- an unequal ballot gets NotAccepted or `reconnected`
step-by-ballot : (k : ℕ) (n : Ballot) (taken s : SequencePaxos) → InPlace n.pid s.config → 1 ≤ k → Step k k s taken → Step k k s (if_valid_ballot n taken s)
step-by-ballot k n taken s p h x = by (compare_of s.internal_storage.promise n)
  where
    by : (o : Ordering) → Step k k s (by_ballot o n taken s)
    by Equal = x
    by Greater = step-more (one-step n.pid (sent-push _ s p (omega arith))) k (h, h)
    by Less = step-more (step-reconnected n.pid s p) k (h, h)

-- an Accepted, new or raised
step-send-accepted : (n : Ballot) (idx to : ℕ) (s : SequencePaxos) → InPlace to s.config → Step 1 1 s (send_accepted n idx to s)
unfolding send_accepted
step-send-accepted n idx to s p = one-step to (sent-push _ (set_meta (Some (record { n = n; at = next_place s })) s) p (omega arith))

step-reply : (n : Ballot) (idx : ℕ) (s : SequencePaxos) → InPlace n.pid s.config → Step 1 1 s (reply_accepted n idx s)
unfolding reply_accepted
step-reply n idx s p = by (latest_accepted n s)
  where
    by : (m : Option AcceptedAt) → Step 1 1 s (reply_by m n idx s)
    by (Some x) = one-step n.pid (sent-push _ s p (omega arith))
    by None = step-send-accepted n idx n.pid s p

-- AcceptSync: a forward of the buffered proposals, and the Accepted
step-put : (m : AcceptSync) (count : ℕ) (s : SequencePaxos) → PromisedWithin s → s.buffered_proposals ≤ max_log → sync_unfit (given_sync m count) s.plan.sight.brought_change m.decided_idx s ≡ false → Step 1 1 s (acceptsync_put m count s)
unfolding acceptsync_put sync_log
step-put m count s w b e =
    let x = given_sync m count in
    let t = set_cached None s in
    let f = put-fits x s.plan.sight.brought_change m.decided_idx s e in
    step_then (step-synced m.n m.decided_idx (sync_end x) (PutGiven x) t f.brought (λ d. f.own) (omega (arith, f.within)))
    (step-forward-buffered (sync_log m.n m.decided_idx (sync_end x) (PutGiven x) t) w b)

step-acceptsync-taken : (m : AcceptSync) (count from : ℕ) (s : SequencePaxos) → InPlace from s.config → PromisedWithin s → s.buffered_proposals ≤ max_log → Step 2 2 s (acceptsync_taken m count from s)
unfolding acceptsync_taken following
step-acceptsync-taken m count from s p w b =
    let t = acceptsync_put m count s in
    either (Step 2 2 s) (sync_unfit (given_sync m count) s.plan.sight.brought_change m.decided_idx s) (unfit s) (send_accepted m.n (sync_end (given_sync m count)) from (following m.seq_num t))
    (λ e. step-more (step-none s) 2 (omega arith))
    (λ e. let x = step-put m count s w b e in step_then x (step-send-accepted m.n (sync_end (given_sync m count)) from (following m.seq_num t) (rw x.config p)))

pub step-acceptsync : (m : AcceptSync) (count from : ℕ) (s : SequencePaxos) → InPlace from s.config → InPlace m.n.pid s.config → PromisedWithin s → s.buffered_proposals ≤ max_log → Step 2 2 s (handle_acceptsync m count from s)
unfolding handle_acceptsync
step-acceptsync m count from s p q w b = step-by-ballot 2 m.n _ s q (omega arith) (by (standing_of s.state.role s.state.phase))
  where
    stay : Step 2 2 s s
    stay = step-more (step-none s) 2 (omega arith)

    by : (t : Standing) → Step 2 2 s (acceptsync_in t m count from s)
    by FollowerPrepare = step-acceptsync-taken m count from s p w b
    by FollowerAccept = stay
    by LeaderPrepare = stay
    by LeaderAccept = stay
    by Other = stay

-- a number that is not Expected gets `reconnected` or nothing
step-by-number : (q : SequenceNumber) (pid : ℕ) (taken s : SequencePaxos) → InPlace pid s.config → Step 1 1 s taken → Step 1 1 s (if_expected q pid taken s)
step-by-number q pid taken s p x =
    either (Step 1 1 s) (counter_at_top q s) (at_top s) (by_status (status_of s.current_seq_num q) pid taken s)
    (λ e. step-more (step-none s) 1 (omega arith))
    (λ e. by (status_of s.current_seq_num q))
  where
    by : (t : MessageStatus) → Step 1 1 s (by_status t pid taken s)
    by Expected = x
    by DroppedPreceding = step-reconnected pid s p
    by Outdated = step-more (step-none s) 1 (omega arith)

-- the decided index is cut to the log length, and never falls
pub step-update : (idx : ℕ) (s : SequencePaxos) → Step 0 0 s (update_decided idx s)
unfolding update_decided
step-update idx s =
    either (Step 0 0 s) (ltb s.internal_storage.decided_idx idx) (set_decided (min idx (log_length s)) s) s
    (λ e. step-stored (inl refl) (λ d. let m = ltb-true s.internal_storage.decided_idx idx e in omega arith) (omega arith))
    (λ e. step-none s)

-- AcceptDecide
step-acceptdecide-taken : (n : Ballot) (decided count : ℕ) (s : SequencePaxos) → InPlace n.pid s.config → log_length s + count ≤ max_log → Step 1 1 s (acceptdecide_taken n decided count s)
unfolding acceptdecide_taken
step-acceptdecide-taken n decided count s p h =
    let t = append_given count s in
    let x = step_then (step-appended 0 count s (omega arith)) (step-update decided t) in
    step_then x (step-reply n (log_length s + count) (update_decided decided t) (rw x.config p))

step-acceptdecide-fit : (n : Ballot) (q : SequenceNumber) (decided count : ℕ) (s : SequencePaxos) → InPlace n.pid s.config → Step 1 1 s (acceptdecide_fit n q decided count s)
unfolding acceptdecide_fit
step-acceptdecide-fit n q decided count s p =
    let stay = step-more {n = 1} (step-none s) 1 (omega arith) in
    either (Step 1 1 s) (eqb count 0) (unfit s) _
    (λ e. stay)
    (λ e. either (Step 1 1 s) (ltb max_log (log_length s + count)) (unfit s) (acceptdecide_taken n decided count (set_seq q s)) (λ f. stay) (λ f. step-acceptdecide-taken n decided count (set_seq q s) p (ltb-false max_log (log_length s + count) f)))

pub step-acceptdecide : (n : Ballot) (q : SequenceNumber) (decided count : ℕ) (s : SequencePaxos) → InPlace n.pid s.config → Step 1 1 s (handle_acceptdecide n q decided count s)
unfolding handle_acceptdecide
step-acceptdecide n q decided count s p = step-by-ballot 1 n _ s p (omega arith) (by (standing_of s.state.role s.state.phase))
  where
    stay : Step 1 1 s s
    stay = step-more (step-none s) 1 (omega arith)

    by : (t : Standing) → Step 1 1 s (acceptdecide_in t n q decided count s)
    by FollowerAccept = step-by-number q n.pid (acceptdecide_fit n q decided count s) s p (step-acceptdecide-fit n q decided count s p)
    by FollowerPrepare = stay
    by LeaderPrepare = stay
    by LeaderAccept = stay
    by Other = stay

-- Decide
step-decide-taken : (n : Ballot) (decided : ℕ) (s : SequencePaxos) → InPlace n.pid s.config → Step 1 1 s (decide_taken n decided s)
unfolding decide_taken
step-decide-taken n decided s p =
    let t = update_decided decided s in
    either (Step 1 1 s) (ltb (log_length s) decided) (reply_accepted n (log_length s) t) t
    (λ e. let x = step-update decided s in step_then x (step-reply n (log_length s) t (rw x.config p)))
    (λ e. step-more (step-update decided s) 1 (omega arith))

pub step-decide : (n : Ballot) (q : SequenceNumber) (decided : ℕ) (s : SequencePaxos) → InPlace n.pid s.config → Step 1 1 s (handle_decide n q decided s)
unfolding handle_decide
step-decide n q decided s p =
    step-by-ballot 1 n _ s p (omega arith)
    (either (Step 1 1 s) (is_accept_phase s.state.phase) (decide_expected n q decided s) s
    (λ e. step-by-number q n.pid (decide_taken n decided (set_seq q s)) s p (step-decide-taken n decided (set_seq q s) p))
    (λ e. step-more (step-none s) 1 (omega arith)))

-- a Follower's resend; the cached promise's sync is within the log's limit and its ballot is a depot's (refusal 2)
abbrev pub CachedWithin : Configuration → Option CachedPromise → Type 0
CachedWithin c (Some p) = (count_of p.sync ≤ max_log) × InPlace p.n.pid c
CachedWithin c None = Unit {0}

pub step-resend-follower : (s : SequencePaxos) → Placed s.config → CachedWithin s.config s.cached_promise_message → Step 1 (most_sent s.config) s (resend_messages_follower s)
unfolding resend_messages_follower
step-resend-follower s h w = by s.state.phase
  where
    k : ℕ
    k = most_sent s.config

    from-cache : (c : Option CachedPromise) → CachedWithin s.config c → Step 1 k s (resend_cached c s)
    from-cache (Some p) l = step-more (one-step p.n.pid (sent-push _ s l.1 l.0)) k (omega arith)
    from-cache None l = step-more (once-step (sent-peers each.PrepareReq (recovering s) h tt)) k (omega arith)

    by : (p : Phase) → Step 1 k s (resend_in p s)
    by phase.Prepare = from-cache s.cached_promise_message w
    by phase.Recover = step-more (once-step (sent-peers each.PrepareReq s h tt)) k (omega arith)
    by phase.Accept = step-more (step-none s) k (omega arith)
    by phase.None = step-more (step-none s) k (omega arith)
