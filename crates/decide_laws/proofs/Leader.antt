-- What each handler of a leader leaves, and by how much its plan grows.
use Rattle.std.specs.Prelude.{Option, None, Some}
use Prim.Native.Nat.{ℕ, ◌+◌, ◌-◌, ◌≤◌, ◌<◌, max}
use mathlib.Core.Path.{◌≡◌, refl, ap}
use mathlib.Core.Logic.{inl, inr}
use mathlib.Core.Bool.{Bool, true, false, cond}
use native.Mathlib.Omega.{arith}
use lib.Dec.{ltb, leb, eqb}
use borrow.Author.Tests.{ltb-true, ltb-false}
use Rattle.base.specs.Limits.{max_log, max_depots}
use Rattle.base.proofs.Meet.{one-le}
use Rattle.ballot.specs.Ballot.{above, same}
use Rattle.ballot.specs.declared.Ballot.{Ballot}
use Rattle.quorum.specs.declared.Configuration.{Configuration}
use Rattle.leader_state.specs.declared.LogSync.{LogSync}
use Rattle.leader_state.specs.declared.PromiseMetaData.{PromiseMetaData}
use Rattle.leader_state.specs.declared.PromiseState.TheVariants.{NotPromised, Promised, PromisedHigher}
use Rattle.leader_state.specs.State.{set_accepted, set_promise_state, set_latest}
use Rattle.leader_state.specs.Promises.{beats_best, max_decided}
use Rattle.leader_state.specs.Places.{promised_followers, preparable_peers}
use Rattle.leader_state.proofs.Past.{one_place, new-leader}
use Rattle.paxos_box.specs.declared.SequencePaxos.{SequencePaxos}
use Rattle.paxos_box.specs.declared.InternalStorage.{InternalStorage}
use Rattle.paxos_box.specs.declared.Role.{Role}
use Rattle.paxos_box.specs.declared.Role.TheVariants.{Leader, Follower}
use Rattle.paxos_box.specs.declared.Phase.{Phase}
use Rattle.paxos_box.specs.declared.Phase.TheVariants as phase
use Rattle.paxos_box.specs.declared.Standing.{Standing}
use Rattle.paxos_box.specs.declared.Standing.TheVariants.{LeaderPrepare, LeaderAccept, FollowerPrepare, FollowerAccept, Other}
use Rattle.paxos_box.specs.declared.LogOp.{LogOp}
use Rattle.paxos_box.specs.declared.LogOp.TheVariants.{Keep}
use Rattle.paxos_box.specs.Box.{unfit, with_plan, with_storage, with_state, set_decided, is_leader, standing_of}
use Rattle.sends.specs.declared.Each.{Each}
use Rattle.sends.specs.declared.Each.TheVariants as each
use Rattle.sends.specs.Sends.{on_depot, log_length, set_latest_of, peers_of}
use Rattle.log_plan.specs.Log.{sync_end, sync_unfit, sync_log, append_given, append_buffered}
use Rattle.leader.specs.Leader.{for_followers, for_preparable, for_peers, keep_promise, reached, new_leader, own_promise, become_leader, become_follower, handle_leader, prepare_again, handle_prepare_req, set_accepted_of, own_accepted, accept_entries_leader, proposal_in, handle_forwarded_proposal, put_op, change_of, leader_syncs, sync_held, sync_by, sync_with_best, sync_taken, handle_majority_promises, keep_sync, handle_promise_prepare, handle_promise_accept, brings_past, promise_in, handle_promise, newly_chosen, decide_if_chosen, accepted_taken, accepted_in, handle_accepted, lost_promise, handle_not_accepted, resend_in, resend_messages_leader}
use Rattle.decide_laws.proofs.Grown.{either, InPlace, Step, Longer, step-none, step_then, step-more, step-stored, step-places, Sent, same-storage, sent-step, sent-more, sent-after, quiet_step, one-step}
use Rattle.decide_laws.proofs.Marks.{few-followers, few-preparable, few-peers}
use Rattle.decide_laws.proofs.Sends.{Few, up_to, sent-depot, sent-sync-to, sent-prepare, sent-marked}
use Rattle.decide_laws.proofs.Log.{PromisedWithin, put-fits, step-synced, step-appended, kept-within, step-buffered-joined, step-buffered, step-forward}

-- oneself is a depot, and there are at most seven
pub record Placed (c : Configuration) : Type 0 where
  pub positive : 0 < c.pid
  pub own : c.pid ≤ c.depots
  pub depots : c.depots ≤ max_depots

-- the ballot that a Leader leads with is its own
abbrev pub Own : SequencePaxos → Type 0
Own s = s.leader_state.n_leader.pid ≡ s.config.pid

-- a step sends at most to each of the others, or, in answer to an AcceptSync, a forward and an Accepted
abbrev pub most_sent : Configuration → ℕ
most_sent c = max 2 (c.depots - 1)

-- at most one thing to each
unfoldable pub once : ℕ → ℕ
once pid = 1

abbrev pub Once : ℕ → SequencePaxos → SequencePaxos → Type 0
Once k s r = Sent once k s r

up-to-one : (n pid : ℕ) → up_to n pid ≤ once pid
unfolding once
up-to-one n pid = one-le (leb pid n)

pub once-step : {k : ℕ} {s r : SequencePaxos} → Once k s r → Step 1 k s r
unfolding once
once-step x = sent-step x 1 (λ pid. omega arith)

pub sent-followers : (what : Each) (s : SequencePaxos) → Placed s.config → Own s → Few what s → Once (s.config.depots - 1) s (for_followers what s)
sent-followers what s h e f =
    let c = s.config in
    sent-more (sent-marked (promised_followers c.depots s.leader_state) what c.depots s (omega arith) f) once (c.depots - 1) (up-to-one c.depots)
    (omega (arith, few-followers c.depots c.pid h.depots h.positive h.own s.leader_state e))

pub sent-preparable : (what : Each) (s : SequencePaxos) → Placed s.config → Few what s → Once (s.config.depots - 1) s (for_preparable what s)
sent-preparable what s h f =
    let c = s.config in
    sent-more (sent-marked (preparable_peers c.pid c.depots s.leader_state) what c.depots s (omega arith) f) once (c.depots - 1) (up-to-one c.depots)
    (omega (arith, few-preparable c.depots c.pid h.depots h.positive h.own s.leader_state))

pub sent-peers : (what : Each) (s : SequencePaxos) → Placed s.config → Few what s → Once (s.config.depots - 1) s (for_peers what s)
sent-peers what s h f =
    let c = s.config in
    sent-more (sent-marked (peers_of c) what c.depots s (omega arith) f) once (c.depots - 1) (up-to-one c.depots) (omega (arith, few-peers c h.depots h.positive h.own))

-- a promise kept
pub step-promise-kept : (m : PromiseMetaData) (sync : Option LogSync) (check : Bool) (s : SequencePaxos) → InPlace m.pid s.config → Step 0 0 s (keep_promise m sync check s)
step-promise-kept m sync check s h = step-places (one_place s.config.depots m.pid (set_promise_state (Promised m)) s.leader_state h.0 h.1)

-- a leader event
step-new-leader : (n : Ballot) (s : SequencePaxos) → above n s.internal_storage.promise ≡ true → Step 0 0 s (new_leader n s)
unfolding new_leader
step-new-leader n s e =
    record { config = refl; outgoing = refl; sight = refl; grown = (step-none s).grown; goes = λ a. a; each = λ pid. omega arith; past = new-leader s.config.depots n s.leader_state; promise = inr e; decided = λ h. (omega arith, h); log = omega arith }

step-become-leader : (n : Ballot) (s : SequencePaxos) → Placed s.config → above n s.internal_storage.promise ≡ true → Step 1 (s.config.depots - 1) s (become_leader n s)
unfolding new_leader own_promise become_leader
step-become-leader n s h e =
    let t = new_leader n s in
    let x = step_then (step-new-leader n s e) (step-promise-kept _ None true t (h.positive, h.own)) in
    step-more (step_then x (once-step (sent-peers each.Prepare (with_state (record { role = Leader; phase = phase.Prepare }) (own_promise t)) h tt))) (s.config.depots - 1) (omega arith)

pub step-leader : (n : Ballot) (s : SequencePaxos) → Placed s.config → Step 1 (most_sent s.config) s (handle_leader n s)
unfolding handle_leader
step-leader n s h =
    let k = most_sent s.config in
    let stay = step-more {n = 1} (step-none s) k (omega arith) in
    either (Step 1 k s) (above n s.leader_state.n_leader) _ s
    (λ e. either (Step 1 k s) (above n s.internal_storage.promise) _ s
    (λ f. either (Step 1 k s) (eqb n.pid s.config.pid) (become_leader n s) (become_follower s) (λ g. step-more (step-become-leader n s h f) k (omega arith)) (λ g. stay))
    (λ f. stay))
    (λ e. stay)

-- PrepareReq
step-prepare-again : (from : ℕ) (s : SequencePaxos) → InPlace from s.config → Step 1 1 s (prepare_again from s)
unfolding prepare_again
step-prepare-again from s p =
    let t = on_depot from (set_promise_state NotPromised) s in
    let x = sent-depot from (set_promise_state NotPromised) s p in
    let y = sent-after x (sent-depot from (set_latest None) t p) in
    one-step from (sent-after y (sent-prepare from (set_latest_of from None t) p))

pub step-prepare-req : (n : Ballot) (from : ℕ) (s : SequencePaxos) → InPlace from s.config → Step 1 1 s (handle_prepare_req n from s)
unfolding handle_prepare_req
step-prepare-req n from s p =
    let stay = step-more {n = 1} (step-none s) 1 (omega arith) in
    either (Step 1 1 s) (is_leader s.state.role) _ s
    (λ e. either (Step 1 1 s) (above n s.leader_state.n_leader) s (prepare_again from s) (λ f. stay) (λ f. step-prepare-again from s p))
    (λ e. stay)

-- what is known of a Leader's ballot, by where the box stands
abbrev pub Leads : Standing → Type 0 → Type 0
Leads LeaderPrepare P = P
Leads LeaderAccept P = P
Leads FollowerPrepare P = Unit {0}
Leads FollowerAccept P = Unit {0}
Leads Other P = Unit {0}

pub leads : (r : Role) (p : Phase) (P : Type 0) → (r ≡ Leader → P) → Leads (standing_of r p) P
leads Leader phase.Prepare P f = f refl
leads Leader phase.Accept P f = f refl
leads Leader phase.Recover P f = tt
leads Leader phase.None P f = tt
leads Follower phase.Prepare P f = tt
leads Follower phase.Accept P f = tt
leads Follower phase.Recover P f = tt
leads Follower phase.None P f = tt

-- a Leader leads with a ballot of its own (refusal 2)
abbrev pub LeadsOwn : SequencePaxos → Type 0
LeadsOwn s = s.state.role ≡ Leader → Own s

-- a proposal
step-accept-entries : (count : ℕ) (s : SequencePaxos) → Placed s.config → Own s → count ≤ max_log → Longer count 1 (s.config.depots - 1) s (accept_entries_leader count s)
unfolding accept_entries_leader append_given
step-accept-entries count s h e l =
    let t = append_given count s in
    let x = step_then (step-appended count count s (omega arith)) (quiet_step (sent-depot s.config.pid (set_accepted (log_length t)) t (h.positive, h.own))) in
    step-more (step_then x (once-step (sent-followers (each.AcceptDecide (log_length s) count) (own_accepted t) h e l))) (s.config.depots - 1) (omega arith)

-- how many entries of a proposal join the log at once: a Leader's in Accept
abbrev pub joining : Standing → ℕ → ℕ
joining LeaderAccept count = count
joining LeaderPrepare count = 0
joining FollowerPrepare count = 0
joining FollowerAccept count = 0
joining Other count = 0

pub step-proposal : (count : ℕ) (s : SequencePaxos) → Placed s.config → LeadsOwn s → PromisedWithin s → count ≤ max_log → Longer (joining (standing_of s.state.role s.state.phase) count) 1 (most_sent s.config) s (handle_forwarded_proposal count s)
unfolding handle_forwarded_proposal
step-proposal count s h own w l = by (standing_of s.state.role s.state.phase) (leads s.state.role s.state.phase (Own s) own)
  where
    k : ℕ
    k = most_sent s.config

    forward : Step 1 k s (proposal_in Other count s)
    forward = step-more (step-forward count s w l) k (omega arith)

    by : (t : Standing) → Leads t (Own s) → Longer (joining t count) 1 k s (proposal_in t count s)
    by LeaderPrepare e = step-more (step-buffered count s) k (omega arith)
    by LeaderAccept e = step-more (step-accept-entries count s h e l) k (omega arith)
    by FollowerPrepare e = forward
    by FollowerAccept e = forward
    by Other e = forward

-- those that join make the log longer by as many
accepted-length : (count : ℕ) (s : SequencePaxos) → Placed s.config → Own s → count ≤ max_log → log_length (accept_entries_leader count s) ≡ log_length s + count
unfolding accept_entries_leader append_given
accepted-length count s h e l =
    let t = own_accepted (append_given count s) in
    ap (λ (x : InternalStorage). x.accepted_idx) (same-storage (sent-followers (each.AcceptDecide (log_length s) count) t h e l))

pub proposal-length : (count : ℕ) (s : SequencePaxos) → Placed s.config → LeadsOwn s → count ≤ max_log → 0 < joining (standing_of s.state.role s.state.phase) count → log_length (handle_forwarded_proposal count s) ≡ log_length s + joining (standing_of s.state.role s.state.phase) count
unfolding handle_forwarded_proposal
proposal-length count s h own l = by (standing_of s.state.role s.state.phase) (leads s.state.role s.state.phase (Own s) own)
  where
    by : (t : Standing) → Leads t (Own s) → 0 < joining t count → log_length (proposal_in t count s) ≡ log_length s + joining t count
    by LeaderPrepare e k = absurd (omega arith)
    by LeaderAccept e k = accepted-length count s h e l
    by FollowerPrepare e k = absurd (omega arith)
    by FollowerAccept e k = absurd (omega arith)
    by Other e k = absurd (omega arith)

-- a sync put on a leader's log, or refused: only the storage and the plan change, and the log is within its limit
pub record Synced (s r : SequencePaxos) : Type 0 where
  pub step : Step 0 0 s r
  pub only : r ≡ with_plan r.plan (with_storage r.internal_storage s)
  pub within : log_length r ≤ max_log

synced-not : (s : SequencePaxos) → log_length s ≤ max_log → Synced s (unfit s)
synced-not s h = record { step = step-none s; only = refl; within = h }

synced-leader : (highest end : ℕ) (op : LogOp) (s : SequencePaxos) → log_length s ≤ max_log → end ≤ max_log → (s.internal_storage.decided_idx ≤ log_length s → s.internal_storage.decided_idx ≤ end) → Synced s (leader_syncs highest end op s)
unfolding sync_log
synced-leader highest end op s h l k =
    let n = s.leader_state.n_leader in
    either (Synced s) (ltb end highest) (unfit s) (sync_log n highest end op s)
    (λ e. synced-not s h)
    (λ e. record { step = step-synced n highest end op s (ltb-false end highest e) k (omega arith); only = refl; within = l })

synced-held : (x : LogSync) (brought : Bool) (highest : ℕ) (s : SequencePaxos) → log_length s ≤ max_log → Synced s (sync_held x brought highest s)
unfolding sync_held
synced-held x brought highest s h =
    let brings = s.leader_state.max_promise.meta.decided_idx in
    either (Synced s) (sync_unfit x (change_of brought s) brings s) (unfit s) (leader_syncs highest (sync_end x) (put_op brought x) s)
    (λ e. synced-not s h)
    (λ e. let f = put-fits x (change_of brought s) brings s e in synced-leader highest (sync_end x) (put_op brought x) s h f.within (λ d. f.own))

pub synced-best : (brought : Bool) (s : SequencePaxos) → log_length s ≤ max_log → Synced s (sync_with_best brought s)
unfolding sync_with_best
synced-best brought s h = by s.leader_state.max_promise.sync
  where
    highest : ℕ
    highest = max_decided s.config.depots s.leader_state

    by : (x : Option LogSync) → Synced s (sync_by x brought highest s)
    by (Some x) = synced-held x brought highest s h
    by None = synced-leader highest (log_length s) Keep s h h (λ d. d)

-- once the sync is on: the buffered proposals join, and each promised follower is synced
step-all-synced : (u : SequencePaxos) → Placed u.config → Own u → log_length u ≤ max_log → Step 1 (u.config.depots - 1) u (for_followers each.AcceptSync (own_accepted (with_state (record { role = Leader; phase = phase.Accept }) (append_buffered (sync_taken u)))))
unfolding append_buffered
step-all-synced u h e l =
    let t = with_state (record { role = Leader; phase = phase.Accept }) (append_buffered (sync_taken u)) in
    let x = step_then (step-buffered-joined (sync_taken u)) (quiet_step (sent-depot u.config.pid (set_accepted (log_length t)) t (h.positive, h.own))) in
    step-more (step_then x (once-step (sent-followers each.AcceptSync (own_accepted t) h e (let w = kept-within u.buffered_proposals (log_length u) in omega arith)))) (u.config.depots - 1) (omega arith)

pub step-majority : (brought : Bool) (s : SequencePaxos) → Placed s.config → Own s → log_length s ≤ max_log → Step 1 (s.config.depots - 1) s (handle_majority_promises brought s)
unfolding handle_majority_promises
step-majority brought s h e l =
    let u = sync_with_best brought s in
    let x = synced-best brought s l in
    let c : u.config ≡ s.config = x.step.config in
    let n : u.leader_state ≡ s.leader_state = ap (λ (b : SequencePaxos). b.leader_state) x.only in
    let d : u.config.depots ≡ s.config.depots = ap (λ (b : Configuration). b.depots) c in
    step-more (step_then x.step (step-all-synced u (rw c h) (rw (n, c) e) x.within)) (s.config.depots - 1) (omega (arith, d))

-- a Promise
step-promise-prepare : (m : PromiseMetaData) (sync : Option LogSync) (s : SequencePaxos) → Placed s.config → Own s → InPlace m.pid s.config → log_length s ≤ max_log → Step 1 (s.config.depots - 1) s (handle_promise_prepare m sync s)
unfolding handle_promise_prepare
step-promise-prepare m sync s h e p l =
    let k = s.config.depots - 1 in
    let t = keep_promise m sync true s in
    let x = step-promise-kept m sync true s p in
    either (Step 1 k s) (reached m sync true s) (handle_majority_promises (beats_best m s.leader_state) t) (keep_sync (beats_best m s.leader_state) sync t)
    (λ f. step-more (step_then x (step-majority (beats_best m s.leader_state) t h e l)) k (omega arith))
    (λ f. step-more (step_then x (kept (beats_best m s.leader_state) t)) k (omega arith))
  where
    kept : (b : Bool) (t : SequencePaxos) → Step 0 0 t (keep_sync b sync t)
    kept true t = step-none t
    kept false t = step-none t

step-promise-accept : (m : PromiseMetaData) (s : SequencePaxos) → InPlace m.pid s.config → log_length s ≤ max_log → Step 1 1 s (handle_promise_accept m s)
unfolding handle_promise_accept
step-promise-accept m s p l =
    step_then (step-promise-kept m None false s p) (one-step m.pid (sent-sync-to m.pid (keep_promise m None false s) p l))

pub step-promise : (n : Ballot) (m : PromiseMetaData) (sync : Option LogSync) (s : SequencePaxos) → Placed s.config → LeadsOwn s → InPlace m.pid s.config → log_length s ≤ max_log → Step 1 (most_sent s.config) s (handle_promise n m sync s)
unfolding handle_promise
step-promise n m sync s h own p l =
    either (Step 1 k s) (same n s.leader_state.n_leader) (promise_in (standing_of s.state.role s.state.phase) m sync s) s
    (λ e. by (standing_of s.state.role s.state.phase) (leads s.state.role s.state.phase (Own s) own))
    (λ e. stay)
  where
    k : ℕ
    k = most_sent s.config

    stay : Step 1 k s s
    stay = step-more (step-none s) k (omega arith)

    by : (t : Standing) → Leads t (Own s) → Step 1 k s (promise_in t m sync s)
    by LeaderPrepare e =
        either (Step 1 k s) (brings_past sync) (unfit s) (handle_promise_prepare m sync s) (λ f. stay) (λ f. step-more (step-promise-prepare m sync s h e p l) k (omega arith))
    by LeaderAccept e =
        either (Step 1 k s) (brings_past sync) (unfit s) (handle_promise_accept m s) (λ f. stay) (λ f. step-more (step-promise-accept m s p l) k (omega arith))
    by FollowerPrepare e = stay
    by FollowerAccept e = stay
    by Other e = stay

-- Accepted
pub above-decided : (idx : ℕ) (s : SequencePaxos) → newly_chosen idx s ≡ true → s.internal_storage.decided_idx < idx
unfolding newly_chosen
above-decided idx s f = ltb-true _ _ (first (ltb s.internal_storage.decided_idx idx) _ f)
  where
    first : (a b : Bool) → cond a b false ≡ true → a ≡ true
    first true b e = refl
    first false b e = e

step-decided : (idx : ℕ) (s : SequencePaxos) → Placed s.config → Own s → idx ≤ log_length s → Step 1 (s.config.depots - 1) s (decide_if_chosen idx s)
unfolding decide_if_chosen
step-decided idx s h e l =
    let k = s.config.depots - 1 in
    either (Step 1 k s) (newly_chosen idx s) (for_followers each.Decide (set_decided idx s)) s
    (λ f. step-more (step_then (step-stored (inl refl) (λ d. let m = above-decided idx s f in omega arith) (omega arith)) (once-step (sent-followers each.Decide (set_decided idx s) h e tt))) k (omega arith))
    (λ f. step-more (step-none s) k (omega arith))

step-accepted-taken : (idx from : ℕ) (s : SequencePaxos) → Placed s.config → Own s → InPlace from s.config → Step 1 (s.config.depots - 1) s (accepted_taken idx from s)
unfolding accepted_taken
step-accepted-taken idx from s h e p =
    let k = s.config.depots - 1 in
    either (Step 1 k s) (ltb (log_length s) idx) (unfit s) (decide_if_chosen idx (set_accepted_of from idx s))
    (λ f. step-more (step-none s) k (omega arith))
    (λ f. step-more (step_then (quiet_step (sent-depot from (set_accepted idx) s p)) (step-decided idx (set_accepted_of from idx s) h e (ltb-false (log_length s) idx f))) k (omega arith))

pub step-accepted : (n : Ballot) (idx from : ℕ) (s : SequencePaxos) → Placed s.config → LeadsOwn s → InPlace from s.config → Step 1 (most_sent s.config) s (handle_accepted n idx from s)
unfolding handle_accepted
step-accepted n idx from s h own p =
    either (Step 1 k s) (same n s.leader_state.n_leader) (accepted_in (standing_of s.state.role s.state.phase) idx from s) s
    (λ e. by (standing_of s.state.role s.state.phase) (leads s.state.role s.state.phase (Own s) own))
    (λ e. stay)
  where
    k : ℕ
    k = most_sent s.config

    stay : Step 1 k s s
    stay = step-more (step-none s) k (omega arith)

    by : (t : Standing) → Leads t (Own s) → Step 1 k s (accepted_in t idx from s)
    by LeaderPrepare e = stay
    by LeaderAccept e = step-more (step-accepted-taken idx from s h e p) k (omega arith)
    by FollowerPrepare e = stay
    by FollowerAccept e = stay
    by Other e = stay

-- NotAccepted
pub step-not-accepted : (n : Ballot) (from : ℕ) (s : SequencePaxos) → InPlace from s.config → Step 0 0 s (handle_not_accepted n from s)
unfolding handle_not_accepted
step-not-accepted n from s p =
    either (Step 0 0 s) (is_leader s.state.role) _ s
    (λ e. either (Step 0 0 s) (above n s.leader_state.n_leader) (lost_promise from s) s (λ f. quiet_step (sent-depot from (set_promise_state PromisedHigher) s p)) (λ f. step-none s))
    (λ e. step-none s)

-- a Leader's resend
pub step-resend-leader : (s : SequencePaxos) → Placed s.config → Step 1 (most_sent s.config) s (resend_messages_leader s)
unfolding resend_messages_leader
step-resend-leader s h = by s.state.phase
  where
    k : ℕ
    k = most_sent s.config

    prepared : Step 1 k s (resend_in phase.Prepare s)
    prepared = step-more (once-step (sent-preparable each.Prepare s h tt)) k (omega arith)

    by : (p : Phase) → Step 1 k s (resend_in p s)
    by phase.Prepare = prepared
    by phase.Accept = prepared
    by phase.Recover = step-more (step-none s) k (omega arith)
    by phase.None = step-more (step-none s) k (omega arith)
