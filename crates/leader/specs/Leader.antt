-- What a leader does with each event (leader.rs; docs/RULES.md, R9). Each definition takes the box last. Most are named like the function that meets them
-- (handle_leader: handle_leader); each contract in src/ cites its own.
use Rattle.std.specs.Prelude.{ℕ, Bool, true, false, cond, ltb, eqb, Option, None, Some}
use Rattle.ballot.specs.Ballot.{above, same}
use Rattle.ballot.specs.declared.Ballot.{Ballot}
use Rattle.leader_state.specs.declared.PromiseMetaData.{PromiseMetaData}
use Rattle.leader_state.specs.declared.PromiseState.TheVariants.{NotPromised, PromisedHigher}
use Rattle.leader_state.specs.declared.LogSync.{LogSync}
use Rattle.leader_state.specs.State.{with_of, set_accepted, set_promise_state}
use Rattle.leader_state.specs.Promises.{beats_best, set_promise_of, take_sync, max_decided}
use Rattle.leader_state.specs.Places.{chosen, promised_followers, preparable_peers}
use Rattle.paxos_box.specs.declared.SequencePaxos.{SequencePaxos}
use Rattle.paxos_box.specs.declared.Role.TheVariants.{Leader, Follower}
use Rattle.paxos_box.specs.declared.Phase.{Phase}
use Rattle.paxos_box.specs.declared.Phase.TheVariants as phase
use Rattle.paxos_box.specs.declared.Standing.{Standing}
use Rattle.paxos_box.specs.declared.Standing.TheVariants.{LeaderPrepare, LeaderAccept, FollowerPrepare, FollowerAccept, Other}
use Rattle.paxos_box.specs.declared.LogOp.{LogOp}
use Rattle.paxos_box.specs.declared.LogOp.TheVariants.{Keep, PutGiven, PutHeld}
use Rattle.paxos_box.specs.Box.{unfit, with_leader, with_state, with_writes, set_promised, set_decided, best_op, is_leader, standing_of}
use Rattle.sends.specs.declared.Each.{Each}
use Rattle.sends.specs.declared.Each.TheVariants as each
use Rattle.sends.specs.Sends.{on_depot, log_length, set_latest_of, send_prepare, acc_sync_to, for_marked, peers_of}
use Rattle.log_plan.specs.Log.{ends_past, sync_end, sync_unfit, sync_log, append_given, append_buffered, buffer_given, forward_proposals}

-- to each promised follower; to each peer that has not promised; to each peer
abbrev pub for_followers : Each → SequencePaxos → SequencePaxos
for_followers what s = for_marked (promised_followers s.config.depots s.leader_state) what s.config.depots s

abbrev pub for_preparable : Each → SequencePaxos → SequencePaxos
for_preparable what s = for_marked (preparable_peers s.config.pid s.config.depots s.leader_state) what s.config.depots s

abbrev pub for_peers : Each → SequencePaxos → SequencePaxos
for_peers what s = for_marked (peers_of s.config) what s.config.depots s

-- A promise kept, the best after it, and whether a read quorum has promised
abbrev pub own_meta : SequencePaxos → PromiseMetaData
own_meta s = record { n_accepted = s.internal_storage.accepted_round; accepted_idx = log_length s; decided_idx = s.internal_storage.decided_idx; pid = s.config.pid }

abbrev pub keep_promise : PromiseMetaData → Option LogSync → Bool → SequencePaxos → SequencePaxos
keep_promise m sync check s = with_leader (set_promise_of s.config m sync check s.leader_state).state s

abbrev pub reached : PromiseMetaData → Option LogSync → Bool → SequencePaxos → Bool
reached m sync check s = (set_promise_of s.config m sync check s.leader_state).reached

-- A leader event (R9.1, R9.2). Not above one's own leader ballot and promise: nothing. The own pid: a new leader's record with the own promise in it,
-- (Leader, Prepare), and a Prepare to each peer. The own promise never completes a read quorum by itself. Another depot's: the role turns to Follower.
unfoldable pub new_leader : Ballot → SequencePaxos → SequencePaxos
new_leader n s = set_promised n (with_leader (with_of n s.config.depots s.leader_state) s)

unfoldable pub own_promise : SequencePaxos → SequencePaxos
own_promise s = keep_promise (own_meta s) None true s

unfoldable pub become_leader : Ballot → SequencePaxos → SequencePaxos
become_leader n s = for_peers each.Prepare (with_state (record { role = Leader; phase = phase.Prepare }) (own_promise (new_leader n s)))

abbrev pub become_follower : SequencePaxos → SequencePaxos
become_follower s = with_state (record { role = Follower; phase = s.state.phase }) s

unfoldable pub handle_leader : Ballot → SequencePaxos → SequencePaxos
handle_leader n s =
    cond (above n s.leader_state.n_leader)
    (cond (above n s.internal_storage.promise)
    (cond (eqb n.pid s.config.pid) (become_leader n s) (become_follower s))
    s)
    s

-- PrepareReq (R9.3): a Leader whose ballot is not below the one told takes back that depot's promise and its remembered AcceptDecide, and prepares it again
unfoldable pub prepare_again : ℕ → SequencePaxos → SequencePaxos
prepare_again from s = send_prepare from (set_latest_of from None (on_depot from (set_promise_state NotPromised) s))

unfoldable pub handle_prepare_req : Ballot → ℕ → SequencePaxos → SequencePaxos
handle_prepare_req n from s =
    cond (is_leader s.state.role) (cond (above n s.leader_state.n_leader) s (prepare_again from s)) s

-- a proposal, local or forwarded (R9.4): buffered in (Leader, Prepare), accepted in (Leader, Accept), else forwarded
abbrev pub set_accepted_of : ℕ → ℕ → SequencePaxos → SequencePaxos
set_accepted_of pid idx s = on_depot pid (set_accepted idx) s

abbrev pub own_accepted : SequencePaxos → SequencePaxos
own_accepted s = set_accepted_of s.config.pid (log_length s) s

unfoldable pub accept_entries_leader : ℕ → SequencePaxos → SequencePaxos
accept_entries_leader count s = for_followers (each.AcceptDecide (log_length s) count) (own_accepted (append_given count s))

abbrev pub proposal_in : Standing → ℕ → SequencePaxos → SequencePaxos
proposal_in LeaderPrepare count s = buffer_given count s
proposal_in LeaderAccept count s = accept_entries_leader count s
proposal_in FollowerPrepare count s = forward_proposals count s
proposal_in FollowerAccept count s = forward_proposals count s
proposal_in Other count s = forward_proposals count s

unfoldable pub handle_forwarded_proposal : ℕ → SequencePaxos → SequencePaxos
handle_forwarded_proposal count s = proposal_in (standing_of s.state.role s.state.phase) count s

-- A read quorum has promised (R9.8, R2.4.30). The best promise's sync, held or brought by this Promise, goes on the log, unless it is unfit; without one the log stays.
-- The highest decided index of the promises must not pass the log they leave.
abbrev pub put_op : Bool → LogSync → LogOp
put_op true x = PutGiven x
put_op false x = PutHeld x

abbrev pub change_of : Bool → SequencePaxos → ℕ
change_of true s = s.plan.sight.brought_change
change_of false s = s.plan.sight.held_change

abbrev pub leader_syncs : ℕ → ℕ → LogOp → SequencePaxos → SequencePaxos
leader_syncs highest end op s = cond (ltb end highest) (unfit s) (sync_log s.leader_state.n_leader highest end op s)

unfoldable pub sync_held : LogSync → Bool → ℕ → SequencePaxos → SequencePaxos
sync_held x brought highest s =
    cond (sync_unfit x (change_of brought s) s.leader_state.max_promise.meta.decided_idx s) (unfit s)
    (leader_syncs highest (sync_end x) (put_op brought x) s)

abbrev pub sync_by : Option LogSync → Bool → ℕ → SequencePaxos → SequencePaxos
sync_by (Some x) brought highest s = sync_held x brought highest s
sync_by None brought highest s = leader_syncs highest (log_length s) Keep s

unfoldable pub sync_with_best : Bool → SequencePaxos → SequencePaxos
sync_with_best brought s = sync_by s.leader_state.max_promise.sync brought (max_decided s.config.depots s.leader_state) s

-- then the buffered proposals join, the state is (Leader, Accept), and each promised follower is synced
abbrev pub sync_taken : SequencePaxos → SequencePaxos
sync_taken s = with_leader (take_sync s.leader_state) s

unfoldable pub handle_majority_promises : Bool → SequencePaxos → SequencePaxos
handle_majority_promises brought s =
    for_followers each.AcceptSync
    (own_accepted
    (with_state (record { role = Leader; phase = phase.Accept })
    (append_buffered
    (sync_taken
    (sync_with_best brought s)))))

-- a Promise in (Leader, Prepare) (R9.7): kept, and best where it beats the best; its sync's entries are kept for later unless this Promise completes the read quorum
abbrev pub held_length : Option LogSync → Option ℕ
held_length (Some x) = Some x.len
held_length None = None

abbrev pub keep_sync : Bool → Option LogSync → SequencePaxos → SequencePaxos
keep_sync true sync s = with_writes (best_op (held_length sync) s.plan.writes) s
keep_sync false sync s = s

unfoldable pub handle_promise_prepare : PromiseMetaData → Option LogSync → SequencePaxos → SequencePaxos
handle_promise_prepare m sync s =
    cond (reached m sync true s)
    (handle_majority_promises (beats_best m s.leader_state) (keep_promise m sync true s))
    (keep_sync (beats_best m s.leader_state) sync (keep_promise m sync true s))

-- in (Leader, Accept) (R9.10): kept, never best, and the follower is synced
unfoldable pub handle_promise_accept : PromiseMetaData → SequencePaxos → SequencePaxos
handle_promise_accept m s = acc_sync_to m.pid (keep_promise m None false s)

-- a sync brought that ends past 512 is unfit where the Promise is taken (R2.4.21)
abbrev pub brings_past : Option LogSync → Bool
brings_past (Some x) = ends_past x
brings_past None = false

abbrev pub promise_in : Standing → PromiseMetaData → Option LogSync → SequencePaxos → SequencePaxos
promise_in LeaderPrepare m sync s = cond (brings_past sync) (unfit s) (handle_promise_prepare m sync s)
promise_in LeaderAccept m sync s = cond (brings_past sync) (unfit s) (handle_promise_accept m s)
promise_in FollowerPrepare m sync s = s
promise_in FollowerAccept m sync s = s
promise_in Other m sync s = s

unfoldable pub handle_promise : Ballot → PromiseMetaData → Option LogSync → SequencePaxos → SequencePaxos
handle_promise n m sync s =
    cond (same n s.leader_state.n_leader) (promise_in (standing_of s.state.role s.state.phase) m sync s) s

-- Accepted in (Leader, Accept) of the leader's ballot (R9.9, R2.4.29): the index is set; where it is above the decided index and chosen, it is decided and told.
-- An index above the leader's log is unfit.
unfoldable pub newly_chosen : ℕ → SequencePaxos → Bool
newly_chosen idx s = cond (ltb s.internal_storage.decided_idx idx) (chosen idx s.config s.leader_state) false

unfoldable pub decide_if_chosen : ℕ → SequencePaxos → SequencePaxos
decide_if_chosen idx s = cond (newly_chosen idx s) (for_followers each.Decide (set_decided idx s)) s

unfoldable pub accepted_taken : ℕ → ℕ → SequencePaxos → SequencePaxos
accepted_taken idx from s = cond (ltb (log_length s) idx) (unfit s) (decide_if_chosen idx (set_accepted_of from idx s))

abbrev pub accepted_in : Standing → ℕ → ℕ → SequencePaxos → SequencePaxos
accepted_in LeaderAccept idx from s = accepted_taken idx from s
accepted_in LeaderPrepare idx from s = s
accepted_in FollowerPrepare idx from s = s
accepted_in FollowerAccept idx from s = s
accepted_in Other idx from s = s

unfoldable pub handle_accepted : Ballot → ℕ → ℕ → SequencePaxos → SequencePaxos
handle_accepted n idx from s =
    cond (same n s.leader_state.n_leader) (accepted_in (standing_of s.state.role s.state.phase) idx from s) s

-- NotAccepted with a ballot above a Leader's (R9.11): that depot has promised higher
abbrev pub lost_promise : ℕ → SequencePaxos → SequencePaxos
lost_promise from s = on_depot from (set_promise_state PromisedHigher) s

unfoldable pub handle_not_accepted : Ballot → ℕ → SequencePaxos → SequencePaxos
handle_not_accepted n from s =
    cond (is_leader s.state.role) (cond (above n s.leader_state.n_leader) (lost_promise from s) s) s

-- a Leader's resend (R9.12): a Prepare to each peer that has not promised, this leader or a higher one
abbrev pub resend_in : Phase → SequencePaxos → SequencePaxos
resend_in phase.Prepare s = for_preparable each.Prepare s
resend_in phase.Accept s = for_preparable each.Prepare s
resend_in phase.Recover s = s
resend_in phase.None s = s

unfoldable pub resend_messages_leader : SequencePaxos → SequencePaxos
resend_messages_leader s = resend_in s.state.phase s
