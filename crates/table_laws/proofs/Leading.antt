-- The flags of each handler of a leader but Promise, in words.
use Rattle.std.specs.Prelude.{Option, None, Some}
use Prim.Native.Nat.{ℕ, ◌-◌, ◌≤◌}
use mathlib.Core.Path.{◌≡◌, refl, ap, sym, ◌∙◌}
use mathlib.Core.Logic.{◌⊎◌, inl, inr, ◌↔◌}
use mathlib.Core.Bool.{Bool, true, false, cond, ◌&&◌}
use mathlib.Core.List.{List}
use native.Mathlib.Omega.{arith}
use lib.Dec.{ltb, leb, eqb}
use lib.ListN.{get_or}
use borrow.Author.Tests.{ltb-true, lt-ltb, leb-true, le-leb}
use Rattle.base.proofs.Tests.{not-both}
use Rattle.base.specs.Limits.{max_log, max_depots, largest}
use Rattle.ballot.specs.Ballot.{above, same}
use Rattle.ballot.specs.declared.Ballot.{Ballot}
use Rattle.ballot.proofs.Laws.{same-eq, same_refl}
use Rattle.leader_state.specs.declared.Depot.{Depot}
use Rattle.leader_state.specs.declared.LeaderState.{LeaderState}
use Rattle.leader_state.specs.declared.PromiseState.TheVariants.{NotPromised}
use Rattle.leader_state.specs.State.{fresh, depot_of, with_depot, set_accepted, set_promise_state}
use Rattle.leader_state.specs.Promises.{is_promised}
use Rattle.leader_state.specs.Places.{is_follower, preparable_peers}
use Rattle.messages.specs.declared.Accepted.{Accepted}
use Rattle.paxos_box.specs.declared.SequencePaxos.{SequencePaxos}
use Rattle.paxos_box.specs.declared.Role.TheVariants.{Leader}
use Rattle.paxos_box.specs.declared.Phase.{Phase}
use Rattle.paxos_box.specs.declared.Phase.TheVariants as phase
use Rattle.paxos_box.specs.declared.Standing.{Standing}
use Rattle.paxos_box.specs.declared.Standing.TheVariants.{LeaderPrepare, LeaderAccept, FollowerPrepare, FollowerAccept, Other}
use Rattle.paxos_box.specs.declared.Source.TheVariants.{Given}
use Rattle.paxos_box.specs.Box.{unfit, with_state, set_decided, is_leader}
use Rattle.sends.specs.declared.Each.TheVariants as each
use Rattle.sends.specs.Sends.{on_depot, log_length, set_latest_of, stands, latest_accdec, send_prepare, peers_of}
use Rattle.log_plan.specs.Log.{append_given, buffer_given, has_leader, push_forward, forward_proposals}
use Rattle.leader.specs.Leader.{for_followers, new_leader, own_promise, become_leader, become_follower, handle_leader, prepare_again, handle_prepare_req, set_accepted_of, own_accepted, accept_entries_leader, proposal_in, handle_forwarded_proposal, newly_chosen, decide_if_chosen, accepted_taken, accepted_in, handle_accepted, lost_promise, handle_not_accepted, resend_in, resend_messages_leader}
use Rattle.decide_laws.proofs.Grown.{either}
use Rattle.table_laws.specs.Words.{standing, AtTop, SomeFollower, AcceptedTaken, AcceptedUnfit, CounterTop, ProposalTop, AcceptedTop}
use Rattle.table_laws.proofs.Flags.{kept_in, is_nothing}
use Rattle.table_laws.proofs.Flagged.{apart, both_true, first-true, second-true, Unflagged, clear-push, clear-prepares, Says, says_none, says-unfit, says_map, follower-map, followed}

-- Handlers that raise no flag
clear-become : (n : Ballot) (s : SequencePaxos) → Unflagged s → Unflagged (become_leader n s)
unfolding new_leader own_promise become_leader
clear-become n s c = clear-prepares (peers_of s.config) (with_state (record { role = Leader; phase = phase.Prepare }) (own_promise (new_leader n s))) c

pub clear-leader : (n : Ballot) (s : SequencePaxos) → Unflagged s → Unflagged (handle_leader n s)
unfolding handle_leader
clear-leader n s c =
    either Unflagged (above n s.leader_state.n_leader) _ s
    (λ e. either Unflagged (above n s.internal_storage.promise) _ s
    (λ f. either Unflagged (eqb n.pid s.config.pid) (become_leader n s) (become_follower s) (λ g. clear-become n s c) (λ g. c))
    (λ f. c))
    (λ e. c)

clear-prepare : (from : ℕ) (s : SequencePaxos) → Unflagged s → Unflagged (prepare_again from s)
unfolding prepare_again send_prepare
clear-prepare from s c = clear-push _ (set_latest_of from None (on_depot from (set_promise_state NotPromised) s)) c

pub clear-prepare-req : (n : Ballot) (from : ℕ) (s : SequencePaxos) → Unflagged s → Unflagged (handle_prepare_req n from s)
unfolding handle_prepare_req
clear-prepare-req n from s c =
    either Unflagged (is_leader s.state.role) _ s
    (λ e. either Unflagged (above n s.leader_state.n_leader) s (prepare_again from s) (λ f. c) (λ f. clear-prepare from s c))
    (λ e. c)

pub clear-not-accepted : (n : Ballot) (from : ℕ) (s : SequencePaxos) → Unflagged s → Unflagged (handle_not_accepted n from s)
unfolding handle_not_accepted
clear-not-accepted n from s c =
    either Unflagged (is_leader s.state.role) _ s
    (λ e. either Unflagged (above n s.leader_state.n_leader) (lost_promise from s) s (λ f. c) (λ f. c))
    (λ e. c)

pub clear-resend-leader : (s : SequencePaxos) → Unflagged s → Unflagged (resend_messages_leader s)
unfolding resend_messages_leader
clear-resend-leader s c = by s.state.phase
  where
    prepared : Unflagged (resend_in phase.Prepare s)
    prepared = clear-prepares (preparable_peers s.config.pid s.config.depots s.leader_state) s c

    by : (p : Phase) → Unflagged (resend_in p s)
    by phase.Prepare = prepared
    by phase.Accept = prepared
    by phase.Recover = c
    by phase.None = c

clear-buffer : (count : ℕ) (s : SequencePaxos) → Unflagged s → Unflagged (buffer_given count s)
unfolding buffer_given
clear-buffer count s c = c

clear-forwarded : (count : ℕ) (s : SequencePaxos) → Unflagged s → Unflagged (forward_proposals count s)
unfolding forward_proposals
clear-forwarded count s c = either Unflagged (has_leader s) (push_forward Given count s) (buffer_given count s) (λ e. clear-push _ s c) (λ e. clear-buffer count s c)

-- A new message to each promised follower

-- a depot's accepted index set changes none of its promise
pub follower-kept : (own idx pid : ℕ) (l : LeaderState) → is_follower pid (with_depot own (set_accepted idx) l) ≡ is_follower pid l
unfolding is_follower
follower-kept own idx pid l =
    ap (λ b. cond (eqb pid l.n_leader.pid) false b) (kept_in (λ (d : Depot). is_promised d.promise) (set_accepted idx) (λ d. refl) l.depots (own - 1) (pid - 1) fresh)

-- a new message goes to this depot, and its counter is at the top
abbrev NewTop : Depot → Bool → Type 0
NewTop d on = (stands on d.latest ≡ None) × AtTop d.seq_num.counter

new_top : Depot → Bool → Bool
new_top d on = is_nothing (stands on d.latest) && leb largest d.seq_num.counter

nothing_is : (x : Option ℕ) → is_nothing x ≡ true → x ≡ None
nothing_is None e = refl
nothing_is (Some at) e = absurd (not-both {b = false} e refl)

new-top : (d : Depot) (on : Bool) → new_top d on ≡ true → NewTop d on
unfolding new_top
new-top d on e =
    let a = is_nothing (stands on d.latest) in
    let b = leb largest d.seq_num.counter in
    (nothing_is (stands on d.latest) (first-true a b e), leb-true largest d.seq_num.counter (second-true a b e))

top-new : (d : Depot) (on : Bool) → NewTop d on → new_top d on ≡ true
unfolding new_top
top-new d on x = both_true (is_nothing (stands on d.latest)) (leb largest d.seq_num.counter) (ap is_nothing x.0) (le-leb largest d.seq_num.counter x.1)

-- with one depot's accepted index set, the same followers are at the top
module _ (depots own idx : ℕ) (l : LeaderState) (accdec : List Bool) where
  abbrev after : LeaderState
  after = with_depot own (set_accepted idx) l

  abbrev on_at : ℕ → Bool
  on_at pid = get_or accdec (pid - 1) false

  kept_top : (pid : ℕ) → new_top (depot_of pid after) (on_at pid) ≡ new_top (depot_of pid l) (on_at pid)
  unfolding new_top
  kept_top pid = kept_in (λ (d : Depot). new_top d (on_at pid)) (set_accepted idx) (λ d. refl) l.depots (own - 1) (pid - 1) fresh

  tops-after : SomeFollower depots after (λ pid. new_top (depot_of pid after) (on_at pid) ≡ true) ↔ SomeFollower depots l (λ pid. NewTop (depot_of pid l) (on_at pid))
  tops-after = (
    follower-map depots after l (λ pid. new_top (depot_of pid after) (on_at pid) ≡ true) (λ pid. NewTop (depot_of pid l) (on_at pid)) (λ pid. sym (follower-kept own idx pid l)) (λ pid h e. new-top (depot_of pid l) (on_at pid) (sym (kept_top pid) ∙ e)),
    follower-map depots l after (λ pid. NewTop (depot_of pid l) (on_at pid)) (λ pid. new_top (depot_of pid after) (on_at pid) ≡ true) (λ pid. follower-kept own idx pid l) (λ pid h x. kept_top pid ∙ top-new (depot_of pid l) (on_at pid) x),
  )

-- what a loop says whose turns raise only 7
only-top : (N W : Type 0) (r : SequencePaxos) (a b : Bool) → a ≡ false → b ≡ false → (r.plan.unfit ≡ true) ↔ ((a ≡ true) ⊎ N) → (N → ⊥) → (r.plan.top ≡ true) ↔ ((b ≡ true) ⊎ W) → Says ⊥ W r
only-top N W r a b p q x none y =
    record {
      unfit = ((λ e. never (x.0 e)), (λ u. absurd u));
      top = λ h. ((λ e. some (y.0 e)), (λ w. y.1 (inr w)));
    }
  where
    never : (a ≡ true) ⊎ N → ⊥
    never (inl e) = not-both {b = a} e p
    never (inr v) = none v

    some : (b ≡ true) ⊎ W → W
    some (inl e) = absurd (not-both {b = b} e q)
    some (inr w) = w

never-so : (depots : ℕ) (l : LeaderState) → SomeFollower depots l (λ pid. false ≡ true) → ⊥
never-so depots l x = not-both {b = false} x.so refl

-- A proposal
module _ (count : ℕ) (s : SequencePaxos) (c : Unflagged s) (d : s.config.depots ≤ max_depots) where
  says-entries : count ≤ max_log → Says ⊥ (CounterTop s) (accept_entries_leader count s)
  unfolding accept_entries_leader append_given latest_accdec new_top
  says-entries h =
      let t = own_accepted (append_given count s) in
      let what = each.AcceptDecide (log_length s) count in
      let n = s.config.depots in
      let l = s.leader_state in
      let own = s.config.pid in
      let x = followed what t d h in
      let W = SomeFollower n (with_depot own (set_accepted (log_length t)) l) (λ pid. new_top (depot_of pid (with_depot own (set_accepted (log_length t)) l)) (get_or s.plan.sight.accdec (pid - 1) false) ≡ true) in
      let r = accept_entries_leader count s in
      says_map ⊥ (CounterTop s) ⊥ W r (λ b. b, λ b. b) (tops-after n own (log_length t) l s.plan.sight.accdec)
      (only-top (SomeFollower n t.leader_state (λ pid. false ≡ true)) W r s.plan.unfit s.plan.top c.fit c.below x.unfit (never-so n t.leader_state) x.top)

  pub says-proposal : count ≤ max_log → Says ⊥ (ProposalTop s) (handle_forwarded_proposal count s)
  unfolding handle_forwarded_proposal
  says-proposal h = by (standing s) refl
    where
      other : (t : Standing) (r : SequencePaxos) → standing s ≡ t → (t ≡ LeaderAccept → ⊥) → Unflagged r → Says ⊥ (ProposalTop s) r
      other t r e k q = says_none ⊥ (ProposalTop s) r q (λ b. b) (λ x. k (sym e ∙ x.0))

      forwarded : (t : Standing) → standing s ≡ t → (t ≡ LeaderAccept → ⊥) → Says ⊥ (ProposalTop s) (forward_proposals count s)
      forwarded t e k = other t (forward_proposals count s) e k (clear-forwarded count s c)

      by : (t : Standing) → standing s ≡ t → Says ⊥ (ProposalTop s) (proposal_in t count s)
      by LeaderPrepare e = other LeaderPrepare (buffer_given count s) e (λ k. apart k (omega arith)) (clear-buffer count s c)
      by LeaderAccept e = says_map ⊥ (ProposalTop s) ⊥ (CounterTop s) (accept_entries_leader count s) (λ b. b, λ b. b) (λ x. (e, x), λ x. x.1) (says-entries h)
      by FollowerPrepare e = forwarded FollowerPrepare e (λ k. apart k (omega arith))
      by FollowerAccept e = forwarded FollowerAccept e (λ k. apart k (omega arith))
      by Other e = forwarded Other e (λ k. apart k (omega arith))

-- Accepted
module _ (m : Accepted) (from : ℕ) (s : SequencePaxos) (c : Unflagged s) (d : s.config.depots ≤ max_depots) where
  abbrev reported : SequencePaxos
  reported = set_accepted_of from m.accepted_idx s

  says-told : Says ⊥ (CounterTop s) (for_followers each.Decide (set_decided m.accepted_idx reported))
  unfolding latest_accdec new_top
  says-told =
      let t = set_decided m.accepted_idx reported in
      let n = s.config.depots in
      let l = s.leader_state in
      let x = followed each.Decide t d tt in
      let W = SomeFollower n (with_depot from (set_accepted m.accepted_idx) l) (λ pid. new_top (depot_of pid (with_depot from (set_accepted m.accepted_idx) l)) (get_or s.plan.sight.accdec (pid - 1) false) ≡ true) in
      let r = for_followers each.Decide t in
      says_map ⊥ (CounterTop s) ⊥ W r (λ b. b, λ b. b) (tops-after n from m.accepted_idx l s.plan.sight.accdec)
      (only-top (SomeFollower n t.leader_state (λ pid. false ≡ true)) W r s.plan.unfit s.plan.top c.fit c.below x.unfit (never-so n t.leader_state) x.top)

  says-chosen : AcceptedTaken m s → Says ⊥ (AcceptedTop m from s) (decide_if_chosen m.accepted_idx reported)
  unfolding decide_if_chosen
  says-chosen t =
      let r = for_followers each.Decide (set_decided m.accepted_idx reported) in
      let now = newly_chosen m.accepted_idx reported in
      either (Says ⊥ (AcceptedTop m from s)) now r reported
      (λ e. says_map ⊥ (AcceptedTop m from s) ⊥ (CounterTop s) r (λ b. b, λ b. b) (λ x. (t, e, x), λ x. x.2) says-told)
      (λ e. says_none ⊥ (AcceptedTop m from s) reported c (λ b. b) (λ x. not-both {b = now} x.1 e))

  says-accepted-taken : AcceptedTaken m s → Says (AcceptedUnfit m s) (AcceptedTop m from s) (accepted_taken m.accepted_idx from s)
  unfolding accepted_taken
  says-accepted-taken t =
      let U = AcceptedUnfit m s in
      let T = AcceptedTop m from s in
      let past = ltb (log_length s) m.accepted_idx in
      either (Says U T) past (unfit s) (decide_if_chosen m.accepted_idx reported)
      (λ e. says-unfit U T (unfit s) refl (t, ltb-true (log_length s) m.accepted_idx e))
      (λ e. says_map U T ⊥ T (decide_if_chosen m.accepted_idx reported) ((λ b. absurd b), (λ u. not-both {b = past} (lt-ltb (log_length s) m.accepted_idx u.1) e)) (λ x. x, λ x. x) (says-chosen t))

  pub says-accepted : Says (AcceptedUnfit m s) (AcceptedTop m from s) (handle_accepted m.n m.accepted_idx from s)
  unfolding handle_accepted
  says-accepted =
      either (Says U T) (same m.n s.leader_state.n_leader) (accepted_in (standing s) m.accepted_idx from s) s
      (λ e. by (same-eq m.n s.leader_state.n_leader e) (standing s) refl)
      (λ e. says_none U T s c (λ u. unequal u.0.0 e) (λ t. unequal t.0.0 e))
    where
      U : Type 0
      U = AcceptedUnfit m s

      T : Type 0
      T = AcceptedTop m from s

      unequal : m.n ≡ s.leader_state.n_leader → same m.n s.leader_state.n_leader ≡ false → ⊥
      unequal e k = not-both {b = same m.n s.leader_state.n_leader} (rw e (same_refl s.leader_state.n_leader)) k

      other : (t : Standing) → standing s ≡ t → (t ≡ LeaderAccept → ⊥) → Says U T s
      other t e h = says_none U T s c (λ u. h (sym e ∙ u.0.1)) (λ x. h (sym e ∙ x.0.1))

      by : m.n ≡ s.leader_state.n_leader → (t : Standing) → standing s ≡ t → Says U T (accepted_in t m.accepted_idx from s)
      by n LeaderAccept e = says-accepted-taken (n, e)
      by n LeaderPrepare e = other LeaderPrepare e (λ k. apart k (omega arith))
      by n FollowerPrepare e = other FollowerPrepare e (λ k. apart k (omega arith))
      by n FollowerAccept e = other FollowerAccept e (λ k. apart k (omega arith))
      by n Other e = other Other e (λ k. apart k (omega arith))
