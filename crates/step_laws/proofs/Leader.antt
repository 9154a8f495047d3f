-- A closed fact along each handler of a leader.
use Rattle.std.specs.Prelude.{Option, None, Some}
use Prim.Native.Nat.{ℕ, ◌≤◌}
use mathlib.Core.Path.{◌≡◌, refl, ap, ◌∙◌}
use mathlib.Core.Bool.{Bool, true, false, cond}
use mathlib.Core.List.{List}
use native.Mathlib.Omega.{arith}
use lib.Dec.{ltb, eqb}
use lib.ListN.{length}
use borrow.Author.Tests.{ltb-false, eqb-true}
use Rattle.ballot.specs.Ballot.{above, same}
use Rattle.ballot.specs.declared.Ballot.{Ballot}
use Rattle.ballot.proofs.Laws.{same-eq}
use Rattle.quorum.specs.declared.Configuration.{Configuration}
use Rattle.leader_state.specs.declared.LogSync.{LogSync}
use Rattle.leader_state.specs.declared.PromiseMetaData.{PromiseMetaData}
use Rattle.leader_state.specs.declared.PromiseState.TheVariants.{NotPromised, PromisedHigher}
use Rattle.leader_state.specs.State.{with_of, set_accepted, set_promise_state, set_latest}
use Rattle.leader_state.specs.Promises.{beats_best, max_decided}
use Rattle.leader_state.specs.Places.{promised_followers, preparable_peers}
use Rattle.messages.specs.declared.Event.{Event}
use Rattle.paxos_box.specs.declared.SequencePaxos.{SequencePaxos}
use Rattle.paxos_box.specs.declared.Role.TheVariants.{Leader}
use Rattle.paxos_box.specs.declared.Phase.{Phase}
use Rattle.paxos_box.specs.declared.Phase.TheVariants as phase
use Rattle.paxos_box.specs.declared.Standing.{Standing}
use Rattle.paxos_box.specs.declared.Standing.TheVariants.{LeaderPrepare, LeaderAccept, FollowerPrepare, FollowerAccept, Other}
use Rattle.paxos_box.specs.declared.LogOp.{LogOp}
use Rattle.paxos_box.specs.declared.LogOp.TheVariants.{Keep}
use Rattle.paxos_box.specs.declared.Source.TheVariants.{Given}
use Rattle.paxos_box.specs.Box.{unfit, with_state, with_leader, set_decided, is_leader, standing_of}
use Rattle.sends.specs.declared.Each.TheVariants as each
use Rattle.sends.specs.Sends.{on_depot, log_length, set_latest_of, peers_of}
use Rattle.log_plan.specs.Log.{sync_end, sync_unfit, sync_log, append_given, append_buffered, buffer_given, has_leader, push_forward, forward_proposals}
use Rattle.log_plan.proofs.Ends.{ends-within}
use Rattle.leader.specs.Leader.{for_followers, keep_promise, reached, new_leader, own_promise, become_leader, become_follower, handle_leader, prepare_again, handle_prepare_req, set_accepted_of, own_accepted, accept_entries_leader, proposal_in, handle_forwarded_proposal, put_op, change_of, leader_syncs, sync_held, sync_by, sync_with_best, sync_taken, handle_majority_promises, keep_sync, handle_promise_prepare, handle_promise_accept, brings_past, promise_in, handle_promise, newly_chosen, decide_if_chosen, accepted_taken, accepted_in, handle_accepted, lost_promise, handle_not_accepted, resend_in, resend_messages_leader}
use Rattle.refusals.proofs.Taken.{Depot, Known, Real, Fit}
use Rattle.decide_laws.proofs.Grown.{either}
use Rattle.decide_laws.proofs.Log.{PutFits, put-fits}
use Rattle.decide_laws.proofs.Leader.{Leads, leads, above-decided}
use Rattle.step_laws.proofs.Moves.{Brought, Holds, Closed, Found}
use Rattle.step_laws.proofs.Sends.{mild-forget, mild-accepted, mild-promise, along-sync-to, along-marked}

-- the sync of the best promise: the one brought, where this Promise beats the best, else the one that is held
abbrev pub BestSync : Event → List ℕ → SequencePaxos → Option LogSync → Bool → Type 0
BestSync e entries found y true = Holds e entries y
BestSync e entries found y false = found.leader_state.max_promise.sync ≡ y

best-sync : (e : Event) (entries : List ℕ) (found : SequencePaxos) (m : PromiseMetaData) (x : Option LogSync) (b : Bool) → Holds e entries x → BestSync e entries found (cond b (record { meta = m; sync = x }) found.leader_state.max_promise).sync b
best-sync e entries found m x true h = h
best-sync e entries found m x false h = refl

-- the sync of a Promise as it arrives
abbrev pub Arrives : Event → List ℕ → Option LogSync → Type 0
Arrives e entries None = Unit {0}
Arrives e entries (Some x) = Brought e entries x

holds : (e : Event) (entries : List ℕ) (x : Option LogSync) → Arrives e entries x → brings_past x ≡ false → Holds e entries x
holds e entries None a b = tt
holds e entries (Some x) a b = (a, ends-within x b)

module _ (c : Configuration) (e : Event) (entries : List ℕ) (s : SequencePaxos) (I : ℕ → SequencePaxos → Type 0) (o : Closed c e entries s I) (f : Found c s) (i : I 0 s) where
  stay : (k : ℕ) → I k s
  stay k = o.more 0 k s (omega arith) i

  -- a leader event
  along-new-leader : (n : Ballot) → Real c n → n.pid ≡ c.pid → I 7 (become_leader n s)
  unfolding new_leader own_promise become_leader with_of
  along-new-leader n r p =
      let t = new_leader n s in
      let j = o.promises-itself t (o.promises 0 n (with_leader (with_of n s.config.depots s.leader_state) s) r (o.leads-anew n s r p i)) in
      let u = with_state (record { role = Leader; phase = phase.Prepare }) (own_promise t) in
      along-marked c e entries s I o (peers_of u.config) each.Prepare u f.depots tt (o.lead 0 (own_promise t) p j)

  pub along-leader : (n : Ballot) → Real c n → I 7 (handle_leader n s)
  unfolding handle_leader
  along-leader n r =
      either (I 7) (above n s.leader_state.n_leader) _ s
      (λ a. either (I 7) (above n s.internal_storage.promise) _ s
      (λ b. either (I 7) (eqb n.pid s.config.pid) (become_leader n s) (become_follower s)
      (λ p. along-new-leader n r (eqb-true n.pid s.config.pid p ∙ ap (λ (x : Configuration). x.pid) (o.config 0 s i)))
      (λ p. o.follow 7 s.state.phase s (stay 7)))
      (λ b. stay 7))
      (λ a. stay 7)

  -- PrepareReq
  along-again : (from : ℕ) → Depot c from → I 7 (prepare_again from s)
  unfolding prepare_again
  along-again from d =
      let t = on_depot from (set_promise_state NotPromised) s in
      let j = o.changes-place 0 from (set_promise_state NotPromised) s d (mild-promise NotPromised refl) i in
      let u = set_latest_of from None t in
      o.more 1 7 _ (omega arith) (o.sends-prepare 0 from u (omega arith) (o.changes-place 0 from (set_latest None) t d mild-forget j))

  pub along-prepare-req : (n : Ballot) (from : ℕ) → Depot c from → I 7 (handle_prepare_req n from s)
  unfolding handle_prepare_req
  along-prepare-req n from d =
      either (I 7) (is_leader s.state.role) _ s
      (λ a. either (I 7) (above n s.leader_state.n_leader) s (prepare_again from s) (λ b. stay 7) (λ b. along-again from d))
      (λ a. stay 7)

  -- a proposal
  along-own : (k : ℕ) (t : SequencePaxos) → I k t → I k (own_accepted t)
  along-own k t j =
      let same : t.config.pid ≡ c.pid = ap (λ (x : Configuration). x.pid) (o.config k t j) in
      o.changes-place k t.config.pid (set_accepted (log_length t)) t (omega (arith, f.own.0), omega (arith, f.own.1)) (mild-accepted (log_length t)) j

  along-accepted-entries : Fit entries (length entries) → I 7 (accept_entries_leader (length entries) s)
  unfolding accept_entries_leader append_given
  along-accepted-entries w =
      let t = append_given (length entries) s in
      let j = along-own 0 t (o.appends s f.writes w i) in
      along-marked c e entries s I o (promised_followers t.config.depots (own_accepted t).leader_state) (each.AcceptDecide (log_length s) (length entries)) (own_accepted t) f.depots (omega arith) j

  along-forward : Fit entries (length entries) → I 7 (forward_proposals (length entries) s)
  unfolding forward_proposals
  along-forward w =
      either (I 7) (has_leader s) (push_forward Given (length entries) s) (buffer_given (length entries) s)
      (λ a. o.more 1 7 _ (omega arith) (o.forwards 0 s (omega arith) w i))
      (λ a. o.more 0 7 _ (omega arith) (o.buffers s f.writes refl w i))

  pub along-proposal : Fit entries (length entries) → I 7 (handle_forwarded_proposal (length entries) s)
  unfolding handle_forwarded_proposal
  along-proposal w = by (standing_of s.state.role s.state.phase)
    where
      by : (t : Standing) → I 7 (proposal_in t (length entries) s)
      by LeaderPrepare = o.more 0 7 _ (omega arith) (o.buffers s f.writes refl w i)
      by LeaderAccept = along-accepted-entries w
      by FollowerPrepare = along-forward w
      by FollowerAccept = along-forward w
      by Other = along-forward w

  -- a read quorum has promised: what is known once the sync is on or refused
  record Ready (u : SequencePaxos) : Type 0 where
    pub holds-here : I 0 (sync_taken u)
    pub role : is_leader u.state.role ≡ true
    pub kept : u.plan.writes.buffered ≡ 0
    pub buffer : u.plan.writes.buffer ≡ None
    pub waits : u.buffered_proposals ≡ s.buffered_proposals

  ready-all : (u : SequencePaxos) → Ready u → I 7 (for_followers each.AcceptSync (own_accepted (with_state (record { role = Leader; phase = phase.Accept }) (append_buffered (sync_taken u)))))
  unfolding append_buffered
  ready-all u r =
      let t = append_buffered (sync_taken u) in
      let v = with_state (record { role = Leader; phase = phase.Accept }) t in
      let j = o.lead-on 0 t r.role (o.joins-buffered (sync_taken u) r.kept r.buffer r.waits r.holds-here) in
      along-marked c e entries s I o (promised_followers v.config.depots (own_accepted v).leader_state) each.AcceptSync (own_accepted v) f.depots tt (along-own 0 v j)

  module _ (m : PromiseMetaData) (x : Option LogSync) (d : Depot c m.pid) (known : Known c m.n_accepted) (real : Real c s.leader_state.n_leader) (role : is_leader s.state.role ≡ true) (h : Holds e entries x) where
    ready-not : Ready (unfit (keep_promise m x true s))
    ready-not =
        record {
          holds-here = o.not-fit 0 (sync_taken (keep_promise m x true s)) (o.keeps-put m x s d known i);
          role = role;
          kept = f.writes.buffered;
          buffer = f.writes.buffer;
          waits = refl;
        }

    ready-put : (highest end : ℕ) (op : LogOp) → (highest ≤ end → I 0 (sync_log s.leader_state.n_leader highest end op (sync_taken (keep_promise m x true s)))) → Ready (leader_syncs highest end op (keep_promise m x true s))
    unfolding sync_log
    ready-put highest end op g =
        let t = keep_promise m x true s in
        either Ready (ltb end highest) (unfit t) (sync_log s.leader_state.n_leader highest end op t)
        (λ a. ready-not)
        (λ a. record { holds-here = g (ltb-false end highest a); role = role; kept = f.writes.buffered; buffer = f.writes.buffer; waits = refl })

    ready_held : (y : LogSync) (b : Bool) (highest : ℕ) → BestSync e entries s (Some y) b → Ready (sync_held y b highest (keep_promise m x true s))
    unfolding sync_held
    ready_held y b highest w =
        let t = keep_promise m x true s in
        let brings = t.leader_state.max_promise.meta.decided_idx in
        either Ready (sync_unfit y (change_of b t) brings t) (unfit t) (leader_syncs highest (sync_end y) (put_op b y) t)
        (λ a. ready-not)
        (λ a. ready-put highest (sync_end y) (put_op b y) (λ l. put b w (put-fits y (change_of b t) brings t a) l))
      where
        j : I 0 (sync_taken (keep_promise m x true s))
        j = o.keeps-put m x s d known i

        put : (b : Bool) → BestSync e entries s (Some y) b → PutFits y (change_of b (keep_promise m x true s)) (keep_promise m x true s).leader_state.max_promise.meta.decided_idx (log_length s) s.internal_storage.decided_idx → highest ≤ sync_end y → I 0 (sync_log s.leader_state.n_leader highest (sync_end y) (put_op b y) (sync_taken (keep_promise m x true s)))
        put true w p l = o.puts-given s.leader_state.n_leader highest _ y (sync_taken (keep_promise m x true s)) f.writes real w.0 p l j
        put false w p l = o.puts-held s.leader_state.n_leader highest _ y (sync_taken (keep_promise m x true s)) f.writes real w p l j

    ready_by : (y : Option LogSync) (b : Bool) (highest : ℕ) → BestSync e entries s y b → Ready (sync_by y b highest (keep_promise m x true s))
    ready_by (Some y) b highest w = ready_held y b highest w
    ready_by None b highest w =
        ready-put highest (log_length s) Keep
        (λ l. o.puts_none s.leader_state.n_leader highest (sync_taken (keep_promise m x true s)) f.writes real l (o.keeps-put m x s d known i))

    along-majority : I 7 (handle_majority_promises (beats_best m s.leader_state) (keep_promise m x true s))
    unfolding handle_majority_promises sync_with_best
    along-majority =
        let b = beats_best m s.leader_state in
        let t = keep_promise m x true s in
        ready-all (sync_with_best b t) (ready_by t.leader_state.max_promise.sync b (max_decided t.config.depots t.leader_state) (best-sync e entries s m x b h))

    along-promise-prepare : I 7 (handle_promise_prepare m x s)
    unfolding handle_promise_prepare
    along-promise-prepare =
        let b = beats_best m s.leader_state in
        let t = keep_promise m x true s in
        either (I 7) (reached m x true s) (handle_majority_promises b t) (keep_sync b x t)
        (λ a. along-majority)
        (λ a. o.more 0 7 _ (omega arith) (o.keeps-held m x s d known h f.writes i))

  along-promise-accept : (m : PromiseMetaData) → Depot c m.pid → Known c m.n_accepted → I 7 (handle_promise_accept m s)
  unfolding handle_promise_accept
  along-promise-accept m d known =
      o.more 1 7 _ (omega arith) (along-sync-to c e entries s I o 0 m.pid (keep_promise m None false s) (omega arith) d (o.keeps m s d known i))

  pub along-promise : (n : Ballot) (m : PromiseMetaData) (x : Option LogSync) → Real c n → Depot c m.pid → Known c m.n_accepted → Arrives e entries x → I 7 (handle_promise n m x s)
  unfolding handle_promise
  along-promise n m x real d known a =
      either (I 7) (same n s.leader_state.n_leader) (promise_in (standing_of s.state.role s.state.phase) m x s) s
      (λ q. by (rw (same-eq n s.leader_state.n_leader q) at real) (standing_of s.state.role s.state.phase) (leads s.state.role s.state.phase (is_leader s.state.role ≡ true) (λ l. ap is_leader l)))
      (λ q. stay 7)
    where
      by : Real c s.leader_state.n_leader → (t : Standing) → Leads t (is_leader s.state.role ≡ true) → I 7 (promise_in t m x s)
      by r LeaderPrepare l =
          either (I 7) (brings_past x) (unfit s) (handle_promise_prepare m x s) (λ p. o.not-fit 7 s (stay 7)) (λ p. along-promise-prepare m x d known r l (holds e entries x a p))
      by r LeaderAccept l =
          either (I 7) (brings_past x) (unfit s) (handle_promise_accept m s) (λ p. o.not-fit 7 s (stay 7)) (λ p. along-promise-accept m d known)
      by r FollowerPrepare l = stay 7
      by r FollowerAccept l = stay 7
      by r Other l = stay 7

  -- Accepted
  along-chosen : (idx : ℕ) (t : SequencePaxos) → t.plan.writes.buffered ≡ 0 → I 0 t → idx ≤ log_length t → I 7 (decide_if_chosen idx t)
  unfolding decide_if_chosen
  along-chosen idx t z j l =
      let u = set_decided idx t in
      either (I 7) (newly_chosen idx t) (for_followers each.Decide u) t
      (λ a. along-marked c e entries s I o (promised_followers u.config.depots u.leader_state) each.Decide u f.depots tt (o.decides 0 idx t z (omega (arith, above-decided idx t a)) l j))
      (λ a. o.more 0 7 t (omega arith) j)

  along-accepted-taken : (idx from : ℕ) → Depot c from → I 7 (accepted_taken idx from s)
  unfolding accepted_taken
  along-accepted-taken idx from d =
      either (I 7) (ltb (log_length s) idx) (unfit s) (decide_if_chosen idx (set_accepted_of from idx s))
      (λ a. o.not-fit 7 s (stay 7))
      (λ a. along-chosen idx (set_accepted_of from idx s) f.writes.buffered (o.changes-place 0 from (set_accepted idx) s d (mild-accepted idx) i) (ltb-false (log_length s) idx a))

  pub along-accepted : (n : Ballot) (idx from : ℕ) → Depot c from → I 7 (handle_accepted n idx from s)
  unfolding handle_accepted
  along-accepted n idx from d =
      either (I 7) (same n s.leader_state.n_leader) (accepted_in (standing_of s.state.role s.state.phase) idx from s) s
      (λ q. by (standing_of s.state.role s.state.phase))
      (λ q. stay 7)
    where
      by : (t : Standing) → I 7 (accepted_in t idx from s)
      by LeaderPrepare = stay 7
      by LeaderAccept = along-accepted-taken idx from d
      by FollowerPrepare = stay 7
      by FollowerAccept = stay 7
      by Other = stay 7

  -- NotAccepted
  pub along-not-accepted : (n : Ballot) (from : ℕ) → Depot c from → I 7 (handle_not_accepted n from s)
  unfolding handle_not_accepted
  along-not-accepted n from d =
      either (I 7) (is_leader s.state.role) _ s
      (λ a. either (I 7) (above n s.leader_state.n_leader) (lost_promise from s) s
      (λ b. o.changes-place 7 from (set_promise_state PromisedHigher) s d (mild-promise PromisedHigher refl) (stay 7))
      (λ b. stay 7))
      (λ a. stay 7)

  -- a Leader's resend
  pub along-resend-leader : I 7 (resend_messages_leader s)
  unfolding resend_messages_leader
  along-resend-leader = by s.state.phase
    where
      prepared : I 7 (resend_in phase.Prepare s)
      prepared = along-marked c e entries s I o (preparable_peers s.config.pid s.config.depots s.leader_state) each.Prepare s f.depots tt i

      by : (p : Phase) → I 7 (resend_in p s)
      by phase.Prepare = prepared
      by phase.Accept = prepared
      by phase.Recover = stay 7
      by phase.None = stay 7
