-- What every step writes to the held sync's buffer: nothing, or the sync that a Promise brings and that the record then holds.
use Rattle.std.specs.Prelude.{Option, None, Some}
use Prim.Native.Nat.{ℕ}
use mathlib.Core.Path.{◌≡◌, refl, ap, sym, subst}
use mathlib.Core.Bool.{Bool, true, false, cond}
use mathlib.Core.List.{List}
use native.Mathlib.Omega.{arith}
use lib.Dec.{eqb, ltb}
use lib.ListN.{length}
use Rattle.ballot.specs.Ballot.{same, compare_of}
use Rattle.ballot.specs.declared.Ballot.{Ballot}
use Rattle.std.specs.declared.cmp.Ordering.{Ordering}
use Rattle.std.specs.declared.cmp.Ordering.TheVariants.{Less, Equal, Greater}
use Rattle.quorum.specs.declared.Configuration.{Configuration}
use Rattle.leader_state.specs.declared.LogSync.{LogSync}
use Rattle.leader_state.specs.declared.PromiseMetaData.{PromiseMetaData}
use Rattle.leader_state.specs.Promises.{beats_best, max_decided}
use Rattle.leader_state.specs.Places.{promised_followers}
use Rattle.messages.specs.declared.Event.{Event}
use Rattle.messages.specs.declared.Event.TheVariants as event
use Rattle.messages.specs.declared.PaxosMsg.{PaxosMsg}
use Rattle.messages.specs.declared.PaxosMsg.TheVariants as msg
use Rattle.messages.specs.declared.AcceptSync.{AcceptSync}
use Rattle.paxos_box.specs.declared.SequencePaxos.{SequencePaxos}
use Rattle.paxos_box.specs.declared.LogOp.{LogOp}
use Rattle.paxos_box.specs.declared.LogOp.TheVariants as log
use Rattle.paxos_box.specs.declared.Source.TheVariants.{Buffered}
use Rattle.paxos_box.specs.declared.Role.TheVariants.{Leader}
use Rattle.paxos_box.specs.declared.Phase.TheVariants as phase
use Rattle.paxos_box.specs.declared.Standing.{Standing}
use Rattle.paxos_box.specs.declared.Standing.TheVariants.{LeaderPrepare, LeaderAccept, FollowerPrepare, FollowerAccept, Other}
use Rattle.paxos_box.specs.Box.{unfit, with_state, with_leader, set_buffered, set_cached, set_meta, next_place, standing_of}
use Rattle.sends.specs.declared.Each.TheVariants as each
use Rattle.sends.specs.Sends.{log_length}
use Rattle.log_plan.specs.Log.{sync_end, sync_unfit, sync_log, append_buffered, has_leader, push_forward, forward_buffered}
use Rattle.leader.specs.Leader.{keep_promise, reached, own_accepted, put_op, change_of, leader_syncs, sync_held, sync_by, sync_with_best, sync_taken, handle_majority_promises, keep_sync, handle_promise_prepare, handle_promise_accept, brings_past, promise_in, handle_promise}
use Rattle.accepting.specs.Accepting.{by_ballot, send_accepted, given_sync, acceptsync_put, following, acceptsync_taken, acceptsync_in, handle_acceptsync}
use Rattle.outcome.specs.Outcome.{drained, restarted}
use Rattle.sequence_paxos.specs.Decide.{report_of, brought_by, handle}
use Rattle.sight.specs.Sight.{sync_in, brought}
use Rattle.refusals.proofs.Taken.{Depot, MessageFit, Taken}
use Rattle.decide_laws.proofs.Grown.{either}
use Rattle.step.specs.Step.{World, box_of}
use Rattle.step_laws.proofs.Moves.{Brought, Closed, Found}
use Rattle.step_laws.proofs.Leader.{Arrives}
use Rattle.step_laws.proofs.Sends.{along-sync-to, along-marked}
use Rattle.step_laws.proofs.Follower.{along-reconnected}
use Rattle.step_laws.proofs.Events.{Queues, arrives, along-event}
use Rattle.step_laws.proofs.Fits.{found, as-found}
use Rattle.step_laws.proofs.Outcome.{outcome_of}
use Rattle.cell_laws.proofs.Quiet.{Quiet, push, quiet-closed}

pub data Puts (e : Event) (entries : List ℕ) (held : Option LogSync) (op : Option ℕ) : Type 0 where
  nothing : op ≡ None → Puts e entries held op
  brings : (x : LogSync) → Brought e entries x → held ≡ Some x → op ≡ Some x.len → Puts e entries held op

abbrev Putting : Event → List ℕ → SequencePaxos → Type 0
Putting e entries s = Puts e entries s.leader_state.max_promise.sync s.plan.writes.best

module _ (c : Configuration) (entries : List ℕ) (s : SequencePaxos) (f : Found c s) (i : Quiet c 0 s) where
  -- a handler's own moves, as those of an event that brings no sync
  o : Closed c event.Drain entries s (Quiet c)
  o = quiet-closed c event.Drain entries s refl

  -- AcceptSync
  put-quiet : (m : AcceptSync) → Quiet c 0 (acceptsync_put m (length entries) s)
  unfolding acceptsync_put sync_log forward_buffered
  put-quiet m =
      let x = given_sync m (length entries) in
      let u = sync_log m.n m.decided_idx (sync_end x) (log.PutGiven x) (set_cached None s) in
      let j : Quiet c 0 u = record { config = i.config; best = i.best } in
      either (Quiet c 0) (eqb u.buffered_proposals 0) u (cond (has_leader u) (push_forward Buffered u.buffered_proposals (set_buffered 0 u)) u)
      (λ a. j)
      (λ a. either (Quiet c 0) (has_leader u) (push_forward Buffered u.buffered_proposals (set_buffered 0 u)) u
      (λ b. push c _ (set_buffered 0 u) j)
      (λ b. j))

  acceptsync-taken-quiet : (m : AcceptSync) (from : ℕ) → Quiet c 0 (acceptsync_taken m (length entries) from s)
  unfolding acceptsync_taken following send_accepted
  acceptsync-taken-quiet m from =
      let x = given_sync m (length entries) in
      let t = following m.seq_num (acceptsync_put m (length entries) s) in
      either (Quiet c 0) (sync_unfit x s.plan.sight.brought_change m.decided_idx s) (unfit s) (send_accepted m.n (sync_end x) from t)
      (λ a. i)
      (λ a. push c _ (set_meta (Some (record { n = m.n; at = next_place t })) t) (put-quiet m))

  pub acceptsync-quiet : (m : AcceptSync) (from : ℕ) → Quiet c 0 (handle_acceptsync m (length entries) from s)
  unfolding handle_acceptsync
  acceptsync-quiet m from = by (compare_of s.internal_storage.promise m.n)
    where
      at : (t : Standing) → Quiet c 0 (acceptsync_in t m (length entries) from s)
      at FollowerPrepare = acceptsync-taken-quiet m from
      at FollowerAccept = i
      at LeaderPrepare = i
      at LeaderAccept = i
      at Other = i

      by : (p : Ordering) → Quiet c 0 (by_ballot p m.n (acceptsync_in (standing_of s.state.role s.state.phase) m (length entries) from s) s)
      by Equal = at (standing_of s.state.role s.state.phase)
      by Greater = o.tells-higher 0 m.n s (omega arith) i
      by Less = along-reconnected c event.Drain entries s (Quiet c) o f i m.n.pid

  -- a Promise that completes the read quorum puts its sync on the log at once
  sync-quiet : (y : Option LogSync) (b : Bool) (highest : ℕ) (t : SequencePaxos) → Quiet c 0 t → Quiet c 0 (sync_by y b highest t)
  unfolding sync_held sync_log
  sync-quiet y b highest t j = by y
    where
      puts : (end : ℕ) (op : LogOp) → Quiet c 0 (leader_syncs highest end op t)
      puts end op =
          either (Quiet c 0) (ltb end highest) (unfit t) (sync_log t.leader_state.n_leader highest end op t)
          (λ a. j)
          (λ a. record { config = j.config; best = j.best })

      by : (y : Option LogSync) → Quiet c 0 (sync_by y b highest t)
      by (Some x) =
          either (Quiet c 0) (sync_unfit x (change_of b t) t.leader_state.max_promise.meta.decided_idx t) (unfit t) (leader_syncs highest (sync_end x) (put_op b x) t)
          (λ a. j)
          (λ a. puts (sync_end x) (put_op b x))
      by None = puts (log_length t) log.Keep

  majority-quiet : (b : Bool) (t : SequencePaxos) → Quiet c 0 t → Quiet c 0 (handle_majority_promises b t)
  unfolding handle_majority_promises sync_with_best append_buffered
  majority-quiet b t j =
      let u = sync_with_best b t in
      let k = sync-quiet t.leader_state.max_promise.sync b (max_decided t.config.depots t.leader_state) t j in
      let v = own_accepted (with_state (record { role = Leader; phase = phase.Accept }) (append_buffered (sync_taken u))) in
      along-marked c event.Drain entries s (Quiet c) o (promised_followers v.config.depots v.leader_state) each.AcceptSync v f.depots tt (record { config = k.config; best = k.best })

  module _ (e : Event) (m : PromiseMetaData) where
    -- else its sync's entries are kept, where it is the best so far
    held-puts : (b : Bool) (x : Option LogSync) → Arrives e entries x → Putting e entries (keep_sync b x (with_leader (record { n_leader = s.leader_state.n_leader; depots = (keep_promise m x true s).leader_state.depots; max_promise = cond b (record { meta = m; sync = x }) s.leader_state.max_promise }) s))
    held-puts true (Some x) a = brings x a refl refl
    held-puts true None a = nothing refl
    held-puts false x a = nothing i.best

    prepare-puts : (x : Option LogSync) → Arrives e entries x → Putting e entries (handle_promise_prepare m x s)
    unfolding handle_promise_prepare
    prepare-puts x a =
        let b = beats_best m s.leader_state in
        let t = keep_promise m x true s in
        either (Putting e entries) (reached m x true s) (handle_majority_promises b t) (keep_sync b x t)
        (λ r. nothing (majority-quiet b t i).best)
        (λ r. held-puts b x a)

    pub promise-puts : (n : Ballot) (x : Option LogSync) → Depot c m.pid → Arrives e entries x → Putting e entries (handle_promise n m x s)
    unfolding handle_promise handle_promise_accept
    promise-puts n x d a =
        either (Putting e entries) (same n s.leader_state.n_leader) (promise_in (standing_of s.state.role s.state.phase) m x s) s
        (λ q. by (standing_of s.state.role s.state.phase))
        (λ q. nothing i.best)
      where
        by : (t : Standing) → Putting e entries (promise_in t m x s)
        by LeaderPrepare = either (Putting e entries) (brings_past x) (unfit s) (handle_promise_prepare m x s) (λ p. nothing i.best) (λ p. prepare-puts x a)
        by LeaderAccept =
            either (Putting e entries) (brings_past x) (unfit s) (handle_promise_accept m s)
            (λ p. nothing i.best)
            (λ p. nothing (along-sync-to c event.Drain entries s (Quiet c) o 0 m.pid (keep_promise m None false s) (omega arith) d i).best)
        by FollowerPrepare = nothing i.best
        by FollowerAccept = nothing i.best
        by Other = nothing i.best

module _ (c : Configuration) (entries : List ℕ) (w : World) where
  starts : (e : Event) → Taken c w.node w.row w.lists e entries → Quiet c 0 (found c e entries w)
  unfolding box_of
  starts e t = record { config = refl; best = refl }

  quiet-event : (e : Event) → brought e ≡ None → Queues e → Taken c w.node w.row w.lists e entries → Putting e entries (outcome_of c e entries w)
  quiet-event e n q t =
      let s = found c e entries w in
      nothing (along-event c entries s (Quiet c) (as-found c e entries w t) (starts e t) e (quiet-closed c e entries s n) q t.event).best

  -- of every step
  pub puts : (e : Event) → Taken c w.node w.row w.lists e entries → Putting e entries (outcome_of c e entries w)
  unfolding box_of drained restarted
  puts (event.Message m) t = of m.msg refl
    where
      e : Event
      e = event.Message m

      of : (x : PaxosMsg) → m.msg ≡ x → Putting e entries (outcome_of c e entries w)
      of (msg.PrepareReq x) q = quiet-event e (ap sync_in q) tt t
      of (msg.Prepare x) q = quiet-event e (ap sync_in q) tt t
      of (msg.Promise x) q =
          let g : MessageFit c m.from (msg.Promise x) entries = subst (λ (y : PaxosMsg). MessageFit c m.from y entries) q t.event.1 in
          subst (λ (y : PaxosMsg). Putting e entries (handle y (length entries) m.from (found c e entries w))) (sym q)
          (promise-puts c entries (found c e entries w) (as-found c e entries w t) (starts e t) e (report_of x m.from) x.n (brought_by x.log_sync (length entries)) t.event.0.depot (arrives e entries x.log_sync (ap sync_in q) g.1))
      of (msg.AcceptSync x) q =
          subst (λ (y : PaxosMsg). Putting e entries (handle y (length entries) m.from (found c e entries w))) (sym q)
          (nothing (acceptsync-quiet c entries (found c e entries w) (as-found c e entries w t) (starts e t) x m.from).best)
      of (msg.AcceptDecide x) q = quiet-event e (ap sync_in q) tt t
      of (msg.Accepted x) q = quiet-event e (ap sync_in q) tt t
      of (msg.NotAccepted x) q = quiet-event e (ap sync_in q) tt t
      of (msg.Decide x) q = quiet-event e (ap sync_in q) tt t
      of msg.ProposalForward q = quiet-event e (ap sync_in q) tt t
  puts event.Propose t = quiet-event event.Propose refl tt t
  puts (event.Leader n) t = quiet-event (event.Leader n) refl tt t
  puts (event.Reconnect pid) t = quiet-event (event.Reconnect pid) refl tt t
  puts event.Resend t = quiet-event event.Resend refl tt t
  puts event.Drain t = nothing refl
  puts event.Restart t = nothing refl
