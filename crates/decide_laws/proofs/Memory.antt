-- No step sends one depot two things that go by what is remembered: so a mark that was read when the step began still holds where it is used, and what a step
-- itself remembers is looked up by a later step alone.
use Prim.Native.Nat.{ℕ, zero, suc, ◌+◌, ◌≤◌}
use mathlib.Core.Path.{◌≡◌, refl}
use mathlib.Core.Bool.{Bool, true, false, cond, ◌&&◌}
use mathlib.Core.List.{List, [], ◌∷◌}
use native.Mathlib.Omega.{arith}
use native.Mathlib.Numerals.{add-one}
use lib.Dec.{ltb, eqb}
use lib.ListN.{take, set}
use Rattle.base.specs.Count.{one}
use Rattle.ballot.specs.Ballot.{compare_of}
use Rattle.ballot.specs.declared.Ballot.{Ballot}
use Rattle.std.specs.declared.cmp.Ordering.{Ordering}
use Rattle.std.specs.declared.cmp.Ordering.TheVariants.{Less, Equal, Greater}
use Rattle.messages.specs.declared.Event.{Event}
use Rattle.messages.specs.declared.Event.TheVariants as event
use Rattle.messages.specs.declared.PaxosMsg.{PaxosMsg}
use Rattle.messages.specs.declared.PaxosMsg.TheVariants as msg
use Rattle.messages.specs.declared.AcceptSync.{AcceptSync}
use Rattle.paxos_box.specs.declared.SequencePaxos.{SequencePaxos}
use Rattle.paxos_box.specs.declared.Plan.{Plan}
use Rattle.paxos_box.specs.declared.Send.{Send}
use Rattle.paxos_box.specs.declared.Sends.{Sends}
use Rattle.paxos_box.specs.declared.Source.TheVariants.{Buffered}
use Rattle.paxos_box.specs.declared.Standing.{Standing}
use Rattle.paxos_box.specs.declared.Standing.TheVariants.{LeaderPrepare, LeaderAccept, FollowerPrepare, FollowerAccept, Other}
use Rattle.paxos_box.specs.Box.{unfit, push_of, planned, set_buffered, standing_of}
use Rattle.paxos_box.specs.Room.{items_of}
use Rattle.sends.specs.Sends.{send_prepare_req}
use Rattle.log_plan.specs.Log.{sync_end, sync_unfit, sync_log, has_leader, push_forward, forward_buffered}
use Rattle.reconnect.specs.Reconnect.{recovering, left_leader, reconnected_of}
use Rattle.accepting.specs.Accepting.{by_ballot, send_accepted, given_sync, acceptsync_put, following, acceptsync_taken, acceptsync_in, handle_acceptsync}
use Rattle.sequence_paxos.specs.Decide.{handle, taken}
use Rattle.sequence_paxos.specs.Fit.{fit_event}
use Rattle.decide_laws.specs.Counts.{each_in, each_of}
use Rattle.decide_laws.specs.Memory.{by_memory, memory_in, memory_to}
use Rattle.decide_laws.proofs.Grown.{either, just_to, sent_in, sent_to}
use Rattle.decide_laws.proofs.Steps.{Unbroken, Unplanned, FromDepot, few-to-each}

-- they are some of the things that go to a depot
memory-in-le : (pid : ℕ) (l : List Send) → memory_in pid l ≤ sent_in pid l
unfolding just_to
memory-in-le pid [] = omega arith
memory-in-le pid (m ∷ l) = omega (arith, both (eqb pid m.to) (by_memory m.what), memory-in-le pid l)
  where
    both : (a b : Bool) → one (a && b) ≤ one a
    both true true = omega arith
    both true false = omega arith
    both false b = omega arith

memory-le : (pid : ℕ) (p : Sends) → memory_to pid p ≤ sent_to pid p
memory-le pid p = memory-in-le pid (items_of p)

-- one thing more in the plan is one more of them at most, and none more where it does not go by what is remembered
memory-in-more : (pid : ℕ) (l : List Send) (n : ℕ) (m : Send) → memory_in pid (take (suc n) (set l n m)) ≤ memory_in pid (take n l) + one (by_memory m.what)
memory-in-more pid [] n m = omega arith
memory-in-more pid (x ∷ l) zero m = omega (arith, both (eqb pid m.to) (by_memory m.what))
  where
    both : (a b : Bool) → one (a && b) ≤ one b
    both true b = omega arith
    both false b = omega arith
memory-in-more pid (x ∷ l) (suc n) m = omega (arith, memory-in-more pid l n m)

module _ (pid : ℕ) where
  -- how many there are in the plan of a box
  abbrev here : SequencePaxos → ℕ
  here s = memory_to pid s.plan.sends

  memory-push : (m : Send) (s : SequencePaxos) → here (push_of m s) ≤ here s + one (by_memory m.what)
  unfolding push_of planned
  memory-push m s =
      either (λ (q : Plan). memory_to pid q.sends ≤ here s + one (by_memory m.what)) (ltb s.plan.sends.count 8) _ _
      (λ e. rw add-one (memory-in-more pid s.plan.sends.items s.plan.sends.count m))
      (λ e. omega arith)

  memory-other : (m : Send) (s : SequencePaxos) → by_memory m.what ≡ false → here (push_of m s) ≤ here s
  memory-other m s e = let h : here (push_of m s) ≤ here s + one false = rw e at (memory-push m s) in omega (arith, h)

  -- an AcceptSync draws one of them at most: the Accepted. The forward is none
  memory-forward : (s : SequencePaxos) → here (forward_buffered s) ≤ here s
  unfolding forward_buffered
  memory-forward s =
      either (λ (r : SequencePaxos). here r ≤ here s) (eqb s.buffered_proposals 0) s (cond (has_leader s) (push_forward Buffered s.buffered_proposals (set_buffered 0 s)) s)
      (λ e. omega arith)
      (λ e. either (λ (r : SequencePaxos). here r ≤ here s) (has_leader s) (push_forward Buffered s.buffered_proposals (set_buffered 0 s)) s
      (λ f. memory-other _ (set_buffered 0 s) refl)
      (λ f. omega arith))

  memory-put : (m : AcceptSync) (count : ℕ) (s : SequencePaxos) → here (acceptsync_put m count s) ≤ here s
  unfolding acceptsync_put sync_log
  memory-put m count s = memory-forward _

  memory-accepted : (n : Ballot) (idx to : ℕ) (s : SequencePaxos) → here (send_accepted n idx to s) ≤ here s + 1
  unfolding send_accepted
  memory-accepted n idx to s = memory-push _ _

  memory-taken : (m : AcceptSync) (count from : ℕ) (s : SequencePaxos) → here (acceptsync_taken m count from s) ≤ here s + 1
  unfolding acceptsync_taken following
  memory-taken m count from s =
      let t = following m.seq_num (acceptsync_put m count s) in
      either (λ (r : SequencePaxos). here r ≤ here s + 1) (sync_unfit (given_sync m count) s.plan.sight.brought_change m.decided_idx s) (unfit s) (send_accepted m.n (sync_end (given_sync m count)) from t)
      (λ e. omega arith)
      (λ e. omega (arith, memory-accepted m.n (sync_end (given_sync m count)) from t, memory-put m count s))

  memory-reconnected : (to : ℕ) (s : SequencePaxos) → here (reconnected_of to s) ≤ here s
  unfolding reconnected_of left_leader send_prepare_req
  memory-reconnected to s =
      either (λ (r : SequencePaxos). here r ≤ here s) (eqb to s.config.pid) s (send_prepare_req to (left_leader to s))
      (λ e. omega arith)
      (λ e. either (λ (r : SequencePaxos). here (send_prepare_req to r) ≤ here s) (eqb to s.internal_storage.promise.pid) (recovering s) s (λ f. memory-other _ (recovering s) refl) (λ f. memory-other _ s refl))

  memory-acceptsync : (m : AcceptSync) (count from : ℕ) (s : SequencePaxos) → here (handle_acceptsync m count from s) ≤ here s + 1
  unfolding handle_acceptsync
  memory-acceptsync m count from s = by (compare_of s.internal_storage.promise m.n) (standing_of s.state.role s.state.phase)
    where
      inn : (t : Standing) → here (acceptsync_in t m count from s) ≤ here s + 1
      inn FollowerPrepare = memory-taken m count from s
      inn FollowerAccept = omega arith
      inn LeaderPrepare = omega arith
      inn LeaderAccept = omega arith
      inn Other = omega arith

      more : {n : ℕ} → n ≤ here s → n ≤ here s + 1
      more h = omega (arith, h)

      by : (o : Ordering) (t : Standing) → here (by_ballot o m.n (acceptsync_in t m count from s) s) ≤ here s + 1
      by Equal t = inn t
      by Greater t = more (memory-other _ s refl)
      by Less t = more (memory-reconnected m.n.pid s)

memory-nothing : (pid : ℕ) (p : Sends) → p.count ≡ 0 → memory_to pid p ≡ 0
memory-nothing pid p e = rw e

module _ (e : Event) (count : ℕ) (s : SequencePaxos) (u : Unbroken s) (f : fit_event e count) (p : FromDepot e s.config) where
  pub one-remembered : Unplanned s → (pid : ℕ) → memory_to pid (taken e count s).plan.sends ≤ 1
  one-remembered n pid = by e (few-to-each e count s u f p n pid)
    where
      of : (m : PaxosMsg) (from : ℕ) → sent_to pid (handle m count from s).plan.sends ≤ each_in m → memory_to pid (handle m count from s).plan.sends ≤ 1
      of (msg.AcceptSync m) from h = omega (arith, memory-acceptsync pid m count from s, memory-nothing pid s.plan.sends n.things)
      of (msg.PrepareReq m) from h = omega (arith, h, memory-le pid (handle (msg.PrepareReq m) count from s).plan.sends)
      of (msg.Prepare m) from h = omega (arith, h, memory-le pid (handle (msg.Prepare m) count from s).plan.sends)
      of (msg.Promise m) from h = omega (arith, h, memory-le pid (handle (msg.Promise m) count from s).plan.sends)
      of (msg.AcceptDecide m) from h = omega (arith, h, memory-le pid (handle (msg.AcceptDecide m) count from s).plan.sends)
      of (msg.Accepted m) from h = omega (arith, h, memory-le pid (handle (msg.Accepted m) count from s).plan.sends)
      of (msg.NotAccepted m) from h = omega (arith, h, memory-le pid (handle (msg.NotAccepted m) count from s).plan.sends)
      of (msg.Decide m) from h = omega (arith, h, memory-le pid (handle (msg.Decide m) count from s).plan.sends)
      of msg.ProposalForward from h = omega (arith, h, memory-le pid (handle msg.ProposalForward count from s).plan.sends)

      by : (e : Event) → sent_to pid (taken e count s).plan.sends ≤ each_of e → memory_to pid (taken e count s).plan.sends ≤ 1
      by (event.Message m) h = of m.msg m.from h
      by event.Propose h = omega (arith, h, memory-le pid (taken event.Propose count s).plan.sends)
      by (event.Leader b) h = omega (arith, h, memory-le pid (taken (event.Leader b) count s).plan.sends)
      by (event.Reconnect to) h = omega (arith, h, memory-le pid (taken (event.Reconnect to) count s).plan.sends)
      by event.Resend h = omega (arith, h, memory-le pid (taken event.Resend count s).plan.sends)
      by event.Drain h = omega (arith, h, memory-le pid (taken event.Drain count s).plan.sends)
      by event.Restart h = omega (arith, h, memory-le pid (taken event.Restart count s).plan.sends)
