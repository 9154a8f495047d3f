-- Every step: at most six things in its plan, to depots alone and few to each; a decided index and a promise that never fall; places past the depots as found.
use Prim.Native.Nat.{ℕ, ◌≤◌}
use mathlib.Core.Path.{◌≡◌, ap, sym, ◌∙◌}
use mathlib.Core.Logic.{inl, inr, ◌≢◌}
use native.Mathlib.Omega.{arith}
use lib.Dec.{eqb}
use lib.ListN.{get_or}
use Rattle.base.specs.Limits.{max_log, max_buffered}
use Rattle.ballot.specs.Ballot.{default}
use Rattle.quorum.specs.declared.Configuration.{Configuration}
use Rattle.leader_state.specs.State.{fresh}
use Rattle.leader_state.proofs.Past.{new-leader, forgotten}
use Rattle.messages.specs.declared.Event.{Event}
use Rattle.messages.specs.declared.Event.TheVariants as event
use Rattle.messages.specs.declared.PaxosMsg.{PaxosMsg}
use Rattle.messages.specs.declared.PaxosMsg.TheVariants as msg
use Rattle.paxos_box.specs.declared.SequencePaxos.{SequencePaxos}
use Rattle.paxos_box.specs.declared.Outgoing.{Outgoing}
use Rattle.paxos_box.specs.declared.Role.{Role}
use Rattle.paxos_box.specs.declared.Role.TheVariants.{Leader, Follower}
use Rattle.paxos_box.specs.Box.{standing_of}
use Rattle.outcome.specs.Outcome.{Decision, drained, restarted, outcome_refusal, settled}
use Rattle.sequence_paxos.specs.Decide.{report_of, brought_by, handle, resend_by, taken, decide_of}
use Rattle.sequence_paxos.specs.Fit.{few_in, fit_event}
use Rattle.decide_laws.specs.Counts.{Six, each_in, each_of}
use Rattle.decide_laws.proofs.Grown.{either, InPlace, Goes, goes_none, sent_to, sent-nothing, Rises, Step, Longer, step-none, step-more, step-longer, step-places}
use Rattle.decide_laws.proofs.Table.{QueuePassed, would_wait, would_carry, outcome, number_is, passed-if-six}
use Rattle.decide_laws.proofs.Log.{PromisedWithin}
use Rattle.decide_laws.proofs.Leader.{Placed, LeadsOwn, most_sent, joining, step-leader, step-prepare-req, step-proposal, step-promise, step-accepted, step-not-accepted, step-resend-leader}
use Rattle.decide_laws.proofs.Follower.{CachedWithin, step-reconnected, step-prepare, step-acceptsync, step-acceptdecide, step-decide, step-resend-follower}

-- what refusals 1 and 2 leave of a box
pub record Unbroken (s : SequencePaxos) : Type 0 where
  pub placed : Placed s.config
  pub log : s.internal_storage.accepted_idx ≤ max_log
  pub buffer : s.buffered_proposals ≤ max_buffered
  pub cached : CachedWithin s.config s.cached_promise_message
  pub own : LeadsOwn s
  pub promised : PromisedWithin s

-- what refusals 3 and 4 leave of an event: a sender is a depot, and so is the ballot's pid where the answer goes there
abbrev pub BallotOf : PaxosMsg → Configuration → Type 0
BallotOf (msg.PrepareReq m) c = Unit {0}
BallotOf (msg.Prepare m) c = Unit {0}
BallotOf (msg.Promise m) c = Unit {0}
BallotOf (msg.AcceptSync m) c = InPlace m.n.pid c
BallotOf (msg.AcceptDecide m) c = InPlace m.n.pid c
BallotOf (msg.Accepted m) c = Unit {0}
BallotOf (msg.NotAccepted m) c = Unit {0}
BallotOf (msg.Decide m) c = InPlace m.n.pid c
BallotOf msg.ProposalForward c = Unit {0}

abbrev pub FromDepot : Event → Configuration → Type 0
FromDepot (event.Message m) c = InPlace m.from c × BallotOf m.msg c
FromDepot event.Propose c = Unit {0}
FromDepot (event.Leader n) c = Unit {0}
FromDepot (event.Reconnect pid) c = InPlace pid c
FromDepot event.Resend c = Unit {0}
FromDepot event.Drain c = Unit {0}
FromDepot event.Restart c = Unit {0}

-- how many entries of a message join a leader's log: those of a forward
abbrev pub joining_in : PaxosMsg → ℕ → SequencePaxos → ℕ
joining_in (msg.PrepareReq m) count s = 0
joining_in (msg.Prepare m) count s = 0
joining_in (msg.Promise m) count s = 0
joining_in (msg.AcceptSync m) count s = 0
joining_in (msg.AcceptDecide m) count s = 0
joining_in (msg.Accepted m) count s = 0
joining_in (msg.NotAccepted m) count s = 0
joining_in (msg.Decide m) count s = 0
joining_in msg.ProposalForward count s = joining (standing_of s.state.role s.state.phase) count

module _ (count : ℕ) (s : SequencePaxos) (u : Unbroken s) where
  step-handle : (m : PaxosMsg) (from : ℕ) → InPlace from s.config → BallotOf m s.config → few_in m count → Longer (joining_in m count s) (each_in m) (most_sent s.config) s (handle m count from s)
  step-handle (msg.PrepareReq m) from p q f = step-more (step-prepare-req m.n from s p) (most_sent s.config) (omega arith)
  step-handle (msg.Prepare m) from p q f = step-more (step-prepare m from s p u.log) (most_sent s.config) (omega arith)
  step-handle (msg.Promise m) from p q f = step-promise m.n (report_of m from) (brought_by m.log_sync count) s u.placed u.own p u.log
  step-handle (msg.AcceptSync m) from p q f = step-more (step-acceptsync m count from s p q u.promised (omega (arith, u.buffer))) (most_sent s.config) (omega arith)
  step-handle (msg.AcceptDecide m) from p q f = step-more (step-acceptdecide m.n m.seq_num m.decided_idx count s q) (most_sent s.config) (omega arith)
  step-handle (msg.Accepted m) from p q f = step-accepted m.n m.accepted_idx from s u.placed u.own p
  step-handle (msg.NotAccepted m) from p q f = step-more (step-not-accepted m.n from s p) (most_sent s.config) (omega arith)
  step-handle (msg.Decide m) from p q f = step-more (step-decide m.n m.seq_num m.decided_idx s q) (most_sent s.config) (omega arith)
  step-handle msg.ProposalForward from p q f = step-proposal count s u.placed u.own u.promised (omega (arith, f))

  step-resend : (r : Role) → Step 1 (most_sent s.config) s (resend_by r s)
  step-resend Leader = step-resend-leader s u.placed
  step-resend Follower = step-resend-follower s u.placed u.cached

pub step-drained : (s : SequencePaxos) → Step 0 0 s (drained s)
unfolding drained
step-drained s = step-places (forgotten s.config.depots s.leader_state)

pub step-restarted : (s : SequencePaxos) → Step 0 0 s (restarted s)
unfolding restarted
step-restarted s = step-places (new-leader s.config.depots default s.leader_state)

-- how many entries a step may add to a log that is at its limit: those of a leader's proposal
abbrev pub joining_of : Event → ℕ → SequencePaxos → ℕ
joining_of (event.Message m) count s = joining_in m.msg count s
joining_of event.Propose count s = joining (standing_of s.state.role s.state.phase) count
joining_of (event.Leader n) count s = 0
joining_of (event.Reconnect pid) count s = 0
joining_of event.Resend count s = 0
joining_of event.Drain count s = 0
joining_of event.Restart count s = 0

-- every event
pub step-taken : (e : Event) (count : ℕ) (s : SequencePaxos) → Unbroken s → fit_event e count → FromDepot e s.config → Longer (joining_of e count s) (each_of e) (most_sent s.config) s (taken e count s)
step-taken (event.Message m) count s u f p = step-handle count s u m.msg m.from p.0 p.1 f.1
step-taken event.Propose count s u f p = step-proposal count s u.placed u.own u.promised (omega (arith, f))
step-taken (event.Leader n) count s u f p = step-leader n s u.placed
step-taken (event.Reconnect pid) count s u f p = step-more (step-reconnected pid s p) (most_sent s.config) (omega arith)
step-taken event.Resend count s u f p = step-resend count s u s.state.role
step-taken event.Drain count s u f p = step-more (step-drained s) (most_sent s.config) (omega arith)
step-taken event.Restart count s u f p = step-more (step-restarted s) (most_sent s.config) (omega arith)

-- nothing is planned yet
pub record Unplanned (s : SequencePaxos) : Type 0 where
  pub things : s.plan.sends.count ≡ 0
  pub messages : s.plan.sends.messages ≡ 0
  pub entries : s.plan.sends.entries ≡ 0

-- six AcceptSyncs fit an empty queue
six-fit : (s : SequencePaxos) → Six s → s.outgoing.len ≡ 0 → s.outgoing.entries ≡ 0 → QueuePassed (would_wait s) (would_carry s) → ⊥
six-fit s x l t (inl m) = omega (arith, x.messages, l, m)
six-fit s x l t (inr m) = omega (arith, x.entries, t, m)

module _ (e : Event) (count : ℕ) (s : SequencePaxos) (u : Unbroken s) (f : fit_event e count) (p : FromDepot e s.config) where
  pub six : Unplanned s → Six (taken e count s)
  six n =
      let g = (step-taken e count s u f p).grown in
      let d = u.placed.depots in
      record { things = omega (arith, g.things, n.things, d); messages = omega (arith, g.messages, n.messages, d); entries = omega (arith, g.entries, n.entries, d) }

  -- all that is planned goes to depots, none to a place past them
  pub to-depots : Unplanned s → Goes s.config (taken e count s).plan.sends
  to-depots n = (step-taken e count s u f p).goes (goes_none s.config s.plan.sends n.things)

  -- and to each of them one thing, or two in answer to an AcceptSync
  pub few-to-each : Unplanned s → (pid : ℕ) → sent_to pid (taken e count s).plan.sends ≤ each_of e
  few-to-each n pid = omega (arith, (step-taken e count s u f p).each pid, sent-nothing pid s.plan.sends n.things)

  -- a step from an empty queue never gets 6
  pub never-six : Unplanned s → s.outgoing.len ≡ 0 → s.outgoing.entries ≡ 0 → (decide_of e count s).no ≢ 6
  never-six n l t h =
      let r = taken e count s in
      let o = (step-taken e count s u f p).outgoing in
      let a : r.outgoing.len ≡ s.outgoing.len = ap (λ (q : Outgoing). q.len) o in
      let b : r.outgoing.entries ≡ s.outgoing.entries = ap (λ (q : Outgoing). q.entries) o in
      six-fit r (six n) (a ∙ l) (b ∙ t) (passed-if-six (outcome_refusal r) r (sym (number_is e count s) ∙ h) (outcome r))

  -- what is decided, taken or refused
  pub step-decided : Longer (joining_of e count s) (each_of e) (most_sent s.config) s (decide_of e count s).node
  unfolding settled
  step-decided =
      let k = most_sent s.config in
      either (λ (d : Decision). Longer (joining_of e count s) (each_of e) k s d.node) (eqb (outcome_refusal (taken e count s)) 0) _ _
      (λ h. step-taken e count s u f p)
      (λ h. step-longer (step-more (step-none s) k (omega arith)) (joining_of e count s) (omega arith))

  -- places past the depots are as found
  pub past-depots : (i : ℕ) → s.config.depots ≤ i → get_or (decide_of e count s).node.leader_state.depots i fresh ≡ get_or s.leader_state.depots i fresh
  past-depots = step-decided.past

  -- the promise never falls
  pub promise-rises : Rises s.internal_storage.promise (decide_of e count s).node.internal_storage.promise
  promise-rises = step-decided.promise

  -- the decided index never falls, and stays within the log
  pub decided-rises : s.internal_storage.decided_idx ≤ s.internal_storage.accepted_idx → s.internal_storage.decided_idx ≤ (decide_of e count s).node.internal_storage.decided_idx
  decided-rises h = (step-decided.decided h).0

  pub decided-within : s.internal_storage.decided_idx ≤ s.internal_storage.accepted_idx → (decide_of e count s).node.internal_storage.decided_idx ≤ (decide_of e count s).node.internal_storage.accepted_idx
  decided-within h = (step-decided.decided h).1
