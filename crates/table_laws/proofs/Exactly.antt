-- Refusals 4 and 7 are given exactly when R2.4 and R2.7 (docs/RULES.md) say: 4 where the message would be taken and is unfit; 7 where 4 is not and a session or counter is at the top.
use Prim.Native.Nat.{ℕ, ◌≤◌}
use mathlib.Core.Path.{◌≡◌, refl}
use mathlib.Core.Logic.{◌↔◌}
use mathlib.Core.Bool.{true, false}
use native.Mathlib.Omega.{arith}
use lib.ListN.{length}
use Rattle.base.proofs.Tests.{not-both, is_false}
use Rattle.messages.specs.declared.Event.{Event}
use Rattle.messages.specs.declared.Event.TheVariants as event
use Rattle.messages.specs.declared.PaxosMsg.{PaxosMsg}
use Rattle.messages.specs.declared.PaxosMsg.TheVariants as msg
use Rattle.paxos_box.specs.declared.SequencePaxos.{SequencePaxos}
use Rattle.paxos_box.specs.declared.Role.{Role}
use Rattle.paxos_box.specs.declared.Role.TheVariants.{Leader, Follower}
use Rattle.outcome.specs.Outcome.{drained, restarted}
use Rattle.sequence_paxos.specs.Decide.{handle, resend_by, taken, decide_of}
use Rattle.sequence_paxos.specs.Fit.{few_in, fit_event}
use Rattle.decide_laws.proofs.Grown.{InPlace}
use Rattle.decide_laws.proofs.Table.{Given, is-unfit, at_top, past-log, past-buffer, past-queue, all_fit, given-exactly}
use Rattle.decide_laws.proofs.Steps.{Unbroken, FromDepot}
use Rattle.table_laws.specs.Words.{UnfitMessage, TopMessage, Unfits, Tops}
use Rattle.table_laws.proofs.Flagged.{Unflagged, Says, says_none}
use Rattle.table_laws.proofs.Following.{clear-reconnected, says-prepare, says-acceptsync, says-acceptdecide, says-decide, clear-resend-follower}
use Rattle.table_laws.proofs.Leading.{clear-leader, clear-prepare-req, clear-not-accepted, clear-resend-leader, says-proposal, says-accepted}
use Rattle.table_laws.proofs.Promising.{says-promise}

-- the rows of 4 and 7, read back
unfit-if-four : (n : ℕ) (s : SequencePaxos) → n ≡ 4 → Given s n → s.plan.unfit ≡ true
unfit-if-four n s e (is-unfit pu) = pu
unfit-if-four n s e (at_top pu pt) = absurd (omega (arith, e))
unfit-if-four n s e (past-log pu pt pl) = absurd (omega (arith, e))
unfit-if-four n s e (past-buffer pu pt pl pb) = absurd (omega (arith, e))
unfit-if-four n s e (past-queue pu pt pl pb pq) = absurd (omega (arith, e))
unfit-if-four n s e (all_fit f) = absurd (omega (arith, e))

top-if-seven : (n : ℕ) (s : SequencePaxos) → n ≡ 7 → Given s n → (s.plan.unfit ≡ false) × (s.plan.top ≡ true)
top-if-seven n s e (is-unfit pu) = absurd (omega (arith, e))
top-if-seven n s e (at_top pu pt) = (pu, pt)
top-if-seven n s e (past-log pu pt pl) = absurd (omega (arith, e))
top-if-seven n s e (past-buffer pu pt pl pb) = absurd (omega (arith, e))
top-if-seven n s e (past-queue pu pt pl pb pq) = absurd (omega (arith, e))
top-if-seven n s e (all_fit f) = absurd (omega (arith, e))

clear-drained : (s : SequencePaxos) → Unflagged s → Unflagged (drained s)
unfolding drained
clear-drained s c = c

clear-restarted : (s : SequencePaxos) → Unflagged s → Unflagged (restarted s)
unfolding restarted
clear-restarted s c = c

-- what a message's flags, and an event's, say; the row has a place for each depot
module _ (count : ℕ) (s : SequencePaxos) (u : Unbroken s) (c : Unflagged s) (row : s.config.depots ≤ length s.leader_state.depots) where
  says-handle : (m : PaxosMsg) (from : ℕ) → InPlace from s.config → few_in m count → Says (UnfitMessage m count from s) (TopMessage m count from s) (handle m count from s)
  says-handle (msg.PrepareReq m) from p f = says_none ⊥ ⊥ (handle (msg.PrepareReq m) count from s) (clear-prepare-req m.n from s c) (λ b. b) (λ b. b)
  says-handle (msg.Prepare m) from p f = says-prepare m from s c
  says-handle (msg.Promise m) from p f = says-promise m count from s c u.placed.depots u.log p.0 (omega (arith, p.1, row))
  says-handle (msg.AcceptSync m) from p f = says-acceptsync m count from s c
  says-handle (msg.AcceptDecide m) from p f = says-acceptdecide m count s c
  says-handle (msg.Accepted m) from p f = says-accepted m from s c u.placed.depots
  says-handle (msg.NotAccepted m) from p f = says_none ⊥ ⊥ (handle (msg.NotAccepted m) count from s) (clear-not-accepted m.n from s c) (λ b. b) (λ b. b)
  says-handle (msg.Decide m) from p f = says-decide m s c
  says-handle msg.ProposalForward from p f = says-proposal count s c u.placed.depots (omega (arith, f))

  clear-resend : (r : Role) → Unflagged (resend_by r s)
  clear-resend Leader = clear-resend-leader s c
  clear-resend Follower = clear-resend-follower s c

  says-taken : (e : Event) → fit_event e count → FromDepot e s.config → Says (Unfits e count s) (Tops e count s) (taken e count s)
  says-taken (event.Message m) f p = says-handle m.msg m.from p.0 f.1
  says-taken event.Propose f p = says-proposal count s c u.placed.depots (omega (arith, f))
  says-taken (event.Leader n) f p = says_none ⊥ ⊥ (taken (event.Leader n) count s) (clear-leader n s c) (λ b. b) (λ b. b)
  says-taken (event.Reconnect pid) f p = says_none ⊥ ⊥ (taken (event.Reconnect pid) count s) (clear-reconnected pid s c) (λ b. b) (λ b. b)
  says-taken event.Resend f p = says_none ⊥ ⊥ (taken event.Resend count s) (clear-resend s.state.role) (λ b. b) (λ b. b)
  says-taken event.Drain f p = says_none ⊥ ⊥ (drained s) (clear-drained s c) (λ b. b) (λ b. b)
  says-taken event.Restart f p = says_none ⊥ ⊥ (restarted s) (clear-restarted s c) (λ b. b) (λ b. b)

module _ (e : Event) (count : ℕ) (s : SequencePaxos) (u : Unbroken s) (c : Unflagged s) (row : s.config.depots ≤ length s.leader_state.depots) (f : fit_event e count) (p : FromDepot e s.config) where
  says : Says (Unfits e count s) (Tops e count s) (taken e count s)
  says = says-taken count s u c row e f p

  pub four-exactly : ((decide_of e count s).no ≡ 4) ↔ Unfits e count s
  four-exactly = (there, back)
    where
      there : (decide_of e count s).no ≡ 4 → Unfits e count s
      there h = says.unfit.0 (unfit-if-four 4 (taken e count s) refl ((given-exactly e count s 4).0 h))

      back : Unfits e count s → (decide_of e count s).no ≡ 4
      back x = (given-exactly e count s 4).1 (is-unfit (says.unfit.1 x))

  -- unfit is what 4's words say, so where they do not hold the flag is not set
  fit : (Unfits e count s → ⊥) → (taken e count s).plan.unfit ≡ false
  fit none = is_false (taken e count s).plan.unfit (λ k. none (says.unfit.0 k))

  pub seven-exactly : ((decide_of e count s).no ≡ 7) ↔ ((Unfits e count s → ⊥) × Tops e count s)
  seven-exactly = (there, back)
    where
      there : (decide_of e count s).no ≡ 7 → (Unfits e count s → ⊥) × Tops e count s
      there h =
          let w = top-if-seven 7 (taken e count s) refl ((given-exactly e count s 7).0 h) in
          let none : Unfits e count s → ⊥ = λ x. not-both {b = (taken e count s).plan.unfit} (says.unfit.1 x) w.0 in
          (none, (says.top none).0 w.1)

      back : (Unfits e count s → ⊥) × Tops e count s → (decide_of e count s).no ≡ 7
      back x = (given-exactly e count s 7).1 (at_top (fit x.0) ((says.top x.0).1 x.1))
