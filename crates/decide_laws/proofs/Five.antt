-- Refusal 5 in document 01's words: it is given exactly when a proposal would take a leader's log past 512, and neither 4 nor 7 is given.
use Prim.Native.Nat.{ℕ, ◌+◌, ◌<◌}
use mathlib.Core.Path.{◌≡◌, refl}
use mathlib.Core.Logic.{◌↔◌}
use mathlib.Core.Bool.{false}
use native.Mathlib.Omega.{arith}
use Rattle.base.specs.Limits.{max_log}
use Rattle.messages.specs.declared.Event.{Event}
use Rattle.messages.specs.declared.Event.TheVariants as event
use Rattle.messages.specs.declared.PaxosMsg.{PaxosMsg}
use Rattle.messages.specs.declared.PaxosMsg.TheVariants as msg
use Rattle.paxos_box.specs.declared.SequencePaxos.{SequencePaxos}
use Rattle.sends.specs.Sends.{log_length}
use Rattle.sequence_paxos.specs.Decide.{handle, taken, decide_of}
use Rattle.sequence_paxos.specs.Fit.{few_in, fit_event}
use Rattle.decide_laws.proofs.Table.{past-log, given-exactly, past-log-if-five}
use Rattle.decide_laws.proofs.Leader.{proposal-length}
use Rattle.decide_laws.proofs.Steps.{Unbroken, FromDepot, joining_in, joining_of, step-taken}

-- entries of a leader's proposal would take its log past 512
abbrev pub TakesPast : Event → ℕ → SequencePaxos → Type 0
TakesPast e count s = max_log < log_length s + joining_of e count s

-- then the log as it would be has them all
module _ (count : ℕ) (s : SequencePaxos) (u : Unbroken s) where
  message-length : (m : PaxosMsg) (from : ℕ) → few_in m count → 0 < joining_in m count s → log_length (handle m count from s) ≡ log_length s + joining_in m count s
  message-length (msg.PrepareReq m) from f k = absurd (omega arith)
  message-length (msg.Prepare m) from f k = absurd (omega arith)
  message-length (msg.Promise m) from f k = absurd (omega arith)
  message-length (msg.AcceptSync m) from f k = absurd (omega arith)
  message-length (msg.AcceptDecide m) from f k = absurd (omega arith)
  message-length (msg.Accepted m) from f k = absurd (omega arith)
  message-length (msg.NotAccepted m) from f k = absurd (omega arith)
  message-length (msg.Decide m) from f k = absurd (omega arith)
  message-length msg.ProposalForward from f k = proposal-length count s u.placed u.own (omega (arith, f)) k

  taken-length : (e : Event) → fit_event e count → 0 < joining_of e count s → log_length (taken e count s) ≡ log_length s + joining_of e count s
  taken-length (event.Message m) f k = message-length m.msg m.from f.1 k
  taken-length event.Propose f k = proposal-length count s u.placed u.own (omega (arith, f)) k
  taken-length (event.Leader n) f k = absurd (omega arith)
  taken-length (event.Reconnect pid) f k = absurd (omega arith)
  taken-length event.Resend f k = absurd (omega arith)
  taken-length event.Drain f k = absurd (omega arith)
  taken-length event.Restart f k = absurd (omega arith)

module _ (e : Event) (count : ℕ) (s : SequencePaxos) (u : Unbroken s) (f : fit_event e count) (p : FromDepot e s.config) where
  pub five-exactly : ((decide_of e count s).no ≡ 5) ↔ (((taken e count s).plan.unfit ≡ false) × ((taken e count s).plan.top ≡ false) × TakesPast e count s)
  five-exactly = (there, back)
    where
      r : SequencePaxos
      r = taken e count s

      there : (decide_of e count s).no ≡ 5 → (r.plan.unfit ≡ false) × (r.plan.top ≡ false) × TakesPast e count s
      there h =
          let w = past-log-if-five 5 r refl ((given-exactly e count s 5).0 h) in
          let l = (step-taken e count s u f p).log in
          (w.0, w.1, omega (arith, w.2, l))

      back : (r.plan.unfit ≡ false) × (r.plan.top ≡ false) × TakesPast e count s → (decide_of e count s).no ≡ 5
      back w =
          let l = taken-length count s u e f (omega (arith, w.2, u.log)) in
          (given-exactly e count s 5).1 (past-log w.0 w.1 (omega (arith, w.2, l)))
