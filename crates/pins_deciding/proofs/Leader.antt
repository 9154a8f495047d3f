-- Written by tools/pins --write, from the promises of crates/leader/src: any two outcomes that a call's own promise allows are one.
use mathlib.Core.Path.{sym, ◌∙◌}
use Rattle.pins.proofs.One.{OneAnswer}
use Rattle.leader.proofs.handle_leader.Reads as handle-leader-reads
use Rattle.leader.proofs.handle_preparereq.Reads as handle-preparereq-reads
use Rattle.leader.proofs.handle_forwarded_proposal.Reads as handle-forwarded-proposal-reads
use Rattle.leader.proofs.handle_promise.Reads as handle-promise-reads
use Rattle.leader.proofs.handle_accepted.Reads as handle-accepted-reads
use Rattle.leader.proofs.handle_notaccepted.Reads as handle-notaccepted-reads
use Rattle.leader.proofs.resend_messages_leader.Reads as resend-messages-leader-reads

pub handle-leader : (κs : _) (a : _) → OneAnswer (handle-leader-reads.Post κs a)
handle-leader κs a r₁ r₂ s₁ s₂ p q = p ∙ sym q

pub handle-preparereq : (κs : _) (a : _) → OneAnswer (handle-preparereq-reads.Post κs a)
handle-preparereq κs a r₁ r₂ s₁ s₂ p q = p ∙ sym q

pub handle-forwarded-proposal : (κs : _) (a : _) → OneAnswer (handle-forwarded-proposal-reads.Post κs a)
handle-forwarded-proposal κs a r₁ r₂ s₁ s₂ p q = p ∙ sym q

pub handle-promise : (κs : _) (a : _) → OneAnswer (handle-promise-reads.Post κs a)
handle-promise κs a r₁ r₂ s₁ s₂ p q = p ∙ sym q

pub handle-accepted : (κs : _) (a : _) → OneAnswer (handle-accepted-reads.Post κs a)
handle-accepted κs a r₁ r₂ s₁ s₂ p q = p ∙ sym q

pub handle-notaccepted : (κs : _) (a : _) → OneAnswer (handle-notaccepted-reads.Post κs a)
handle-notaccepted κs a r₁ r₂ s₁ s₂ p q = p ∙ sym q

pub resend-messages-leader : (κs : _) (a : _) → OneAnswer (resend-messages-leader-reads.Post κs a)
resend-messages-leader κs a r₁ r₂ s₁ s₂ p q = p ∙ sym q
