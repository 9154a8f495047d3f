-- Written by tools/pins --write, from the promises of crates/messages/src: any two outcomes that a call's own promise allows are one.
use mathlib.Core.Path.{sym, ◌∙◌}
use Rattle.pins.proofs.One.{OneAnswer}
use Rattle.messages.proofs.PaxosMsg.is_accept_decide.Reads as is-accept-decide-reads
use Rattle.messages.proofs.PaxosMsg.is_accepted.Reads as is-accepted-reads
use Rattle.messages.proofs.PaxosMsg.with_decided.Reads as with-decided-reads
use Rattle.messages.proofs.PaxosMsg.with_accepted.Reads as with-accepted-reads

pub is-accept-decide : (κs : _) (a : _) → OneAnswer (is-accept-decide-reads.Post κs a)
is-accept-decide κs a r₁ r₂ s₁ s₂ p q = p ∙ sym q

pub is-accepted : (κs : _) (a : _) → OneAnswer (is-accepted-reads.Post κs a)
is-accepted κs a r₁ r₂ s₁ s₂ p q = p ∙ sym q

pub with-decided : (κs : _) (a : _) → OneAnswer (with-decided-reads.Post κs a)
with-decided κs a r₁ r₂ s₁ s₂ p q = p ∙ sym q

pub with-accepted : (κs : _) (a : _) → OneAnswer (with-accepted-reads.Post κs a)
with-accepted κs a r₁ r₂ s₁ s₂ p q = p ∙ sym q
