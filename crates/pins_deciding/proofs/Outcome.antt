-- Written by tools/pins --write, from the promises of crates/outcome/src: any two outcomes that a call's own promise allows are one.
use mathlib.Core.Path.{sym, ◌∙◌}
use Rattle.outcome.proofs.Told.{decided-alike}
use Rattle.pins.proofs.One.{OneAnswer}
use Rattle.outcome.proofs.take_outgoing_msgs.Reads as take-outgoing-msgs-reads
use Rattle.outcome.proofs.restart.Reads as restart-reads
use Rattle.outcome.proofs.settle.Reads as settle-reads

pub take-outgoing-msgs : (κs : _) (a : _) → OneAnswer (take-outgoing-msgs-reads.Post κs a)
take-outgoing-msgs κs a r₁ r₂ s₁ s₂ p q = p ∙ sym q

pub restart : (κs : _) (a : _) → OneAnswer (restart-reads.Post κs a)
restart κs a r₁ r₂ s₁ s₂ p q = p ∙ sym q

pub settle : (κs : _) (a : _) → OneAnswer (settle-reads.Post κs a)
settle κs a r₁ r₂ s₁ s₂ p q = decided-alike _ r₁ r₂ (p a.0 ∙ sym (q a.0))
