-- Written by tools/pins --write, from the promises of crates/reconnect/src: any two outcomes that a call's own promise allows are one.
use mathlib.Core.Path.{sym, ◌∙◌}
use Rattle.pins.proofs.One.{OneAnswer}
use Rattle.reconnect.proofs.to_recover.Reads as to-recover-reads
use Rattle.reconnect.proofs.reconnected.Reads as reconnected-reads

pub to-recover : (κs : _) (a : _) → OneAnswer (to-recover-reads.Post κs a)
to-recover κs a r₁ r₂ s₁ s₂ p q = p ∙ sym q

pub reconnected : (κs : _) (a : _) → OneAnswer (reconnected-reads.Post κs a)
reconnected κs a r₁ r₂ s₁ s₂ p q = p ∙ sym q
