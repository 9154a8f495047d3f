-- Written by tools/pins --write, from the promises of crates/broken/src: any two outcomes that a call's own promise allows are one.
use mathlib.Core.Path.{sym, ◌∙◌}
use Rattle.pins.proofs.One.{OneAnswer}
use Rattle.broken.proofs.broken.Reads as broken-reads

pub broken : (κs : _) (a : _) → OneAnswer (broken-reads.Post κs a)
broken κs a r₁ r₂ s₁ s₂ p q = p ∙ sym q
