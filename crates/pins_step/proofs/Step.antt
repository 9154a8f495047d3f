-- Written by tools/pins --write, from the promises of crates/step/src: any two outcomes that a call's own promise allows are one.
use mathlib.Core.Path.{sym, ◌∙◌}
use Rattle.pins.proofs.One.{OneAnswer}
use Rattle.step.proofs.Step.refused.Reads as refused-reads

pub refused : (κs : _) (a : _) → OneAnswer (refused-reads.Post κs a)
refused κs a r₁ r₂ s₁ s₂ p q = p ∙ sym q
