-- Written by tools/pins --write, from the promises of crates/refusals/src: any two outcomes that a call's own promise allows are one.
use mathlib.Core.Path.{sym, ◌∙◌}
use Rattle.base.proofs.Numbers.{answers_alike}
use Rattle.pins.proofs.One.{OneAnswer}
use Rattle.refusals.proofs.refusal.Reads as refusal-reads

pub refusal : (κs : _) (a : _) → OneAnswer (refusal-reads.Post κs a)
refusal κs a r₁ r₂ s₁ s₂ p q = answers_alike r₁ r₂ (p ∙ sym q)
