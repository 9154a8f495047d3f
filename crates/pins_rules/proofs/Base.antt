-- Written by tools/pins --write, from the promises of crates/base/src: any two outcomes that a call's own promise allows are one.
use mathlib.Core.Path.{sym, ◌∙◌}
use Rattle.pins.proofs.One.{OneAnswer}
use Rattle.base.proofs.limits_of_document.Reads as limits-of-document-reads

pub limits-of-document : (κs : _) (a : _) → OneAnswer (limits-of-document-reads.Post κs a)
limits-of-document κs a r₁ r₂ s₁ s₂ p q = p ∙ sym q
