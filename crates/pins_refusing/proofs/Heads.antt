-- Written by tools/pins --write, from the promises of crates/heads/src: any two outcomes that a call's own promise allows are one.
use mathlib.Core.Path.{sym, ◌∙◌}
use Rattle.pins.proofs.One.{OneAnswer}
use Rattle.heads.proofs.any_outside.Reads as any-outside-reads
use Rattle.heads.proofs.any_foreign.Reads as any-foreign-reads
use Rattle.heads.proofs.any_head_above.Reads as any-head-above-reads
use Rattle.heads.proofs.any_overlap.Reads as any-overlap-reads

pub any-outside : (κs : _) (a : _) → OneAnswer (any-outside-reads.Post κs a)
any-outside κs a r₁ r₂ s₁ s₂ p q = p ∙ sym q

pub any-foreign : (κs : _) (a : _) → OneAnswer (any-foreign-reads.Post κs a)
any-foreign κs a r₁ r₂ s₁ s₂ p q = p ∙ sym q

pub any-head-above : (κs : _) (a : _) → OneAnswer (any-head-above-reads.Post κs a)
any-head-above κs a r₁ r₂ s₁ s₂ p q = p ∙ sym q

pub any-overlap : (κs : _) (a : _) → OneAnswer (any-overlap-reads.Post κs a)
any-overlap κs a r₁ r₂ s₁ s₂ p q = p ∙ sym q
