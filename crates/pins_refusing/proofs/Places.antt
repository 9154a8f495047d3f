-- Written by tools/pins --write, from the promises of crates/places/src: any two outcomes that a call's own promise allows are one.
use mathlib.Core.Path.{sym, ◌∙◌}
use Rattle.pins.proofs.One.{OneAnswer}
use Rattle.places.proofs.any_past.Reads as any-past-reads
use Rattle.places.proofs.any_misplaced.Reads as any-misplaced-reads
use Rattle.places.proofs.any_foreign.Reads as any-foreign-reads

pub any-past : (κs : _) (a : _) → OneAnswer (any-past-reads.Post κs a)
any-past κs a r₁ r₂ s₁ s₂ p q = p ∙ sym q

pub any-misplaced : (κs : _) (a : _) → OneAnswer (any-misplaced-reads.Post κs a)
any-misplaced κs a r₁ r₂ s₁ s₂ p q = p ∙ sym q

pub any-foreign : (κs : _) (a : _) → OneAnswer (any-foreign-reads.Post κs a)
any-foreign κs a r₁ r₂ s₁ s₂ p q = p ∙ sym q
