-- Written by tools/pins --write, from the promises of crates/unfit/src: any two outcomes that a call's own promise allows are one.
use mathlib.Core.Path.{sym, ◌∙◌}
use Rattle.pins.proofs.One.{OneAnswer}
use Rattle.unfit.proofs.stranger.Reads as stranger-reads
use Rattle.unfit.proofs.carries.Reads as carries-reads
use Rattle.unfit.proofs.foreign.Reads as foreign-reads
use Rattle.unfit.proofs.either_foreign.Reads as either-foreign-reads
use Rattle.unfit.proofs.ballot_foreign.Reads as ballot-foreign-reads
use Rattle.unfit.proofs.unfit.Reads as unfit-reads

pub stranger : (κs : _) (a : _) → OneAnswer (stranger-reads.Post κs a)
stranger κs a r₁ r₂ s₁ s₂ p q = p ∙ sym q

pub carries : (κs : _) (a : _) → OneAnswer (carries-reads.Post κs a)
carries κs a r₁ r₂ s₁ s₂ p q = p ∙ sym q

pub foreign : (κs : _) (a : _) → OneAnswer (foreign-reads.Post κs a)
foreign κs a r₁ r₂ s₁ s₂ p q = p ∙ sym q

pub either-foreign : (κs : _) (a : _) → OneAnswer (either-foreign-reads.Post κs a)
either-foreign κs a r₁ r₂ s₁ s₂ p q = p ∙ sym q

pub ballot-foreign : (κs : _) (a : _) → OneAnswer (ballot-foreign-reads.Post κs a)
ballot-foreign κs a r₁ r₂ s₁ s₂ p q = p ∙ sym q

pub unfit : (κs : _) (a : _) → OneAnswer (unfit-reads.Post κs a)
unfit κs a r₁ r₂ s₁ s₂ p q = p ∙ sym q
