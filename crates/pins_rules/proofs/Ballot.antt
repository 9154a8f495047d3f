-- Written by tools/pins --write, from the promises of crates/ballot/src: any two outcomes that a call's own promise allows are one.
use mathlib.Core.Path.{sym, ◌∙◌}
use Rattle.pins.proofs.One.{OneAnswer}
use Rattle.ballot.proofs.Ballot.default.Reads as default-reads
use Rattle.ballot.proofs.Ballot.compare.Reads as compare-reads
use Rattle.ballot.proofs.Ballot.same.Reads as same-reads
use Rattle.ballot.proofs.Ballot.above.Reads as above-reads
use Rattle.ballot.proofs.Ballot.is_default.Reads as is-default-reads

pub default : (κs : _) (a : _) → OneAnswer (default-reads.Post κs a)
default κs a r₁ r₂ s₁ s₂ p q = p ∙ sym q

pub compare : (κs : _) (a : _) → OneAnswer (compare-reads.Post κs a)
compare κs a r₁ r₂ s₁ s₂ p q = p ∙ sym q

pub same : (κs : _) (a : _) → OneAnswer (same-reads.Post κs a)
same κs a r₁ r₂ s₁ s₂ p q = p ∙ sym q

pub above : (κs : _) (a : _) → OneAnswer (above-reads.Post κs a)
above κs a r₁ r₂ s₁ s₂ p q = p ∙ sym q

pub is-default : (κs : _) (a : _) → OneAnswer (is-default-reads.Post κs a)
is-default κs a r₁ r₂ s₁ s₂ p q = p ∙ sym q
