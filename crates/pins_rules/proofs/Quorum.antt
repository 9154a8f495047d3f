-- Written by tools/pins --write, from the promises of crates/quorum/src: any two outcomes that a call's own promise allows are one.
use mathlib.Core.Path.{sym, ◌∙◌}
use Rattle.pins.proofs.One.{OneAnswer}
use Rattle.quorum.proofs.Quorum.with.Reads as with-reads
use Rattle.quorum.proofs.Quorum.read_size.Reads as read-size-reads
use Rattle.quorum.proofs.Quorum.write_size.Reads as write-size-reads
use Rattle.quorum.proofs.Quorum.is_prepare_quorum.Reads as is-prepare-quorum-reads
use Rattle.quorum.proofs.Quorum.is_accept_quorum.Reads as is-accept-quorum-reads
use Rattle.quorum.proofs.Configuration.stands.Reads as stands-reads
use Rattle.quorum.proofs.Configuration.is_depot.Reads as is-depot-reads

pub with : (κs : _) (a : _) → OneAnswer (with-reads.Post κs a)
with κs a r₁ r₂ s₁ s₂ p q = p ∙ sym q

pub read-size : (κs : _) (a : _) → OneAnswer (read-size-reads.Post κs a)
read-size κs a r₁ r₂ s₁ s₂ p q = p ∙ sym q

pub write-size : (κs : _) (a : _) → OneAnswer (write-size-reads.Post κs a)
write-size κs a r₁ r₂ s₁ s₂ p q = p ∙ sym q

pub is-prepare-quorum : (κs : _) (a : _) → OneAnswer (is-prepare-quorum-reads.Post κs a)
is-prepare-quorum κs a r₁ r₂ s₁ s₂ p q = p ∙ sym q

pub is-accept-quorum : (κs : _) (a : _) → OneAnswer (is-accept-quorum-reads.Post κs a)
is-accept-quorum κs a r₁ r₂ s₁ s₂ p q = p ∙ sym q

pub stands : (κs : _) (a : _) → OneAnswer (stands-reads.Post κs a)
stands κs a r₁ r₂ s₁ s₂ p q = p ∙ sym q

pub is-depot : (κs : _) (a : _) → OneAnswer (is-depot-reads.Post κs a)
is-depot κs a r₁ r₂ s₁ s₂ p q = p ∙ sym q
