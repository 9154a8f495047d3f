-- Written by tools/pins --write, from the promises of crates/record/src: any two outcomes that a call's own promise allows are one.
use mathlib.Core.Path.{sym, ◌∙◌}
use Rattle.pins.proofs.One.{OneAnswer}
use Rattle.record.proofs.Record.fresh.Reads as fresh-reads
use Rattle.record.proofs.Record.load.Reads as load-reads
use Rattle.record.proofs.Record.store.Reads as store-reads

pub fresh : (κs : _) (a : _) → OneAnswer (fresh-reads.Post κs a)
fresh κs a r₁ r₂ s₁ s₂ p q = p ∙ sym q

pub load : (κs : _) (a : _) → OneAnswer (load-reads.Post κs a)
load κs a r₁ r₂ s₁ s₂ p q = p ∙ sym q

pub store : (κs : _) (a : _) → OneAnswer (store-reads.Post κs a)
store κs a r₁ r₂ s₁ s₂ p q = p ∙ sym q
