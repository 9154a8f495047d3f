-- Written by tools/pins --write, from the promises of crates/sequence_paxos/src: any two outcomes that a call's own promise allows are one.
use mathlib.Core.Path.{sym, ◌∙◌}
use Rattle.outcome.proofs.Told.{decided-alike}
use Rattle.pins.proofs.One.{OneAnswer}
use Rattle.sequence_paxos.proofs.decide.Reads as decide-reads

pub decide : (κs : _) (a : _) → OneAnswer (decide-reads.Post κs a)
decide κs a r₁ r₂ s₁ s₂ p q = decided-alike _ r₁ r₂ (p ∙ sym q)
