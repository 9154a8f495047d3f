-- Written by tools/pins --write, from the promises of crates/accepting/src: any two outcomes that a call's own promise allows are one.
use mathlib.Core.Path.{sym, ◌∙◌}
use Rattle.pins.proofs.One.{OneAnswer}
use Rattle.accepting.proofs.handle_acceptsync.Reads as handle-acceptsync-reads
use Rattle.accepting.proofs.handle_acceptdecide.Reads as handle-acceptdecide-reads
use Rattle.accepting.proofs.handle_decide.Reads as handle-decide-reads

pub handle-acceptsync : (κs : _) (a : _) → OneAnswer (handle-acceptsync-reads.Post κs a)
handle-acceptsync κs a r₁ r₂ s₁ s₂ p q = p ∙ sym q

pub handle-acceptdecide : (κs : _) (a : _) → OneAnswer (handle-acceptdecide-reads.Post κs a)
handle-acceptdecide κs a r₁ r₂ s₁ s₂ p q = p ∙ sym q

pub handle-decide : (κs : _) (a : _) → OneAnswer (handle-decide-reads.Post κs a)
handle-decide κs a r₁ r₂ s₁ s₂ p q = p ∙ sym q
