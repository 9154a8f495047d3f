-- Written by tools/pins --write, from the promises of crates/layout_row/src: any two outcomes that a call's own promise allows are one.
use mathlib.Core.Path.{◌≡◌, sym, ◌∙◌}
use Rattle.pins.proofs.One.{One, OneAnswer}
use Rattle.layout_row.proofs.no_row.Reads as no-row-reads
use Rattle.layout_row.proofs.read_row.Reads as read-row-reads
use Rattle.layout_row.proofs.write_row.Reads as write-row-reads
use Rattle.layout_row.proofs.event_in.Reads as event-in-reads
use Rattle.layout_row.proofs.configuration_in.Reads as configuration-in-reads

pub no-row : (κs : _) (a : _) → OneAnswer (no-row-reads.Post κs a)
no-row κs a r₁ r₂ s₁ s₂ p q = p ∙ sym q

pub read-row : (κs : _) (a : _) → OneAnswer (read-row-reads.Post κs a)
read-row κs a r₁ r₂ s₁ s₂ p q = p ∙ sym q

-- at exit words
pub write-row : (κs : _) (a : _) → One (write-row-reads.Post κs a) (λ r s r′ s′. s.0.now ≡ s′.0.now)
write-row κs a r₁ r₂ s₁ s₂ p q = p.0 ∙ sym q.0

pub event-in : (κs : _) (a : _) → OneAnswer (event-in-reads.Post κs a)
event-in κs a r₁ r₂ s₁ s₂ p q = p ∙ sym q

pub configuration-in : (κs : _) (a : _) → OneAnswer (configuration-in-reads.Post κs a)
configuration-in κs a r₁ r₂ s₁ s₂ p q = p ∙ sym q
