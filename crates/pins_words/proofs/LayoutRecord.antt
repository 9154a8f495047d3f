-- Written by tools/pins --write, from the promises of crates/layout_record/src: any two outcomes that a call's own promise allows are one.
use mathlib.Core.Path.{◌≡◌, sym, ◌∙◌}
use Rattle.pins.proofs.One.{One, OneAnswer}
use Rattle.layout_record.proofs.broken_record.Reads as broken-record-reads
use Rattle.layout_record.proofs.read_record.Reads as read-record-reads
use Rattle.layout_record.proofs.write_record.Reads as write-record-reads

pub broken-record : (κs : _) (a : _) → OneAnswer (broken-record-reads.Post κs a)
broken-record κs a r₁ r₂ s₁ s₂ p q = p ∙ sym q

pub read-record : (κs : _) (a : _) → OneAnswer (read-record-reads.Post κs a)
read-record κs a r₁ r₂ s₁ s₂ p q = p ∙ sym q

-- at exit words
pub write-record : (κs : _) (a : _) → One (write-record-reads.Post κs a) (λ r s r′ s′. s.0.now ≡ s′.0.now)
write-record κs a r₁ r₂ s₁ s₂ p q = p.0 ∙ sym q.0
