-- Written by tools/pins --write, from the promises of crates/storage/src: any two outcomes that a call's own promise allows are one.
use mathlib.Core.Path.{◌≡◌, sym, ◌∙◌}
use Rattle.pins.proofs.One.{One, OneAnswer}
use Rattle.storage.proofs.first.Reads as first-reads
use Rattle.storage.proofs.part.Reads as part-reads
use Rattle.storage.proofs.write_suffix.Reads as write-suffix-reads
use Rattle.storage.proofs.sync_log.Reads as sync-log-reads
use Rattle.storage.proofs.write_log.Reads as write-log-reads
use Rattle.storage.proofs.write_cached.Reads as write-cached-reads
use Rattle.storage.proofs.write_best.Reads as write-best-reads
use Rattle.storage.proofs.write_buffer.Reads as write-buffer-reads

pub first : (κs : _) (a : _) → One (first-reads.Post κs a) (λ r s r′ s′. r.now ≡ r′.now)
first κs a r₁ r₂ s₁ s₂ p q = p ∙ sym q

pub part : (κs : _) (a : _) → One (part-reads.Post κs a) (λ r s r′ s′. r.now ≡ r′.now)
part κs a r₁ r₂ s₁ s₂ p q = p ∙ sym q

-- at exit part
pub write-suffix : (κs : _) (a : _) → One (write-suffix-reads.Post κs a) (λ r s r′ s′. s.0.now ≡ s′.0.now)
write-suffix κs a r₁ r₂ s₁ s₂ p q = p ∙ sym q

-- at exit log
pub sync-log : (κs : _) (a : _) → One (sync-log-reads.Post κs a) (λ r s r′ s′. s.0.now ≡ s′.0.now)
sync-log κs a r₁ r₂ s₁ s₂ p q = p ∙ sym q

-- at exit log
pub write-log : (κs : _) (a : _) → One (write-log-reads.Post κs a) (λ r s r′ s′. s.0.now ≡ s′.0.now)
write-log κs a r₁ r₂ s₁ s₂ p q = p ∙ sym q

-- at exit cached
pub write-cached : (κs : _) (a : _) → One (write-cached-reads.Post κs a) (λ r s r′ s′. s.0.now ≡ s′.0.now)
write-cached κs a r₁ r₂ s₁ s₂ p q = p ∙ sym q

-- at exit best
pub write-best : (κs : _) (a : _) → One (write-best-reads.Post κs a) (λ r s r′ s′. s.0.now ≡ s′.0.now)
write-best κs a r₁ r₂ s₁ s₂ p q = p ∙ sym q

pub write-buffer : (κs : _) (a : _) → OneAnswer (write-buffer-reads.Post κs a)
write-buffer κs a r₁ r₂ s₁ s₂ p q = p ∙ sym q
