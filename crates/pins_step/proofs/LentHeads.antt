-- Written by tools/pins --write, from the promises of crates/lent_heads/src: any two outcomes that a call's own promise allows are one.
use mathlib.Core.Path.{◌≡◌, sym, ◌∙◌}
use Rattle.pins.proofs.One.{One, OneAnswer}
use Rattle.lent_heads.proofs.get.Reads as get-reads
use Rattle.lent_heads.proofs.push.Reads as push-reads
use Rattle.lent_heads.proofs.edited_head.Reads as edited-head-reads
use Rattle.lent_heads.proofs.edit.Reads as edit-reads
use Rattle.lent_heads.proofs.snapshot.Reads as snapshot-reads
use Rattle.lent_heads.proofs.apply.Reads as apply-reads

pub get : (κs : _) (a : _) → OneAnswer (get-reads.Post κs a)
get κs a r₁ r₂ s₁ s₂ p q = p ∙ sym q

-- at exit heads
pub push : (κs : _) (a : _) → One (push-reads.Post κs a) (λ r s r′ s′. s.0.now ≡ s′.0.now)
push κs a r₁ r₂ s₁ s₂ p q = p ∙ sym q

pub edited-head : (κs : _) (a : _) → OneAnswer (edited-head-reads.Post κs a)
edited-head κs a r₁ r₂ s₁ s₂ p q = p ∙ sym q

-- at exit heads
pub edit : (κs : _) (a : _) → One (edit-reads.Post κs a) (λ r s r′ s′. s.0.now ≡ s′.0.now)
edit κs a r₁ r₂ s₁ s₂ p q = p ∙ sym q

pub snapshot : (κs : _) (a : _) → OneAnswer (snapshot-reads.Post κs a)
snapshot κs a r₁ r₂ s₁ s₂ p q = p ∙ sym q

-- at exit heads
pub apply : (κs : _) (a : _) → One (apply-reads.Post κs a) (λ r s r′ s′. s.0.now ≡ s′.0.now)
apply κs a r₁ r₂ s₁ s₂ p q = p ∙ sym q
