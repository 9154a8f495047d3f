-- Written by tools/pins --write, from the promises of crates/decimal/src: any two outcomes that a call's own promise allows are one.
use mathlib.Core.Path.{◌≡◌}
use Rattle.pins.proofs.One.{One}
use Rattle.pins_book.proofs.Put.{put-alike}
use Rattle.decimal.proofs.put.Reads as put-reads
use Rattle.decimal.proofs.put_text.Reads as put-text-reads
use Rattle.decimal.proofs.put_decimal.Reads as put-decimal-reads

-- the answer, and at exit out
pub put : (κs : _) (a : _) → One (put-reads.Post κs a) (λ r s r′ s′. (r ≡ r′) × (s.0.now ≡ s′.0.now))
put κs a r₁ r₂ s₁ s₂ p q = put-alike p q

-- the answer, and at exit out
pub put-text : (κs : _) (a : _) → One (put-text-reads.Post κs a) (λ r s r′ s′. (r ≡ r′) × (s.0.now ≡ s′.0.now))
put-text κs a r₁ r₂ s₁ s₂ p q = put-alike p q

-- the answer, and at exit out
pub put-decimal : (κs : _) (a : _) → One (put-decimal-reads.Post κs a) (λ r s r′ s′. (r ≡ r′) × (s.0.now ≡ s′.0.now))
put-decimal κs a r₁ r₂ s₁ s₂ p q = put-alike p q
