-- Written by tools/pins --write, from the promises of crates/page/src: any two outcomes that a call's own promise allows are one.
use mathlib.Core.Path.{◌≡◌}
use Rattle.pins.proofs.One.{One}
use Rattle.pins_book.proofs.Put.{put-alike}
use Rattle.page.proofs.put_bad_line.Reads as put-bad-line-reads
use Rattle.page.proofs.put_page.Reads as put-page-reads

-- the answer, and at exit out
pub put-bad-line : (κs : _) (a : _) → One (put-bad-line-reads.Post κs a) (λ r s r′ s′. (r ≡ r′) × (s.0.now ≡ s′.0.now))
put-bad-line κs a r₁ r₂ s₁ s₂ p q = put-alike p q

-- the answer, and at exit out
pub put-page : (κs : _) (a : _) → One (put-page-reads.Post κs a) (λ r s r′ s′. (r ≡ r′) × (s.0.now ≡ s′.0.now))
put-page κs a r₁ r₂ s₁ s₂ p q = put-alike p q
