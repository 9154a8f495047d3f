-- Written by tools/pins --write, from the promises of crates/report/src: any two outcomes that a call's own promise allows are one.
use mathlib.Core.Path.{◌≡◌, sym, ◌∙◌, ap}
use Rattle.base.proofs.Numbers.{results_alike}
use Rattle.pins.proofs.One.{One, OneAnswer}
use Rattle.report.specs.Step.{SeenFed, SeenReport}
use Rattle.report.proofs.Reader.fresh.Reads as fresh-reads
use Rattle.report.proofs.feed.Reads as feed-reads
use Rattle.report.proofs.finish.Reads as finish-reads

pub fresh : (κs : _) (a : _) → OneAnswer (fresh-reads.Post κs a)
fresh κs a r₁ r₂ s₁ s₂ p q = p ∙ sym q

-- the answer, and at exit book
pub feed : (κs : _) (a : _) → One (feed-reads.Post κs a) (λ r s r′ s′. (r ≡ r′) × (s.1.1.0.now ≡ s′.1.1.0.now))
feed κs a r₁ r₂ s₁ s₂ p q = let e = p ∙ sym q in (results_alike a.0 r₁ r₂ (ap (λ (x : SeenFed). x.answer) e) (ap (λ (x : SeenFed). x.reading.reader) e), ap (λ (x : SeenFed). x.reading.book) e)

-- the answer, and at exit book, out
pub finish : (κs : _) (a : _) → One (finish-reads.Post κs a) (λ r s r′ s′. (r ≡ r′) × (s.1.0.now ≡ s′.1.0.now) × (s.1.1.0.now ≡ s′.1.1.0.now))
finish κs a r₁ r₂ s₁ s₂ p q = let e = p.0 ∙ sym q.0 in (results_alike 0 r₁ r₂ (ap (λ (x : SeenReport). x.answer) e) (ap (λ (x : SeenReport). x.count) e), ap (λ (x : SeenReport). x.book) e, ap (λ (x : SeenReport). x.out) e)
