-- Written by tools/pins --write, from the promises of crates/outgoing/src: any two outcomes that a call's own promise allows are one.
use mathlib.Core.Path.{◌≡◌, sym, ◌∙◌, ap}
use Rattle.outgoing.specs.Queue.{Lent}
use Rattle.pins.proofs.One.{One}
use Rattle.outgoing.proofs.perform.Reads as perform-reads

-- the answer, and at exit store
pub perform : (κs : _) (a : _) → One (perform-reads.Post κs a) (λ r s r′ s′. (r ≡ r′) × (s.1.0.now ≡ s′.1.0.now))
perform κs a r₁ r₂ s₁ s₂ p q = let e = p ∙ sym q in (ap (λ (x : Lent). x.row) e, ap (λ (x : Lent). x.store) e)
