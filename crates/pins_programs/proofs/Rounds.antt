-- Written by tools/pins --write, from the promises of crates/rounds/src: any two outcomes that a call's own promise allows are one.
use mathlib.Core.Path.{◌≡◌, sym, ◌∙◌}
use Rattle.pins.proofs.One.{One, OneAnswer}
use Rattle.rounds.proofs.act.Reads as act-reads
use Rattle.rounds.proofs.drain.Reads as drain-reads
use Rattle.rounds.proofs.settle.Reads as settle-reads
use Rattle.rounds.proofs.total_of.Reads as total-of-reads

-- at exit c
pub act : (κs : _) (k : _) (g : _) (d : _) (l : _) (a : _) → One (act-reads.Post κs k g d l a) (λ r s r′ s′. s.1.0.now ≡ s′.1.0.now)
act κs k g d l a r₁ r₂ s₁ s₂ p q = p ∙ sym q

-- at exit c
pub drain : (κs : _) (k : _) (g : _) (d : _) (l : _) (a : _) → One (drain-reads.Post κs k g d l a) (λ r s r′ s′. s.1.0.now ≡ s′.1.0.now)
drain κs k g d l a r₁ r₂ s₁ s₂ p q = p ∙ sym q

-- at exit c
pub settle : (κs : _) (k : _) (g : _) (d : _) (l : _) (a : _) → One (settle-reads.Post κs k g d l a) (λ r s r′ s′. s.1.0.now ≡ s′.1.0.now)
settle κs k g d l a r₁ r₂ s₁ s₂ p q = p ∙ sym q

pub total-of : (κs : _) (a : _) → OneAnswer (total-of-reads.Post κs a)
total-of κs a r₁ r₂ s₁ s₂ p q = p ∙ sym q
