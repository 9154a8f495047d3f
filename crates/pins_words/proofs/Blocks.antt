-- Written by tools/pins --write, from the promises of crates/blocks/src: any two outcomes that a call's own promise allows are one.
use mathlib.Core.Path.{◌≡◌, sym, ◌∙◌}
use Rattle.pins.proofs.One.{One, OneAnswer}
use Rattle.blocks.proofs.block.Reads as block-reads
use Rattle.blocks.proofs.put_block.Reads as put-block-reads
use Rattle.blocks.proofs.above_most.Reads as above-most-reads
use Rattle.blocks.proofs.ballot.Reads as ballot-reads
use Rattle.blocks.proofs.ballot_words.Reads as ballot-words-reads

pub block : (κs : _) (a : _) → OneAnswer (block-reads.Post κs a)
block κs a r₁ r₂ s₁ s₂ p q = p ∙ sym q

-- at exit words
pub put-block : (κs : _) (a : _) → One (put-block-reads.Post κs a) (λ r s r′ s′. s.0.now ≡ s′.0.now)
put-block κs a r₁ r₂ s₁ s₂ p q = p ∙ sym q

pub above-most : (κs : _) (a : _) → OneAnswer (above-most-reads.Post κs a)
above-most κs a r₁ r₂ s₁ s₂ p q = p ∙ sym q

pub ballot : (κs : _) (a : _) → OneAnswer (ballot-reads.Post κs a)
ballot κs a r₁ r₂ s₁ s₂ p q = p ∙ sym q

pub ballot-words : (κs : _) (a : _) → OneAnswer (ballot-words-reads.Post κs a)
ballot-words κs a r₁ r₂ s₁ s₂ p q = p.0 ∙ sym q.0
