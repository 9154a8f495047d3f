-- Written by tools/pins --write, from the promises of crates/follower/src: any two outcomes that a call's own promise allows are one.
use mathlib.Core.Path.{sym, ◌∙◌}
use Rattle.pins.proofs.One.{OneAnswer}
use Rattle.follower.proofs.handle_prepare.Reads as handle-prepare-reads
use Rattle.follower.proofs.resend_messages_follower.Reads as resend-messages-follower-reads

pub handle-prepare : (κs : _) (a : _) → OneAnswer (handle-prepare-reads.Post κs a)
handle-prepare κs a r₁ r₂ s₁ s₂ p q = p ∙ sym q

pub resend-messages-follower : (κs : _) (a : _) → OneAnswer (resend-messages-follower-reads.Post κs a)
resend-messages-follower κs a r₁ r₂ s₁ s₂ p q = p ∙ sym q
