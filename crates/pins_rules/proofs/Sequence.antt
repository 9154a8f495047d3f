-- Written by tools/pins --write, from the promises of crates/sequence/src: any two outcomes that a call's own promise allows are one.
use mathlib.Core.Path.{sym, ◌∙◌}
use Rattle.pins.proofs.One.{OneAnswer}
use Rattle.sequence.proofs.SequenceNumber.default.Reads as default-reads
use Rattle.sequence.proofs.SequenceNumber.check_msg_status.Reads as check-msg-status-reads

pub default : (κs : _) (a : _) → OneAnswer (default-reads.Post κs a)
default κs a r₁ r₂ s₁ s₂ p q = p ∙ sym q

pub check-msg-status : (κs : _) (a : _) → OneAnswer (check-msg-status-reads.Post κs a)
check-msg-status κs a r₁ r₂ s₁ s₂ p q = p ∙ sym q
