-- Written by tools/pins --write, from the promises of crates/log_plan/src: any two outcomes that a call's own promise allows are one.
use mathlib.Core.Path.{sym, ◌∙◌}
use Rattle.pins.proofs.One.{OneAnswer}
use Rattle.log_plan.proofs.ends_past.Reads as ends-past-reads
use Rattle.log_plan.proofs.sync_unfit.Reads as sync-unfit-reads
use Rattle.log_plan.proofs.sync_log.Reads as sync-log-reads
use Rattle.log_plan.proofs.append_entries.Reads as append-entries-reads
use Rattle.log_plan.proofs.append_buffered.Reads as append-buffered-reads
use Rattle.log_plan.proofs.buffer_proposals.Reads as buffer-proposals-reads
use Rattle.log_plan.proofs.forward_proposals.Reads as forward-proposals-reads
use Rattle.log_plan.proofs.forward_buffered_proposals.Reads as forward-buffered-proposals-reads

pub ends-past : (κs : _) (a : _) → OneAnswer (ends-past-reads.Post κs a)
ends-past κs a r₁ r₂ s₁ s₂ p q = p ∙ sym q

pub sync-unfit : (κs : _) (a : _) → OneAnswer (sync-unfit-reads.Post κs a)
sync-unfit κs a r₁ r₂ s₁ s₂ p q = p ∙ sym q

pub sync-log : (κs : _) (a : _) → OneAnswer (sync-log-reads.Post κs a)
sync-log κs a r₁ r₂ s₁ s₂ p q = p ∙ sym q

pub append-entries : (κs : _) (a : _) → OneAnswer (append-entries-reads.Post κs a)
append-entries κs a r₁ r₂ s₁ s₂ p q = p ∙ sym q

pub append-buffered : (κs : _) (a : _) → OneAnswer (append-buffered-reads.Post κs a)
append-buffered κs a r₁ r₂ s₁ s₂ p q = p ∙ sym q

pub buffer-proposals : (κs : _) (a : _) → OneAnswer (buffer-proposals-reads.Post κs a)
buffer-proposals κs a r₁ r₂ s₁ s₂ p q = p ∙ sym q

pub forward-proposals : (κs : _) (a : _) → OneAnswer (forward-proposals-reads.Post κs a)
forward-proposals κs a r₁ r₂ s₁ s₂ p q = p ∙ sym q

pub forward-buffered-proposals : (κs : _) (a : _) → OneAnswer (forward-buffered-proposals-reads.Post κs a)
forward-buffered-proposals κs a r₁ r₂ s₁ s₂ p q = p ∙ sym q
