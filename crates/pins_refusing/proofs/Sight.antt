-- Written by tools/pins --write, from the promises of crates/sight/src: any two outcomes that a call's own promise allows are one.
use mathlib.Core.Path.{sym, ◌∙◌}
use Rattle.pins.proofs.One.{OneAnswer}
use Rattle.sight.proofs.first_change.Reads as first-change-reads
use Rattle.sight.proofs.held_change.Reads as held-change-reads
use Rattle.sight.proofs.brought_sync.Reads as brought-sync-reads
use Rattle.sight.proofs.brought_change.Reads as brought-change-reads
use Rattle.sight.proofs.accdec_marks.Reads as accdec-marks-reads
use Rattle.sight.proofs.accepted_mark.Reads as accepted-mark-reads
use Rattle.sight.proofs.queue_entries.Reads as queue-entries-reads
use Rattle.sight.proofs.sight_of.Reads as sight-of-reads

pub first-change : (κs : _) (a : _) → OneAnswer (first-change-reads.Post κs a)
first-change κs a r₁ r₂ s₁ s₂ p q = p ∙ sym q

pub held-change : (κs : _) (a : _) → OneAnswer (held-change-reads.Post κs a)
held-change κs a r₁ r₂ s₁ s₂ p q = p ∙ sym q

pub brought-sync : (κs : _) (a : _) → OneAnswer (brought-sync-reads.Post κs a)
brought-sync κs a r₁ r₂ s₁ s₂ p q = p ∙ sym q

pub brought-change : (κs : _) (a : _) → OneAnswer (brought-change-reads.Post κs a)
brought-change κs a r₁ r₂ s₁ s₂ p q = p ∙ sym q

pub accdec-marks : (κs : _) (a : _) → OneAnswer (accdec-marks-reads.Post κs a)
accdec-marks κs a r₁ r₂ s₁ s₂ p q = p ∙ sym q

pub accepted-mark : (κs : _) (a : _) → OneAnswer (accepted-mark-reads.Post κs a)
accepted-mark κs a r₁ r₂ s₁ s₂ p q = p ∙ sym q

pub queue-entries : (κs : _) (a : _) → OneAnswer (queue-entries-reads.Post κs a)
queue-entries κs a r₁ r₂ s₁ s₂ p q = p ∙ sym q

pub sight-of : (κs : _) (a : _) → OneAnswer (sight-of-reads.Post κs a)
sight-of κs a r₁ r₂ s₁ s₂ p q = p ∙ sym q
