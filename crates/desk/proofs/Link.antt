-- The linked calls: any two outcomes that a call's own promise allows, the number and everything lent at exit, are one.
use mathlib.Core.Path.{◌≡◌, sym, ◌∙◌, ap}
use Rattle.depot_link.specs.Link.{Linked, Fresh}
use Rattle.depot_link.specs.Report.{Reported}
use Rattle.depot_link.proofs.depots_fresh.Reads as fresh-reads
use Rattle.depot_link.proofs.depots_step.Reads as step-reads
use Rattle.depot_link.proofs.depots_step_lent.Reads as Lent-reads
use Rattle.depot_link.proofs.depots_report.Reads as report-reads

pub depots-fresh : (κs : _) (a : _) (r₁ r₂ : _) (s₁ s₂ : _) → fresh-reads.Post κs a r₁ s₁ → fresh-reads.Post κs a r₂ s₂ → (r₁ ≡ r₂) × (s₁.0.now ≡ s₂.0.now)
depots-fresh κs a r₁ r₂ s₁ s₂ p q = (ap (λ (x : Fresh). x.number) (p ∙ sym q), ap (λ (x : Fresh). x.node) (p ∙ sym q))

-- record, row, log, both sync buffers, store, book, and the two counts
pub depots-step :
    (κs : _) (a : _) (r₁ r₂ : _) (s₁ s₂ : _) → step-reads.Post κs a r₁ s₁ → step-reads.Post κs a r₂ s₂
    → (r₁ ≡ r₂) × (s₁.1.0.now ≡ s₂.1.0.now) × (s₁.1.1.0.now ≡ s₂.1.1.0.now) × (s₁.1.1.1.0.now ≡ s₂.1.1.1.0.now) × (s₁.1.1.1.1.0.now ≡ s₂.1.1.1.1.0.now) × (s₁.1.1.1.1.1.0.now ≡ s₂.1.1.1.1.1.0.now) × (s₁.1.1.1.1.1.1.0.now ≡ s₂.1.1.1.1.1.1.0.now) × (s₁.1.1.1.1.1.1.1.0.now ≡ s₂.1.1.1.1.1.1.1.0.now) × (s₁.1.1.1.1.1.1.1.1.1.1.0.now ≡ s₂.1.1.1.1.1.1.1.1.1.1.0.now) × (s₁.1.1.1.1.1.1.1.1.1.1.1.0.now ≡ s₂.1.1.1.1.1.1.1.1.1.1.1.0.now)
depots-step κs a r₁ r₂ s₁ s₂ p q =
    let e = p.0 ∙ sym q.0 in (
      ap (λ (x : Linked). x.answer.no) e,
      ap (λ (x : Linked). x.after.node) e,
      ap (λ (x : Linked). x.after.row) e,
      ap (λ (x : Linked). x.after.lists.log) e,
      ap (λ (x : Linked). x.after.lists.cached) e,
      ap (λ (x : Linked). x.after.lists.best) e,
      ap (λ (x : Linked). x.after.lists.store) e,
      ap (λ (x : Linked). x.after.lists.book) e,
      ap (λ (x : Linked). x.answer.dropped) e,
      ap (λ (x : Linked). x.answer.handed_out) e,
    )

-- the step with its row lent on the way promises what the other does, so its outcome is one, and the same
pub depots-step-lent : (κs : _) (a : _) (r : _) (s : _) → Lent-reads.Post κs a r s → step-reads.Post κs a r s
depots-step-lent κs a r s p = p

pub depots-report : (κs : _) (a : _) (r₁ r₂ : _) (s₁ s₂ : _) → report-reads.Post κs a r₁ s₁ → report-reads.Post κs a r₂ s₂ → (r₁ ≡ r₂) × (s₁.1.0.now ≡ s₂.1.0.now) × (s₁.1.1.0.now ≡ s₂.1.1.0.now)
depots-report κs a r₁ r₂ s₁ s₂ p q = (ap (λ (x : Reported). x.number) (p ∙ sym q), ap (λ (x : Reported). x.out) (p ∙ sym q), ap (λ (x : Reported). x.count) (p ∙ sym q))
