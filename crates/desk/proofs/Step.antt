-- The whole step: any two outcomes that its promise allows, answer, record and row and every list lent, are one.
use mathlib.Core.Path.{◌≡◌, sym, ◌∙◌, ap}
use mathlib.Core.List.{List}
use Rattle.step.specs.Step.{Outcome}
use Rattle.step.specs.declared.Step.{Step}
use Rattle.broken.specs.Lent.{Lent}
use Rattle.messages.specs.declared.Head.{Head}
use Rattle.depot.specs.declared.Stepped.{Stepped}
use Rattle.depot.specs.Heads.{seen_heads}
use Rattle.depot_row.proofs.step_row.Reads as step-row-reads
use Rattle.own_row.proofs.step.Reads as own-row-reads

abbrev handed-back : Outcome → Step
handed-back o = record { answer = o.answer; node = o.after.node; row = o.after.row }

pub step_row :
    (κs : _) (a : _) (r₁ r₂ : _) (s₁ s₂ : _) → step-row-reads.Post κs a r₁ s₁ → step-row-reads.Post κs a r₂ s₂
    → (r₁ ≡ r₂) × (s₁.1.1.1.0.now ≡ s₂.1.1.1.0.now) × (s₁.1.1.1.1.0.now ≡ s₂.1.1.1.1.0.now) × (s₁.1.1.1.1.1.0.now ≡ s₂.1.1.1.1.1.0.now) × (s₁.1.1.1.1.1.1.0.now ≡ s₂.1.1.1.1.1.1.0.now) × (s₁.1.1.1.1.1.1.1.0.now ≡ s₂.1.1.1.1.1.1.1.0.now)
step_row κs a r₁ r₂ s₁ s₂ p q =
    let e = p ∙ sym q in
    (ap handed-back e, ap (λ (o : Outcome). o.after.lists.log) e, ap (λ (o : Outcome). o.after.lists.cached) e, ap (λ (o : Outcome). o.after.lists.best) e, ap (λ (o : Outcome). o.after.lists.store) e, ap (λ (o : Outcome). o.after.lists.book) e)

-- the same promise, where the row is lent to the step and taken back
pub own_row :
    (κs : _) (a : _) (r₁ r₂ : _) (s₁ s₂ : _) → own-row-reads.Post κs a r₁ s₁ → own-row-reads.Post κs a r₂ s₂
    → (r₁ ≡ r₂) × (s₁.1.1.1.0.now ≡ s₂.1.1.1.0.now) × (s₁.1.1.1.1.0.now ≡ s₂.1.1.1.1.0.now) × (s₁.1.1.1.1.1.0.now ≡ s₂.1.1.1.1.1.0.now) × (s₁.1.1.1.1.1.1.0.now ≡ s₂.1.1.1.1.1.1.0.now) × (s₁.1.1.1.1.1.1.1.0.now ≡ s₂.1.1.1.1.1.1.1.0.now)
own_row = step_row

-- with the row of heads lent: whatever `step_heads` gives, o, what is handed back and everything lent are its parts
abbrev stepped-back : Outcome → Stepped
stepped-back o = record { answer = o.answer; node = o.after.node }

pub step-heads : (o : Outcome) (x₁ x₂ : Stepped) (h₁ h₂ : List Head) (l₁ l₂ : Lent) → seen_heads x₁ h₁ l₁ ≡ o → seen_heads x₂ h₂ l₂ ≡ o → (x₁ ≡ x₂) × (h₁ ≡ h₂) × (l₁ ≡ l₂)
step-heads o x₁ x₂ h₁ h₂ l₁ l₂ p q =
    let e = p ∙ sym q in
    (ap stepped-back e, ap (λ (o : Outcome). o.after.row.heads) e, ap (λ (o : Outcome). o.after.lists) e)
