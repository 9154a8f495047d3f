-- Written by tools/pins --write, from the promises of crates/depot_row/src: any two outcomes that a call's own promise allows are one.
use mathlib.Core.Path.{◌≡◌, sym, ◌∙◌, ap}
use Rattle.pins.proofs.One.{One}
use Rattle.step.specs.Step.{Outcome}
use Rattle.step.specs.declared.Step.{Step}
use Rattle.depot_row.proofs.step_row.Reads as step-row-reads

abbrev handed-back : Outcome → Step
handed-back o = record { answer = o.answer; node = o.after.node; row = o.after.row }

-- the answer, and at exit log, cached, best, store, book
pub step-row : (κs : _) (a : _) → One (step-row-reads.Post κs a) (λ r s r′ s′. (r ≡ r′) × (s.1.1.1.0.now ≡ s′.1.1.1.0.now) × (s.1.1.1.1.0.now ≡ s′.1.1.1.1.0.now) × (s.1.1.1.1.1.0.now ≡ s′.1.1.1.1.1.0.now) × (s.1.1.1.1.1.1.0.now ≡ s′.1.1.1.1.1.1.0.now) × (s.1.1.1.1.1.1.1.0.now ≡ s′.1.1.1.1.1.1.1.0.now))
step-row κs a r₁ r₂ s₁ s₂ p q = let e = p ∙ sym q in (ap (λ (x : Outcome). handed-back x) e, ap (λ (x : Outcome). x.after.lists.log) e, ap (λ (x : Outcome). x.after.lists.cached) e, ap (λ (x : Outcome). x.after.lists.best) e, ap (λ (x : Outcome). x.after.lists.store) e, ap (λ (x : Outcome). x.after.lists.book) e)
