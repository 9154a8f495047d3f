-- Written by tools/pins --write, from the promises of crates/depot/src: any two outcomes that a call's own promise allows are one.
use mathlib.Core.Path.{◌≡◌, sym, ◌∙◌, ap}
use Rattle.depot.specs.declared.Stepped.{Stepped}
use Rattle.pins.proofs.One.{One}
use Rattle.step.specs.Step.{Outcome}
use Rattle.depot.proofs.step.Reads as step-reads

abbrev stepped-back : Outcome → Stepped
stepped-back o = record { answer = o.answer; node = o.after.node }

-- the answer, and at exit heads, log, cached, best, store, book
pub step : (κs : _) (a : _) → One (step-reads.Post κs a) (λ r s r′ s′. (r ≡ r′) × (s.1.1.0.now ≡ s′.1.1.0.now) × (s.1.1.1.0.now ≡ s′.1.1.1.0.now) × (s.1.1.1.1.0.now ≡ s′.1.1.1.1.0.now) × (s.1.1.1.1.1.0.now ≡ s′.1.1.1.1.1.0.now) × (s.1.1.1.1.1.1.0.now ≡ s′.1.1.1.1.1.1.0.now) × (s.1.1.1.1.1.1.1.0.now ≡ s′.1.1.1.1.1.1.1.0.now))
step κs a r₁ r₂ s₁ s₂ p q = let e = p ∙ sym q in (ap (λ (x : Outcome). stepped-back x) e, ap (λ (x : Outcome). x.after.row.heads) e, ap (λ (x : Outcome). x.after.lists.log) e, ap (λ (x : Outcome). x.after.lists.cached) e, ap (λ (x : Outcome). x.after.lists.best) e, ap (λ (x : Outcome). x.after.lists.store) e, ap (λ (x : Outcome). x.after.lists.book) e)
