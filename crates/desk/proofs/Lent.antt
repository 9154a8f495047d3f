-- Calls that are lent slices: any two outcomes that a call's own promise allows, answers and what is lent at exit, are one.
use mathlib.Core.Path.{◌≡◌, sym, ◌∙◌, ap}
use Rattle.base.proofs.Numbers.{answers_alike, results_alike}
use Rattle.hire_book.proofs.Told.{told-alike}
use Rattle.hire_book.proofs.apply.Reads as apply-reads
use Rattle.hire_book.proofs.apply_all.Reads as apply-all-reads
use Rattle.hire_book.proofs.fresh.Reads as fresh-reads
use Rattle.hire_book.proofs.charged_days.Reads as charged-days-reads
use Rattle.hire_book.proofs.total_days.Reads as total-days-reads
use Rattle.report.proofs.feed.Reads as feed-reads
use Rattle.report.proofs.finish.Reads as finish-reads

-- a call that is lent a book
pub apply : (κs : _) (a : _) (r₁ r₂ : _) (s₁ s₂ : _) → apply-reads.Post κs a r₁ s₁ → apply-reads.Post κs a r₂ s₂ → (r₁ ≡ r₂) × (s₁.0.now ≡ s₂.0.now)
apply κs a r₁ r₂ s₁ s₂ p q = (answers_alike r₁ r₂ (ap (λ x. x.answer) (p ∙ sym q)), ap (λ x. x.book) (p ∙ sym q))

pub apply-all : (κs : _) (a : _) (r₁ r₂ : _) (s₁ s₂ : _) → apply-all-reads.Post κs a r₁ s₁ → apply-all-reads.Post κs a r₂ s₂ → (r₁ ≡ r₂) × (s₁.0.now ≡ s₂.0.now)
apply-all κs a r₁ r₂ s₁ s₂ p q = (answers_alike r₁ r₂ (ap (λ x. x.answer) (p ∙ sym q)), ap (λ x. x.book) (p ∙ sym q))

pub fresh : (κs : _) (a : _) (r₁ r₂ : _) (s₁ s₂ : _) → fresh-reads.Post κs a r₁ s₁ → fresh-reads.Post κs a r₂ s₂ → (r₁ ≡ r₂) × (s₁.0.now ≡ s₂.0.now)
fresh κs a r₁ r₂ s₁ s₂ p q = (answers_alike r₁ r₂ (ap (λ x. x.answer) (p ∙ sym q)), ap (λ x. x.book) (p ∙ sym q))

-- an answer that gives days, by document 01's number and the days
pub charged-days : (κs : _) (a : _) (r₁ r₂ : _) (s₁ s₂ : _) → charged-days-reads.Post κs a r₁ s₁ → charged-days-reads.Post κs a r₂ s₂ → r₁ ≡ r₂
charged-days κs a r₁ r₂ s₁ s₂ p q = told-alike r₁ r₂ (p ∙ sym q)

pub total-days : (κs : _) (a : _) (r₁ r₂ : _) (s₁ s₂ : _) → total-days-reads.Post κs a r₁ s₁ → total-days-reads.Post κs a r₂ s₂ → r₁ ≡ r₂
total-days κs a r₁ r₂ s₁ s₂ p q = told-alike r₁ r₂ (p ∙ sym q)

-- a part of the input, and the report
pub feed : (κs : _) (a : _) (r₁ r₂ : _) (s₁ s₂ : _) → feed-reads.Post κs a r₁ s₁ → feed-reads.Post κs a r₂ s₂ → (r₁ ≡ r₂) × (s₁.1.1.0.now ≡ s₂.1.1.0.now)
feed κs a r₁ r₂ s₁ s₂ p q = (results_alike a.0 r₁ r₂ (ap (λ x. x.answer) (p ∙ sym q)) (ap (λ x. x.reading.reader) (p ∙ sym q)), ap (λ x. x.reading.book) (p ∙ sym q))

pub finish : (κs : _) (a : _) (r₁ r₂ : _) (s₁ s₂ : _) → finish-reads.Post κs a r₁ s₁ → finish-reads.Post κs a r₂ s₂ → (r₁ ≡ r₂) × (s₁.1.0.now ≡ s₂.1.0.now) × (s₁.1.1.0.now ≡ s₂.1.1.0.now)
finish κs a r₁ r₂ s₁ s₂ p q =
    let e = p.0 ∙ sym q.0 in
    (results_alike 0 r₁ r₂ (ap (λ x. x.answer) e) (ap (λ x. x.count) e), ap (λ x. x.book) e, ap (λ x. x.out) e)
