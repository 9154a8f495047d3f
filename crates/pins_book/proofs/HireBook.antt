-- Written by tools/pins --write, from the promises of crates/hire_book/src: any two outcomes that a call's own promise allows are one.
use mathlib.Core.Path.{◌≡◌, sym, ◌∙◌, ap}
use Rattle.base.proofs.Numbers.{answers_alike}
use Rattle.hire_book.proofs.Told.{told-alike}
use Rattle.hire_book.specs.Step.{Seen}
use Rattle.pins.proofs.One.{One, OneAnswer}
use Rattle.hire_book.proofs.any_broken.Reads as any-broken-reads
use Rattle.hire_book.proofs.is_broken.Reads as is-broken-reads
use Rattle.hire_book.proofs.check.Reads as check-reads
use Rattle.hire_book.proofs.any_above.Reads as any-above-reads
use Rattle.hire_book.proofs.apply_fit.Reads as apply-fit-reads
use Rattle.hire_book.proofs.apply_run.Reads as apply-run-reads
use Rattle.hire_book.proofs.apply.Reads as apply-reads
use Rattle.hire_book.proofs.apply_all.Reads as apply-all-reads
use Rattle.hire_book.proofs.fresh.Reads as fresh-reads
use Rattle.hire_book.proofs.charged_days.Reads as charged-days-reads
use Rattle.hire_book.proofs.sum_days.Reads as sum-days-reads
use Rattle.hire_book.proofs.total_days.Reads as total-days-reads

pub any-broken : (κs : _) (a : _) → OneAnswer (any-broken-reads.Post κs a)
any-broken κs a r₁ r₂ s₁ s₂ p q = p ∙ sym q

pub is-broken : (κs : _) (a : _) → OneAnswer (is-broken-reads.Post κs a)
is-broken κs a r₁ r₂ s₁ s₂ p q = p ∙ sym q

pub check : (κs : _) (a : _) → OneAnswer (check-reads.Post κs a)
check κs a r₁ r₂ s₁ s₂ p q = answers_alike r₁ r₂ (p.0 ∙ sym q.0)

pub any-above : (κs : _) (a : _) → OneAnswer (any-above-reads.Post κs a)
any-above κs a r₁ r₂ s₁ s₂ p q = p ∙ sym q

-- at exit book
pub apply-fit : (κs : _) (a : _) → One (apply-fit-reads.Post κs a) (λ r s r′ s′. s.0.now ≡ s′.0.now)
apply-fit κs a r₁ r₂ s₁ s₂ p q = p ∙ sym q

-- at exit book
pub apply-run : (κs : _) (a : _) → One (apply-run-reads.Post κs a) (λ r s r′ s′. s.0.now ≡ s′.0.now)
apply-run κs a r₁ r₂ s₁ s₂ p q = p ∙ sym q

-- the answer, and at exit book
pub apply : (κs : _) (a : _) → One (apply-reads.Post κs a) (λ r s r′ s′. (r ≡ r′) × (s.0.now ≡ s′.0.now))
apply κs a r₁ r₂ s₁ s₂ p q = let e = p ∙ sym q in (answers_alike r₁ r₂ (ap (λ (x : Seen). x.answer) e), ap (λ (x : Seen). x.book) e)

-- the answer, and at exit book
pub apply-all : (κs : _) (a : _) → One (apply-all-reads.Post κs a) (λ r s r′ s′. (r ≡ r′) × (s.0.now ≡ s′.0.now))
apply-all κs a r₁ r₂ s₁ s₂ p q = let e = p ∙ sym q in (answers_alike r₁ r₂ (ap (λ (x : Seen). x.answer) e), ap (λ (x : Seen). x.book) e)

-- the answer, and at exit book
pub fresh : (κs : _) (a : _) → One (fresh-reads.Post κs a) (λ r s r′ s′. (r ≡ r′) × (s.0.now ≡ s′.0.now))
fresh κs a r₁ r₂ s₁ s₂ p q = let e = p ∙ sym q in (answers_alike r₁ r₂ (ap (λ (x : Seen). x.answer) e), ap (λ (x : Seen). x.book) e)

pub charged-days : (κs : _) (a : _) → OneAnswer (charged-days-reads.Post κs a)
charged-days κs a r₁ r₂ s₁ s₂ p q = told-alike r₁ r₂ (p ∙ sym q)

pub sum-days : (κs : _) (a : _) → OneAnswer (sum-days-reads.Post κs a)
sum-days κs a r₁ r₂ s₁ s₂ p q = p ∙ sym q

pub total-days : (κs : _) (a : _) → OneAnswer (total-days-reads.Post κs a)
total-days κs a r₁ r₂ s₁ s₂ p q = told-alike r₁ r₂ (p ∙ sym q)
