-- Two answers that are told alike are the same answer.
use Rattle.std.specs.Prelude.{ℕ, Result}
use mathlib.Core.Path.{◌≡◌, ap}
use Rattle.base.specs.declared.Refusal.{Refusal}
use Rattle.base.proofs.Numbers.{results_alike}
use Rattle.hire_book.specs.Step.{Told, told}

pub told-alike : (a b : Result ℕ Refusal) → told a ≡ told b → a ≡ b
told-alike a b p = results_alike 0 a b (ap (λ (x : Told). x.number) p) (ap (λ (x : Told). x.days) p)
