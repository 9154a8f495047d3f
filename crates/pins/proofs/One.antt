-- One outcome: any two outcomes that a promise allows are alike. An outcome is an answer, r, and what is lent at exit, s; two are alike where their answers are the same and every lent slice is the same at exit.
use mathlib.Core.Path.{◌≡◌, refl, sym}
use mathlib.Core.Bool.{Bool, true, false}

abbrev pub One : {R S : Type 0} → (R → S → Type 0) → (R → S → R → S → Type 0) → Type 0
One {R} {S} P alike = (r₁ r₂ : R) (s₁ s₂ : S) → P r₁ s₁ → P r₂ s₂ → alike r₁ s₁ r₂ s₂

-- of a call that is lent nothing which it could change
abbrev pub OneAnswer : {R S : Type 0} → (R → S → Type 0) → Type 0
OneAnswer P = One P (λ r s r′ s′. r ≡ r′)

-- an answer that is true exactly where something holds
pub told-by : {A : Type 0} (r₁ r₂ : Bool) → (r₁ ≡ true → A) × (A → r₁ ≡ true) → (r₂ ≡ true → A) × (A → r₂ ≡ true) → r₁ ≡ r₂
told-by true r₂ p q = sym (q.1 (p.0 refl))
told-by false true p q = p.1 (q.0 refl)
told-by false false p q = refl
