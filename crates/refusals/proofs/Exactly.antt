-- Each number is given exactly when its row applies and no earlier one does, and no other number is given.
use Prim.Native.Nat.{ℕ, ◌≤◌}
use mathlib.Core.Path.{◌≡◌, refl}
use mathlib.Core.Bool.{Bool, true, false}
use mathlib.Core.List.{List}
use mathlib.Core.Logic.{◌↔◌}
use native.Mathlib.Omega.{arith}
use Rattle.base.proofs.Tests.{not-both}
use Rattle.quorum.specs.declared.Configuration.{Configuration}
use Rattle.messages.specs.declared.Row.{Row}
use Rattle.messages.specs.declared.Event.{Event}
use Rattle.record.specs.declared.Record.{Record}
use Rattle.unfit.specs.Unfit.{stranger_of, unfit_of}
use Rattle.broken.specs.Lent.{Lent}
use Rattle.broken.specs.Broken.{record_broken}
use Rattle.refusals.specs.Refusals.{call_off, first_of, refusal_of}

-- no test of a row holds
pub record None (a b c d : Bool) : Type 0 where
  pub one : a ≡ false
  pub two : b ≡ false
  pub three : c ≡ false
  pub four : d ≡ false

first-le : (a b c d : Bool) → first_of a b c d ≤ 4
first-le true b c d = omega arith
first-le false true c d = omega arith
first-le false false true d = omega arith
first-le false false false true = omega arith
first-le false false false false = omega arith

first_one : (a b c d : Bool) → (first_of a b c d ≡ 1) ↔ (a ≡ true)
first_one true b c d = ((λ e. refl), (λ e. refl))
first_one false true c d = ((λ e. absurd (omega arith)), (λ e. not-both e refl))
first_one false false true d = ((λ e. absurd (omega arith)), (λ e. not-both e refl))
first_one false false false true = ((λ e. absurd (omega arith)), (λ e. not-both e refl))
first_one false false false false = ((λ e. absurd (omega arith)), (λ e. not-both e refl))

first_two : (a b c d : Bool) → (first_of a b c d ≡ 2) ↔ ((a ≡ false) × (b ≡ true))
first_two true b c d = ((λ e. absurd (omega arith)), (λ p. not-both refl p.0))
first_two false true c d = ((λ e. (refl, refl)), (λ p. refl))
first_two false false true d = ((λ e. absurd (omega arith)), (λ p. not-both p.1 refl))
first_two false false false true = ((λ e. absurd (omega arith)), (λ p. not-both p.1 refl))
first_two false false false false = ((λ e. absurd (omega arith)), (λ p. not-both p.1 refl))

first_three : (a b c d : Bool) → (first_of a b c d ≡ 3) ↔ ((a ≡ false) × (b ≡ false) × (c ≡ true))
first_three true b c d = ((λ e. absurd (omega arith)), (λ p. not-both refl p.0))
first_three false true c d = ((λ e. absurd (omega arith)), (λ p. not-both refl p.1))
first_three false false true d = ((λ e. (refl, refl, refl)), (λ p. refl))
first_three false false false true = ((λ e. absurd (omega arith)), (λ p. not-both p.2 refl))
first_three false false false false = ((λ e. absurd (omega arith)), (λ p. not-both p.2 refl))

first-four : (a b c d : Bool) → (first_of a b c d ≡ 4) ↔ ((a ≡ false) × (b ≡ false) × (c ≡ false) × (d ≡ true))
first-four true b c d = ((λ e. absurd (omega arith)), (λ p. not-both refl p.0))
first-four false true c d = ((λ e. absurd (omega arith)), (λ p. not-both refl p.1))
first-four false false true d = ((λ e. absurd (omega arith)), (λ p. not-both refl p.2))
first-four false false false true = ((λ e. (refl, refl, refl, refl)), (λ p. refl))
first-four false false false false = ((λ e. absurd (omega arith)), (λ p. not-both p.3 refl))

first-none : (a b c d : Bool) → (first_of a b c d ≡ 0) ↔ None a b c d
first-none true b c d = ((λ e. absurd (omega arith)), (λ p. not-both refl p.one))
first-none false true c d = ((λ e. absurd (omega arith)), (λ p. not-both refl p.two))
first-none false false true d = ((λ e. absurd (omega arith)), (λ p. not-both refl p.three))
first-none false false false true = ((λ e. absurd (omega arith)), (λ p. not-both refl p.four))
first-none false false false false = ((λ e. record { one = refl; two = refl; three = refl; four = refl }), (λ p. refl))

module _ (c : Configuration) (r : Record) (row : Row) (l : Lent) (e : Event) (entries : List ℕ) where
  pub one-of-five : refusal_of c r row l e entries ≤ 4
  unfolding refusal_of
  one-of-five = first-le (call_off c l) (record_broken c r row l) (stranger_of c e) (unfit_of c e entries)

  pub refused-1 : (refusal_of c r row l e entries ≡ 1) ↔ (call_off c l ≡ true)
  unfolding refusal_of
  refused-1 = first_one (call_off c l) (record_broken c r row l) (stranger_of c e) (unfit_of c e entries)

  pub refused-2 : (refusal_of c r row l e entries ≡ 2) ↔ ((call_off c l ≡ false) × (record_broken c r row l ≡ true))
  unfolding refusal_of
  refused-2 = first_two (call_off c l) (record_broken c r row l) (stranger_of c e) (unfit_of c e entries)

  pub refused-3 : (refusal_of c r row l e entries ≡ 3) ↔ ((call_off c l ≡ false) × (record_broken c r row l ≡ false) × (stranger_of c e ≡ true))
  unfolding refusal_of
  refused-3 = first_three (call_off c l) (record_broken c r row l) (stranger_of c e) (unfit_of c e entries)

  pub refused-4 :
      (refusal_of c r row l e entries ≡ 4) ↔ ((call_off c l ≡ false) × (record_broken c r row l ≡ false) × (stranger_of c e ≡ false) × (unfit_of c e entries ≡ true))
  unfolding refusal_of
  refused-4 = first-four (call_off c l) (record_broken c r row l) (stranger_of c e) (unfit_of c e entries)

  pub refused_none : (refusal_of c r row l e entries ≡ 0) ↔ None (call_off c l) (record_broken c r row l) (stranger_of c e) (unfit_of c e entries)
  unfolding refusal_of
  refused_none = first-none (call_off c l) (record_broken c r row l) (stranger_of c e) (unfit_of c e entries)
