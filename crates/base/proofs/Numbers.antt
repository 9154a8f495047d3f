-- A refusal is known by its number, and so is an answer that has nothing beside it.
use Rattle.std.specs.Prelude.{ℕ, ◌<◌, Result, Ok, Err, cond}
use Rattle.std.specs.Result.{result_unwrap_or}
use mathlib.Core.Path.{◌≡◌, refl, sym, ap, ◌∙◌}
use native.Mathlib.Omega.{arith}
use lib.Dec.{eqb}
use Rattle.base.specs.Refusal.{number_of, answer_number}
use Rattle.base.specs.declared.Refusal.{Refusal}
use Rattle.base.specs.declared.Refusal.TheVariants.{WrongCall, Broken, Stranger, Unfit, LogFull, QueueFull, AtTop, BufferFull}

-- the refusal of a number
abbrev pub refusal_of : ℕ → Refusal
refusal_of n =
    cond (eqb n 1) WrongCall
    (cond (eqb n 2) Broken
    (cond (eqb n 3) Stranger
    (cond (eqb n 4) Unfit (cond (eqb n 5) LogFull (cond (eqb n 6) QueueFull (cond (eqb n 7) AtTop BufferFull))))))

pub refusal-back : (e : Refusal) → refusal_of (number_of e) ≡ e
refusal-back WrongCall = refl
refusal-back Broken = refl
refusal-back Stranger = refl
refusal-back Unfit = refl
refusal-back LogFull = refl
refusal-back QueueFull = refl
refusal-back AtTop = refl
refusal-back BufferFull = refl

pub numbers_alike : (d e : Refusal) → number_of d ≡ number_of e → d ≡ e
numbers_alike d e p = sym (refusal-back d) ∙ ap refusal_of p ∙ refusal-back e

-- no refusal has the number of an answer that refuses nothing
pub number-positive : (e : Refusal) → 0 < number_of e
number-positive WrongCall = omega arith
number-positive Broken = omega arith
number-positive Stranger = omega arith
number-positive Unfit = omega arith
number-positive LogFull = omega arith
number-positive QueueFull = omega arith
number-positive AtTop = omega arith
number-positive BufferFull = omega arith

-- an answer is known by its number and the value beside it, which is d where there is none
pub results_alike : {T : Type 0} (d : T) (a b : Result T Refusal) → answer_number a ≡ answer_number b → result_unwrap_or a d ≡ result_unwrap_or b d → a ≡ b
results_alike d (Ok x) (Ok y) p q = ap Ok q
results_alike d (Ok x) (Err e) p q = absurd (omega (arith, number-positive e))
results_alike d (Err e) (Ok y) p q = absurd (omega (arith, number-positive e))
results_alike d (Err e) (Err f) p q = ap Err (numbers_alike e f p)

pub answers_alike : (a b : Result (Unit {0}) Refusal) → answer_number a ≡ answer_number b → a ≡ b
answers_alike a b p = results_alike tt a b p refl
