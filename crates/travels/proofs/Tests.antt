-- Two tests joined.
use mathlib.Core.Path.{◌≡◌, refl}
use mathlib.Core.Bool.{Bool, true, false, ◌&&◌}
use Rattle.base.proofs.Tests.{not-both}

pub both_true : {s t : Bool} → (s && t) ≡ true → (s ≡ true) × (t ≡ true)
both_true {s = true} e = (refl, e)
both_true {s = false} e = absurd (not-both e refl)

pub and-false : (t : Bool) → (t && false) ≡ false
and-false true = refl
and-false false = refl
