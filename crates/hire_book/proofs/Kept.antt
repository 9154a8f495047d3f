-- What it says of a pump's three numbers that they are not broken.
use Prim.Native.Nat.{ℕ, ◌+◌, ◌-◌, ◌≤◌, ◌<◌}
use mathlib.Core.Bool.{Bool, true, false}
use mathlib.Core.Path.{◌≡◌, refl}
use native.Mathlib.Omega.{arith}
use lib.Dec.{eqb}
use borrow.Author.Tests.{ltb-false, eqb-true, eqb-false, le-ltb}
use Rattle.base.specs.Limits.{max_day}
use Rattle.hire_book.specs.Book.{broken_at, open_above, place_at}
use Rattle.hire_book.proofs.Below.{neither}

pub record Kept (back open-out days : ℕ) : Type 0 where
  pub back_fits : back ≤ max_day
  pub open-fits : open-out ≤ max_day + 1
  pub days-fit : days ≤ back
  pub after : 0 < open-out → back < open-out

-- an open out within the limit, whether the pump is away or not
pub open-within : (back open-out : ℕ) → open-out ≤ max_day + 1 → open_above max_day (place_at back open-out) ≡ false
open-within back open-out h = go (eqb open-out 0) refl
  where
    go : (t : Bool) → eqb open-out 0 ≡ t → open_above max_day (place_at back open-out) ≡ false
    go true q = rw q
    go false q = rw (q, le-ltb max_day (open-out - 1) (omega arith))

module _ (back open-out days : ℕ) where
  pub kept_of : broken_at back open-out days ≡ false → Kept back open-out days
  unfolding broken_at
  kept_of e = go (eqb open-out 0) refl
    where
      go : (t : Bool) → eqb open-out 0 ≡ t → Kept back open-out days
      go true q =
          let n = neither _ _ (rw q at e) in
          let m = neither _ _ n.0 in
          let l = neither _ _ m.0 in
          let z = eqb-true open-out 0 q in
          record { back_fits = ltb-false _ _ l.0; open-fits = omega arith; days-fit = ltb-false _ _ m.1; after = λ h. absurd (omega arith) }
      go false q =
          let n = neither _ _ (rw q at e) in
          let m = neither _ _ n.0 in
          let l = neither _ _ m.0 in
          let z = eqb-false open-out 0 q in
          let a : open-out - 1 ≤ max_day = ltb-false _ _ l.1 in
          let b : back ≤ open-out - 1 = ltb-false _ _ n.1 in
          record { back_fits = ltb-false _ _ l.0; open-fits = omega arith; days-fit = ltb-false _ _ m.1; after = λ h. omega arith }

  pub kept-holds : Kept back open-out days → broken_at back open-out days ≡ false
  unfolding broken_at
  kept-holds k = go (eqb open-out 0) refl
    where
      go : (t : Bool) → eqb open-out 0 ≡ t → broken_at back open-out days ≡ false
      go true q = rw (q, le-ltb max_day back k.back_fits, le-ltb back days k.days-fit)
      go false q =
          let z = eqb-false open-out 0 q in
          let a = k.after (omega arith) in
          rw (q, le-ltb max_day back k.back_fits, le-ltb max_day (open-out - 1) (omega arith), le-ltb back days k.days-fit, le-ltb (open-out - 1) back (omega arith))
