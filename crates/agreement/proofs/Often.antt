-- Laws of how often a number stands in a list.
use Prim.Native.Nat.{ℕ, zero, suc, ◌+◌, ◌≤◌}
use mathlib.Core.Path.{◌≡◌}
use mathlib.Core.List.{List, [], ◌∷◌, ◌++◌}
use native.Mathlib.Omega.{arith}
use lib.ListN.{take}
use Rattle.agreement.specs.Often.{often}

pub often-append : (e : ℕ) (l r : List ℕ) → often e (l ++ r) ≡ often e l + often e r
often-append e [] r = omega arith
often-append e (x ∷ l) r = omega (arith, often-append e l r)

-- the first places of a list have no more of it
pub often-take : (e k : ℕ) (l : List ℕ) → often e (take k l) ≤ often e l
often-take e zero l = omega arith
often-take e (suc k) [] = omega arith
often-take e (suc k) (x ∷ l) = omega (arith, often-take e k l)
