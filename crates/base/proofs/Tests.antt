-- Tests: what one says that holds or fails, and tests on numbers moved from one shape to another.
use Prim.Native.Nat.{ℕ, ◌+◌, ◌-◌, ◌≤◌, ◌<◌}
use mathlib.Core.Path.{◌≡◌, refl, sym}
use mathlib.Core.Bool.{Bool, true, false, cond, ◌&&◌}
use native.Mathlib.Omega.{arith}
use lib.Dec.{ltb}
use borrow.Author.Tests.{ltb-true, ltb-false, lt-ltb, le-ltb}

-- a test does not both hold and fail
pub not-both : {A : Type 0} {b : Bool} → b ≡ true → b ≡ false → A
not-both p q = absurd (let w : ◌≡◌ {A = ℕ} 0 1 = cc in omega arith)

-- a test that cannot hold fails
pub is_false : (b : Bool) → (b ≡ true → ⊥) → b ≡ false
is_false true h = absurd (h refl)
is_false false h = refl

-- both sides of an `and` that is true
pub both : (a b : Bool) → (a && b) ≡ true → (a ≡ true) × (b ≡ true)
both true b e = (refl, e)
both false b e = not-both e refl

-- two tests that hold together are one
pub same_test : (a b c d : ℕ) → (a < b → c < d) → (b ≤ a → d ≤ c) → ltb a b ≡ ltb c d
same_test a b c d f g = go (ltb a b) refl
  where
    go : (t : Bool) → ltb a b ≡ t → t ≡ ltb c d
    go true e = sym (lt-ltb c d (f (ltb-true a b e)))
    go false e = sym (le-ltb c d (g (ltb-false a b e)))

-- a difference tested is a sum tested, which cannot wrap
pub below_rest : (d r w : ℕ) → r ≤ d → ltb (d - r) w ≡ ltb d (r + w)
below_rest d r w h = same_test (d - r) w d (r + w) (λ l. omega arith) (λ l. omega arith)

-- the first test of a chain of refusals that gives 0 did not hold, and the rest gives 0 too
pub passed : (t : Bool) (n rest : ℕ) → 0 < n → cond t n rest ≡ 0 → (t ≡ false) × (rest ≡ 0)
passed true n rest h e = absurd (omega arith)
passed false n rest h e = (refl, e)
