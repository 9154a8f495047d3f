-- Laws of `mix`: its first places are those of the one list, and changing one of them changes that list.
use Prim.Native.Nat.{ℕ, zero, suc, ◌<◌}
use mathlib.Core.Path.{◌≡◌, refl, ap}
use mathlib.Core.List.{List, [], ◌∷◌}
use native.Mathlib.Omega.{arith}
use lib.ListN.{get_or, set, take, drop}
use Rattle.base.specs.Lists.{on_first}
use Rattle.unread_laws.specs.InUse.{mix}

module _ {A : Type 0} where
  pub mix-get : (n : ℕ) (l z : List A) (i : ℕ) (d : A) → i < n → get_or (mix n l z) i d ≡ get_or l i d
  unfolding mix
  mix-get zero l z i d h = absurd (omega arith)
  mix-get (suc n) [] z i d h = refl
  mix-get (suc n) (x ∷ l) z zero d h = refl
  mix-get (suc n) (x ∷ l) z (suc i) d h = mix-get n l z i d (omega arith)

  pub mix-set : (n : ℕ) (l z : List A) (i : ℕ) (v : A) → i < n → set (mix n l z) i v ≡ mix n (set l i v) z
  unfolding mix
  mix-set zero l z i v h = absurd (omega arith)
  mix-set (suc n) [] z i v h = refl
  mix-set (suc n) (x ∷ l) z zero v h = refl
  mix-set (suc n) (x ∷ l) z (suc i) v h = ap (λ (r : List A). x ∷ r) (mix-set n l z i v (omega arith))

  pub mix-take : (n : ℕ) (l z : List A) → take n (mix n l z) ≡ take n l
  unfolding mix
  mix-take zero l z = refl
  mix-take (suc n) [] z = refl
  mix-take (suc n) (x ∷ l) z = ap (λ (r : List A). x ∷ r) (mix-take n l z)

  pub mix_first : (n : ℕ) (f : A → A) (l z : List A) → on_first n f (mix n l z) ≡ mix n (on_first n f l) z
  unfolding mix on_first
  mix_first zero f l z = refl
  mix_first (suc n) f [] z = refl
  mix_first (suc n) f (x ∷ l) z = ap (λ (r : List A). f x ∷ r) (mix_first n f l z)

  -- lists with the same first places: the second is the first with its own places past them
  pub mix-same : (n : ℕ) (l k : List A) → take n l ≡ take n k → k ≡ mix n l (drop n k)
  unfolding mix
  mix-same zero l k e = refl
  mix-same (suc n) [] [] e = refl
  mix-same (suc n) [] (y ∷ k) e = absurd (let z : ◌≡◌ {A = ℕ} 0 1 = cc in omega arith)
  mix-same (suc n) (x ∷ l) [] e = absurd (let z : ◌≡◌ {A = ℕ} 0 1 = cc in omega arith)
  mix-same (suc n) (x ∷ l) (y ∷ k) e =
      let a : x ≡ y = cc in
      let b : take n l ≡ take n k = cc in
      rw a (ap (λ (r : List A). y ∷ r) (mix-same n l k b))
