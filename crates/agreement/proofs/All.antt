-- Laws of what holds of each element of a list, and of lists with elements left out.
use Prim.Native.Nat.{ℕ, zero, suc}
use mathlib.Core.List.{List, [], ◌∷◌, ◌++◌, map}
use lib.ListN.{take}
use Rattle.agreement.specs.All.{All, nil, cons, Sub, end, keep, leave}

module _ {X : Type 0} {P : X → Type 0} where
  pub all_append : {l r : List X} → All P l → All P r → All P (l ++ r)
  all_append nil q = q
  all_append (cons p ps) q = cons p (all_append ps q)

  pub all_map : {Q : X → Type 0} {l : List X} → ((x : X) → P x → Q x) → All P l → All Q l
  all_map f nil = nil
  all_map f (cons {x} p ps) = cons (f x p) (all_map f ps)

  pub all_take : {l : List X} (k : ℕ) → All P l → All P (take k l)
  all_take zero p = nil
  all_take (suc k) nil = nil
  all_take (suc k) (cons {l = l} p ps) = cons p (all_take {l = l} k ps)

  pub all-sub : {l r : List X} → Sub l r → All P r → All P l
  all-sub end nil = nil
  all-sub (keep s) (cons p ps) = cons p (all-sub s ps)
  all-sub (leave s) (cons p ps) = all-sub s ps

module _ {X : Type 0} where
  pub sub_refl : (l : List X) → Sub l l
  sub_refl [] = end
  sub_refl (x ∷ l) = keep (sub_refl l)

  -- one is left out
  pub sub_at : (pre : List X) (x : X) (post : List X) → Sub (pre ++ post) (pre ++ (x ∷ post))
  sub_at [] x post = leave (sub_refl post)
  sub_at (y ∷ pre) x post = keep (sub_at pre x post)

  -- all from some place on are left out
  pub sub-front : (l r : List X) → Sub l (l ++ r)
  sub-front [] [] = end
  sub-front [] (x ∷ r) = leave (sub-front [] r)
  sub-front (x ∷ l) r = keep (sub-front l r)

  pub sub-append : {l r : List X} (m : List X) → Sub l r → Sub (l ++ m) (r ++ m)
  sub-append m end = sub_refl m
  sub-append m (keep s) = keep (sub-append m s)
  sub-append m (leave s) = leave (sub-append m s)

  pub sub-map : {Y : Type 0} {l r : List X} (f : X → Y) → Sub l r → Sub (map f l) (map f r)
  sub-map f end = end
  sub-map f (keep s) = keep (sub-map f s)
  sub-map f (leave s) = leave (sub-map f s)
