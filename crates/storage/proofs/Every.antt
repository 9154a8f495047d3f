-- A fact of every place of a list, kept by parts, by joining and by writing.
use Prim.Native.Nat.{ℕ, ◌+◌, ◌-◌, ◌<◌}
use mathlib.Core.Path.{◌≡◌}
use mathlib.Core.Bool.{Bool, true, false}
use mathlib.Core.List.{List, [], ◌++◌}
use native.Mathlib.Omega.{arith}
use lib.Dec.{ltb}
use lib.ListN.{length, get_or, take, drop, length-append, length-take, length-drop, get_or-append}
use lib.Seq.{get_or-take, get_or-drop, get_or-append-add}
use borrow.Author.Tests.{ltb-true, ltb-false}
use Rattle.base.specs.Lists.{over}
use Rattle.storage.specs.Storage.{put_at}

abbrev pub Every : (ℕ → Type 0) → List ℕ → Type 0
Every P l = (i : ℕ) → i < length l → P (get_or l i 0)

module _ (P : ℕ → Type 0) where
  pub every-none : Every P []
  every-none i h = absurd (omega arith)

  pub every_take : (n : ℕ) (l : List ℕ) → Every P l → Every P (take n l)
  every_take n l f i h =
      let k : (i < n) × (i < length l) = omega (arith, length-take n l) in
      rw (get_or-take n l i 0 k.0) (f i k.1)

  pub every_drop : (n : ℕ) (l : List ℕ) → Every P l → Every P (drop n l)
  every_drop n l f i h = rw (get_or-drop n l i 0) (f (n + i) (omega (arith, length-drop n l)))

  pub every_append : (a b : List ℕ) → Every P a → Every P b → Every P (a ++ b)
  every_append a b f g i h = go (ltb i (length a)) refl-test
    where
      refl-test : ltb i (length a) ≡ ltb i (length a)
      refl-test = cc

      go : (t : Bool) → ltb i (length a) ≡ t → P (get_or (a ++ b) i 0)
      go true e = rw (get_or-append a b 0 i (ltb-true i (length a) e)) (f i (ltb-true i (length a) e))
      go false e =
          let l = ltb-false i (length a) e in
          let k : i ≡ length a + (i - length a) = omega arith in
          rw (k, get_or-append-add a b (i - length a) 0) (g (i - length a) (omega (arith, length-append a b)))

  pub every-over : (xs l : List ℕ) → Every P xs → Every P l → Every P (over xs l)
  unfolding over
  every-over xs l f g = every_append xs (drop (length xs) l) f (every_drop (length xs) l g)

  pub every-put : (i : ℕ) (xs l : List ℕ) → Every P xs → Every P l → Every P (put_at i xs l)
  unfolding put_at
  every-put i xs l f g = every_append (take i l) (over xs (drop i l)) (every_take i l g) (every-over xs (drop i l) f (every_drop i l g))
