-- A list that another begins with.
use Prim.Native.Nat.{ℕ, ◌≤◌}
use mathlib.Core.Path.{◌≡◌, refl, sym, ap, ◌∙◌}
use mathlib.Core.Bool.{Bool, true, false}
use mathlib.Core.List.{List, ◌++◌}
use native.Mathlib.Omega.{arith}
use lib.Dec.{leb}
use lib.ListN.{length, take, drop, take-append-drop, length-take, drop_of_length-le}
use lib.Seq.{take-take, take_all, take-length, take-append-le, drop-append-le, length-take-le, take-append_seam}
use borrow.Author.Tests.{leb-true, leb-false}
use Rattle.base.specs.Lists.{over}

module _ {A : Type 0} where
  abbrev pub Front : List A → List A → Type 0
  Front a b = take (length a) b ≡ a

  pub front_same : (a : List A) → Front a a
  front_same a = take-length a

  pub front-le : (a b : List A) → Front a b → length a ≤ length b
  front-le a b f = omega (arith, ap length f, length-take (length a) b)

  -- as many as it has
  pub front-use : (n : ℕ) (a b : List A) → Front a b → n ≤ length a → take n b ≡ take n a
  front-use n a b f h = sym (ap (take n) (sym f) ∙ take-take n (length a) b h)

  pub front_at : (n : ℕ) (a b : List A) → Front a b → length a ≡ n → take n b ≡ a
  front_at n a b f e = rw (← e) f

  pub front-trans : (a b c : List A) → Front a b → Front b c → Front a c
  front-trans a b c f g = front-use (length a) b c g (front-le a b f) ∙ f

  pub front-take : (n : ℕ) (l : List A) → Front (take n l) l
  front-take n l = go (leb n (length l)) refl
    where
      go : (t : Bool) → leb n (length l) ≡ t → Front (take n l) l
      go true e = rw (length-take-le n l (leb-true n (length l) e))
      go false e = rw (take_all n l (omega (arith, leb-false n (length l) e))) (take-length l)

  pub front-join : (a b c : List A) → Front a b → Front a (b ++ c)
  front-join a b c f = take-append-le (length a) b c (front-le a b f) ∙ f

  pub front-over : (a b c : List A) → Front a b → Front a (over b c)
  unfolding over
  front-over a b c f = front-join a b (drop (length b) c) f

  front_rest : (a b : List A) → Front a b → a ++ drop (length a) b ≡ b
  front_rest a b f = rw f at (take-append-drop (length a) b)

  pub front-drop : (n : ℕ) (a b : List A) → Front a b → Front (drop n a) (drop n b)
  front-drop n a b f = go (leb n (length a)) refl
    where
      go : (t : Bool) → leb n (length a) ≡ t → Front (drop n a) (drop n b)
      go true e =
          let r : drop n b ≡ drop n a ++ drop (length a) b = ap (drop n) (sym (front_rest a b f)) ∙ drop-append-le n a (drop (length a) b) (leb-true n (length a) e) in
          rw r (take-append_seam (drop n a) (drop (length a) b))
      go false e = rw (drop_of_length-le a {i = n} (omega (arith, leb-false n (length a) e)))

  pub front-both : (n : ℕ) (a b : List A) → Front a b → Front (take n a) (take n b)
  front-both n a b f = go (leb n (length a)) refl
    where
      go : (t : Bool) → leb n (length a) ≡ t → Front (take n a) (take n b)
      go true e = rw (front-use n a b f (leb-true n (length a) e)) (take-length (take n a))
      go false e =
          let h : length a ≤ n = omega (arith, leb-false n (length a) e) in
          rw (take_all n a h, take-take (length a) n b h) f
