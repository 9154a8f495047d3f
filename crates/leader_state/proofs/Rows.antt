-- What the library's methods over a row say, in the words of specs/: a count, the largest, a row made by a call at each place, the first places filled.
use Prim.Native.Nat.{ℕ, zero, suc, ◌+◌, ◌<◌, max}
use mathlib.Core.Path.{◌≡◌, refl, ap, sym, subst, ◌∙◌}
use mathlib.Core.Bool.{Bool, true, false, cond}
use mathlib.Core.List.{List, [], ◌∷◌, ◌++◌}
use native.Mathlib.Omega.{arith}
use Rattle.std.proofs.Common.{add-zero, zero-add}
use lib.ListN.{length, get_or, take, drop, replicate}
use lib.Seq.{ext_get_or}
use denote.Param.Members.{Mut, Called}
use Rattle.std.specs.List.{count_by, fold}
use Rattle.std.proofs.lemmas.List.Sums.{sum_by-cons}
use Rattle.std.specs.Array.{IsFromFnResult, IsFromFnResultFrom}
use Rattle.base.specs.Count.{one, count, most}
use Rattle.base.specs.Lists.{on_first, tabulate}
use Rattle.base.proofs.Lists.{length-tabulate, get_d_tabulate}

one-cond : (b : Bool) → cond b 1 0 ≡ one b
one-cond true = refl
one-cond false = refl

module _ {A : Type 0} where
  pub count_by-count : (p : A → Bool) (xs : List A) → count_by p xs ≡ count p xs
  unfolding count
  count_by-count p [] = refl
  count_by-count p (x ∷ xs) = sum_by-cons (λ x. cond (p x) 1 0) x xs ∙ omega (arith, one-cond (p x), count_by-count p xs)

  largest-from : (f : A → ℕ) (a : ℕ) (xs : List A) → fold (λ a x. max a (f x)) a xs ≡ max a (most f xs)
  unfolding most
  largest-from f a [] = omega arith
  largest-from f a (x ∷ xs) = largest-from f (max a (f x)) xs ∙ omega arith

  pub fold-most : (f : A → ℕ) (xs : List A) → fold (λ a x. max a (f x)) 0 xs ≡ most f xs
  fold-most f xs = largest-from f 0 xs ∙ omega arith

  -- the first places filled, and changed, by a write to the part that they are
  pub filled-first : (n : ℕ) (v : A) (l : List A) → replicate (length (take n l)) v ++ drop n l ≡ on_first n (λ d. v) l
  unfolding on_first
  filled-first zero v l = refl
  filled-first (suc n) v [] = refl
  filled-first (suc n) v (x ∷ l) = ap (λ r. v ∷ r) (filled-first n v l)

  pub walked-first : (n : ℕ) (f : A → A) (l : List A) → on_first (length (take n l)) f (take n l) ++ drop n l ≡ on_first n f l
  unfolding on_first
  walked-first zero f l = refl
  walked-first (suc n) f [] = refl
  walked-first (suc n) f (x ∷ l) = ap (λ r. f x ∷ r) (walked-first n f l)

-- a row of calls that change nothing that the closure holds, each of which gives what h says of its place
module _ {F B : Type 0} (g : Mut F (ℕ × Unit {0}) B) (f : F) (h : ℕ → B) (says : (i : ℕ) (y : B) (q : F) → Called g f (i, tt) y q → (y ≡ h i) × (q ≡ f)) where
  at-each : (d : B) (ys : List B) (n i : ℕ) (p : F) → p ≡ f → IsFromFnResultFrom g p ys i n → (k : ℕ) → k < n → get_or ys (i + k) d ≡ h (i + k)
  at-each d ys zero i p e m k l = absurd (omega arith)
  at-each d ys (suc n) i p e (q, y, at, call, rest) zero l =
      let s = says i y q (subst (λ (x : F). Called g x (i, tt) y q) e call) in
      rw add-zero (at.1 d ∙ s.0)
  at-each d ys (suc n) i p e (q, y, at, call, rest) (suc k) l =
      let s = says i y q (subst (λ (x : F). Called g x (i, tt) y q) e call) in
      let r : get_or ys ((i + 1) + k) d ≡ h ((i + 1) + k) = at-each d ys n (i + 1) q s.1 rest k (omega arith) in
      let same : (i + 1) + k ≡ i + suc k = omega arith in
      rw same at r

  pub made-tabulate : (d : B) (ys : List B) (n : ℕ) → IsFromFnResult g f ys n → ys ≡ tabulate n h
  made-tabulate d ys n m =
      ext_get_or d ys (tabulate n h) (m.long ∙ sym (length-tabulate n h)) (λ k l. let below : k < n = omega (arith, m.long) in each k below ∙ sym (get_d_tabulate n h k d below))
    where
      each : (k : ℕ) → k < n → get_or ys k d ≡ h k
      each k l = let r = at-each d ys n 0 f refl m.each k l in rw zero-add at r
