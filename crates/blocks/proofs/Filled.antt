-- A list by what it has at each place, and an array made place by place.
use Prim.Native.Nat.{ℕ, zero, suc, ◌+◌, ◌<◌}
use mathlib.Core.Path.{◌≡◌, sym, subst, ◌∙◌}
use mathlib.Core.List.{List}
use native.Mathlib.Omega.{arith}
use denote.Param.Members.{Mut, Called}
use lib.ListN.{length, get_or}
use lib.Seq.{ext_get_or}
use Rattle.std.specs.Array.{IsFromFnResult, IsFromFnResultFrom}
use Rattle.base.specs.Lists.{tabulate}
use Rattle.base.proofs.Lists.{length-tabulate, get_d_tabulate}

module _ {A : Type 0} where
  -- a list is what it has at each place
  pub tabulate-is : (l : List A) (n : ℕ) (f : ℕ → A) (d : A) → length l ≡ n → ((k : ℕ) → k < n → f k ≡ get_or l k d) → tabulate n f ≡ l
  tabulate-is l n f d e h = ext_get_or d (tabulate n f) l (length-tabulate n f ∙ sym e) (λ k p. at k (omega (arith, length-tabulate n f)))
    where
      at : (k : ℕ) → k < n → get_or (tabulate n f) k d ≡ get_or l k d
      at k p = get_d_tabulate n f k d p ∙ h k p

  -- an array made by one call for each place, where a call leaves what it is called on as it was
  module _ {F : Type 0} (g : Mut F (ℕ × Unit {0}) A) (f : F) (h : ℕ → A) (call : (i : ℕ) (x : A) (q : F) → Called g f (i, tt) x q → (q ≡ f) × (x ≡ h i)) where
    made-at : (l : List A) (i n : ℕ) (d : A) → IsFromFnResultFrom g f l i n → (k : ℕ) → k < n → h (i + k) ≡ get_or l (i + k) d
    made-at l i zero d z k p = absurd (omega arith)
    made-at l i (suc n) d (q, x, e, c, rest) zero p =
        let here : i + 0 ≡ i = omega arith in
        rw here (sym (e.1 d ∙ (call i x q c).1))
    made-at l i (suc n) d (q, x, e, c, rest) (suc k) p =
        let here : i + suc k ≡ i + 1 + k = omega arith in
        rw here (made-at l (i + 1) n d (subst (λ r. IsFromFnResultFrom g r l (i + 1) n) (call i x q c).0 rest) k (omega arith))

    pub made : (l : List A) (n : ℕ) (d : A) → IsFromFnResult g f l n → l ≡ tabulate n h
    made l n d z =
        sym (tabulate-is l n h d z.long (λ k p. let e : 0 + k ≡ k = omega arith in subst (λ j. h j ≡ get_or l j d) e (made-at l 0 n d z.each k p)))
