-- Laws of one queue for many receivers: an element is put at its end, or one is changed in its place.
use Prim.Native.Nat.{ℕ, suc}
use mathlib.Core.Path.{◌≡◌, refl, sym, ap, ◌∙◌}
use mathlib.Core.Logic.{◌≢◌}
use mathlib.Core.Bool.{Bool, true, false, cond}
use mathlib.Core.List.{List, [], ◌∷◌, ◌++◌, append-nil}
use native.Mathlib.Omega.{arith}
use lib.Dec.{eqb}
use lib.ListN.{length, take, drop, get_or, set, length-append, length-set, get_or-append}
use lib.Seq.{split_at, set_split, get_or-append_seam, get_or-set_same, get_or-set_other}
use borrow.Author.Tests.{eq-eqb, ne_eqb}
use Rattle.agreement.specs.Queue.{sel, There}

module _ {M : Type 0} (to : M → ℕ) where
  pub sel-append : (u : ℕ) (p q : List M) → sel to u (p ++ q) ≡ sel to u p ++ sel to u q
  unfolding sel
  sel-append u [] q = refl
  sel-append u (m ∷ p) q = go (eqb (to m) u) (sel-append u p q)
    where
      go : (t : Bool) → sel to u (p ++ q) ≡ sel to u p ++ sel to u q → cond t (m ∷ sel to u (p ++ q)) (sel to u (p ++ q)) ≡ cond t (m ∷ sel to u p) (sel to u p) ++ sel to u q
      go true h = ap (λ l. m ∷ l) h
      go false h = h

  pub sel-hit : {u : ℕ} (m : M) (q : List M) → to m ≡ u → sel to u (m ∷ q) ≡ m ∷ sel to u q
  unfolding sel
  sel-hit {u} m q e = rw (eq-eqb (to m) u e)

  pub sel-miss : {u : ℕ} (m : M) (q : List M) → to m ≢ u → sel to u (m ∷ q) ≡ sel to u q
  unfolding sel
  sel-miss {u} m q e = rw (ne_eqb (to m) u e)

  -- the queue with m at its end
  pub sel-push : {u : ℕ} (q : List M) (m : M) → to m ≡ u → sel to u (q ++ (m ∷ [])) ≡ sel to u q ++ (m ∷ [])
  unfolding sel
  sel-push {u} q m e = sel-append u q (m ∷ []) ∙ ap (λ l. sel to u q ++ l) (sel-hit m [] e)

  pub sel-past : {u : ℕ} (q : List M) (m : M) → to m ≢ u → sel to u (q ++ (m ∷ [])) ≡ sel to u q
  unfolding sel
  sel-past {u} q m e = sel-append u q (m ∷ []) ∙ ap (λ l. sel to u q ++ l) (sel-miss m [] e) ∙ append-nil (sel to u q)

  -- ---- a remembered place

  module _ {d : M} {u j : ℕ} {m : M} {q : List M} (t : There to d u j m q) where
    -- the queue around it
    pub sel-cut : sel to u q ≡ sel to u (take j q) ++ (m ∷ sel to u (drop (suc j) q))
    sel-cut = ap (sel to u) (split_at q j d t.below ∙ ap (λ x. take j q ++ x ∷ drop (suc j) q) t.is) ∙ sel-append u (take j q) _ ∙ ap (λ k. sel to u (take j q) ++ k) (sel-hit m _ t.for)

    -- and with another in its place: for another receiver nothing has changed
    pub sel-set : (x : M) → to x ≡ u → sel to u (set q j x) ≡ sel to u (take j q) ++ (x ∷ sel to u (drop (suc j) q))
    sel-set x e = ap (sel to u) (set_split q j x t.below) ∙ sel-append u (take j q) _ ∙ ap (λ k. sel to u (take j q) ++ k) (sel-hit x _ e)

    pub sel-else : {w : ℕ} (x : M) → w ≢ u → to x ≡ u → sel to w (set q j x) ≡ sel to w q
    sel-else {w} x ne e =
        ap (sel to w) (set_split q j x t.below) ∙ sel-append w (take j q) _
        ∙ ap (λ k. sel to w (take j q) ++ k) (sel-miss x _ (λ s. ne (sym s ∙ e)) ∙ sym (sel-miss m _ (λ s. ne (sym s ∙ t.for))))
        ∙ sym (sel-append w (take j q) _) ∙ ap (sel to w) (sym (split_at q j d t.below ∙ ap (λ x. take j q ++ x ∷ drop (suc j) q) t.is))

    -- something is put at the end
    pub there-push : (r : List M) → There to d u j m (q ++ r)
    there-push r = record { below = omega (arith, t.below, length-append q r); is = get_or-append q r d j t.below ∙ t.is; for = t.for }

    -- it is changed in its place
    pub there-edit : (x : M) → to x ≡ u → There to d u j x (set q j x)
    there-edit x e = record { below = rw (length-set q j x) t.below; is = get_or-set_same q j x d t.below; for = e }

    -- one for another receiver is changed in its place
    pub there-else : {w i : ℕ} {y : M} (x : M) → u ≢ w → There to d w i y q → There to d u j m (set q i x)
    there-else {w} {i} x ne o =
        let apart : j ≢ i = λ s. ne (sym t.for ∙ ap to (sym t.is ∙ ap (λ k. get_or q k d) s ∙ o.is) ∙ o.for) in
        record { below = rw (length-set q i x) t.below; is = get_or-set_other q i j x d apart ∙ t.is; for = t.for }

  pub there-new : {d : M} {u : ℕ} (q : List M) (m : M) → to m ≡ u → There to d u (length q) m (q ++ (m ∷ []))
  there-new {d} q m e = record { below = omega (arith, length-append q (m ∷ [])); is = get_or-append_seam q m [] d; for = e }
