-- Laws of lists that have the same first places.
use Prim.Native.Nat.{ℕ, zero, suc, ◌≤◌, ◌<◌}
use mathlib.Core.Path.{◌≡◌, refl, sym, ap, ◌∙◌}
use mathlib.Core.List.{List, ◌++◌}
use native.Mathlib.Omega.{arith}
use lib.ListN.{length, take, get_or, length-take}
use lib.Seq.{get_or-take, take-take, take_all, take-append-le}
use Rattle.agreement.specs.Core.{Same}

module _ {E : Type 0} where
  pub same_refl : {k : ℕ} {xs : List E} → Same k xs xs
  same_refl = record { eq = refl }

  pub same-sym : {k : ℕ} {xs ys : List E} → Same k xs ys → Same k ys xs
  same-sym p = record { eq = sym p.eq }

  pub same-trans : {k : ℕ} {xs ys zs : List E} → Same k xs ys → Same k ys zs → Same k xs zs
  same-trans p q = record { eq = p.eq ∙ q.eq }

  pub same_none : {xs ys : List E} → Same 0 xs ys
  same_none = record { eq = refl }

  -- to be shown only where there is a place
  pub same_some : {xs ys : List E} (k : ℕ) → (0 < k → Same k xs ys) → Same k xs ys
  same_some zero p = same_none
  same_some (suc k) p = p (omega arith)

  pub same-down : {k : ℕ} {xs ys : List E} (j : ℕ) → j ≤ k → Same k xs ys → Same j xs ys
  same-down {k} {xs} {ys} j h e = record { eq = sym (take-take j k xs h) ∙ ap (take j) e.eq ∙ take-take j k ys h }

  -- at each of those places
  pub same_at : {k : ℕ} {xs ys : List E} (i : ℕ) (d : E) → Same k xs ys → i < k → get_or xs i d ≡ get_or ys i d
  same_at {k} {xs} {ys} i d e h = sym (get_or-take k xs i d h) ∙ ap (λ (l : List E). get_or l i d) e.eq ∙ get_or-take k ys i d h

  -- a list that grows at its end keeps what it had
  pub same-append : (xs ys : List E) (k : ℕ) → k ≤ length xs → Same k xs (xs ++ ys)
  same-append xs ys k h = record { eq = sym (take-append-le k xs ys h) }

  pub same-take : (xs : List E) (k : ℕ) → Same k (take k xs) xs
  same-take xs k = record { eq = take-take k k xs (omega arith) }

  -- where one of the two has k places, so has the other
  pub same_length : {k : ℕ} {xs ys : List E} → Same k xs ys → k ≤ length xs → k ≤ length ys
  same_length {k} {xs} {ys} e h = omega (arith, simp length-take at (ap length e.eq))

  -- a whole list is the first places of the other
  pub same_whole : {xs ys : List E} → Same (length xs) xs ys → xs ≡ take (length xs) ys
  same_whole {xs} {ys} e = sym (take_all (length xs) xs (omega arith)) ∙ e.eq
