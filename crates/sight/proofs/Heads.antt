-- A place within a list holds the same whatever stands for the places past its end; so do the first heads of a row, as a slice.
use Prim.Native.Nat.{ℕ, zero, suc, ◌<◌}
use mathlib.Core.Path.{◌≡◌, refl, sym, subst, ◌∙◌}
use mathlib.Core.List.{List, [], ◌∷◌}
use native.Mathlib.Omega.{arith}
use lib.ListN.{length, get_or, take, length-take}
use lib.Seq.{get_or-take}
use Rattle.messages.specs.Messages.{no_head}
use Rattle.messages.specs.declared.Head.{Head}
use Rattle.messages.specs.declared.Row.{Row}
use Rattle.sight.specs.Sight.{head_at}

module _ {A : Type 0} where
  pub within : (e : A) (l : List A) (i : ℕ) → i < length l → (d : A) → get_or l i d ≡ get_or l i e
  within e [] i h d = absurd (omega arith)
  within e (x ∷ l) zero h d = refl
  within e (x ∷ l) (suc i) h d = within e l i (omega arith) d

module _ (row : Row) (len i : ℕ) (h : i < length (take len row.heads)) where
  pub in_row : i < len
  in_row = omega (arith, length-take len row.heads)

  at_row : (d : Head) → get_or (take len row.heads) i d ≡ head_at row i
  at_row d = get_or-take len row.heads i d in_row ∙ within no_head row.heads i (omega (arith, length-take len row.heads)) d

  -- what is so of a head of the slice is so of the row's, and the other way round
  pub shown : (P : Head → Type 0) (d : Head) → P (get_or (take len row.heads) i d) → P (head_at row i)
  shown P d p = subst P (at_row d) p

  pub held : (P : Head → Type 0) (d : Head) → P (head_at row i) → P (get_or (take len row.heads) i d)
  held P d p = subst P (sym (at_row d)) p
