-- Lists: the first places changed, a list from a function, a part laid over another.
use Rattle.std.specs.Prelude.{ℕ, zero, suc, List, [], ◌∷◌, ◌++◌, drop, length}

module _ {A : Type 0} where
  -- f at each of the first n places
  unfoldable pub on_first : ℕ → (A → A) → List A → List A
  on_first zero f l = l
  on_first (suc n) f [] = []
  on_first (suc n) f (x ∷ l) = f x ∷ on_first n f l

  -- f 0, f 1, .. up to n of them
  unfoldable pub tabulate : ℕ → (ℕ → A) → List A
  tabulate zero f = []
  tabulate (suc n) f = tabulate n f ++ (f n ∷ [])

  -- xs laid over l from its start: what lies past xs is as found
  unfoldable pub over : List A → List A → List A
  over xs l = xs ++ drop (length xs) l
