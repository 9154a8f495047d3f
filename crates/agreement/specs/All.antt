-- Each element of a list is as P says; a list with some of its elements left out.
use Rattle.std.specs.Prelude.{List, [], ◌∷◌}

pub data All {X : Type 0} (P : X → Type 0) : List X → Type 0 where
  nil : All P []
  cons : {x : X} {l : List X} → P x → All P l → All P (x ∷ l)

-- the first list is the second with some elements left out
pub data Sub {X : Type 0} : List X → List X → Type 0 where
  end : Sub [] []
  keep : {x : X} {l r : List X} → Sub l r → Sub (x ∷ l) (x ∷ r)
  leave : {x : X} {l r : List X} → Sub l r → Sub l (x ∷ r)
