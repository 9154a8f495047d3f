-- One queue for many receivers: what of it is for one of them, and a remembered place.
use Rattle.std.specs.Prelude.{ℕ, ◌<◌, ◌≡◌, cond, List, [], ◌∷◌, eqb, length, get_or}

-- of the elements of a queue, each with its receiver, those for u, in order
unfoldable pub sel : {M : Type 0} → (M → ℕ) → ℕ → List M → List M
sel to u [] = []
sel to u (m ∷ q) = cond (eqb (to m) u) (m ∷ sel to u q) (sel to u q)

-- m stands at place j of the queue, for u
pub record There {M : Type 0} (to : M → ℕ) (d : M) (u j : ℕ) (m : M) (q : List M) : Type 0 where
  pub below : j < length q
  pub is : get_or q j d ≡ m
  pub for : to m ≡ u
