-- Runs over links that do not keep their order: beside the moves, the first message of a link may be overtaken by the next.
use Rattle.std.specs.Prelude.{ℕ, List, [], ◌∷◌}
use Rattle.outgoing.specs.Queue.{Msg}
use Rattle.runs.specs.Runs.{Setup, State, Move, without, moved}

pub data Loose : Type 0 where
  keeps : Move → Loose
  overtake : ℕ → ℕ → Loose

abbrev pub swapped : List Msg → List Msg
swapped [] = []
swapped (m ∷ []) = m ∷ []
swapped (m ∷ n ∷ q) = n ∷ m ∷ q

unfoldable pub moved_loose : Setup → Loose → State → State
moved_loose z (keeps m) σ = moved z m σ
moved_loose z (overtake i j) σ = without i j (swapped (σ.link i j)) σ

unfoldable pub after_loose : Setup → List Loose → State → State
after_loose z [] σ = σ
after_loose z (m ∷ ms) σ = after_loose z ms (moved_loose z m σ)
