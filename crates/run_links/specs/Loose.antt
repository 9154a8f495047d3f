-- Runs with moves of links that they may not make, beside the moves: a message is overtaken, copied or altered.
use Rattle.std.specs.Prelude.{ℕ, List, [], ◌∷◌, ◌++◌}
use Rattle.outgoing.specs.Queue.{Msg}
use Rattle.runs.specs.Runs.{Setup, State, Move, without, moved}
use Rattle.run_cases.specs.Loose.{swapped}

pub data Loose : Type 0 where
  keeps : Move → Loose
  overtake : ℕ → ℕ → Loose
  copy_next : ℕ → ℕ → Loose
  copy_last : ℕ → ℕ → Loose
  alter : ℕ → ℕ → List ℕ → Loose

-- a second copy of the first message, right behind it or at the end of the link
abbrev pub copied_next : List Msg → List Msg
copied_next [] = []
copied_next (m ∷ q) = m ∷ m ∷ q

abbrev pub copied_last : List Msg → List Msg
copied_last [] = []
copied_last (m ∷ q) = (m ∷ q) ++ (m ∷ [])

-- the first message with other entries
abbrev pub altered : List ℕ → List Msg → List Msg
altered entries [] = []
altered entries (m ∷ q) = record { to = m.to; msg = m.msg; entries = entries } ∷ q

unfoldable pub moved_loose : Setup → Loose → State → State
moved_loose z (keeps m) σ = moved z m σ
moved_loose z (overtake i j) σ = without i j (swapped (σ.link i j)) σ
moved_loose z (copy_next i j) σ = without i j (copied_next (σ.link i j)) σ
moved_loose z (copy_last i j) σ = without i j (copied_last (σ.link i j)) σ
moved_loose z (alter i j entries) σ = without i j (altered entries (σ.link i j)) σ

unfoldable pub after_loose : Setup → List Loose → State → State
after_loose z [] σ = σ
after_loose z (m ∷ ms) σ = after_loose z ms (moved_loose z m σ)
