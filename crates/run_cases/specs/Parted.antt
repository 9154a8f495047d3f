-- What the runs of `run_links`, `run_restarts` and `run_quorums` share. Depot i has the pid i + 1.
use Rattle.std.specs.Prelude.{ℕ, ◌+◌, List, [], ◌∷◌, ◌++◌}
use Rattle.runs.specs.Runs.{Move, deliver, drain, propose, leader}
use Rattle.run_cases.specs.Seen.{Seen, having}
use Rattle.run_cases.specs.Moves.{ballot, out, other}

-- depot i is elected in a round by the promise of depot j, with an entry to propose; then depot j accepts what depot i has, and depot i decides it
abbrev pub elected_by : ℕ → ℕ → ℕ → ℕ → List Move
elected_by i j n entry = leader i (ballot n (i + 1)) ∷ propose i (entry ∷ []) ∷ drain i ∷ deliver i j ∷ drain j ∷ deliver j i ∷ []

abbrev pub accepted_by : ℕ → ℕ → List Move
accepted_by i j = drain i ∷ deliver i j ∷ drain j ∷ deliver j i ∷ []

abbrev pub decides_with : ℕ → ℕ → ℕ → ℕ → List Move
decides_with i j n entry = elected_by i j n entry ++ accepted_by i j

-- depots 0 and 2 have decided different entries at the first place
abbrev pub parted : List Seen
parted = having 1 (out ∷ []) ∷ having 0 [] ∷ having 1 (other ∷ []) ∷ []
