-- The moves of the runs. Depot i has the pid i + 1.
use Rattle.std.specs.Prelude.{List, [], ◌∷◌, ◌++◌}
use Rattle.runs.specs.Runs.{Move, deliver, drain}
use Rattle.run_cases.specs.Moves.{out, other}
use Rattle.run_cases.specs.Parted.{elected_by, accepted_by, decides_with}

-- Quorums that miss each other: depots 0 and 1 decide one entry, depots 2 and 3 another.
abbrev pub halves_moves : List Move
halves_moves = decides_with 0 1 1 out ++ decides_with 2 3 2 other

-- Depots of two configurations: depot 2 is elected by depots 1 and 3, and decides its entry with depot 3. Depot 0 is elected by depot 1, which has not accepted that;
-- depot 1 accepts its entry, and then depot 3, which promises once depot 0 is elected; depot 0 decides it.
abbrev pub asked : List Move
asked = deliver 2 3 ∷ drain 3 ∷ deliver 3 2 ∷ []

abbrev pub unlike_moves : List Move
unlike_moves = elected_by 2 1 1 other ++ asked ++ accepted_by 2 3 ++ decides_with 0 1 2 out ++ (deliver 0 3 ∷ drain 3 ∷ deliver 3 0 ∷ []) ++ accepted_by 0 3
