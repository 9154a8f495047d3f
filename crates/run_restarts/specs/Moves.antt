-- The moves of the runs. Depot i has the pid i + 1.
use Rattle.std.specs.Prelude.{List, [], ◌∷◌, ◌++◌, map}
use Rattle.runs.specs.Runs.{Move, deliver, drain, propose, leader, resend, restart}
use Rattle.run_cases.specs.Moves.{ballot, out, other}
use Rattle.run_cases.specs.Parted.{elected_by, accepted_by, decides_with}
use Rattle.run_restarts.specs.Forgetful.{Forgetful, keeps, forget, promise, round, log, decided}

-- A promise forgotten: depot 1 promises depot 2 the round 2, forgets it, promises depot 0 the round 1, and accepts its entry, which depot 0 decides. Depot 2 has depot 1's first promise,
-- of an empty log. A second Prepare of round 2 was on its way, so depot 1 promises round 2 again, and accepts depot 2's entry, which depot 2 decides.
abbrev pub promises : List Move
promises = leader 2 (ballot 2 3) ∷ resend 2 ∷ propose 2 (other ∷ []) ∷ drain 2 ∷ deliver 2 1 ∷ drain 1 ∷ deliver 1 2 ∷ []

abbrev pub again : List Move
again = drain 2 ∷ deliver 2 1 ∷ deliver 2 1 ∷ drain 1 ∷ deliver 1 2 ∷ deliver 1 2 ∷ []

abbrev pub promise_moves : List Forgetful
promise_moves = map keeps promises ++ forget 1 promise ∷ map keeps (decides_with 0 1 1 out ++ again)

-- An accepted round forgotten: depot 2 is elected in round 1 and has its entry to itself. Depot 0 is elected in round 2 and decides its entry with depot 1, which then forgets
-- in which round it accepted that. So in round 3 depot 2's own log counts for the newer one, and depot 2 decides it with depot 1.
abbrev pub elects : List Move
elects = leader 2 (ballot 3 3) ∷ drain 2 ∷ deliver 2 1 ∷ drain 1 ∷ deliver 1 2 ∷ []

abbrev pub round_moves : List Forgetful
round_moves = map keeps (elected_by 2 1 1 other ++ restart 2 ∷ decides_with 0 1 2 out) ++ forget 1 round ∷ map keeps (elects ++ accepted_by 2 1)

-- A log forgotten: depot 0 decides an entry with depot 1, which forgets it, and then decides another with depot 2.
abbrev pub log_moves : List Forgetful
log_moves = map keeps (decides_with 0 1 1 out) ++ forget 1 log ∷ map keeps (decides_with 2 1 2 other)

-- A decided index forgotten: of depot 0, once it has decided an entry.
abbrev pub decided_moves : List Forgetful
decided_moves = map keeps (decides_with 0 1 1 out) ++ forget 0 decided ∷ []
