-- The moves of the runs. Depot i has the pid i + 1.
use Rattle.std.specs.Prelude.{List, [], ◌∷◌, ◌++◌, map}
use Rattle.runs.specs.Runs.{Move, deliver, drain, propose, leader, reconnect, resend}
use Rattle.run_cases.specs.Moves.{ballot, out, other, twice, reconnects}
use Rattle.run_cases.specs.Parted.{elected_by, decides_with}
use Rattle.run_links.specs.Loose.{Loose, keeps, overtake, copy_next, copy_last, alter}

-- Overtaking: one AcceptSync by four messages. Depot 1's Promise is resent, so it draws AcceptSync of session 1 and of session 2; then an entry. Depot 1 takes AcceptSync of
-- session 2 and the entry, and reconnects; depot 0 decides the entry, and prepares depot 1 again. Depot 1, prepared, takes AcceptSync of session 1 at last, and its log is empty.
-- Depot 2 is elected by it, and decides another entry.
-- the next message of the link from depot 0 to depot 1 is delivered before the first
abbrev pub ahead : List Loose
ahead = overtake 0 1 ∷ keeps (deliver 0 1) ∷ []

abbrev pub overtaken_moves : List Loose
overtaken_moves =
    map keeps twice ++ ahead ++ ahead ++ map keeps reconnects ++ ahead ++ ahead ++ keeps (deliver 0 1) ∷ map keeps (decides_with 2 1 2 other)

-- A copy at the end of the link: of an AcceptSync of no entries. Depot 1 takes two Prepares and reconnects between them, so behind AcceptSync and the entry a third Prepare comes,
-- and the copy behind that. Depot 1 takes AcceptSync and the entry, reconnects, takes the Prepare and the copy, and its log is empty. Depot 0 decides the entry by the Accepted that
-- depot 1 sent before. Depot 2 is elected by depot 1, and decides another entry.
abbrev pub prepares : List Move
prepares =
    leader 0 (ballot 1 1) ∷ resend 0 ∷ drain 0 ∷ deliver 0 1 ∷ reconnect 1 1 ∷ deliver 0 1 ∷ drain 1
    ∷ deliver 1 0 ∷ propose 0 (out ∷ []) ∷ deliver 1 0 ∷ drain 0 ∷ []

abbrev pub empties : List Move
empties = deliver 0 1 ∷ deliver 0 1 ∷ reconnect 1 1 ∷ deliver 0 1 ∷ deliver 0 1 ∷ drain 1 ∷ deliver 1 0 ∷ deliver 1 0 ∷ []

abbrev pub copied_moves : List Loose
copied_moves = map keeps prepares ++ copy_last 0 1 ∷ map keeps (empties ++ decides_with 2 1 2 other)

-- A copy right behind its message: of an entry that depot 1 forwards to depot 0. Depot 0 takes it twice, and decides both.
abbrev pub forwards : List Move
forwards = leader 0 (ballot 1 1) ∷ drain 0 ∷ deliver 0 1 ∷ propose 1 (out ∷ []) ∷ drain 1 ∷ deliver 1 0 ∷ []

abbrev pub repeated_moves : List Loose
repeated_moves = map keeps forwards ++ copy_next 1 0 ∷ map keeps (deliver 1 0 ∷ deliver 1 0 ∷ drain 0 ∷ deliver 0 1 ∷ deliver 0 1 ∷ drain 1 ∷ deliver 1 0 ∷ [])

-- An AcceptSync whose entry is altered on its way: depot 1 accepts the other entry, depot 0 decides its own, and tells depot 1 that it is decided.
abbrev pub altered_moves : List Loose
altered_moves =
    map keeps (elected_by 0 1 1 out ++ drain 0 ∷ []) ++ alter 0 1 (other ∷ []) ∷ map keeps (deliver 0 1 ∷ drain 1 ∷ deliver 1 0 ∷ drain 0 ∷ deliver 0 1 ∷ [])
