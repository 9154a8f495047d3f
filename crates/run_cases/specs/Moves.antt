-- The moves of the three runs. Depot i has the pid i + 1.
use Rattle.std.specs.Prelude.{ℕ, List, [], ◌∷◌, ◌++◌, map}
use Rattle.ballot.specs.declared.Ballot.{Ballot}
use Rattle.runs.specs.Runs.{Move, deliver, lose, drain, propose, leader, reconnect, resend, restart}
use Rattle.run_cases.specs.Loose.{Loose, keeps, overtake}

abbrev pub ballot : ℕ → ℕ → Ballot
ballot round pid = record { n = round; priority = 0; pid = pid }

-- pump 7 goes out on day 10 and is back on day 14; a back of day 29, which counts for nothing after that one; pump 8 goes out on day 11
abbrev pub out : ℕ
out = 5127

abbrev pub back : ℕ
back = 7431

abbrev pub late_back : ℕ
late_back = 15111

abbrev pub other : ℕ
other = 5640

-- Three depots. Depot 0 is elected by depot 1's promise; its Prepare to depot 2 is lost, and so is the AcceptDecide to depot 1.
abbrev pub elected : List Move
elected =
    leader 0 (ballot 1 1) ∷ drain 0 ∷ deliver 0 1 ∷ lose 0 2 ∷ drain 1 ∷ deliver 1 0
    ∷ propose 0 (out ∷ []) ∷ drain 0 ∷ deliver 0 1 ∷ lose 0 1 ∷ []

-- Depot 1 restarts, its queue with it; both followers reconnect, are prepared again, promise, and get an AcceptSync.
abbrev pub rejoined : List Move
rejoined =
    restart 1 ∷ reconnect 1 1 ∷ drain 1 ∷ reconnect 2 1 ∷ drain 2 ∷ deliver 1 0 ∷ deliver 2 0
    ∷ drain 0 ∷ deliver 0 1 ∷ deliver 0 2 ∷ drain 1 ∷ drain 2 ∷ deliver 1 0 ∷ deliver 2 0 ∷ []

-- One more entry; both accept; depot 0 decides and tells them.
abbrev pub decides : List Move
decides =
    propose 0 (back ∷ []) ∷ drain 0 ∷ deliver 0 1 ∷ deliver 0 1 ∷ deliver 0 2 ∷ deliver 0 2
    ∷ drain 1 ∷ deliver 1 0 ∷ drain 2 ∷ deliver 2 0 ∷ drain 0 ∷ deliver 0 1 ∷ deliver 0 2 ∷ []

abbrev pub three_moves : List Move
three_moves = elected ++ rejoined ++ decides

-- Two depots, the stale case of document 01. AcceptSync of session 1 is lost, its AcceptDecide waits in the queue, a resent Promise draws AcceptSync of session 2,
-- and the next entry comes: by the old rule it joins the old message, which depot 1 ignores.
abbrev pub joined : List Move
joined =
    leader 0 (ballot 1 1) ∷ drain 0 ∷ deliver 0 1 ∷ drain 1 ∷ deliver 1 0 ∷ drain 0 ∷ lose 0 1
    ∷ propose 0 (out ∷ []) ∷ resend 1 ∷ drain 1 ∷ deliver 1 0 ∷ propose 0 (back ∷ []) ∷ drain 0 ∷ deliver 0 1 ∷ deliver 0 1 ∷ []

-- A later entry: by the old rule depot 1 writes it in the place of the one that it missed. Then depot 1's Accepted, the decision, and all that is on its way to depot 1.
abbrev pub written : List Move
written =
    propose 0 (late_back ∷ []) ∷ drain 0 ∷ deliver 0 1 ∷ drain 1 ∷ deliver 1 0 ∷ drain 0 ∷ deliver 0 1 ∷ deliver 0 1 ∷ []

abbrev pub stale_moves : List Move
stale_moves = joined ++ written

-- Three depots, and one AcceptSync that is overtaken by four messages. Depot 1's Promise is resent, so it draws AcceptSync of session 1 and of session 2; then an entry.
abbrev pub twice : List Move
twice =
    leader 0 (ballot 1 1) ∷ drain 0 ∷ deliver 0 1 ∷ resend 1 ∷ drain 1 ∷ deliver 1 0 ∷ deliver 1 0 ∷ propose 0 (out ∷ []) ∷ drain 0 ∷ []

-- Depot 1 takes AcceptSync of session 2 and the entry, and reconnects; depot 0 decides the entry, and prepares depot 1 again.
abbrev pub reconnects : List Move
reconnects = reconnect 1 1 ∷ drain 1 ∷ deliver 1 0 ∷ deliver 1 0 ∷ drain 0 ∷ []

-- Depot 1, prepared, takes AcceptSync of session 1 at last, and its log is empty. Depot 2 is elected by it, and decides another entry.
abbrev pub elsewhere : List Move
elsewhere =
    deliver 0 1 ∷ leader 2 (ballot 2 3) ∷ propose 2 (other ∷ []) ∷ drain 2 ∷ deliver 2 1 ∷ drain 1 ∷ deliver 1 2
    ∷ drain 2 ∷ deliver 2 1 ∷ drain 1 ∷ deliver 1 2 ∷ []

-- the next message of the link from depot 0 to depot 1 is delivered before the first
abbrev pub ahead : List Loose
ahead = overtake 0 1 ∷ keeps (deliver 0 1) ∷ []

abbrev pub overtaken_moves : List Loose
overtaken_moves = map keeps twice ++ ahead ++ ahead ++ map keeps reconnects ++ ahead ++ ahead ++ map keeps elsewhere
