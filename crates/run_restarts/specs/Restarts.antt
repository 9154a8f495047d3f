-- What a restart that forgets does to the claim on runs: agreement fails, or a decided index falls.
use Rattle.std.specs.Prelude.{◌≤◌, ◌≡◌, List, [], ◌∷◌, map}
use Rattle.runs.specs.Runs.{Setup, State, Move, after}
use Rattle.runs.specs.Claim.{decided}
use Rattle.run_cases.specs.Seen.{two, three, start, all, having, Agree}
use Rattle.run_cases.specs.Moves.{out}
use Rattle.run_cases.specs.Parted.{decides_with, parted}
use Rattle.run_restarts.specs.Forgetful.{keeps, after_forgetful}
use Rattle.run_restarts.specs.Moves.{promise_moves, round_moves, log_moves, decided_moves}

-- the clusters after the runs
abbrev pub no_promise : State
no_promise = after_forgetful three promise_moves start

abbrev pub no_round : State
no_round = after_forgetful three round_moves start

abbrev pub no_log : State
no_log = after_forgetful three log_moves start

abbrev pub decided_once : State
decided_once = after two (decides_with 0 1 1 out) start

abbrev pub no_decided : State
no_decided = after_forgetful two decided_moves start

pub record Restarts : Type 0 where
  -- with nothing forgotten a run is a run
  pub keeping : (z : Setup) (ms : List Move) (σ : State) → after_forgetful z (map keeps ms) σ ≡ after z ms σ
  -- a restart that forgets the promise, the accepted round, the log
  pub promise-parts : all three no_promise ≡ parted
  pub promise-breaks : ¬ Agree three no_promise
  pub round-parts : all three no_round ≡ parted
  pub round-breaks : ¬ Agree three no_round
  pub log-parts : all three no_log ≡ parted
  pub log-breaks : ¬ Agree three no_log
  -- a restart that forgets the decided index, after the moves that decided it
  pub decided-before : all two decided_once ≡ having 1 (out ∷ []) ∷ having 0 [] ∷ []
  pub decided-after : all two no_decided ≡ having 0 [] ∷ having 0 [] ∷ []
  pub decided-falls : ¬ (decided decided_once 0 ≤ decided no_decided 0)
