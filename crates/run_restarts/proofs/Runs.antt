-- The runs, computed.
use mathlib.Core.Path.{◌≡◌, refl}
use mathlib.Core.List.{[], ◌∷◌}
use Rattle.run_cases.specs.Seen.{two, three, all, having}
use Rattle.run_cases.specs.Moves.{out}
use Rattle.run_cases.specs.Parted.{parted}
use Rattle.run_cases.proofs.Computing.{computing}
use Rattle.run_restarts.specs.Forgetful.{moved_forgetful, after_forgetful}
use Rattle.run_restarts.specs.Restarts.{no_promise, no_round, no_log, decided_once, no_decided}

pub promise-parts : all three no_promise ≡ parted
unfolding computing moved_forgetful after_forgetful
promise-parts = refl

pub round-parts : all three no_round ≡ parted
unfolding computing moved_forgetful after_forgetful
round-parts = refl

pub log-parts : all three no_log ≡ parted
unfolding computing moved_forgetful after_forgetful
log-parts = refl

pub decided-before : all two decided_once ≡ having 1 (out ∷ []) ∷ having 0 [] ∷ []
unfolding computing
decided-before = refl

pub decided-after : all two no_decided ≡ having 0 [] ∷ having 0 [] ∷ []
unfolding computing moved_forgetful after_forgetful
decided-after = refl
