-- The runs, computed.
use mathlib.Core.Path.{◌≡◌, refl}
use mathlib.Core.List.{[], ◌∷◌}
use Rattle.runs.specs.Runs.{after}
use Rattle.run_cases.specs.Seen.{two, three, start, all, having}
use Rattle.run_cases.specs.Moves.{out, other, three_moves}
use Rattle.run_cases.specs.Cases.{right, wrong, stale_old, stale_ours, disordered}
use Rattle.run_cases.proofs.Computing.{computing}

pub three-decide : all three (after three three_moves start) ≡ right ∷ right ∷ right ∷ []
unfolding computing
three-decide = refl

pub stale-old : all two stale_old ≡ right ∷ wrong ∷ []
unfolding computing
stale-old = refl

pub stale-ours : all two stale_ours ≡ right ∷ right ∷ []
unfolding computing
stale-ours = refl

pub overtaken : all three disordered ≡ having 1 (out ∷ []) ∷ having 0 [] ∷ having 1 (other ∷ []) ∷ []
unfolding computing
overtaken = refl
