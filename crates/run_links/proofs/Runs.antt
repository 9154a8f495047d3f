-- The runs, computed.
use mathlib.Core.Path.{◌≡◌, refl}
use mathlib.Core.List.{[], ◌∷◌}
use Rattle.run_cases.specs.Seen.{two, three, all, having}
use Rattle.run_cases.specs.Moves.{out, other}
use Rattle.run_cases.specs.Parted.{parted}
use Rattle.run_cases.proofs.Computing.{computing}
use Rattle.run_links.specs.Loose.{moved_loose, after_loose}
use Rattle.run_links.specs.Links.{overtaken, copied, repeated, altered}

pub overtaken-parts : all three overtaken ≡ parted
unfolding computing moved_loose after_loose
overtaken-parts = refl

pub copied-parts : all three copied ≡ parted
unfolding computing moved_loose after_loose
copied-parts = refl

pub repeated-twice : all two repeated ≡ having 2 (out ∷ out ∷ []) ∷ having 0 [] ∷ []
unfolding computing moved_loose after_loose
repeated-twice = refl

pub repeated-proposed : repeated.proposed ≡ out ∷ []
unfolding computing moved_loose after_loose
repeated-proposed = refl

pub altered-parts : all two altered ≡ having 1 (out ∷ []) ∷ having 1 (other ∷ []) ∷ []
unfolding computing moved_loose after_loose
altered-parts = refl
