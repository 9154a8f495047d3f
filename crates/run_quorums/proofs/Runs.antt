-- The runs, computed.
use mathlib.Core.Path.{◌≡◌, refl}
use Rattle.run_cases.specs.Seen.{all}
use Rattle.run_cases.specs.Stepping.{moved_by, after_by}
use Rattle.run_cases.proofs.Computing.{computing}
use Rattle.run_quorums.specs.Unjudged.{four}
use Rattle.run_quorums.specs.Quorums.{parted_four, halves, mixed}

pub halves_parts : all four halves ≡ parted_four
unfolding computing moved_by after_by
halves_parts = refl

pub mixed-parts : all four mixed ≡ parted_four
unfolding computing moved_by after_by
mixed-parts = refl
