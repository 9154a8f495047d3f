-- A cluster of four whose read and write quorums are two each, so that they miss each other; and the step with refusal 1 left out, since `step_of` refuses every step there.
use Rattle.std.specs.Prelude.{ℕ, false, cond, List, eqb}
use Rattle.quorum.specs.declared.Configuration.{Configuration}
use Rattle.quorum.specs.declared.Quorum.TheVariants.{Flexible}
use Rattle.messages.specs.declared.Event.{Event}
use Rattle.unfit.specs.Unfit.{stranger_of, unfit_of}
use Rattle.broken.specs.Broken.{record_broken}
use Rattle.refusals.specs.Refusals.{first_of}
use Rattle.step.specs.Step.{World, decision_of, concluded, refused_with}
use Rattle.runs.specs.Runs.{Setup}
use Rattle.run_cases.specs.Stepping.{Stepping}

abbrev pub four : Setup
four = record { depots = 4; quorum = Flexible (record { read_quorum_size = 2; write_quorum_size = 2 }) }

-- refusals 2, 3 and 4
abbrev pub later_refusal : Configuration → Event → List ℕ → World → ℕ
later_refusal c e entries w = first_of false (record_broken c w.node w.row w.lists) (stranger_of c e) (unfit_of c e entries)

abbrev pub unjudged : Stepping
unjudged c e entries w =
    cond (eqb (later_refusal c e entries w) 0) (concluded e entries (decision_of c e entries w) w) (refused_with (later_refusal c e entries w) w)
