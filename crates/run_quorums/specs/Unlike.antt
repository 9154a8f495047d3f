-- Depots of two configurations, each of which stands: the first two have read and write quorums of 2 and 3, the others of 3 and 2. So a read quorum of the first and a write quorum
-- of the others miss each other.
use Rattle.std.specs.Prelude.{ℕ, cond, leb}
use Rattle.quorum.specs.declared.Configuration.{Configuration}
use Rattle.quorum.specs.declared.Quorum.{Quorum}
use Rattle.quorum.specs.declared.Quorum.TheVariants.{Flexible}
use Rattle.step.specs.Step.{step_of}
use Rattle.run_cases.specs.Stepping.{Stepping}

abbrev pub flexible : ℕ → ℕ → Quorum
flexible read write = Flexible (record { read_quorum_size = read; write_quorum_size = write })

abbrev pub unlike : Configuration → Configuration
unlike c = record { depots = c.depots; pid = c.pid; quorum = cond (leb c.pid 2) (flexible 2 3) (flexible 3 2) }

-- the step of each depot by its own configuration
abbrev pub unlike_step : Stepping
unlike_step c e entries w = step_of (unlike c) e entries w
