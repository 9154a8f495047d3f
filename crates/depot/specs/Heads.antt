-- The whole step where the row of heads is lent: of 64 heads it is `step_of`, of another length it is refused with 1.
use Rattle.std.specs.Prelude.{ℕ, cond, List, eqb, length}
use Rattle.base.specs.Limits.{max_messages}
use Rattle.quorum.specs.declared.Configuration.{Configuration}
use Rattle.messages.specs.declared.Event.{Event}
use Rattle.messages.specs.declared.Head.{Head}
use Rattle.outgoing.specs.Packing.{row_of}
use Rattle.broken.specs.Lent.{Lent}
use Rattle.step.specs.Step.{World, Outcome, world, refused_with, step_of}
use Rattle.depot.specs.declared.Stepped.{Stepped}

-- the step, where the lent row is n heads long
unfoldable pub step_sized : ℕ → Configuration → Event → List ℕ → World → Outcome
step_sized n c e entries w = cond (eqb n max_messages) (step_of c e entries w) (refused_with 1 w)

abbrev pub step_heads : Configuration → Event → List ℕ → World → Outcome
step_heads c e entries w = step_sized (length w.row.heads) c e entries w

-- what the caller of the code sees: the step handed back, the row of heads, and what else was lent
abbrev pub seen_heads : Stepped → List Head → Lent → Outcome
seen_heads s heads l = record { answer = s.answer; after = world s.node (row_of heads) l }
