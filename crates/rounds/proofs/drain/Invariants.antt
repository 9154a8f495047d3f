-- `rounds::drain` meets its contract: the messages handed out, one after the other.
use Rattle.std.proofs.Common.{◌≡◌}
use Rattle.rounds.specs.Drains.{carry_below}
use Rattle.rounds.proofs.drain.Given as goal

abbrev pub invariant-loop-at : goal.invariant-loop-at
invariant-loop-at g l = l.c ≡ carry_below l.from l.lost l.at l.initial.c
