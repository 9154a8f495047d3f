-- `rounds::settle` meets its contract: what is left to do leads to the same end.
use Rattle.std.proofs.Common.{◌≡◌, ◌-◌}
use Rattle.rounds.specs.Drains.{settled}
use Rattle.rounds.proofs.settle.Given as goal

abbrev pub invariant-loop : goal.invariant-loop
invariant-loop g l = settled (l.drains - l.counter) l.c ≡ settled l.drains l.initial.c
