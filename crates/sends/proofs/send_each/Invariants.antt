-- `send_each` meets its contract: the box so far is that of the places passed.
use Rattle.sends.specs.Sends.{for_marked}
use mathlib.Core.Path.{◌≡◌}
use Rattle.sends.proofs.send_each.Given as goal

abbrev pub invariant-loop-i : goal.invariant-loop-i
invariant-loop-i l = l.b ≡ for_marked l.marks l.what l.i l.initial.b
