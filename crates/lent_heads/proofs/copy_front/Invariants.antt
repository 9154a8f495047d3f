-- `lent_heads::copy_front` meets its contract: after i turns the first i heads lie over the row.
use mathlib.Core.Path.{◌≡◌}
use Rattle.base.specs.Lists.{over}
use lib.ListN.{take}
use Rattle.lent_heads.proofs.copy_front.Given as goal

abbrev pub invariant-loop-i : goal.invariant-loop-i
invariant-loop-i l = l.to ≡ over (take l.i l.from) l.initial.to
