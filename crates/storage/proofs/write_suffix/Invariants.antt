-- `storage::write_suffix` meets its contract: after i turns the first i entries of the suffix lie over the part.
use mathlib.Core.Path.{◌≡◌}
use Rattle.base.specs.Lists.{over}
use lib.ListN.{take}
use Rattle.storage.proofs.write_suffix.Given as goal

abbrev pub invariant-loop-i : goal.invariant-loop-i
invariant-loop-i l = l.part ≡ over (take l.i l.suffix) l.initial.part
