-- `sight::first_change` meets its contract: no place passed is changed.
use Prim.Native.Nat.{◌-◌}
use mathlib.Core.Path.{◌≡◌}
use Rattle.sight.specs.Sight.{changes_at, first_from}
use Rattle.sight.proofs.first_change.Given as goal

abbrev pub invariant-loop-i : goal.invariant-loop-i
invariant-loop-i l = first_from (changes_at l.log l.start l.suffix) l.i (l.len - l.i) ≡ first_from (changes_at l.log l.start l.suffix) 0 l.len
