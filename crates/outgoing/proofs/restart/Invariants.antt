-- `restart`: what is to be restarted is what is left, from where the heads passed end.
use Rattle.outgoing.specs.Packing.{restarted}
use Rattle.outgoing.specs.Perform.{carried}
use Rattle.std.proofs.Common.{◌≡◌, ◌+◌, ◌-◌, ◌≤◌, length, take, drop}
use Rattle.outgoing.proofs.restart.Given as goal

abbrev pub invariant-loop-i : goal.invariant-loop-i
invariant-loop-i l = (length l.row.heads ≡ 64) × (l.place + carried (take (l.to - l.i) (drop l.i l.row.heads)) ≤ 4096) × (restarted l.i l.to l.place l.row.heads ≡ restarted l.from l.to l.at l.initial.row.heads)
