-- `is_packed`: what is to be tested is what is left, from where the heads passed end.
use Rattle.outgoing.specs.Packing.{packed_from}
use Rattle.outgoing.specs.Perform.{carried}
use Rattle.std.proofs.Common.{◌≡◌, ◌+◌, ◌≤◌, take, drop}
use Rattle.outgoing.proofs.is_packed.Given as goal

abbrev pub invariant-loop-h : goal.invariant-loop-h
invariant-loop-h l = (l.at + carried (drop l.h-index (take l.fn.len l.fn.row.heads)) ≤ 4096) × (packed_from 0 (take l.fn.len l.fn.row.heads) ≡ packed_from l.at (drop l.h-index (take l.fn.len l.fn.row.heads)))
