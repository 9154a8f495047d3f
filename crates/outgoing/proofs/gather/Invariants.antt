-- `gather`: what is to be gathered is what is left, behind the entries of the heads passed.
use Rattle.std.proofs.Common.{◌≡◌, ◌+◌, ◌≤◌, map, length, take, drop}
use Rattle.base.specs.Lists.{over}
use Rattle.storage.specs.Storage.{put_at}
use Rattle.outgoing.specs.Perform.{carried}
use Rattle.outgoing.specs.Queue.{msg_of, entries_in}
use Rattle.outgoing.proofs.gather.Given as goal

abbrev pub invariant-loop-h : goal.invariant-loop-h
invariant-loop-h l =
    (l.at + carried (drop l.h-index (take l.fn.len l.fn.row.heads)) ≤ length l.initial.out) × (put_at l.at (entries_in (map (msg_of l.store) (drop l.h-index (take l.fn.len l.fn.row.heads)))) l.out ≡ over (entries_in (map (msg_of l.store) (take l.fn.len l.fn.row.heads))) l.initial.out)
