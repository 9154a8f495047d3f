-- `outgoing::perform_all`: what is to come out is what the things left make of the queue as it lies.
use Rattle.std.proofs.Common.{◌≡◌, length, drop}
use Rattle.outgoing.specs.Packing.{Ready}
use Rattle.outgoing.specs.Perform.{sources, perform_all, items_of}
use Rattle.outgoing.specs.Queue.{lent, queue_of, laid}
use Rattle.outgoing.proofs.perform_all.Given as goal

abbrev pub invariant-loop-m : goal.invariant-loop-m
invariant-loop-m l =
    (length l.row.heads ≡ 64) × (length l.store ≡ length l.initial.store) × Ready l.n (drop l.m-index (items_of l.fn.sends)) l.row.heads l.store × (laid (perform_all (sources l.from.log.now l.from.given.now l.from.buffered.now l.from.cached.now) (drop l.m-index (items_of l.fn.sends)) (queue_of l.n (lent l.row l.store))) (lent l.row l.store) ≡ laid (perform_all (sources l.from.log.now l.from.given.now l.from.buffered.now l.from.cached.now) (items_of l.fn.sends) (queue_of l.fn.len (lent l.initial.row l.initial.store))) (lent l.initial.row l.initial.store))
