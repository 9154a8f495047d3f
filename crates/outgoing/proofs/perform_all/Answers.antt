-- `outgoing::perform_all` meets its contract: what is to come out is what the things left make of the queue as it lies.
use Rattle.std.proofs.Common.{◌≡◌, ◌+◌, [], sym, ◌∙◌, arith, rules}
use lib.ListN.{drop, get_or, drop_of_length-le}
use Rattle.outgoing.specs.Perform.{sources, perform_all, items_of}
use Rattle.outgoing.specs.Queue.{lent, queue_of}
use Rattle.outgoing.proofs.Laid.{laid_same}
use Rattle.outgoing.proofs.Steps.{unplanned, few, ready-next, step-turn, with-entries}
use Rattle.outgoing.proofs.Turns.{next}
use Rattle.outgoing.proofs.perform_all.Goals as goal

pub perform_one-requires-clause-what_bound : goal.perform_one-requires-clause-what_bound
perform_one-requires-clause-what_bound c =
    let ms = items_of c.args.sends in
    let r = rw (next ms c.loop-m.m-index unplanned (search rules)) at c.loop-m.invariant.2 in
    (ready-next (get_or ms c.loop-m.m-index unplanned) _ c.loop-m.n c.loop-m.row.heads c.loop-m.store r).1.0

pub perform_one-requires-clause-entries_in_bounds : goal.perform_one-requires-clause-entries_in_bounds
perform_one-requires-clause-entries_in_bounds c =
    let ms = items_of c.args.sends in
    let f = sources c.args.from.now.log.now c.args.from.now.given.now c.args.from.now.buffered.now c.args.from.now.cached.now in
    let m = get_or ms c.loop-m.m-index unplanned in
    let r = rw (next ms c.loop-m.m-index unplanned (search rules)) at c.loop-m.invariant.2 in
    let n = (ready-next m _ c.loop-m.n c.loop-m.row.heads c.loop-m.store r).1.1.1 in
    rw c.entries_of.ensures (omega (arith, n, few f m))

pub loop-m-preserved : goal.loop-m-preserved
loop-m-preserved c =
    let ms = items_of c.args.sends in
    let f = sources c.args.from.now.log.now c.args.from.now.given.now c.args.from.now.buffered.now c.args.from.now.cached.now in
    let m = get_or ms c.loop-m.m-index unplanned in
    let w = lent c.loop-m.row c.loop-m.store in
    let v = lent c.perform_one.new.row c.perform_one.new.store in
    let n = next ms c.loop-m.m-index unplanned (search rules) in
    let r = rw n at c.loop-m.invariant.2 in
    let done = with-entries f m c.entries_of.result.now (queue_of c.loop-m.n w) w v c.entries_of.ensures c.perform_one.ensures in
    let t = step-turn f m (drop (c.loop-m.m-index + 1) ms) c.loop-m.n w v r c.loop-m.invariant.0 done in
    (t.heads, t.cells ∙ c.loop-m.invariant.1, rw c.length_after-n.ensures t.ready, rw c.length_after-n.ensures (t.same ∙ (rw n at c.loop-m.invariant.3)))

pub returns : goal.returns
unfolding perform_all
returns c =
    let w = lent c.loop-m.row c.loop-m.store in
    let none : drop c.loop-m.m-index (items_of c.args.sends) ≡ [] = drop_of_length-le (items_of c.args.sends) (omega arith) in
    sym (laid_same c.loop-m.n w c.loop-m.invariant.2.packed) ∙ (rw none at c.loop-m.invariant.3)
