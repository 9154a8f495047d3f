-- `outgoing::is_packed` meets its contract: what is to be tested is what is left, from where the heads passed end.
use Rattle.std.proofs.Common.{sym, ◌∙◌, arith, rules}
use lib.ListN.{take}
use Rattle.outgoing.proofs.Turns.{unset, packed-turn, not-packed, all-packed, carried-next}
use Rattle.outgoing.proofs.is_packed.Goals as goal

pub returns-then-h-at : goal.returns-then-h-at
returns-then-h-at c =
    sym (c.loop-h.invariant.1 ∙ not-packed (take c.args.len c.args.row.now.heads) c.loop-h.h-index c.loop-h.at unset (search rules) c.if-h-at.true)

pub overflow_add-at : goal.overflow_add-at
overflow_add-at c = omega (arith, carried-next (take c.args.len c.args.row.now.heads) c.loop-h.h-index unset (search rules))

pub loop-h-preserved : goal.loop-h-preserved
loop-h-preserved c =
    let hs = take c.args.len c.args.row.now.heads in
    (omega (arith, carried-next hs c.loop-h.h-index unset (search rules)), c.loop-h.invariant.1 ∙ packed-turn hs c.loop-h.h-index c.loop-h.at unset (search rules) c.if-h-at.false)

pub returns : goal.returns
returns c = sym (c.loop-h.invariant.1 ∙ all-packed (take c.args.len c.args.row.now.heads) c.loop-h.h-index c.loop-h.at (search rules))
