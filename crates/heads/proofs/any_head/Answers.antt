-- `heads::any_head` meets its contract: the test answered no at each head passed.
use Rattle.std.proofs.Common.{true, false, arith, below_more}
use lib.ListN.{length-take}
use Rattle.messages.specs.declared.Head.{Head}
use Rattle.sight.proofs.Heads.{shown, in_row}
use Rattle.heads.proofs.Tells.{some_head, no_head_passed}
use Rattle.heads.proofs.any_head.Goals as goal

pub returns-then-test : goal.returns-then-test
returns-then-test g c f t =
    some_head _ f c.args.row.now c.args.len t c.loop-h.h-index (in_row c.args.row.now c.args.len c.loop-h.h-index c.loop-h-test.true)
    (shown c.args.row.now c.args.len c.loop-h.h-index c.loop-h-test.true (λ (x : Head). g.F.Fn.post c.args.test (x, tt) true) _ (rw c.if-test.true at c.test.ensures))

pub loop-h-preserved : goal.loop-h-preserved
loop-h-preserved g c =
    below_more _ _ c.loop-h.invariant
    (shown c.args.row.now c.args.len c.loop-h.h-index c.loop-h-test.true (λ (x : Head). g.F.Fn.post c.args.test (x, tt) false) _ (rw c.if-test.false at c.test.ensures))

pub returns : goal.returns
returns g c f t = no_head_passed _ f c.args.row.now c.args.len t (λ i h. c.loop-h.invariant i (omega (arith, length-take c.args.len c.args.row.now.heads)))
