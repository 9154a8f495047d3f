-- `places::any_place` meets its contract: the test answered no at each place passed.
use Rattle.std.proofs.Common.{◌<◌, false, arith, below_more}
use Rattle.leader_state.specs.State.{depot_of}
use Rattle.places.proofs.Tells.{some_place, no_place_passed}
use Rattle.places.proofs.any_place.Goals as goal
use Rattle.places.proofs.any_place.Goals.{else-loop-pid-test, then-loop-pid-test+else-test+else-pid-depots}

pub returns-then-test : goal.returns-then-test
returns-then-test g c f t =
    some_place _ f c.args.depots c.args.l t c.loop-pid.pid (omega arith) (omega arith) (rw (c.get_depot.ensures, c.if-test.true) at c.test.ensures)

pub returns : goal.returns
returns g c f t = no_place_passed _ f c.args.depots c.args.l t (elim c.loop-pid-test.branch [
  | else-loop-pid-test w ↦ λ p h k. c.loop-pid.invariant p h (omega arith)
  | then-loop-pid-test+else-test+else-pid-depots w ↦ λ p h k.
      below_more (λ q. 0 < q → g.F.Fn.post c.args.test (q, (depot_of q c.args.l, tt)) false) c.loop-pid.pid
      (λ q lt pos. c.loop-pid.invariant q pos lt) (λ pos. rw (w.get_depot.ensures, w.if-test.false) at w.test.ensures) p (omega arith) h
])
