-- `places::any_place` meets its contract: the test answered no at each place passed.
use Rattle.std.proofs.Common.{ℕ, ◌<◌, false}
use Rattle.leader_state.specs.State.{depot_of}
use Rattle.places.proofs.any_place.Given as goal

abbrev pub invariant-loop-pid : goal.invariant-loop-pid
invariant-loop-pid g l = (p : ℕ) → 0 < p → p < l.pid → goal.F-post g l.test p (depot_of p l.l) false
