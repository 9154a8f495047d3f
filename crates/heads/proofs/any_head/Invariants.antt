-- `heads::any_head` meets its contract: the test answered no at each head passed.
use Rattle.std.proofs.Common.{ℕ, ◌<◌, false}
use Rattle.sight.specs.Sight.{head_at}
use Rattle.heads.proofs.any_head.Given as goal

abbrev pub invariant-loop-h : goal.invariant-loop-h
invariant-loop-h g l = (i : ℕ) → i < l.h-index → goal.F-post g l.test (head_at l.fn.row i) false
