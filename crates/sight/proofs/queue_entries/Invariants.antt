-- `sight::queue_entries` meets its contract: the sum so far is that of the heads passed.
use mathlib.Core.Path.{◌≡◌}
use Rattle.sight.specs.Sight.{head_at}
use Rattle.hire_book.specs.Below.{sum_below}
use Rattle.sight.proofs.queue_entries.Given as goal

abbrev pub invariant-loop-h : goal.invariant-loop-h
invariant-loop-h l = l.sum ≡ sum_below (λ j. (head_at l.fn.row j).count) l.h-index
