-- `hire_book::sum_days` meets its contract: the sum so far, which is at most 65,535 a pump.
use Prim.Native.Nat.{◌≤◌, ◌*◌}
use mathlib.Core.Path.{◌≡◌}
use Rattle.base.specs.Limits.{max_day}
use Rattle.hire_book.specs.Below.{sum_below}
use Rattle.hire_book.specs.Book.{charged}
use Rattle.hire_book.proofs.sum_days.Given as goal

abbrev pub invariant-loop-pump : goal.invariant-loop-pump
invariant-loop-pump l = (l.sum ≡ sum_below (charged l.book) l.pump) × (l.sum ≤ max_day * l.pump)
