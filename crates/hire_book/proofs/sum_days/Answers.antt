-- `hire_book::sum_days` meets its contract: the sum so far, which is at most 65,535 a pump.
use native.Mathlib.Numerals.{add-one}
use borrow.Author.Rules.{rules}
use Rattle.hire_book.specs.Below.{sum_below}
use Rattle.hire_book.proofs.Sound.{sound-pump}
use Rattle.hire_book.proofs.sum_days.Goals as goal

pub overflow_add-sum-in-loop-pump : goal.overflow_add-sum-in-loop-pump
overflow_add-sum-in-loop-pump c = let k = sound-pump c.requires c.loop-pump.pump (search rules) in search rules

pub loop-pump-preserved : goal.loop-pump-preserved
unfolding sum_below
loop-pump-preserved c = let k = sound-pump c.requires c.loop-pump.pump (search rules) in (rw (add-one c.loop-pump.pump, c.loop-pump.invariant.0), search rules)
