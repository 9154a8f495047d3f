-- `sync_unfit` meets its contract.
use Rattle.log_plan.proofs.Ends.{ends-within}
use native.Mathlib.Omega.{arith}
use Rattle.log_plan.proofs.sync_unfit.Goals as goal

pub overflow_add-end : goal.overflow_add-end
overflow_add-end c = let h = ends-within c.args.x (rw (← c.ends_past.ensures) c.if-ends_past.false) in omega (arith, h)
