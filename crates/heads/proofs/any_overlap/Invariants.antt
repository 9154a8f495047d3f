-- `heads::any_overlap` meets its contract: no head passed overlaps one before it.
use Rattle.std.proofs.Common.{◌≡◌, false}
use Rattle.hire_book.specs.Below.{any_below}
use Rattle.heads.specs.Heads.{overlaps}
use Rattle.heads.proofs.any_overlap.Given as goal

abbrev pub invariant-loop-j : goal.invariant-loop-j
invariant-loop-j l = any_below (overlaps l.fn.row) l.j ≡ false
