-- `move_up` meets its contract.
-- `outgoing::move_up` meets its contract: the cells from i on have moved.
use lib.ListN.{length}
use Prim.Native.Nat.{◌+◌, ◌≤◌}
use Rattle.outgoing.proofs.Cells.{between}
use Rattle.storage.specs.Storage.{put_at}
use mathlib.Core.Path.{◌≡◌}
use Rattle.outgoing.proofs.move_up.Given as goal

abbrev pub invariant-loop-i : goal.invariant-loop-i
invariant-loop-i l = (l.from ≤ l.i) × (l.i ≤ l.to) × (l.to + l.by ≤ length l.initial.store) × (length l.store ≡ length l.initial.store) × (l.store ≡ put_at (l.i + l.by) (between l.i l.to l.initial.store) l.initial.store)
