-- `move_up` meets its contract.
-- `outgoing::move_up` meets its contract: the cells from i on have moved.
use lib.ListN.{length-set}
use Prim.Native.Nat.{suc, ◌+◌, ◌-◌}
use Rattle.outgoing.proofs.Cells.{between, move-turn}
use Rattle.storage.proofs.Laws.{put-nothing}
use Rattle.storage.specs.Storage.{put_at}
use borrow.Author.Rules.{rules}
use native.Mathlib.Omega.{arith}
use mathlib.Core.Path.{◌≡◌, refl, sym}
use Rattle.outgoing.proofs.move_up.Goals as goal

pub loop-i-init : goal.loop-i-init
loop-i-init c = let z : c.args.to - c.args.to ≡ 0 = omega arith in
    (search rules, search rules, search rules, refl, rw z (sym (put-nothing (c.args.to + c.args.by) c.args.store.now)))

pub loop-i-preserved : goal.loop-i-preserved
loop-i-preserved c = let e : c.loop-i.i ≡ suc (c.loop-i.i - 1) = omega arith in
    let s : c.loop-i.store ≡ put_at (suc (c.loop-i.i - 1) + c.args.by) (between (suc (c.loop-i.i - 1)) c.args.to c.args.store.now) c.args.store.now = rw (← e) c.loop-i.invariant.4 in
    (search rules, search rules, search rules, rw length-set (search rules), move-turn c.args.store.now c.loop-i.store (c.loop-i.i - 1) c.args.to c.args.by s (search rules) (search rules))
