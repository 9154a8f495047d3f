-- A sync that does not end past the limit.
use Prim.Native.Nat.{ℕ, ◌+◌, ◌≤◌}
use mathlib.Core.Path.{◌≡◌, refl}
use mathlib.Core.Bool.{Bool, true, false, cond}
use borrow.Author.Tests.{ltb-false}
use Rattle.leader_state.specs.declared.LogSync.{LogSync}
use Rattle.paxos_box.specs.declared.SequencePaxos.{SequencePaxos}
use Rattle.log_plan.specs.Log.{ends_past, sync_end, sync_unfit}

pub ends-within : (x : LogSync) → ends_past x ≡ false → x.sync_idx + x.len ≤ 512
unfolding ends_past
ends-within x e = ltb-false 512 (sync_end x) e

-- a sync that may be put on ends within the limit
pub fit-within : (x : LogSync) (change brings : ℕ) (s : SequencePaxos) → sync_unfit x change brings s ≡ false → x.sync_idx + x.len ≤ 512
unfolding sync_unfit
fit-within x change brings s e = ends-within x (go (ends_past x) _ e)
  where
    go : (t r : Bool) → cond t true r ≡ false → t ≡ false
    go true r h = h
    go false r h = refl
