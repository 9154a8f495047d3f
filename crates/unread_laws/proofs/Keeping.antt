-- What a step leaves in places past the depots and in cells that nothing uses after it: what they held.
use Prim.Native.Nat.{ℕ}
use mathlib.Core.Path.{◌≡◌}
use mathlib.Core.List.{List}
use lib.ListN.{length, drop}
use Rattle.base.specs.Limits.{max_messages}
use Rattle.quorum.specs.declared.Configuration.{Configuration}
use Rattle.messages.specs.declared.Event.{Event}
use Rattle.follower.specs.Follower.{count_of}
use Rattle.broken.specs.Broken.{cached_sync, best_sync}
use Rattle.sight.specs.Sight.{queue_entries}
use Rattle.step.specs.Step.{World, step_of}
use Rattle.step_laws.proofs.Past.{AsFound}
use Rattle.step_laws.proofs.Step.{past-depots}
use Rattle.cell_laws.proofs.Steps.{cells, best-past, cached-past}
use Rattle.cell_laws.proofs.Queue.{queue-cells}

-- of a depot found as w and left as v
pub record Keeps (c : Configuration) (w v : World) : Type 0 where
  pub places : AsFound c w.node.leader_state.depots v.node.leader_state.depots
  pub log : drop v.node.internal_storage.accepted_idx v.lists.log ≡ drop v.node.internal_storage.accepted_idx w.lists.log
  pub buffered : drop v.node.buffered_proposals.len v.node.buffered_proposals.entries ≡ drop v.node.buffered_proposals.len w.node.buffered_proposals.entries
  pub cached : drop (count_of (cached_sync v.node)) v.lists.cached ≡ drop (count_of (cached_sync v.node)) w.lists.cached
  pub best : drop (count_of (best_sync v.node)) v.lists.best ≡ drop (count_of (best_sync v.node)) w.lists.best
  pub heads : drop v.node.outgoing v.row.heads ≡ drop v.node.outgoing w.row.heads
  pub store : drop (queue_entries v.row v.node.outgoing) v.lists.store ≡ drop (queue_entries v.row v.node.outgoing) w.lists.store

-- every step, taken or refused, where the row has its 64 heads
pub keeps : (c : Configuration) (e : Event) (entries : List ℕ) (w : World) → length w.row.heads ≡ max_messages → Keeps c w (step_of c e entries w).after
keeps c e entries w h =
    let q = queue-cells c entries w h e in
    record {
      places = past-depots c e entries w;
      log = (cells c e entries w).log;
      buffered = (cells c e entries w).buffer.past;
      cached = cached-past c e entries w;
      best = best-past c e entries w;
      heads = q.heads;
      store = q.store;
    }
