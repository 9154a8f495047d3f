-- An index is chosen exactly when a write quorum of depots exists whose reported accepted index is at least that index.
use Prim.Native.Nat.{ℕ, ◌≤◌, ◌<◌}
use mathlib.Core.Path.{◌≡◌}
use mathlib.Core.Bool.{Bool, true}
use mathlib.Core.Logic.{◌↔◌}
use native.Mathlib.Omega.{arith}
use lib.Dec.{leb}
use lib.ListN.{length, get_or}
use borrow.Author.Tests.{leb-true, le-leb}
use Rattle.base.specs.Count.{count_below}
use Rattle.base.proofs.Meet.{count-mono, count-places}
use Rattle.quorum.specs.Quorum.{reaches_write, write_size}
use Rattle.quorum.specs.declared.Configuration.{Configuration}
use Rattle.leader_state.specs.declared.LeaderState.{LeaderState}
use Rattle.leader_state.specs.State.{fresh}
use Rattle.leader_state.specs.Places.{accepted_at, chosen}

-- a set of depots, at least as many as the write size, each of which has reported at least idx; the depot of pid i + 1 stands at place i
pub record WriteQuorum (idx : ℕ) (c : Configuration) (s : LeaderState) : Type 0 where
  pub depots : ℕ → Bool
  pub enough : write_size c.quorum ≤ count_below depots c.depots
  pub reported : (i : ℕ) → i < c.depots → depots i ≡ true → idx ≤ (get_or s.depots i fresh).accepted_idx

module _ (idx : ℕ) (c : Configuration) (s : LeaderState) (row : c.depots ≤ length s.depots) where
  counted : accepted_at idx c.depots s ≡ count_below (λ i. leb idx (get_or s.depots i fresh).accepted_idx) c.depots
  unfolding accepted_at
  counted = count-places fresh (λ d. leb idx d.accepted_idx) s.depots c.depots row

  exists : chosen idx c s ≡ true → WriteQuorum idx c s
  unfolding reaches_write
  exists e =
      record {
        depots = λ i. leb idx (get_or s.depots i fresh).accepted_idx;
        enough = rw counted at (leb-true (write_size c.quorum) (accepted_at idx c.depots s) e);
        reported = λ i l t. leb-true idx (get_or s.depots i fresh).accepted_idx t;
      }

  suffices : WriteQuorum idx c s → chosen idx c s ≡ true
  unfolding reaches_write
  suffices q =
      let m = count-mono q.depots (λ i. leb idx (get_or s.depots i fresh).accepted_idx) c.depots (λ i l t. le-leb idx (get_or s.depots i fresh).accepted_idx (q.reported i l t)) in
      le-leb (write_size c.quorum) (accepted_at idx c.depots s) (omega (arith, m, q.enough, counted))

  pub chosen-iff : (chosen idx c s ≡ true) ↔ WriteQuorum idx c s
  chosen-iff = (exists, suffices)
