-- `LeaderState::reset_latest_accept_meta` meets its contract: the places passed remember nothing, the others are as found.
use Rattle.std.proofs.Common.{◌≡◌, ℕ, List, None, ◌++◌, length, take, drop, refl, arith}
use Rattle.base.specs.Lists.{on_first}
use Rattle.base.proofs.Lists.{on-first-turn}
use Rattle.leader_state.specs.declared.Depot.{Depot}
use Rattle.leader_state.specs.declared.LeaderState.{LeaderState}
use Rattle.leader_state.specs.State.{fresh, set_latest, with_depots, forget_all}
use Rattle.leader_state.proofs.Rows.{walked-first}
use Rattle.leader_state.proofs.LeaderState.reset_latest_accept_meta.Goals as goal

forgotten : (depots i : ℕ) (s : LeaderState) (l : List Depot) → l ≡ on_first i (set_latest None) (take depots s.depots) → i ≡ length (take depots s.depots) → with_depots (l ++ drop depots s.depots) s ≡ forget_all depots s
unfolding forget_all
forgotten depots i s l p e = rw (p, e, walked-first depots (set_latest None) s.depots)

pub loop-d-preserved : goal.loop-d-preserved
loop-d-preserved c = on-first-turn fresh (set_latest None) (take c.args.c.depots c.args.self.depots) c.loop-d.d-items c.loop-d.d-index _ c.loop-d.invariant refl c.loop-d-test.true

pub returns : goal.returns
returns c = forgotten c.args.c.depots c.loop-d.d-index c.args.self c.loop-d.d-items c.loop-d.invariant (omega arith)
