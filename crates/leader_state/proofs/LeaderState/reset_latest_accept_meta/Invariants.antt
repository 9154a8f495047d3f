-- `LeaderState::reset_latest_accept_meta` meets its contract: the places passed remember nothing, the others are as found.
use Rattle.std.proofs.Common.{◌≡◌, None}
use Rattle.base.specs.Lists.{on_first}
use Rattle.leader_state.specs.State.{set_latest}
use Rattle.leader_state.proofs.LeaderState.reset_latest_accept_meta.Given as goal

abbrev pub invariant-loop-d : goal.invariant-loop-d
invariant-loop-d l = l.d-items ≡ on_first l.d-index (set_latest None) l.initial.d-items
