-- `LeaderState::get_preparable_peers` meets its contract: each place's call marks it.
use Rattle.std.proofs.Common.{◌+◌, cond, ltb, false, rules, tests}
use Rattle.leader_state.specs.Places.{is_peer, preparable_peers}
use Rattle.leader_state.proofs.Rows.{made-tabulate}
use Rattle.leader_state.proofs.LeaderState.get_preparable_peers.Goals as goal

pub returns : goal.returns
unfolding preparable_peers
returns c =
    made-tabulate _ _ (λ i. cond (ltb i c.args.c.depots) (is_peer c.args.c.pid (i + 1) c.args.self) false) (λ i y q k. search (rules, tests)) false _ 7 c.from_fn.ensures.items
