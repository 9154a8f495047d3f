-- `LeaderState::get_promised_followers` meets its contract: each place's call marks it.
use Rattle.std.proofs.Common.{◌+◌, cond, ltb, false, rules, tests}
use Rattle.leader_state.specs.Places.{is_follower, promised_followers}
use Rattle.leader_state.proofs.Rows.{made-tabulate}
use Rattle.leader_state.proofs.LeaderState.get_promised_followers.Goals as goal

pub returns : goal.returns
unfolding promised_followers
returns c =
    made-tabulate _ _ (λ i. cond (ltb i c.args.c.depots) (is_follower (i + 1) c.args.self) false) (λ i y q k. search (rules, tests)) false _ 7 c.from_fn.ensures.items
