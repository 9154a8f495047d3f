-- `peers` meets its contract: each place's call marks it.
use Rattle.std.proofs.Common.{◌+◌, cond, eqb, ltb, not, false, rules, tests}
use Rattle.leader_state.proofs.Rows.{made-tabulate}
use Rattle.sends.specs.Sends.{peers_of}
use Rattle.sends.proofs.peers.Goals as goal

pub returns : goal.returns
unfolding peers_of
returns c =
    made-tabulate _ _ (λ i. cond (ltb i c.args.c.depots) (not (eqb (i + 1) c.args.c.pid)) false) (λ i y q k. search (rules, tests)) false _ 7 c.from_fn.ensures.items
