-- `sight::accdec_marks` meets its contract: each place is marked by what its call says.
use Rattle.std.proofs.Common.{ℕ, ◌+◌, cond, ltb, false, rules, tests}
use Rattle.leader_state.proofs.Rows.{made-tabulate}
use Rattle.leader_state.specs.State.{depot_of}
use Rattle.sight.specs.Sight.{accdec_on, accdec_marks}
use Rattle.sight.proofs.accdec_marks.Goals as goal

pub returns : goal.returns
unfolding accdec_marks
returns c =
    let mark = λ (i : ℕ). cond (ltb i c.args.c.depots) (accdec_on c.args.row.now c.args.r.now.outgoing (depot_of (i + 1) c.args.r.now.leader_state).latest) false in
    made-tabulate _ _ mark (λ i y q k. search (rules, tests)) false _ 7 c.from_fn.ensures.items
