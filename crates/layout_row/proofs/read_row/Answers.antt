-- `read_row` meets its contract: head by head, what its block means.
use Rattle.std.proofs.Common.{rules}
use Rattle.layout_row.specs.Row.{zero_head, head_in, row_in}
use Rattle.blocks.specs.Blocks.{block_at}
use Rattle.blocks.proofs.Filled.{made}
use Rattle.layout_row.proofs.read_row.Goals as goal

pub returns : goal.returns
unfolding row_in
returns c =
    let all = made _ _ (λ i. head_in (block_at i c.args.words.now)) (λ i x q h. (search rules, search rules)) _ 64 zero_head c.from_fn.ensures.items in
    rw all
