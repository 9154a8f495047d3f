-- `places_in` meets its contract: place by place, what its block means.
use Rattle.layout_record.proofs.places_in.Goals as goal
use Rattle.std.proofs.Common.{rules, ◌+◌}
use Rattle.layout_record.specs.Reading.{place_in}
use Rattle.blocks.specs.Blocks.{block_at}
use Rattle.blocks.proofs.Filled.{made}
use Rattle.leader_state.specs.State.{fresh}

pub returns : goal.returns
returns c =
    made _ _ (λ i. place_in (block_at (5 + i) c.args.words.now)) (λ i y q h. (search rules, search rules)) _ 7 fresh c.from_fn.ensures.items
