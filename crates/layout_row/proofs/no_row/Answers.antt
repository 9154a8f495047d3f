-- `no_row` meets its contract: block by block, whether a word is above its most.
use Rattle.std.proofs.Common.{rules, refl, ◌∙◌}
use Rattle.std.proofs.lemmas.Iterator.{YieldsList-from_range}
use Rattle.std.proofs.lemmas.Iterator.Search.{any_from_yields_List}
use Rattle.layout_row.specs.Row.{head_most, no_row}
use Rattle.blocks.specs.Blocks.{block_at, above_most}
use Rattle.blocks.proofs.Any.{any-range}
use Rattle.layout_row.proofs.no_row.Goals as goal

pub returns : goal.returns
unfolding no_row
returns c =
    any_from_yields_List (λ i. above_most (head_most) (block_at i c.args.words.now)) c.any.new.self _ _ c.any.ensures.ran (YieldsList-from_range 0 64 64 refl refl) (λ i r q h. (search rules, search rules))
    ∙ any-range (λ i. above_most (head_most) (block_at i c.args.words.now)) 64
