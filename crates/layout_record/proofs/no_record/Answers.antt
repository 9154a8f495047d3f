-- `no_record` meets its contract: block by block, whether a word is above its most.
use Rattle.std.proofs.Common.{rules, refl, ◌∙◌}
use Rattle.std.proofs.lemmas.Iterator.{YieldsList-from_range}
use Rattle.std.proofs.lemmas.Iterator.Search.{any_from_yields_List}
use Rattle.layout_record.specs.Reading.{record_most, no_record}
use Rattle.blocks.specs.Blocks.{block_at, above_most}
use Rattle.blocks.proofs.Any.{any-range}
use Rattle.layout_record.proofs.no_record.Goals as goal

pub returns : goal.returns
unfolding no_record
returns c =
    any_from_yields_List (λ i. above_most (record_most i) (block_at i c.args.words.now)) c.any.new.self _ _ c.any.ensures.ran (YieldsList-from_range 0 12 12 refl refl) (λ i r q h. (search rules, search rules))
    ∙ any-range (λ i. above_most (record_most i) (block_at i c.args.words.now)) 12
