-- `above_most` meets its contract: the words and their most go side by side.
use Rattle.std.proofs.Common.{rules, ◌≡◌, ◌∙◌, sym, length}
use Rattle.std.proofs.lemmas.Iterator.{YieldsList-from_slice, YieldsList-from_zip}
use Rattle.std.proofs.lemmas.Iterator.Search.{any_from_yields_List}
use Rattle.blocks.specs.Blocks.{over_most, above_most}
use Rattle.blocks.proofs.Any.{any-zip}
use Rattle.blocks.proofs.above_most.Goals as goal

pub returns : goal.returns
unfolding above_most
returns c =
    let n : length c.args.b ≡ 16 = search rules in
    let m : length c.args.most ≡ 16 = search rules in
    any_from_yields_List (λ p. over_most p.1 p.0) c.any.new.self _ _ c.any.ensures.ran (YieldsList-from_zip (YieldsList-from_slice c.args.b (search rules)) (YieldsList-from_slice c.args.most (search rules))) (λ x r q h. (search rules, search rules))
    ∙ any-zip (λ p. over_most p.1 p.0) 0 0 c.args.b c.args.most (n ∙ sym m)
    ∙ rw n
