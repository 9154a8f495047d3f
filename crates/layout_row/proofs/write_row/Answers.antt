-- `write_row` meets its contract: so far the first heads are written.
use Rattle.layout_row.proofs.Back.{row_back, row-means, head-turn, row_written}
use Rattle.layout_row.specs.Row.{head_words, row_words, KeptRow, no_row, row_in}
use Rattle.blocks.proofs.Mapped.{below_more}
use Rattle.blocks.proofs.Blocks.{put-none, put-every}
use Rattle.base.proofs.Lists.{length-mapped}
use Rattle.base.specs.Limits.{max_messages}
use lib.ListN.{length, length-map}
use borrow.Author.Rules.{rules}
use native.Mathlib.Omega.{arith}
use mathlib.Core.List.{map}
use mathlib.Core.Path.{◌≡◌, ap, ◌∙◌}
use Rattle.layout_row.proofs.write_row.Goals as goal

pub loop-i-init : goal.loop-i-init
loop-i-init c =
    record { written = put-none 0 (map head_words c.args.row.heads) c.args.words.now; narrow = λ j h. absurd (omega arith) }

pub loop-i-preserved : goal.loop-i-preserved
loop-i-preserved c =
    let n : length c.args.row.heads ≡ max_messages = search (rules, length-mapped) in
    record {
      written = c.put_block.ensures ∙ head-turn c.args.row.heads c.loop-i.i c.args.words.now c.loop-i.words _ (omega (arith, n, c.loop-i-test.true)) c.loop-i.invariant.written c.head_block.ensures.value;
      narrow = below_more _ c.loop-i.i c.loop-i.invariant.narrow c.head_block.ensures.narrow_head;
    }

pub returns : goal.returns
returns c =
    let n : length c.args.row.heads ≡ max_messages = search (rules, length-mapped) in
    let e : c.loop-i.i ≡ length (map head_words c.args.row.heads) = omega (arith, n, length-map c.args.row.heads head_words) in
    let k : KeptRow c.args.row = (n, λ j h. c.loop-i.invariant.narrow j (omega arith)) in
    let w : c.loop-i.words ≡ row_words c.args.row = row_written c.args.row c.args.words.now c.loop-i.words n c.requires (put-every 0 (map head_words c.args.row.heads) c.loop-i.i c.args.words.now c.loop-i.words e c.loop-i.invariant.written) in
    record { words_after = w; words_after_2 = ap row_in w ∙ row_back c.args.row k; words_after_3 = ap no_row w ∙ row-means c.args.row k }
