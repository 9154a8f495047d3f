-- `put_places` meets its contract: so far the first places are written.
use Rattle.layout_record.proofs.Words.{place-turn}
use Rattle.layout_record.specs.Words.{places_at, place_words}
use Rattle.blocks.proofs.Mapped.{below_more}
use Rattle.blocks.proofs.Blocks.{put-none, put-every}
use Rattle.base.proofs.Lists.{length-mapped}
use Rattle.base.specs.Limits.{max_depots}
use lib.ListN.{length, length-map}
use borrow.Author.Rules.{rules}
use native.Mathlib.Omega.{arith}
use mathlib.Core.List.{map}
use mathlib.Core.Path.{◌≡◌, ◌∙◌}
use Rattle.layout_record.proofs.put_places.Goals as goal

pub loop-k-init : goal.loop-k-init
loop-k-init c =
    record { written = put-none places_at (map place_words c.args.l.depots) c.args.words.now; narrow = λ j h. absurd (omega arith) }

pub loop-k-preserved : goal.loop-k-preserved
loop-k-preserved c =
    let n : length c.args.l.depots ≡ max_depots = search (rules, length-mapped) in
    record {
      written = c.put_block.ensures ∙ place-turn c.args.l.depots c.loop-k.k c.args.words.now c.loop-k.words _ n c.requires c.loop-k-test.true c.loop-k.invariant.written c.place_block.ensures.value;
      narrow = below_more _ c.loop-k.k c.loop-k.invariant.narrow c.place_block.ensures.narrow_place;
    }

pub returns : goal.returns
returns c =
    let n : length c.args.l.depots ≡ max_depots = search (rules, length-mapped) in
    let k : c.loop-k.k ≡ length (map place_words c.args.l.depots) = omega (arith, n, length-map c.args.l.depots place_words) in
    record {
      words_after = put-every places_at (map place_words c.args.l.depots) c.loop-k.k c.args.words.now c.loop-k.words k c.loop-k.invariant.written;
      places_kept = (n, λ j h. c.loop-k.invariant.narrow j (omega arith));
    }
