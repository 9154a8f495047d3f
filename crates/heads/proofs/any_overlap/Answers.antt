-- `heads::any_overlap` meets its contract: no head passed overlaps one before it.
use Rattle.std.proofs.Common.{◌≡◌, arith, sym, ◌∙◌}
use lib.ListN.{length-take}
use Rattle.messages.specs.declared.Head.{Head}
use Rattle.hire_book.proofs.Below.{found, none_more}
use Rattle.sight.proofs.Heads.{shown, in_row}
use Rattle.heads.specs.Heads.{any_head, heads_overlap, overlaps, any_overlap}
use Rattle.heads.proofs.any_overlap.Goals as goal

pub returns-then-overlaps_before : goal.returns-then-overlaps_before
unfolding any_overlap
returns-then-overlaps_before c =
    let e = shown c.args.row.now c.args.len c.loop-j.j c.loop-j-test.true (λ (x : Head). c.overlaps_before.result ≡ any_head (heads_overlap x) c.args.row.now c.loop-j.j) _ c.overlaps_before.ensures in
    sym (found (overlaps c.args.row.now) c.args.len c.loop-j.j (in_row c.args.row.now c.args.len c.loop-j.j c.loop-j-test.true) (sym e ∙ c.if-overlaps_before.true))

pub loop-j-preserved : goal.loop-j-preserved
loop-j-preserved c =
    let e = shown c.args.row.now c.args.len c.loop-j.j c.loop-j-test.true (λ (x : Head). c.overlaps_before.result ≡ any_head (heads_overlap x) c.args.row.now c.loop-j.j) _ c.overlaps_before.ensures in
    none_more (overlaps c.args.row.now) c.loop-j.j c.loop-j.invariant (sym e ∙ c.if-overlaps_before.false)

pub returns : goal.returns
unfolding any_overlap
returns c = let e : c.loop-j.j ≡ c.args.len = omega (arith, length-take c.args.len c.args.row.now.heads) in rw e at (sym c.loop-j.invariant)
