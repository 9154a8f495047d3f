-- `outgoing::push` meets its contract: the used cells end where the last head's entries end.
use lib.ListN.{length-drop, length, take}
use Rattle.outgoing.proofs.Edits.{end-packed, push-laid, lent_same}
use Rattle.outgoing.specs.Perform.{carried}
use Rattle.storage.proofs.Laid.{put-part, whole_part}
use Rattle.base.proofs.Lists.{length-mapped}
use native.Mathlib.Omega.{arith}
use mathlib.Core.Path.{◌≡◌, refl, sym, ◌∙◌}
use borrow.Author.Rules.{rules}
use Rattle.outgoing.proofs.push.Goals as goal

pub end_of-start-requires-clause-heads_bound : goal.end_of-start-requires-clause-heads_bound
end_of-start-requires-clause-heads_bound c = omega (arith, end-packed c.args.len c.args.row.now c.args.store.now c.requires.packed, c.requires.packed.within)

pub offset_bounds-store-start : goal.offset_bounds-store-start
offset_bounds-store-start c = omega (arith, c.end_of-start.ensures, end-packed c.args.len c.args.row.now c.args.store.now c.requires.packed, c.requires.packed.within)

pub slice_bounds-write_suffix-count : goal.slice_bounds-write_suffix-count
slice_bounds-write_suffix-count c = omega (arith, c.end_of-start.ensures, end-packed c.args.len c.args.row.now c.args.store.now c.requires.packed, c.requires.packed.within)

pub write_suffix-requires : goal.write_suffix-requires
write_suffix-requires c = rw (whole_part c.args.store.now c.end_of-start.result (omega (arith, c.end_of-start.ensures, end-packed c.args.len c.args.row.now c.args.store.now c.requires.packed, c.requires.packed.within)), length-drop) (omega (arith, c.end_of-start.ensures, end-packed c.args.len c.args.row.now c.args.store.now c.requires.packed))

pub returns : goal.returns
returns c = let u = carried (take c.args.len c.args.row.now.heads) in
    let n : length c.args.row.now.heads ≡ 64 = search (rules, length-mapped) in
    let e : c.end_of-start.result ≡ u = c.end_of-start.ensures ∙ end-packed c.args.len c.args.row.now c.args.store.now c.requires.packed in
    rw (c.write_suffix.ensures, e)
    (lent_same refl (put-part u c.args.entries.now c.args.store.now c.requires.packed.within) ∙ sym (push-laid c.args.len c.args.row.now c.args.store.now (record { to = c.args.to; msg = c.args.msg; entries = c.args.entries.now }) c.requires.packed (search rules)))

pub slice_bounds-write_suffix-start : goal.slice_bounds-write_suffix-start
slice_bounds-write_suffix-start c = omega (arith, c.end_of-start.ensures, end-packed c.args.len c.args.row.now c.args.store.now c.requires.packed, c.requires.packed.within)
