-- `outgoing::gather` meets its contract: what is to be gathered is what is left, behind the entries of the heads passed.
use Rattle.std.proofs.Common.{sym, ◌∙◌, arith, rules}
use lib.ListN.{length-drop, take, drop, get_or}
use Rattle.outgoing.proofs.Turns.{unset, gather-turn, gather-end, carried-next, whole-at}
use Rattle.outgoing.specs.Queue.{entries_at}
use Rattle.storage.proofs.Laid.{at_most, put-part, whole_part}
use Rattle.outgoing.proofs.gather.Goals as goal

pub write_suffix-requires : goal.write_suffix-requires
write_suffix-requires c =
    let hs = take c.args.len c.args.row.now.heads in
    let h = get_or hs c.loop-h.h-index unset in
    let n = carried-next hs c.loop-h.h-index unset (search rules) in
    rw (whole_part c.loop-h.out c.loop-h.at (search rules), length-drop) (omega (arith, at_most h.count (drop h.start c.args.store.now) _ c.part.ensures, n))

pub overflow_add-at : goal.overflow_add-at
overflow_add-at c = omega (arith, carried-next (take c.args.len c.args.row.now.heads) c.loop-h.h-index unset (search rules))

pub loop-h-preserved : goal.loop-h-preserved
loop-h-preserved c =
    let hs = take c.args.len c.args.row.now.heads in
    let h = get_or hs c.loop-h.h-index unset in
    let n = carried-next hs c.loop-h.h-index unset (search rules) in
    let w = whole-at c.args.store.now hs c.loop-h.h-index unset c.requires.whole (search rules) in
    rw (c.write_suffix.ensures, c.part.ensures, put-part c.loop-h.at (entries_at c.args.store.now h) c.loop-h.out (search rules))
    (omega (arith, n), gather-turn c.args.store.now hs c.loop-h.h-index c.loop-h.at c.loop-h.out unset (search rules) (search rules) w ∙ c.loop-h.invariant.1)

pub returns : goal.returns
returns c =
    sym (gather-end c.args.store.now (take c.args.len c.args.row.now.heads) c.loop-h.h-index c.loop-h.at c.loop-h.out (search rules)) ∙ c.loop-h.invariant.1
