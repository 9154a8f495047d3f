-- `outgoing::join` meets its contract: the entries are put in where the message's own end.
use Rattle.outgoing.proofs.Edits.{end-packed, end-there, join-lent, no_place}
use Rattle.outgoing.specs.Perform.{joined}
use Rattle.outgoing.specs.Queue.{lent}
use Rattle.messages.specs.Messages.{no_head}
use lib.ListN.{get_or}
use native.Mathlib.Numerals.{add-one}
use native.Mathlib.Omega.{arith}
use mathlib.Core.Path.{◌≡◌, ◌∙◌}
use Prim.Native.Nat.{◌+◌}
use borrow.Author.Rules.{rules}
use Rattle.outgoing.proofs.join.Goals as goal

pub returns-then-len-j : goal.returns-then-len-j
returns-then-len-j c = no_place c.args.len (lent c.args.row.now c.args.store.now) c.args.j.at (joined c.args.j.decided_idx c.args.entries.now) c.requires.packed c.if-len-j.true

pub end_of-end-requires-clause-heads_bound : goal.end_of-end-requires-clause-heads_bound
end_of-end-requires-clause-heads_bound c = rw add-one (omega (arith, end-there c.args.len c.args.row.now c.args.store.now c.requires.packed c.args.j.at no_head (search rules), c.requires.packed.within))

pub end_of-used-requires-clause-heads_bound : goal.end_of-used-requires-clause-heads_bound
end_of-used-requires-clause-heads_bound c = omega (arith, end-packed c.args.len c.args.row.now c.args.store.now c.requires.packed, c.requires.packed.within)

pub insert-requires-clause-at_le_used : goal.insert-requires-clause-at_le_used
insert-requires-clause-at_le_used c = let e : c.end_of-end.result ≡ (get_or c.args.row.now.heads c.args.j.at no_head).start + (get_or c.args.row.now.heads c.args.j.at no_head).count = rw add-one at c.end_of-end.ensures in
    let u = c.end_of-used.ensures ∙ end-packed c.args.len c.args.row.now c.args.store.now c.requires.packed in
    let f = end-there c.args.len c.args.row.now c.args.store.now c.requires.packed c.args.j.at no_head (search rules) in
    omega (arith, e, u, f)

pub insert-requires-clause-entries_in_bounds : goal.insert-requires-clause-entries_in_bounds
insert-requires-clause-entries_in_bounds c = let e : c.end_of-end.result ≡ (get_or c.args.row.now.heads c.args.j.at no_head).start + (get_or c.args.row.now.heads c.args.j.at no_head).count = rw add-one at c.end_of-end.ensures in
    let u = c.end_of-used.ensures ∙ end-packed c.args.len c.args.row.now c.args.store.now c.requires.packed in
    let f = end-there c.args.len c.args.row.now c.args.store.now c.requires.packed c.args.j.at no_head (search rules) in
    omega (arith, u, c.requires)

pub join_head-requires-clause-row_bound : goal.join_head-requires-clause-row_bound
join_head-requires-clause-row_bound c = let f = end-there c.args.len c.args.row.now c.args.store.now c.requires.packed c.args.j.at no_head (search rules) in
    rw add-one (omega (arith, f, c.requires))

pub returns : goal.returns
returns c = rw (c.join_head.ensures, c.insert.ensures) (join-lent c.args.len c.args.row.now c.args.store.now c.args.j c.args.entries.now c.end_of-end.result c.end_of-used.result c.requires.packed (search rules) c.end_of-end.ensures c.end_of-used.ensures)
