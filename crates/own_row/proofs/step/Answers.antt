-- `own_row::step` meets its contract: the lent row has 64 heads, so the step on it is the whole step.
use Rattle.std.proofs.Common.{◌≡◌, ◌∙◌, sym, length, rules}
use Rattle.base.specs.Limits.{max_messages}
use Rattle.base.proofs.Lists.{length-mapped}
use Rattle.outgoing.specs.Packing.{row_of}
use Rattle.broken.specs.Lent.{lent}
use Rattle.step.specs.Step.{world}
use Rattle.depot.proofs.Laws.{sized-taken}
use Rattle.own_row.proofs.step.Goals as goal

pub returns : goal.returns
returns c =
    let l = lent c.args.log.now c.args.cached.now c.args.best.now c.args.store.now c.args.book.now in
    let n : length c.args.row.heads ≡ max_messages = search (rules, length-mapped) in
    (c.step-x.ensures ∙ sym (sized-taken c.args.c c.args.e c.args.entries.now (world c.args.r (row_of c.args.row.heads) l) (length c.args.row.heads) n))
