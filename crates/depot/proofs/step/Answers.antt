-- `depot::step` meets its contract: the row by value is a snapshot of the lent one, the step is taken on it, and it is written back.
use Rattle.std.proofs.Common.{◌≡◌, ◌∙◌, sym, ap, length, rules}
use Rattle.base.specs.Limits.{max_messages}
use Rattle.base.proofs.Lists.{length-mapped}
use Rattle.messages.specs.declared.Row.{Row}
use Rattle.broken.specs.Lent.{lent}
use Rattle.step.specs.Step.{Outcome, world, seen}
use Rattle.depot.specs.Heads.{step_sized}
use Rattle.depot.proofs.Laws.{outcome, written_back, heads-stepped}
use Rattle.depot.proofs.step.Goals as goal

pub returns : goal.returns
returns c =
    let hs = c.args.heads.now in
    let es = c.args.entries.now in
    let l = lent c.args.log.now c.args.cached.now c.args.best.now c.args.store.now c.args.book.now in
    let s = c.step_sized-s.result in
    let left = lent c.step_sized-s.new.log c.step_sized-s.new.cached c.step_sized-s.new.best c.step_sized-s.new.store c.step_sized-s.new.book in
    let on-snapshot : seen s left ≡ outcome c.args.c c.args.e es c.args.r hs l =
    c.step_sized-s.ensures ∙ ap (λ (row : Row). step_sized (length hs) c.args.c c.args.e es (world c.args.r row l)) c.snapshot-row.ensures in
    let n : length s.row.heads ≡ max_messages = search (rules, length-mapped) in
    let k = ap (λ (o : Outcome). length o.after.row.heads) (sym on-snapshot) ∙ n in
    rw c.apply.ensures
    (ap (written_back hs) on-snapshot ∙ heads-stepped c.args.c c.args.e es c.args.r hs l k)
