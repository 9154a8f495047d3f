-- `depot_row::perform` meets its contract: every list is what the plan makes of it.
use Rattle.step.specs.Step.{log_of}
use Rattle.depot_row.proofs.Laws.{newly-fit, finish}
use Rattle.depot_row.proofs.perform.Goals as goal

pub returns : goal.returns
returns c = finish c.args.e c.args.entries.now c.args.s c.args.r c.args.row c.args.log.now c.args.cached.now c.args.best.now c.args.store.now c.args.book.now _ _ _ _ _ _ _ _ c.write_lists.ensures.log_after c.write_lists.ensures.cached_after c.write_lists.ensures.best_after c.perform-queue.ensures c.keep_book.ensures c.handed_out.ensures c.store_record.ensures

pub keep_book-requires-clause-log_value : goal.keep_book-requires-clause-log_value
unfolding log_of
keep_book-requires-clause-log_value c =
    let h = c.requires.decided in
    rw c.write_lists.ensures.log_after (newly-fit c.args.r.internal_storage.decided_idx c.args.s.internal_storage.decided_idx _ h)
