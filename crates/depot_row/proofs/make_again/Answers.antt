-- `depot_row::make_again` meets its contract: the fresh book with the decided entries applied.
use Rattle.depot_row.proofs.Laws.{made-fresh}
use Rattle.hire_book.proofs.Sound.{fresh-sound}
use Rattle.depot_row.proofs.make_again.Goals as goal

pub apply_run-requires-clause-sound : goal.apply_run-requires-clause-sound
apply_run-requires-clause-sound c = rw (made-fresh c.args.book.now _ _ c.requires.book_len c.fresh.ensures) fresh-sound

pub returns : goal.returns
returns c = rw (c.apply_run.ensures, c.first.ensures, made-fresh c.args.book.now _ _ c.requires.book_len c.fresh.ensures)
