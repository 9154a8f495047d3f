-- `page::put_rows` meets its contract: after n turns the lines of the pumps below n stand in the buffer.
use native.Mathlib.Omega.{arith}
use borrow.Author.Rules.{rules}
use Rattle.decimal.proofs.Text.{put-after}
use Rattle.hire_book.specs.Book.{charged}
use Rattle.page.specs.Page.{row_of, rows_below}
use Rattle.page.proofs.Rows.{rows_more}
use Rattle.page.proofs.Sizes.{row-length, rows-length, charged-fits}
use Rattle.page.proofs.put_rows.Goals as goal

pub put_row-next-requires : goal.put_row-next-requires
put_row-next-requires c = omega (arith, c.requires.row_bytes_in_bounds, c.loop-pump.invariant.place, rows-length c.requires.sound c.loop-pump.pump (search rules), row-length c.loop-pump.pump (charged c.args.book.now c.loop-pump.pump) (search rules) (charged-fits c.requires.sound c.loop-pump.pump (search rules)))

pub loop-pump-preserved : goal.loop-pump-preserved
loop-pump-preserved c = rw (rows_more (charged c.args.book.now) c.loop-pump.pump) (put-after (rows_below (charged c.args.book.now) c.loop-pump.pump) (row_of c.loop-pump.pump (charged c.args.book.now c.loop-pump.pump)) c.loop-pump.invariant c.put_row-next.ensures)
