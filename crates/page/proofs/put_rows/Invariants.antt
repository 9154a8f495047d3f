-- `page::put_rows` meets its contract: after n turns the lines of the pumps below n stand in the buffer.
use Rattle.decimal.specs.Text.{Put}
use Rattle.hire_book.specs.Book.{charged}
use Rattle.page.specs.Page.{rows_below}
use Rattle.page.proofs.put_rows.Given as goal

abbrev pub invariant-loop-pump : goal.invariant-loop-pump
invariant-loop-pump l = Put l.initial.out l.at (rows_below (charged l.book) l.pump) l.next l.out
