-- `depots_report` meets its contract.
use Rattle.depot_link.specs.Report.{text_of, report_in}
use Rattle.decimal.proofs.Text.{put-start}
use Rattle.hire_book.specs.Book.{book_length}
use Rattle.page.specs.Page.{report_bytes}
use native.Mathlib.Nat.{zero-add}
use lib.ListN.{length}
use borrow.Author.Tests.{eq-eqb, le-ltb}
use mathlib.Core.Path.{sym}
use Rattle.depot_link.proofs.depots_report.Goals as goal

pub returns : goal.returns
unfolding report_in
returns c = rw (eq-eqb (length c.args.book.now) book_length c.if-book-ne-BOOK.false, le-ltb (length c.args.out.now) report_bytes c.if-out-lt-REPORT_BYTES.false, sym c.any_broken.ensures, c.if-any_broken.false, c.put_page-n.ensures.place, put-start (text_of c.args.book.now) c.put_page-n.ensures, zero-add)
