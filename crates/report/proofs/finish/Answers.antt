-- `report::finish` meets its contract.
use Rattle.report.proofs.Reading.{ended-sound, finished, not-wrong}
use lib.ListN.{length}
use borrow.Author.Tests.{le-ltb}
use Rattle.page.specs.Page.{report_bytes}
use Rattle.report.specs.Reading.{reading}
use Rattle.report.specs.Step.{finish_step}
use Rattle.report.proofs.finish.Goals as goal

pub put_report-requires-clause-sound : goal.put_report-requires-clause-sound
put_report-requires-clause-sound c = ended-sound (reading c.args.reader c.args.book.now) c.take_last-last.ensures c.in_ok-check.ensures.sound

pub returns-clause-out_after : goal.returns-clause-out_after
unfolding finish_step
returns-clause-out_after c =
    let s = c.in_ok-check.ensures.sound in
    rw (not-wrong s, le-ltb (length c.args.out.now) report_bytes c.if-out-lt-REPORT_BYTES.false, s.kept)
    (finished (reading c.args.reader c.args.book.now) (reading c.take_last-last.result c.take_last-last.new.book) c.args.out.now c.put_report.new.out c.put_report.result c.take_last-last.ensures c.put_report.ensures)
