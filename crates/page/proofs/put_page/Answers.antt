-- `page::put_page` meets its contract: five texts, one after the other, that fit together.
use native.Mathlib.Omega.{arith}
use mathlib.Core.List.{[], ◌∷◌, ◌++◌}
use Rattle.base.specs.Limits.{pumps}
use Rattle.decimal.specs.Digits.{decimal_of}
use Rattle.decimal.proofs.Text.{put-after}
use Rattle.hire_book.specs.Book.{charged, stored_days}
use Rattle.page.specs.Page.{page_of, head_text, total_text, rows_below, line_end}
use Rattle.page.proofs.Sizes.{rows-length, total-length}
use borrow.Author.Rules.{rules}
use Rattle.page.proofs.put_page.Goals as goal

pub put_text-number-requires : goal.put_text-number-requires
put_text-number-requires c = omega (arith, c.requires.report_bytes_in_bounds, c.put_text-rows.ensures.place, c.put_text-rows.auto.out, c.put_rows-total.ensures.place, c.put_rows-total.auto.out, rows-length c.requires.sound pumps (search rules))

pub put_decimal-end-requires : goal.put_decimal-end-requires
put_decimal-end-requires c = rw c.sum_days.ensures (omega (arith, c.requires.report_bytes_in_bounds, c.put_text-rows.ensures.place, c.put_text-rows.auto.out, c.put_rows-total.ensures.place, c.put_rows-total.auto.out, c.put_text-number.ensures.place, c.put_text-number.auto.out, rows-length c.requires.sound pumps (search rules), total-length c.requires.sound))

pub put-requires : goal.put-requires
put-requires c = let d = rw c.sum_days.ensures at c.put_decimal-end.ensures in
    omega (arith, c.requires.report_bytes_in_bounds, c.put_text-rows.ensures.place, c.put_text-rows.auto.out, c.put_rows-total.ensures.place, c.put_rows-total.auto.out, c.put_text-number.ensures.place, c.put_text-number.auto.out, d.place, c.put_decimal-end.auto.out, rows-length c.requires.sound pumps (search rules), total-length c.requires.sound)

pub returns : goal.returns
unfolding page_of
returns c = let rows = rows_below (charged c.args.book.now) pumps in
    let sum = decimal_of (stored_days c.args.book.now) in
    put-after (head_text ++ rows ++ total_text ++ sum) (line_end ∷ []) (put-after (head_text ++ rows ++ total_text) sum (put-after (head_text ++ rows) total_text (put-after head_text rows c.put_text-rows.ensures c.put_rows-total.ensures) c.put_text-number.ensures) (rw c.sum_days.ensures at c.put_decimal-end.ensures)) c.put.ensures
