-- `page::put_bad_line` meets its contract: three texts, one after the other.
use native.Mathlib.Omega.{arith}
use mathlib.Core.List.{[], ◌∷◌, ◌++◌}
use Rattle.decimal.specs.Digits.{decimal_of}
use Rattle.decimal.proofs.Digits.{decimal-length}
use Rattle.decimal.proofs.Text.{put-after}
use Rattle.page.specs.Page.{bad_line_of, bad_text, line_end}
use borrow.Author.Rules.{rules}
use Rattle.page.proofs.put_bad_line.Goals as goal

pub put_decimal-end-requires : goal.put_decimal-end-requires
put_decimal-end-requires c = omega (arith, c.requires, c.put_text-number.ensures.place, c.put_text-number.auto.out, decimal-length 19 c.args.line (search rules))

pub put-requires : goal.put-requires
put-requires c = omega (arith, c.requires, c.put_text-number.ensures.place, c.put_text-number.auto.out, c.put_decimal-end.ensures.place, c.put_decimal-end.auto.out, decimal-length 19 c.args.line (search rules))

pub returns : goal.returns
unfolding bad_line_of
returns c = put-after (bad_text ++ decimal_of c.args.line) (line_end ∷ []) (put-after bad_text (decimal_of c.args.line) c.put_text-number.ensures c.put_decimal-end.ensures) c.put.ensures
