-- `page::put_row` meets its contract: nothing for no days, else four texts, one after the other.
use native.Mathlib.Omega.{arith}
use mathlib.Core.Path.{refl}
use mathlib.Core.List.{[], ◌∷◌, ◌++◌}
use Rattle.decimal.specs.Digits.{decimal_of}
use Rattle.decimal.proofs.Text.{put-after}
use Rattle.page.specs.Page.{space, line_end}
use Rattle.page.proofs.Rows.{row-none, row-some}
use Rattle.page.proofs.Sizes.{row-size}
use Rattle.page.proofs.put_row.Goals as goal

pub returns-then-days-eq0 : goal.returns-then-days-eq0
returns-then-days-eq0 c = rw (row-none c.args.pump c.args.days c.if-days-eq0.true) (record { room = omega (arith, c.requires); place = omega arith; bytes = refl })

pub put_decimal-space-requires : goal.put_decimal-space-requires
put_decimal-space-requires c = omega (arith, c.requires, row-size c.args.pump c.args.days c.if-days-eq0.false)

pub put-number-requires : goal.put-number-requires
put-number-requires c = omega (arith, c.requires, c.put_decimal-space.ensures.place, c.put_decimal-space.auto.out, row-size c.args.pump c.args.days c.if-days-eq0.false)

pub put_decimal-end-requires : goal.put_decimal-end-requires
put_decimal-end-requires c = omega (arith, c.requires, c.put_decimal-space.ensures.place, c.put_decimal-space.auto.out, c.put-number.ensures.place, c.put-number.auto.out, row-size c.args.pump c.args.days c.if-days-eq0.false)

pub put-requires : goal.put-requires
put-requires c = omega (arith, c.requires, c.put_decimal-space.ensures.place, c.put_decimal-space.auto.out, c.put-number.ensures.place, c.put-number.auto.out, c.put_decimal-end.ensures.place, c.put_decimal-end.auto.out, row-size c.args.pump c.args.days c.if-days-eq0.false)

pub returns : goal.returns
returns c = rw (row-some c.args.pump c.args.days c.if-days-eq0.false) (put-after (decimal_of c.args.pump ++ (space ∷ []) ++ decimal_of c.args.days) (line_end ∷ []) (put-after (decimal_of c.args.pump ++ (space ∷ [])) (decimal_of c.args.days) (put-after (decimal_of c.args.pump) (space ∷ []) c.put_decimal-space.ensures c.put-number.ensures) c.put_decimal-end.ensures) c.put.ensures)
