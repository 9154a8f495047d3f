-- `decimal::put_decimal` meets its contract: the digits of n / 10, then the last; n falls.
use Rattle.std.proofs.Common.{ap, arith, length-append, ◌+◌, ◌/◌, ◌%◌, [], ◌∷◌, length}
use Rattle.decimal.specs.Digits.{digit0, decimal_of}
use Rattle.decimal.proofs.Digits.{decimal-one, decimal-more}
use Rattle.decimal.proofs.Text.{put-after}
use Rattle.decimal.proofs.+put_decimal.Goals as goal

pub put-requires : goal.put-requires
put-requires t c = omega (arith, c.requires, ap length (decimal-one c.args.n c.if-n-lt10.true))

pub returns-then-n-lt10 : goal.returns-then-n-lt10
returns-then-n-lt10 t c = rw (decimal-one c.args.n c.if-n-lt10.true) c.put.ensures

pub put_decimal-next-requires : goal.put_decimal-next-requires
put_decimal-next-requires t c =
    let fits = simp length-append at (ap length (decimal-more c.args.n c.if-n-lt10.false)) in
    (omega (arith, c.if-n-lt10.false), omega (arith, c.requires, fits))

pub put-requires-2 : goal.put-requires-2
put-requires-2 t c =
    let fits = simp length-append at (ap length (decimal-more c.args.n c.if-n-lt10.false)) in
    omega (arith, c.requires, c.put_decimal-next.ensures.place, fits)

pub returns : goal.returns
returns t c =
    rw (decimal-more c.args.n c.if-n-lt10.false)
    (put-after (decimal_of (c.args.n / 10)) ((digit0 + c.args.n % 10) ∷ []) c.put_decimal-next.ensures c.put-2.ensures)
