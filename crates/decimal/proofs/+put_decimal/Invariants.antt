-- `decimal::put_decimal` ends: n falls.
use Rattle.decimal.proofs.+put_decimal.Given as goal

abbrev pub decreases-put_decimal : goal.decreases-put_decimal
decreases-put_decimal l = l.n
