-- `sight::accdec_on` meets its contract: no message stands past the row, and the test that is passed in is the definition's.
use Rattle.std.proofs.Common.{refl, rules}
use Rattle.messages.specs.Messages.{is_accept_decide}
use Rattle.sight.specs.Sight.{accdec_at}
use Rattle.sight.proofs.accdec_on.Goals as goal

pub returns-in-Some : goal.returns-in-Some
unfolding accdec_at
returns-in-Some c = rw c.in-Some.is (c.waits.ensures is_accept_decide (record { at = λ m r p. search rules }) refl)
