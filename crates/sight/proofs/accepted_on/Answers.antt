-- `sight::accepted_on` meets its contract: no message stands past the row, and the test that is passed in is the definition's.
use Rattle.std.proofs.Common.{refl, rules}
use Rattle.messages.specs.Messages.{is_accepted}
use Rattle.sight.specs.Sight.{accepted_at}
use Rattle.sight.proofs.accepted_on.Goals as goal

pub returns-in-Some : goal.returns-in-Some
unfolding accepted_at
returns-in-Some c = rw c.in-Some.is (c.waits.ensures is_accepted (record { at = λ m r p. search rules }) refl)
