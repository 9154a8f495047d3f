-- Document 01, "Sequence numbers": same session and counter one higher: Expected. Otherwise not above one's own (session, then counter): Outdated. Otherwise DroppedPreceding.
use Rattle.std.specs.Prelude.{◌+◌, Bool, cond, ◌&&◌, ◌||◌, ltb, leb, eqb}
use Rattle.sequence.specs.declared.SequenceNumber.{SequenceNumber}
use Rattle.sequence.specs.declared.MessageStatus.{MessageStatus}
use Rattle.sequence.specs.declared.MessageStatus.TheVariants.{Expected, DroppedPreceding, Outdated}

-- the number that a fresh box and a new Prepare begin with
abbrev pub first : SequenceNumber
first = record { session = 0; counter = 0 }

-- not above: session, then counter
abbrev pub not_above : SequenceNumber → SequenceNumber → Bool
not_above m own = ltb m.session own.session || (eqb m.session own.session && leb m.counter own.counter)

abbrev pub one_higher : SequenceNumber → SequenceNumber → Bool
one_higher m own = eqb m.session own.session && eqb m.counter (own.counter + 1)

unfoldable pub status_of : SequenceNumber → SequenceNumber → MessageStatus
status_of own m = cond (one_higher m own) Expected (cond (not_above m own) Outdated DroppedPreceding)
