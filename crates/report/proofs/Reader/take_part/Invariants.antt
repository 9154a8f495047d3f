-- `Reader::take_part` meets its contract: after i turns the first i bytes are read, and the book is sound.
use mathlib.Core.Path.{◌≡◌}
use lib.ListN.{take}
use Rattle.hire_book.specs.Book.{Sound}
use Rattle.report.specs.Reading.{reading, feed_of}
use Rattle.report.proofs.Reader.take_part.Given as goal

abbrev pub invariant-loop-byte : goal.invariant-loop-byte
invariant-loop-byte l = Sound l.book × (reading l.at l.book ≡ feed_of (reading l.initial.at l.initial.book) (take l.byte-index l.part))
