-- `Reader::take_part` meets its contract: after i turns the first i bytes are read, and the book is sound.
use Rattle.report.proofs.Reading.{feed-turn, turn-sound}
use lib.ListN.{get_or}
use borrow.Author.Rules.{rules}
use Rattle.report.specs.Reading.{reading}
use Rattle.report.proofs.Reader.take_part.Goals as goal

pub loop-byte-preserved : goal.loop-byte-preserved
loop-byte-preserved c =
    let i = c.loop-byte.byte-index in (
      turn-sound (get_or c.args.part.now i 0) (reading c.loop-byte.at c.loop-byte.book) c.take_byte.ensures c.loop-byte.invariant.0,
      feed-turn (reading c.args.self c.args.book.now) c.args.part.now i (search rules) c.loop-byte.invariant.1 c.take_byte.ensures,
    )
