-- `decimal::put_text` meets its contract: the text is copied onto its part of the buffer.
use native.Mathlib.Omega.{arith}
use Rattle.decimal.proofs.Text.{put-copied}
use Rattle.decimal.proofs.put_text.Goals as goal

pub returns : goal.returns
returns c = put-copied c.args.text.now c.copy_from_slice.new.self c.args.at _ c.requires c.copy_from_slice.ensures.after (omega arith)
