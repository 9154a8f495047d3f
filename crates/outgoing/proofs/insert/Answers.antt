-- `outgoing::insert` meets its contract: the cells behind the place move up, and the entries are written there.
use native.Mathlib.Omega.{arith}
use Rattle.outgoing.proofs.Cells.{put_in}
use Rattle.storage.proofs.Laid.{put-part}
use mathlib.Core.Path.{◌∙◌}
use borrow.Author.Rules.{rules}
use Rattle.outgoing.proofs.insert.Goals as goal

pub returns : goal.returns
returns c = rw c.write_suffix.ensures (put-part c.args.at c.args.entries.now c.move_up.new.store (omega (arith, c.move_up.auto.store)) ∙ (rw c.move_up.ensures (put_in c.args.at c.args.used c.args.entries.now c.args.store.now (search rules) (search rules))))
