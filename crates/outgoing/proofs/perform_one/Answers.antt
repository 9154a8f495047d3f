-- `outgoing::perform_one` meets its contract, by cases on the thing.
use Rattle.outgoing.proofs.Edits.{raise-lent}
use Rattle.messages.specs.declared.Row.{Row}
use Rattle.outgoing.specs.Queue.{lent}
use mathlib.Core.Path.{◌∙◌, ap}
use Rattle.outgoing.proofs.perform_one.Goals as goal

pub returns-in-Raise : goal.returns-in-Raise
returns-in-Raise c = rw c.in-Raise.is (ap (λ (r : Row). lent r c.args.store.now) c.raise.ensures ∙ raise-lent c.args.len c.args.row.now c.args.store.now c.in-Raise.r c.requires.packed)
