-- `hire_book::apply_run` meets its contract: the book is the entries passed so far applied to the one lent, and stays sound.
use lib.ListN.{get_or}
use borrow.Author.Rules.{rules}
use Rattle.hire_book.proofs.Entries.{apply-more, within}
use Rattle.hire_book.proofs.Sound.{apply-sound}
use Rattle.hire_book.proofs.apply_run.Goals as goal

pub apply_fit-requires-clause-le_max_entry : goal.apply_fit-requires-clause-le_max_entry
apply_fit-requires-clause-le_max_entry c = within c.args.entries.now c.requires.entries_value c.loop-entry.entry-index (search rules)

pub loop-entry-preserved : goal.loop-entry-preserved
loop-entry-preserved c = let es = c.args.entries.now in
    let i = c.loop-entry.entry-index in
    let fits = within es c.requires.entries_value i (search rules) in (
      rw c.apply_fit.ensures (apply-sound (get_or es i 0) c.loop-entry.book fits c.loop-entry.invariant.0),
      rw (apply-more es c.args.book.now i (search rules), ← c.loop-entry.invariant.1) c.apply_fit.ensures,
    )
