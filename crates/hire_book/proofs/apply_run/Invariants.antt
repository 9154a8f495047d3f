-- `hire_book::apply_run` meets its contract: the book is the entries passed so far applied to the one lent, and stays sound.
use mathlib.Core.Path.{◌≡◌}
use lib.ListN.{take}
use Rattle.hire_book.specs.Book.{apply_all, Sound}
use Rattle.hire_book.proofs.apply_run.Given as goal

abbrev pub invariant-loop-entry : goal.invariant-loop-entry
invariant-loop-entry l = Sound l.book × (l.book ≡ apply_all (take l.entry-index l.entries) l.initial.book)
