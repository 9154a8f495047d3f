-- `hire_book::bring_back` meets its contract: a sound book has room for the days charged.
use native.Mathlib.Omega.{arith}
use borrow.Author.Rules.{rules}
use Rattle.hire_book.proofs.Sound.{sound-pump}
use Rattle.hire_book.proofs.bring_back.Goals as goal

pub overflow_add-book-4 : goal.overflow_add-book-4
overflow_add-book-4 c = let k = sound-pump c.requires.sound c.args.pump (search rules) in let a = k.after (omega arith) in search rules
