-- `hire_book::any_broken` meets its contract: what the chain answers, pump by pump.
use mathlib.Core.Path.{◌∙◌, refl}
use borrow.Author.Rules.{rules}
use borrow.Author.Tests.{tests}
use Rattle.std.proofs.lemmas.Iterator.{YieldsList-from_range}
use Rattle.std.proofs.lemmas.Iterator.Search.{any_from_yields_List}
use Rattle.base.specs.Limits.{pumps}
use Rattle.hire_book.specs.Book.{broken_of, pump_broken}
use Rattle.hire_book.proofs.Below.{any-range}
use Rattle.hire_book.proofs.any_broken.Goals as goal

pub returns : goal.returns
unfolding broken_of
returns c =
    let book = c.args.book.now in
    any_from_yields_List (pump_broken book) _ _ _ c.any.ensures.ran (YieldsList-from_range 0 pumps pumps refl refl) (λ x b q k. search (rules, tests)) ∙ any-range (pump_broken book) pumps
