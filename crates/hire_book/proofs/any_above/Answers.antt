-- `hire_book::any_above` meets its contract: what the chain answers, place by place.
use lib.Dec.{ltb}
use mathlib.Core.Path.{◌∙◌}
use borrow.Author.Rules.{rules}
use borrow.Author.Tests.{tests}
use Rattle.std.proofs.lemmas.Iterator.{YieldsList-from_slice}
use Rattle.std.proofs.lemmas.Iterator.Search.{any_from_yields_List}
use Rattle.base.specs.Limits.{max_entry}
use Rattle.hire_book.specs.Book.{any_above}
use Rattle.hire_book.proofs.Below.{any-places}
use Rattle.hire_book.proofs.any_above.Goals as goal

pub returns : goal.returns
unfolding any_above
returns c =
    let s = c.args.entries.now in
    any_from_yields_List (ltb max_entry) _ _ _ c.any.ensures.ran (YieldsList-from_slice s cc) (λ x b q k. search (rules, tests)) ∙ any-places (ltb max_entry) s 0
