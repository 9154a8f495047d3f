-- `refusals::refusal` meets its contract: where refusal 1 is not given, refusal 2 may be tested.
use mathlib.Core.Path.{sym, ◌∙◌}
use Rattle.broken.specs.Lent.{lent_of}
use Rattle.refusals.proofs.Says.{call-says}
use Rattle.refusals.proofs.refusal.Goals as goal

pub broken-requires-clause-depots_le_max_depots : goal.broken-requires-clause-depots_le_max_depots
broken-requires-clause-depots_le_max_depots c = let s = call-says c.args.c (lent_of c.args.lists) (sym c.wrong_call.ensures ∙ c.if-wrong_call.false) in s.0.most

pub broken-requires-clause-book_len : goal.broken-requires-clause-book_len
broken-requires-clause-book_len c = let s = call-says c.args.c (lent_of c.args.lists) (sym c.wrong_call.ensures ∙ c.if-wrong_call.false) in s.1.book
