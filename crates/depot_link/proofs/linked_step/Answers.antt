-- `linked_step` meets its contract.
use Rattle.depot_link.proofs.Link.{words_right, link-back, link-off}
use Rattle.depot_link.specs.Link.{held}
use Rattle.broken.specs.Lent.{lent}
use lib.ListN.{length}
use mathlib.Core.Path.{sym, ◌∙◌}
use Rattle.depot_link.proofs.linked_step.Goals as goal

pub returns-then-words_off-clause-book_after : goal.returns-then-words_off-clause-book_after
returns-then-words_off-clause-book_after g c = let h = held c.args.«record».now c.args.row.now (lent c.args.log.now c.args.cached.now c.args.best.now c.args.store.now c.args.book.now) in
    let k = sym c.words_off.ensures ∙ c.if-words_off.true in
    rw c.into.ensures (link-off c.args.configuration.now c.args.event.now c.args.entries.now h k)

pub returns-clause-book_after : goal.returns-clause-book_after
returns-clause-book_after g c = let h = held c.args.«record».now c.args.row.now (lent c.args.log.now c.args.cached.now c.args.best.now c.args.store.now c.args.book.now) in
    let k = sym c.words_off.ensures ∙ c.if-words_off.false in link-back c.args.configuration.now c.args.event.now c.args.entries.now h c.configuration_of-c.result c.event_of-e.result c.step_words-a.result _ k c.configuration_of-c.ensures c.event_of-e.ensures c.step_words-a.ensures.book_after

pub step_words-a-requires-clause-node_len : goal.step_words-a-requires-clause-node_len
step_words-a-requires-clause-node_len g c =
    (words_right (length c.args.configuration.now) (length c.args.«record».now) (length c.args.row.now) (length c.args.event.now) (sym c.words_off.ensures ∙ c.if-words_off.false)).0

pub step_words-a-requires-clause-row_len : goal.step_words-a-requires-clause-row_len
step_words-a-requires-clause-row_len g c =
    (words_right (length c.args.configuration.now) (length c.args.«record».now) (length c.args.row.now) (length c.args.event.now) (sym c.words_off.ensures ∙ c.if-words_off.false)).1
