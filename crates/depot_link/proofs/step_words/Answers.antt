-- `step_words` meets its contract.
use Rattle.depot_link.proofs.Link.{step_follows}
use Rattle.depot_link.specs.Link.{held}
use Rattle.broken.specs.Lent.{lent}
use Rattle.depot_link.proofs.step_words.Goals as goal

pub returns-clause-book_after_2 : goal.returns-clause-book_after_2
returns-clause-book_after_2 g c = let h = held c.args.node.now c.args.row.now (lent c.args.log.now c.args.cached.now c.args.best.now c.args.store.now c.args.book.now) in step_follows c.args.c c.args.e c.args.entries.now h c.node_in-r.result c.read_row-heads.result c.step-x.result _ _ _ c.node_in-r.ensures c.read_row-heads.ensures c.step-x.ensures c.write_back.ensures.row_after_2 c.write_back.ensures.row_after_3
