-- `Site::fresh` meets its contract.
use Rattle.cluster.proofs.Site.fresh.Goals as goal

pub returns : goal.returns
returns c = rw (c.no_head.ensures, c.fresh.ensures)
