-- `storage::sync_log` meets its contract: the log from the sync index on is lent, and comes back with the suffix at its start.
use Rattle.storage.proofs.Laid.{put-part}
use borrow.Author.Rules.{rules}
use Rattle.storage.proofs.sync_log.Goals as goal

pub returns : goal.returns
returns c = rw c.write_suffix.ensures (put-part c.args.sync_idx c.args.suffix.now c.args.log.now (search rules))
