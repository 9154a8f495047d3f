-- `lent_heads::copy_front` meets its contract: a turn lays one head more.
use Rattle.std.proofs.Common.{rules}
use Rattle.storage.proofs.Laid.{over-turn}
use Rattle.lent_heads.proofs.copy_front.Goals as goal

pub loop-i-preserved : goal.loop-i-preserved
loop-i-preserved c = search (rules, over-turn)
