-- `sight::queue_entries` meets its contract: a part of a sum that fits does so too.
use Rattle.std.proofs.Common.{◌+◌, refl, arith, Fits, w64}
use Rattle.base.specs.Limits.{max_store}
use Rattle.messages.specs.declared.Head.{Head}
use Rattle.sight.specs.Sight.{head_at, queue_entries}
use Rattle.sight.proofs.Heads.{in_row, held}
use Rattle.sight.proofs.Sums.{sum_room}
use Rattle.sight.proofs.queue_entries.Goals as goal

pub overflow_add-sum : goal.overflow_add-sum
unfolding queue_entries
overflow_add-sum c =
    let k = sum_room (λ j. (head_at c.args.row j).count) c.loop-h.h-index c.args.len c.loop-h.sum _ max_store c.loop-h.invariant refl (in_row c.args.row c.args.len c.loop-h.h-index c.loop-h-test.true) c.requires.len_bound in
    held c.args.row c.args.len c.loop-h.h-index c.loop-h-test.true (λ (x : Head). Fits w64 (c.loop-h.sum + x.count)) _ (omega arith)
