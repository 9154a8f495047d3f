-- A depot's queue drained and its messages delivered, with some lost; and the queues of all drained until they are empty.
use Rattle.std.specs.Prelude.{ℕ, zero, suc, Bool, cond, not, [], eqb, Option, None, Some, unwrap_or}
use Rattle.messages.specs.declared.Event.TheVariants.{Drain}
use Rattle.cluster.specs.declared.Cluster.{Cluster}
use Rattle.cluster.specs.declared.Moved.{Moved}
use Rattle.cluster.specs.Cluster.{head_in, site_at, step_at, deliver_at}

-- whether a message to a depot is lost: the lost ones go to one depot or, where none is to be lost, to pid 0, which is nobody's
abbrev pub is_lost : Option ℕ → ℕ → Bool
is_lost lost to = eqb to (unwrap_or lost 0)

-- the message at a place of a depot's row arrives, or is lost
unfoldable pub carry_at : ℕ → Option ℕ → ℕ → Cluster → Cluster
carry_at from lost at c = cond (is_lost lost (head_in at (site_at from c).row).to) c (deliver_at from at c).cluster

-- the first n messages, in order
unfoldable pub carry_below : ℕ → Option ℕ → ℕ → Cluster → Cluster
carry_below from lost zero c = c
carry_below from lost (suc n) c = carry_at from lost n (carry_below from lost n c)

-- as many messages as the drain handed out
abbrev pub carry_all : ℕ → Option ℕ → Moved → Cluster
carry_all from lost m = carry_below from lost m.answer.handed_out m.cluster

unfoldable pub drained : ℕ → Option ℕ → Cluster → Cluster
drained from lost c = carry_all from lost (step_at from Drain [] c)

unfoldable pub waits_at : ℕ → Cluster → Bool
waits_at pid c = not (eqb (site_at pid c).node.outgoing 0)

-- the first depot whose queue is not empty
unfoldable pub next_sender : Cluster → Option ℕ
next_sender c = cond (waits_at 1 c) (Some 1) (cond (waits_at 2 c) (Some 2) (cond (waits_at 3 c) (Some 3) None))

-- the queue of the next sender, if there is one, is drained before the rest is done
abbrev pub drained_before : (Cluster → Cluster) → Option ℕ → Cluster → Cluster
drained_before rest None c = c
drained_before rest (Some from) c = rest (drained from None c)

-- queues are drained until all are empty, or so many drains were made
unfoldable pub settled : ℕ → Cluster → Cluster
settled zero c = c
settled (suc n) c = drained_before (settled n) (next_sender c) c
