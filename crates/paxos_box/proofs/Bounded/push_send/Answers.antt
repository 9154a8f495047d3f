-- `Bounded::push_send` keeps the bounds: one thing more in the plan.
use Rattle.paxos_box.proofs.Rooms.{room-push}
use Rattle.paxos_box.specs.Box.{push_of}
use Rattle.paxos_box.proofs.Bounded.push_send.Goals as goal

pub invariant_of-self : goal.invariant_of-self
unfolding push_of
invariant_of-self c = rw c.with_send-self-inside.ensures (room-push c.self.inside.inner c.args.m c.requires c.self.invariant)
