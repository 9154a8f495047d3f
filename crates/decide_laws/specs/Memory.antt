-- What of a step's plan goes by what is remembered of the depot that it goes to, or is remembered itself.
use Rattle.std.specs.Prelude.{ℕ, ◌+◌, Bool, true, false, ◌&&◌, List, [], ◌∷◌, eqb}
use Rattle.base.specs.Count.{one}
use Rattle.messages.specs.declared.PaxosMsg.{PaxosMsg}
use Rattle.messages.specs.declared.PaxosMsg.TheVariants as msg
use Rattle.paxos_box.specs.declared.Send.{Send}
use Rattle.paxos_box.specs.declared.Sends.{Sends}
use Rattle.paxos_box.specs.declared.Sent.{Sent}
use Rattle.paxos_box.specs.declared.Sent.TheVariants.{New, Join, Raise}
use Rattle.paxos_box.specs.Room.{items_of}

-- what is remembered by its position, or goes by what is: an AcceptDecide, new or joined, and a Decide; an Accepted, new or raised
abbrev pub told : PaxosMsg → Bool
told (msg.PrepareReq m) = false
told (msg.Prepare m) = false
told (msg.Promise m) = false
told (msg.AcceptSync m) = false
told (msg.AcceptDecide m) = true
told (msg.Accepted m) = true
told (msg.NotAccepted m) = false
told (msg.Decide m) = true
told msg.ProposalForward = false

abbrev pub by_memory : Sent → Bool
by_memory (New m) = told m
by_memory (Join j) = true
by_memory (Raise r) = true

-- how many of these go to a depot
abbrev pub memory_in : ℕ → List Send → ℕ
memory_in pid [] = 0
memory_in pid (m ∷ ms) = one (eqb pid m.to && by_memory m.what) + memory_in pid ms

abbrev pub memory_to : ℕ → Sends → ℕ
memory_to pid p = memory_in pid (items_of p)
