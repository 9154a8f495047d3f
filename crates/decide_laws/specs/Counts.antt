-- How much a step may send: the things of its plan, and those to one depot.
use Prim.Native.Nat.{ℕ, ◌*◌, ◌≤◌}
use Rattle.base.specs.Limits.{max_log}
use Rattle.messages.specs.declared.Event.{Event}
use Rattle.messages.specs.declared.Event.TheVariants as event
use Rattle.messages.specs.declared.PaxosMsg.{PaxosMsg}
use Rattle.messages.specs.declared.PaxosMsg.TheVariants as msg
use Rattle.paxos_box.specs.declared.SequencePaxos.{SequencePaxos}

-- at most six things and six new messages, each of at most 512 entries
pub record Six (s : SequencePaxos) : Type 0 where
  pub things : s.plan.sends.count ≤ 6
  pub messages : s.plan.sends.messages ≤ 6
  pub entries : s.plan.sends.entries ≤ 6 * max_log

-- how many things a step sends to a depot at most: one, but a forward and an Accepted in answer to an AcceptSync
abbrev pub each_in : PaxosMsg → ℕ
each_in (msg.PrepareReq m) = 1
each_in (msg.Prepare m) = 1
each_in (msg.Promise m) = 1
each_in (msg.AcceptSync m) = 2
each_in (msg.AcceptDecide m) = 1
each_in (msg.Accepted m) = 1
each_in (msg.NotAccepted m) = 1
each_in (msg.Decide m) = 1
each_in msg.ProposalForward = 1

abbrev pub each_of : Event → ℕ
each_of (event.Message m) = each_in m.msg
each_of event.Propose = 1
each_of (event.Leader n) = 1
each_of (event.Reconnect pid) = 1
each_of event.Resend = 1
each_of event.Drain = 1
each_of event.Restart = 1
