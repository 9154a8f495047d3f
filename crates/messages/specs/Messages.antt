-- What is asked of a message in the queue, and the two edits of one that still waits there.
use Rattle.std.specs.Prelude.{ℕ, Bool, true, false}
use Rattle.messages.specs.declared.PaxosMsg.{PaxosMsg}
use Rattle.messages.specs.declared.PaxosMsg.TheVariants.{PrepareReq, Prepare, Promise, AcceptSync, AcceptDecide, Accepted, NotAccepted, Decide, ProposalForward}
use Rattle.messages.specs.declared.AcceptDecide as decided
use Rattle.messages.specs.declared.Accepted as accepted
use Rattle.messages.specs.declared.Head.{Head}

abbrev pub is_accept_decide : PaxosMsg → Bool
is_accept_decide (PrepareReq m) = false
is_accept_decide (Prepare m) = false
is_accept_decide (Promise m) = false
is_accept_decide (AcceptSync m) = false
is_accept_decide (AcceptDecide m) = true
is_accept_decide (Accepted m) = false
is_accept_decide (NotAccepted m) = false
is_accept_decide (Decide m) = false
is_accept_decide ProposalForward = false

abbrev pub is_accepted : PaxosMsg → Bool
is_accepted (PrepareReq m) = false
is_accepted (Prepare m) = false
is_accepted (Promise m) = false
is_accepted (AcceptSync m) = false
is_accepted (AcceptDecide m) = false
is_accepted (Accepted m) = true
is_accepted (NotAccepted m) = false
is_accepted (Decide m) = false
is_accepted ProposalForward = false

abbrev pub decided_as : ℕ → decided.AcceptDecide → decided.AcceptDecide
decided_as d m = record { n = m.n; seq_num = m.seq_num; decided_idx = d }

abbrev pub accepted_as : ℕ → accepted.Accepted → accepted.Accepted
accepted_as a m = record { n = m.n; accepted_idx = a }

-- an AcceptDecide with another decided index
abbrev pub with_decided : ℕ → PaxosMsg → PaxosMsg
with_decided d (PrepareReq m) = PrepareReq m
with_decided d (Prepare m) = Prepare m
with_decided d (Promise m) = Promise m
with_decided d (AcceptSync m) = AcceptSync m
with_decided d (AcceptDecide m) = AcceptDecide (decided_as d m)
with_decided d (Accepted m) = Accepted m
with_decided d (NotAccepted m) = NotAccepted m
with_decided d (Decide m) = Decide m
with_decided d ProposalForward = ProposalForward

-- an Accepted with another index
abbrev pub with_accepted : ℕ → PaxosMsg → PaxosMsg
with_accepted a (PrepareReq m) = PrepareReq m
with_accepted a (Prepare m) = Prepare m
with_accepted a (Promise m) = Promise m
with_accepted a (AcceptSync m) = AcceptSync m
with_accepted a (AcceptDecide m) = AcceptDecide m
with_accepted a (Accepted m) = Accepted (accepted_as a m)
with_accepted a (NotAccepted m) = NotAccepted m
with_accepted a (Decide m) = Decide m
with_accepted a ProposalForward = ProposalForward

-- what stands past the end of a row of heads
abbrev pub no_head : Head
no_head = record { to = 0; msg = ProposalForward; start = 0; count = 0 }
