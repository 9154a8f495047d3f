-- Refusals 3 and 4 (document 01, "When a box says no"): whom an event names, and what makes it unfit in every state. Each clause of the paragraph
-- "Unfit" up to "decided above accepted in Prepare or Promise" is a definition of its own, in its order.
use Rattle.std.specs.Prelude.{ℕ, Bool, true, false, not, ◌&&◌, ◌||◌, List, ltb, eqb, length, Option, None, Some}
use Rattle.base.specs.Limits.{max_log, max_proposal}
use Rattle.ballot.specs.Ballot.{is_default}
use Rattle.ballot.specs.declared.Ballot.{Ballot}
use Rattle.quorum.specs.Quorum.{is_depot}
use Rattle.quorum.specs.declared.Configuration.{Configuration}
use Rattle.hire_book.specs.Book.{any_above}
use Rattle.messages.specs.declared.PaxosMsg.{PaxosMsg}
use Rattle.messages.specs.declared.PaxosMsg.TheVariants.{PrepareReq, Prepare, Promise, AcceptSync, AcceptDecide, Accepted, NotAccepted, Decide, ProposalForward}
use Rattle.messages.specs.declared.Event.{Event}
use Rattle.messages.specs.declared.Event.TheVariants.{Message, Propose, Leader, Reconnect, Resend, Drain, Restart}

-- Refusal 3: the sender, or the depot named by a reconnect or leader event, is 0 or above depots; a sender is also refused if it is oneself

abbrev pub no_depot : Configuration → ℕ → Bool
no_depot c pid = not (is_depot pid c.depots)

unfoldable pub wrong_sender : Configuration → ℕ → Bool
wrong_sender c from = no_depot c from || eqb from c.pid

abbrev pub stranger_of : Configuration → Event → Bool
stranger_of c (Message m) = wrong_sender c m.from
stranger_of c Propose = false
stranger_of c (Leader n) = no_depot c n.pid
stranger_of c (Reconnect pid) = no_depot c pid
stranger_of c Resend = false
stranger_of c Drain = false
stranger_of c Restart = false

-- An entry above its limit, of a message that carries entries

abbrev pub is_from : Option ℕ → Bool
is_from None = false
is_from (Some start) = true

abbrev pub carries : PaxosMsg → Bool
carries (PrepareReq m) = false
carries (Prepare m) = false
carries (Promise m) = is_from m.log_sync
carries (AcceptSync m) = true
carries (AcceptDecide m) = true
carries (Accepted m) = false
carries (NotAccepted m) = false
carries (Decide m) = false
carries ProposalForward = true

unfoldable pub entry_above : PaxosMsg → List ℕ → Bool
entry_above m entries = carries m && any_above entries

-- an index above its limit: decided, accepted, where a sync starts

abbrev pub past : ℕ → Bool
past idx = ltb max_log idx

unfoldable pub either_past : ℕ → ℕ → Bool
either_past a b = past a || past b

abbrev pub start_past : Option ℕ → Bool
start_past None = false
start_past (Some start) = past start

abbrev pub index_above : PaxosMsg → Bool
index_above (PrepareReq m) = false
index_above (Prepare m) = either_past m.decided_idx m.accepted_idx
index_above (Promise m) = either_past m.decided_idx m.accepted_idx || start_past m.log_sync
index_above (AcceptSync m) = either_past m.decided_idx m.sync_idx
index_above (AcceptDecide m) = past m.decided_idx
index_above (Accepted m) = past m.accepted_idx
index_above (NotAccepted m) = false
index_above (Decide m) = past m.decided_idx
index_above ProposalForward = false

-- or a proposal of 0 or more than 16 entries

unfoldable pub count_off : ℕ → Bool
count_off n = eqb n 0 || ltb max_proposal n

abbrev pub forward_off : PaxosMsg → ℕ → Bool
forward_off (PrepareReq m) n = false
forward_off (Prepare m) n = false
forward_off (Promise m) n = false
forward_off (AcceptSync m) n = false
forward_off (AcceptDecide m) n = false
forward_off (Accepted m) n = false
forward_off (NotAccepted m) n = false
forward_off (Decide m) n = false
forward_off ProposalForward n = count_off n

-- a nonzero ballot whose pid is no depot

unfoldable pub foreign : Configuration → Ballot → Bool
foreign c n = not (is_default n) && no_depot c n.pid

unfoldable pub either_foreign : Configuration → Ballot → Ballot → Bool
either_foreign c a b = foreign c a || foreign c b

abbrev pub ballot_foreign : Configuration → PaxosMsg → Bool
ballot_foreign c (PrepareReq m) = foreign c m.n
ballot_foreign c (Prepare m) = either_foreign c m.n m.n_accepted
ballot_foreign c (Promise m) = either_foreign c m.n m.n_accepted
ballot_foreign c (AcceptSync m) = foreign c m.n
ballot_foreign c (AcceptDecide m) = foreign c m.n
ballot_foreign c (Accepted m) = foreign c m.n
ballot_foreign c (NotAccepted m) = foreign c m.n
ballot_foreign c (Decide m) = foreign c m.n
ballot_foreign c ProposalForward = false

-- or a default ballot anywhere but n_accepted or PrepareReq

abbrev pub ballot_default : PaxosMsg → Bool
ballot_default (PrepareReq m) = false
ballot_default (Prepare m) = is_default m.n
ballot_default (Promise m) = is_default m.n
ballot_default (AcceptSync m) = is_default m.n
ballot_default (AcceptDecide m) = is_default m.n
ballot_default (Accepted m) = is_default m.n
ballot_default (NotAccepted m) = is_default m.n
ballot_default (Decide m) = is_default m.n
ballot_default ProposalForward = false

-- a Prepare, AcceptSync, AcceptDecide or Decide whose sender is not its ballot's pid

abbrev pub not_by : ℕ → Ballot → Bool
not_by from n = not (eqb from n.pid)

abbrev pub sender_off : ℕ → PaxosMsg → Bool
sender_off from (PrepareReq m) = false
sender_off from (Prepare m) = not_by from m.n
sender_off from (Promise m) = false
sender_off from (AcceptSync m) = not_by from m.n
sender_off from (AcceptDecide m) = not_by from m.n
sender_off from (Accepted m) = false
sender_off from (NotAccepted m) = false
sender_off from (Decide m) = not_by from m.n
sender_off from ProposalForward = false

-- decided above accepted in Prepare or Promise

abbrev pub decided_above : PaxosMsg → Bool
decided_above (PrepareReq m) = false
decided_above (Prepare m) = ltb m.accepted_idx m.decided_idx
decided_above (Promise m) = ltb m.accepted_idx m.decided_idx
decided_above (AcceptSync m) = false
decided_above (AcceptDecide m) = false
decided_above (Accepted m) = false
decided_above (NotAccepted m) = false
decided_above (Decide m) = false
decided_above ProposalForward = false

-- Refusal 4 in every state, of a message from a depot, and of a proposal with the entries given beside it; other events are fit

unfoldable pub message_unfit : Configuration → ℕ → PaxosMsg → List ℕ → Bool
message_unfit c from m entries =
    entry_above m entries
    || (index_above m
    || (forward_off m (length entries)
    || (ballot_foreign c m
    || (ballot_default m
    || (sender_off from m
    || decided_above m)))))

unfoldable pub proposal_unfit : List ℕ → Bool
proposal_unfit entries = any_above entries || count_off (length entries)

abbrev pub unfit_of : Configuration → Event → List ℕ → Bool
unfit_of c (Message m) entries = message_unfit c m.from m.msg entries
unfit_of c Propose entries = proposal_unfit entries
unfit_of c (Leader n) entries = false
unfit_of c (Reconnect pid) entries = false
unfit_of c Resend entries = false
unfit_of c Drain entries = false
unfit_of c Restart entries = false
