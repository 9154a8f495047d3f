-- What is proposed and in no ballot's log yet: buffered proposals, and the entries of forwards.
use Rattle.std.specs.Prelude.{ℕ, ◌+◌, List, [], ◌∷◌}
use Rattle.messages.specs.declared.PaxosMsg.{PaxosMsg}
use Rattle.messages.specs.declared.PaxosMsg.TheVariants as msg
use Rattle.outgoing.specs.Queue.{Msg}
use Rattle.agreement.specs.Often.{often}
use Rattle.travels.specs.Face.{Face}

-- the entries that a message forwards
abbrev pub proposals : PaxosMsg → List ℕ → List ℕ
proposals (msg.PrepareReq m) es = []
proposals (msg.Prepare m) es = []
proposals (msg.Promise m) es = []
proposals (msg.AcceptSync m) es = []
proposals (msg.AcceptDecide m) es = []
proposals (msg.Accepted m) es = []
proposals (msg.NotAccepted m) es = []
proposals (msg.Decide m) es = []
proposals msg.ProposalForward es = es

-- how often messages forward a number
abbrev pub forwarded : ℕ → List Msg → ℕ
forwarded e [] = 0
forwarded e (m ∷ q) = often e (proposals m.msg m.entries) + forwarded e q

-- how often a number waits at a depot: buffered, or in a forward
abbrev pub outside : ℕ → Face → ℕ
outside e x = often e x.buffered + forwarded e x.queue
