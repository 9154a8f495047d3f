-- What refusals 1 to 4 leave of a box and an event, as far as the sums of deciding need it.
use Rattle.std.specs.Prelude.{ℕ, ◌≤◌}
use Rattle.base.specs.Limits.{max_log, max_buffered, max_proposal}
use Rattle.leader_state.specs.State.{own_place}
use Rattle.messages.specs.declared.Event.{Event}
use Rattle.messages.specs.declared.Event.TheVariants as event
use Rattle.messages.specs.declared.PaxosMsg.{PaxosMsg}
use Rattle.messages.specs.declared.PaxosMsg.TheVariants as msg
use Rattle.paxos_box.specs.declared.SequencePaxos.{SequencePaxos}
use Rattle.paxos_box.specs.Room.{Room}
use Rattle.follower.specs.Follower.{few_cached}

pub record Sound (s : SequencePaxos) : Type 0 where
  pub room : Room s
  pub log : s.internal_storage.accepted_idx ≤ max_log
  pub buffer : s.buffered_proposals ≤ max_buffered
  pub cached : few_cached s.cached_promise_message

-- a forward has few entries
abbrev pub few_in : PaxosMsg → ℕ → Type 0
few_in (msg.PrepareReq m) count = Unit {0}
few_in (msg.Prepare m) count = Unit {0}
few_in (msg.Promise m) count = Unit {0}
few_in (msg.AcceptSync m) count = Unit {0}
few_in (msg.AcceptDecide m) count = Unit {0}
few_in (msg.Accepted m) count = Unit {0}
few_in (msg.NotAccepted m) count = Unit {0}
few_in (msg.Decide m) count = Unit {0}
few_in msg.ProposalForward count = count ≤ max_proposal

-- so has a proposal, and a sender has a place
abbrev pub fit_event : Event → ℕ → Type 0
fit_event (event.Message m) count = own_place m.from × few_in m.msg count
fit_event event.Propose count = count ≤ max_proposal
fit_event (event.Leader n) count = Unit {0}
fit_event (event.Reconnect pid) count = Unit {0}
fit_event event.Resend count = Unit {0}
fit_event event.Drain count = Unit {0}
fit_event event.Restart count = Unit {0}
