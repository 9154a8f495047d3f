-- What a step decides: the dispatch of events to their handlers; what they leave is settled as `outcome` says.
use Rattle.std.specs.Prelude.{ℕ, Option, None, Some}
use Rattle.leader_state.specs.declared.LogSync.{LogSync}
use Rattle.leader_state.specs.declared.PromiseMetaData.{PromiseMetaData}
use Rattle.messages.specs.declared.Event.{Event}
use Rattle.messages.specs.declared.Event.TheVariants as event
use Rattle.messages.specs.declared.PaxosMsg.{PaxosMsg}
use Rattle.messages.specs.declared.PaxosMsg.TheVariants as msg
use Rattle.messages.specs.declared.Promise.{Promise}
use Rattle.paxos_box.specs.declared.SequencePaxos.{SequencePaxos}
use Rattle.paxos_box.specs.declared.Role.{Role}
use Rattle.paxos_box.specs.declared.Role.TheVariants.{Leader, Follower}
use Rattle.outcome.specs.Outcome.{Decision, drained, restarted, settled}
use Rattle.leader.specs.Leader.{handle_leader, handle_prepare_req, handle_forwarded_proposal, handle_promise, handle_accepted, handle_not_accepted, resend_messages_leader}
use Rattle.reconnect.specs.Reconnect.{reconnected_of}
use Rattle.accepting.specs.Accepting.{handle_acceptsync, handle_acceptdecide, handle_decide}
use Rattle.follower.specs.Follower.{handle_prepare, resend_messages_follower}

-- a Promise's report, and the sync that it brings with so many entries
abbrev pub report_of : Promise → ℕ → PromiseMetaData
report_of p from = record { n_accepted = p.n_accepted; accepted_idx = p.accepted_idx; decided_idx = p.decided_idx; pid = from }

abbrev pub brought_by : Option ℕ → ℕ → Option LogSync
brought_by None count = None
brought_by (Some start) count = Some (record { sync_idx = start; len = count })

-- a message from a depot, with so many entries
abbrev pub handle : PaxosMsg → ℕ → ℕ → SequencePaxos → SequencePaxos
handle (msg.PrepareReq m) count from s = handle_prepare_req m.n from s
handle (msg.Prepare m) count from s = handle_prepare m from s
handle (msg.Promise m) count from s = handle_promise m.n (report_of m from) (brought_by m.log_sync count) s
handle (msg.AcceptSync m) count from s = handle_acceptsync m count from s
handle (msg.AcceptDecide m) count from s = handle_acceptdecide m.n m.seq_num m.decided_idx count s
handle (msg.Accepted m) count from s = handle_accepted m.n m.accepted_idx from s
handle (msg.NotAccepted m) count from s = handle_not_accepted m.n from s
handle (msg.Decide m) count from s = handle_decide m.n m.seq_num m.decided_idx s
handle msg.ProposalForward count from s = handle_forwarded_proposal count s

-- a resend goes by role
abbrev pub resend_by : Role → SequencePaxos → SequencePaxos
resend_by Leader s = resend_messages_leader s
resend_by Follower s = resend_messages_follower s

-- what the step would do, were nothing refused
abbrev pub taken : Event → ℕ → SequencePaxos → SequencePaxos
taken (event.Message m) count s = handle m.msg count m.from s
taken event.Propose count s = handle_forwarded_proposal count s
taken (event.Leader n) count s = handle_leader n s
taken (event.Reconnect pid) count s = reconnected_of pid s
taken event.Resend count s = resend_by s.state.role s
taken event.Drain count s = drained s
taken event.Restart count s = restarted s

-- what a step decides, once refusals 1, 2, 3 and the unconditional 4 are past
abbrev pub decide_of : Event → ℕ → SequencePaxos → Decision
decide_of e count s = settled s (taken e count s)
