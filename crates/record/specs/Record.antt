-- The record of a fresh box; the deciding box made of a record; the record made of a decided box.
use Rattle.std.specs.Prelude.{ℕ, false, List, replicate, None}
use Rattle.base.specs.Limits.{max_depots, max_buffered}
use Rattle.ballot.specs.Ballot.{default}
use Rattle.sequence.specs.Sequence.{first}
use Rattle.quorum.specs.declared.Configuration.{Configuration}
use Rattle.leader_state.specs.State.{fresh, no_best}
use Rattle.messages.specs.declared.PaxosMsg.TheVariants.{ProposalForward}
use Rattle.paxos_box.specs.declared.SequencePaxos.{SequencePaxos}
use Rattle.paxos_box.specs.declared.Plan.{Plan}
use Rattle.paxos_box.specs.declared.Send.{Send}
use Rattle.paxos_box.specs.declared.Sight.{Sight}
use Rattle.paxos_box.specs.declared.Sent.TheVariants.{New}
use Rattle.paxos_box.specs.declared.Source.TheVariants as source
use Rattle.paxos_box.specs.declared.LogOp.TheVariants as log
use Rattle.paxos_box.specs.declared.Role.TheVariants.{Follower}
use Rattle.paxos_box.specs.declared.Phase.TheVariants as phase
use Rattle.record.specs.declared.Record.{Record}

-- a box that never ran
abbrev pub fresh_record : Record
fresh_record =
    record {
      internal_storage = record { promise = default; accepted_round = default; decided_idx = 0; accepted_idx = 0 };
      state = record { role = Follower; phase = phase.None };
      buffered_proposals = record { entries = replicate max_buffered 0; len = 0 };
      outgoing = 0;
      leader_state = record { n_leader = default; depots = replicate max_depots fresh; max_promise = no_best };
      latest_accepted_meta = None;
      current_seq_num = first;
      cached_promise_message = None;
    }

-- a plan of nothing
abbrev pub no_send : Send
no_send = record { to = 0; what = New ProposalForward; source = source.Nothing; count = 0 }

abbrev pub fresh_plan : Sight → Plan
fresh_plan sight =
    record {
      sends = record { items = replicate 8 no_send; count = 0; messages = 0; entries = 0 };
      writes = record { log = log.Keep; buffered = 0; dropped = 0; cached = None; best = None; buffer = None };
      unfit = false;
      top = false;
      sight = sight;
    }

-- the deciding box: the record in numbers, with an empty plan
abbrev pub load_of : Configuration → ℕ → Sight → Record → SequencePaxos
load_of c entries sight r =
    record {
      config = c;
      internal_storage = r.internal_storage;
      state = r.state;
      buffered_proposals = r.buffered_proposals.len;
      outgoing = record { len = r.outgoing; entries = entries };
      leader_state = r.leader_state;
      latest_accepted_meta = r.latest_accepted_meta;
      current_seq_num = r.current_seq_num;
      cached_promise_message = r.cached_promise_message;
      plan = fresh_plan sight;
    }

-- the record after a step
abbrev pub store_of : SequencePaxos → List ℕ → ℕ → Record
store_of s entries outgoing =
    record {
      internal_storage = s.internal_storage;
      state = s.state;
      buffered_proposals = record { entries = entries; len = s.buffered_proposals };
      outgoing = outgoing;
      leader_state = s.leader_state;
      latest_accepted_meta = s.latest_accepted_meta;
      current_seq_num = s.current_seq_num;
      cached_promise_message = s.cached_promise_message;
    }
