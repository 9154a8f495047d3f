-- What a restart leaves, and a box that kept only promise, accepted round, log and decided index through a power cut.
use Rattle.std.specs.Prelude.{ℕ, ◌-◌, List, ◌++◌, take, replicate, None}
use Rattle.base.specs.Limits.{max_log, max_store, max_messages}
use Rattle.base.specs.Lists.{on_first}
use Rattle.ballot.specs.Ballot.{default}
use Rattle.sequence.specs.Sequence.{first}
use Rattle.quorum.specs.declared.Configuration.{Configuration}
use Rattle.leader_state.specs.State.{fresh, no_best}
use Rattle.messages.specs.Messages.{no_head}
use Rattle.messages.specs.declared.Row.{Row}
use Rattle.paxos_box.specs.declared.Role.TheVariants.{Follower}
use Rattle.paxos_box.specs.declared.Phase.TheVariants as phase
use Rattle.record.specs.declared.Record.{Record}
use Rattle.record.specs.Record.{fresh_record}
use Rattle.hire_book.specs.Book.{book_of, fresh_book}
use Rattle.broken.specs.Lent.{lent}
use Rattle.step.specs.Step.{World, world}

-- the record after a restart: promise, accepted round, log length and decided index as found, (Follower, Recover), all else as a fresh box has it; cells that nothing uses, and
-- places past the depots, are as found
abbrev pub restarted_node : Configuration → Record → Record
restarted_node c r =
    record {
      internal_storage = r.internal_storage;
      state = record { role = Follower; phase = phase.Recover };
      buffered_proposals = record { entries = r.buffered_proposals.entries; len = 0 };
      outgoing = 0;
      leader_state = record { n_leader = default; depots = on_first c.depots (λ d. fresh) r.leader_state.depots; max_promise = no_best };
      latest_accepted_meta = None;
      current_seq_num = first;
      cached_promise_message = None;
    }

-- the whole depot after it: the log, both sync buffers, row and store as found, the book made again from the decided entries
abbrev pub restarted_world : Configuration → World → World
restarted_world c w =
    world (restarted_node c w.node) w.row
    (lent w.lists.log w.lists.cached w.lists.best w.lists.store (book_of (take w.node.internal_storage.decided_idx w.lists.log)))

-- what a box has after a power cut: the four kept, and all else of a box that never ran, every cell 0
abbrev pub kept_node : Record → Record
kept_node r =
    record {
      internal_storage = r.internal_storage;
      state = fresh_record.state;
      buffered_proposals = fresh_record.buffered_proposals;
      outgoing = fresh_record.outgoing;
      leader_state = fresh_record.leader_state;
      latest_accepted_meta = fresh_record.latest_accepted_meta;
      current_seq_num = fresh_record.current_seq_num;
      cached_promise_message = fresh_record.cached_promise_message;
    }

abbrev pub kept_log : ℕ → List ℕ → List ℕ
kept_log n log = take n log ++ replicate (max_log - n) 0

abbrev pub fresh_row : Row
fresh_row = record { heads = replicate max_messages no_head }

unfoldable pub power_cut : World → World
power_cut w =
    world (kept_node w.node) fresh_row
    (lent (kept_log w.node.internal_storage.accepted_idx w.lists.log) (replicate max_log 0) (replicate max_log 0) (replicate max_store 0) fresh_book)
