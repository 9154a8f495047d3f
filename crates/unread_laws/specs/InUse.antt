-- What of a depot is in use, and when two depots differ only in places past the depots or in cells that nothing uses.
use Rattle.std.specs.Prelude.{ℕ, zero, suc, ◌≡◌, List, [], ◌∷◌, length, take}
use Rattle.quorum.specs.declared.Configuration.{Configuration}
use Rattle.leader_state.specs.State.{with_depots}
use Rattle.leader_state.specs.declared.Depot.{Depot}
use Rattle.leader_state.specs.declared.LeaderState.{LeaderState}
use Rattle.messages.specs.declared.Head.{Head}
use Rattle.paxos_box.specs.declared.SequencePaxos.{SequencePaxos}
use Rattle.paxos_box.specs.Box.{with_leader}
use Rattle.record.specs.declared.Record.{Record}
use Rattle.broken.specs.Broken.{cached_sync, best_sync}
use Rattle.outgoing.specs.Queue.{Msg, lent, queue_of}
use Rattle.step.specs.Step.{World}
use Rattle.views.specs.View.{held_entries}

-- a list with another's places from n on; one that ends before n stays as it is
module _ {A : Type 0} where
  unfoldable pub mix : ℕ → List A → List A → List A
  mix zero l z = z
  mix (suc n) [] z = []
  mix (suc n) (x ∷ l) z = x ∷ mix n l z

-- other places past the first n: of a leader's record, of a record, of a deciding box
abbrev pub past_in : ℕ → List Depot → LeaderState → LeaderState
past_in n z l = with_depots (mix n l.depots z) l

abbrev pub past_box : ℕ → List Depot → SequencePaxos → SequencePaxos
past_box n z s = with_leader (past_in n z s.leader_state) s

-- a record without its buffered entries, and with no places but the depots'
abbrev pub used_node : Configuration → Record → Record
used_node c r =
    record {
      internal_storage = r.internal_storage;
      state = r.state;
      buffered_proposals = record { entries = []; len = r.buffered_proposals.len };
      outgoing = r.outgoing;
      leader_state = with_depots (take c.depots r.leader_state.depots) r.leader_state;
      latest_accepted_meta = r.latest_accepted_meta;
      current_seq_num = r.current_seq_num;
      cached_promise_message = r.cached_promise_message;
    }

-- all of a depot that is in use: the record's numbers and the depots' places, the log below its length, the buffered proposals below their count, the entries of
-- the two syncs, the heads that wait and their entries, the book; and how long each list is that a caller lends
pub record InUse : Type 0 where
  pub node : Record
  pub log : List ℕ
  pub buffered : List ℕ
  pub cached : List ℕ
  pub best : List ℕ
  pub heads : List Head
  pub queue : List Msg
  pub book : List ℕ
  pub log-cells : ℕ
  pub cached-cells : ℕ
  pub best-cells : ℕ
  pub store_cells : ℕ

unfoldable pub in_use : Configuration → World → InUse
in_use c w =
    record {
      node = used_node c w.node;
      log = take w.node.internal_storage.accepted_idx w.lists.log;
      buffered = take w.node.buffered_proposals.len w.node.buffered_proposals.entries;
      cached = held_entries (cached_sync w.node) w.lists.cached;
      best = held_entries (best_sync w.node) w.lists.best;
      heads = take w.node.outgoing w.row.heads;
      queue = queue_of w.node.outgoing (lent w.row w.lists.store);
      book = w.lists.book;
      log-cells = length w.lists.log;
      cached-cells = length w.lists.cached;
      best-cells = length w.lists.best;
      store_cells = length w.lists.store;
    }

-- two depots that differ in nothing that is in use
abbrev pub Alike : Configuration → World → World → Type 0
Alike c w v = in_use c w ≡ in_use c v
