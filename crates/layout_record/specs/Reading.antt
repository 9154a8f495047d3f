-- The record that words mean, and when they mean none (docs/LAYOUT.md).
use Rattle.std.specs.Prelude.{ℕ, ◌+◌, Bool, cond, List, [], ◌∷◌, eqb, replicate, Option}
use Rattle.base.specs.Limits.{max_depots}
use Rattle.base.specs.Lists.{tabulate}
use Rattle.hire_book.specs.Below.{any_below}
use Rattle.leader_state.specs.declared.Depot.{Depot}
use Rattle.leader_state.specs.declared.LeaderState.{LeaderState}
use Rattle.leader_state.specs.declared.MaxPromise.{MaxPromise}
use Rattle.paxos_box.specs.declared.State.{State}
use Rattle.paxos_box.specs.declared.InternalStorage.{InternalStorage}
use Rattle.paxos_box.specs.declared.AcceptedAt.{AcceptedAt}
use Rattle.paxos_box.specs.declared.CachedPromise.{CachedPromise}
use Rattle.record.specs.declared.Record.{Record}
use Rattle.record.specs.Record.{fresh_record}
use Rattle.ballot.specs.Ballot.{default}
use Rattle.blocks.specs.Blocks.{block_at, word, above_most, most32, ballot_of}
use Rattle.tags.specs.Variants.{option_of, promise_of, role_of, phase_of}
use Rattle.layout_record.specs.Words.{record_count}

-- block 0

abbrev pub storage_in : List ℕ → InternalStorage
storage_in b =
    record {
      promise = ballot_of (word b 0) (word b 1) (word b 2);
      accepted_round = ballot_of (word b 3) (word b 4) (word b 5);
      decided_idx = word b 6;
      accepted_idx = word b 7;
    }

abbrev pub state_in : List ℕ → State
state_in b = record { role = role_of (word b 8); phase = phase_of (word b 9) }

-- block 2

abbrev pub accepted_in : List ℕ → Option AcceptedAt
accepted_in b = option_of (word b 3) (record { n = ballot_of (word b 4) (word b 5) (word b 6); at = word b 7 })

-- block 3

abbrev pub best_in : List ℕ → MaxPromise
best_in b =
    record {
      meta = record { n_accepted = ballot_of (word b 0) (word b 1) (word b 2); accepted_idx = word b 3; decided_idx = word b 4; pid = word b 5 };
      sync = option_of (word b 6) (record { sync_idx = word b 7; len = word b 8 });
    }

-- block 4

abbrev pub cached_in : List ℕ → Option CachedPromise
cached_in b =
    option_of (word b 0)
    (record {
      n = ballot_of (word b 1) (word b 2) (word b 3);
      n_accepted = ballot_of (word b 4) (word b 5) (word b 6);
      decided_idx = word b 7;
      accepted_idx = word b 8;
      sync = option_of (word b 9) (record { sync_idx = word b 10; len = word b 11 });
    })

-- blocks 5 to 11

abbrev pub place_in : List ℕ → Depot
place_in b =
    record {
      promise =
          promise_of (word b 0)
          (record { n_accepted = ballot_of (word b 1) (word b 2) (word b 3); accepted_idx = word b 4; decided_idx = word b 5; pid = word b 6 });
      seq_num = record { session = word b 7; counter = word b 8 };
      accepted_idx = word b 9;
      latest = option_of (word b 10) (word b 11);
    }

abbrev pub places_in : List ℕ → List Depot
places_in w = tabulate max_depots (λ k. place_in (block_at (5 + k) w))

-- the leader's ballot is in block 2, its best promise in block 3
unfoldable pub leader_in : List ℕ → LeaderState
leader_in w =
    record {
      n_leader = ballot_of (word (block_at 2 w) 0) (word (block_at 2 w) 1) (word (block_at 2 w) 2);
      depots = places_in w;
      max_promise = best_in (block_at 3 w);
    }

-- a record of the first block, the buffered proposals' cells and the other parts
unfoldable pub record_with : List ℕ → List ℕ → LeaderState → Option AcceptedAt → Option CachedPromise → Record
record_with b cells l a c =
    record {
      internal_storage = storage_in b;
      state = state_in b;
      buffered_proposals = record { entries = cells; len = word b 13 };
      outgoing = word b 10;
      leader_state = l;
      latest_accepted_meta = a;
      current_seq_num = record { session = word b 11; counter = word b 12 };
      cached_promise_message = c;
    }

-- the record of words that mean one
unfoldable pub record_of : List ℕ → Record
record_of w = record_with (block_at 0 w) (block_at 1 w) (leader_in w) (accepted_in (block_at 2 w)) (cached_in (block_at 4 w))

-- the most of each word of a place's block, and of block i; 0 where it has none
abbrev pub place_most : List ℕ
place_most = 2 ∷ most32 ∷ most32 ∷ 0 ∷ 0 ∷ 0 ∷ 0 ∷ 0 ∷ 0 ∷ 0 ∷ 1 ∷ 0 ∷ 0 ∷ 0 ∷ 0 ∷ 0 ∷ []

unfoldable pub record_most : ℕ → List ℕ
record_most i =
    cond (eqb i 0) (most32 ∷ most32 ∷ 0 ∷ most32 ∷ most32 ∷ 0 ∷ 0 ∷ 0 ∷ 1 ∷ 3 ∷ 0 ∷ 0 ∷ 0 ∷ 0 ∷ 0 ∷ 0 ∷ [])
    (cond (eqb i 1) (replicate 16 0)
    (cond (eqb i 2) (most32 ∷ most32 ∷ 0 ∷ 1 ∷ most32 ∷ most32 ∷ 0 ∷ 0 ∷ 0 ∷ 0 ∷ 0 ∷ 0 ∷ 0 ∷ 0 ∷ 0 ∷ 0 ∷ [])
    (cond (eqb i 3) (most32 ∷ most32 ∷ 0 ∷ 0 ∷ 0 ∷ 0 ∷ 1 ∷ 0 ∷ 0 ∷ 0 ∷ 0 ∷ 0 ∷ 0 ∷ 0 ∷ 0 ∷ 0 ∷ [])
    (cond (eqb i 4) (1 ∷ most32 ∷ most32 ∷ 0 ∷ most32 ∷ most32 ∷ 0 ∷ 0 ∷ 0 ∷ 1 ∷ 0 ∷ 0 ∷ 0 ∷ 0 ∷ 0 ∷ 0 ∷ [])
    place_most))))

-- words that mean no record: one of them is above its most
unfoldable pub no_record : List ℕ → Bool
no_record w = any_below (λ i. above_most (record_most i) (block_at i w)) record_count

-- a broken record: its decided index is above its log's length
abbrev pub broken_record : Record
broken_record =
    record {
      internal_storage = record { promise = default; accepted_round = default; decided_idx = 1; accepted_idx = 0 };
      state = fresh_record.state;
      buffered_proposals = fresh_record.buffered_proposals;
      outgoing = fresh_record.outgoing;
      leader_state = fresh_record.leader_state;
      latest_accepted_meta = fresh_record.latest_accepted_meta;
      current_seq_num = fresh_record.current_seq_num;
      cached_promise_message = fresh_record.cached_promise_message;
    }

-- the record that words mean; words that mean none mean a broken one
unfoldable pub record_in : List ℕ → Record
record_in w = cond (no_record w) broken_record (record_of w)
