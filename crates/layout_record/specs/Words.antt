-- A record as words: the blocks of docs/LAYOUT.md, in its order.
use Rattle.std.specs.Prelude.{ℕ, ◌*◌, List, [], ◌∷◌, map, Option, None, unwrap_or}
use Rattle.paxos_box.specs.declared.AcceptedAt.{AcceptedAt}
use Rattle.paxos_box.specs.declared.CachedPromise.{CachedPromise}
use Rattle.ballot.specs.declared.Ballot.{Ballot}
use Rattle.sequence.specs.declared.SequenceNumber.{SequenceNumber}
use Rattle.leader_state.specs.declared.Depot.{Depot}
use Rattle.leader_state.specs.declared.MaxPromise.{MaxPromise}
use Rattle.paxos_box.specs.declared.InternalStorage.{InternalStorage}
use Rattle.paxos_box.specs.declared.State.{State}
use Rattle.record.specs.declared.Record.{Record}
use Rattle.blocks.specs.Blocks.{block_words, joined}
use Rattle.ballot.specs.Ballot.{default}
use Rattle.leader_state.specs.declared.LogSync.{LogSync}
use Rattle.tags.specs.Tags.{option_tag, promise_tag, promise_meta, role_tag, phase_tag}

abbrev pub record_count : ℕ
record_count = 12

-- the word at which the places begin
abbrev pub places_at : ℕ
places_at = 5 * block_words

abbrev pub record_length : ℕ
record_length = record_count * block_words

-- what stands for nothing
abbrev pub no_sync : LogSync
no_sync = record { sync_idx = 0; len = 0 }

abbrev pub no_accepted : AcceptedAt
no_accepted = record { n = default; at = 0 }

abbrev pub no_promise : CachedPromise
no_promise = record { n = default; n_accepted = default; decided_idx = 0; accepted_idx = 0; sync = None }

-- what an Option holds; where it holds nothing, zeros
abbrev pub held_sync : Option LogSync → LogSync
held_sync h = unwrap_or h no_sync

abbrev pub accepted_at : Option AcceptedAt → AcceptedAt
accepted_at m = unwrap_or m no_accepted

abbrev pub cached_promise : Option CachedPromise → CachedPromise
cached_promise m = unwrap_or m no_promise

-- block 0: what the box promised and accepted, its role and phase, and the counts
abbrev pub standing_words : InternalStorage → State → ℕ → SequenceNumber → ℕ → List ℕ
standing_words s state outgoing q buffered =
    s.promise.n ∷ s.promise.priority ∷ s.promise.pid
    ∷ s.accepted_round.n ∷ s.accepted_round.priority ∷ s.accepted_round.pid
    ∷ s.decided_idx ∷ s.accepted_idx
    ∷ role_tag state.role ∷ phase_tag state.phase
    ∷ outgoing
    ∷ q.session ∷ q.counter
    ∷ buffered
    ∷ 0 ∷ 0 ∷ []

-- block 2: the leader's ballot and the remembered Accepted
abbrev pub lead_words : Ballot → Option AcceptedAt → List ℕ
lead_words n meta =
    n.n ∷ n.priority ∷ n.pid
    ∷ option_tag meta
    ∷ (accepted_at meta).n.n ∷ (accepted_at meta).n.priority ∷ (accepted_at meta).n.pid
    ∷ (accepted_at meta).at
    ∷ 0 ∷ 0 ∷ 0 ∷ 0 ∷ 0 ∷ 0 ∷ 0 ∷ 0 ∷ []

-- block 3: the best promise
abbrev pub best_words : MaxPromise → List ℕ
best_words best =
    best.meta.n_accepted.n ∷ best.meta.n_accepted.priority ∷ best.meta.n_accepted.pid
    ∷ best.meta.accepted_idx ∷ best.meta.decided_idx ∷ best.meta.pid
    ∷ option_tag best.sync ∷ (held_sync best.sync).sync_idx ∷ (held_sync best.sync).len
    ∷ 0 ∷ 0 ∷ 0 ∷ 0 ∷ 0 ∷ 0 ∷ 0 ∷ []

-- block 4: the cached promise
abbrev pub cached_words : Option CachedPromise → List ℕ
cached_words m =
    option_tag m
    ∷ (cached_promise m).n.n ∷ (cached_promise m).n.priority ∷ (cached_promise m).n.pid
    ∷ (cached_promise m).n_accepted.n ∷ (cached_promise m).n_accepted.priority ∷ (cached_promise m).n_accepted.pid
    ∷ (cached_promise m).decided_idx ∷ (cached_promise m).accepted_idx
    ∷ option_tag (cached_promise m).sync ∷ (held_sync (cached_promise m).sync).sync_idx ∷ (held_sync (cached_promise m).sync).len
    ∷ 0 ∷ 0 ∷ 0 ∷ 0 ∷ []

-- blocks 5 to 11: the depots' places
abbrev pub place_words : Depot → List ℕ
place_words d =
    promise_tag d.promise
    ∷ (promise_meta d.promise).n_accepted.n ∷ (promise_meta d.promise).n_accepted.priority ∷ (promise_meta d.promise).n_accepted.pid
    ∷ (promise_meta d.promise).accepted_idx ∷ (promise_meta d.promise).decided_idx ∷ (promise_meta d.promise).pid
    ∷ d.seq_num.session ∷ d.seq_num.counter
    ∷ d.accepted_idx
    ∷ option_tag d.latest ∷ unwrap_or d.latest 0
    ∷ 0 ∷ 0 ∷ 0 ∷ 0 ∷ []

-- block 1 is the sixteen cells of the buffered proposals
unfoldable pub record_blocks : Record → List (List ℕ)
record_blocks r =
    standing_words r.internal_storage r.state r.outgoing r.current_seq_num r.buffered_proposals.len
    ∷ r.buffered_proposals.entries
    ∷ lead_words r.leader_state.n_leader r.latest_accepted_meta
    ∷ best_words r.leader_state.max_promise
    ∷ cached_words r.cached_promise_message
    ∷ map place_words r.leader_state.depots

abbrev pub record_words : Record → List ℕ
record_words r = joined (record_blocks r)
