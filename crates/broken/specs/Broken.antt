-- Refusal 2 (document 01, "When a box says no"): the record is broken. Each clause of the table's row 2 is a definition of its own, in the row's order.
use Rattle.std.specs.Prelude.{ℕ, Bool, false, not, ◌&&◌, ◌||◌, List, ltb, leb, eqb, Option, None, Some}
use Rattle.base.specs.Limits.{max_log, max_messages, max_buffered}
use Rattle.ballot.specs.Ballot.{is_default}
use Rattle.paxos_box.specs.declared.AcceptedAt.{AcceptedAt}
use Rattle.paxos_box.specs.declared.CachedPromise.{CachedPromise}
use Rattle.leader_state.specs.declared.LogSync.{LogSync}
use Rattle.quorum.specs.declared.Configuration.{Configuration}
use Rattle.messages.specs.declared.Row.{Row}
use Rattle.paxos_box.specs.Box.{is_leader}
use Rattle.log_plan.specs.Log.{ends_past}
use Rattle.record.specs.declared.Record.{Record}
use Rattle.hire_book.specs.Book.{any_above, broken_of}
use Rattle.sight.specs.Sight.{part_of}
use Rattle.unfit.specs.Unfit.{foreign, either_foreign}
use Rattle.heads.specs.Heads.{any_head, head_above, head_outside, any_overlap, head_foreign}
use Rattle.places.specs.Places.{any_place, place_past, misplaced, place_foreign}
use Rattle.broken.specs.Lent.{Lent}

-- decided index above log length

abbrev pub decided_past : Record → Bool
decided_past r = ltb r.internal_storage.accepted_idx r.internal_storage.decided_idx

-- length above 512

abbrev pub length_past : Record → Bool
length_past r = ltb max_log r.internal_storage.accepted_idx

-- a kept entry above its limit: of the log, of the buffer, of the two held syncs, of the queued messages; cells past a length are not read

abbrev pub log_above : Record → List ℕ → Bool
log_above r log = any_above (part_of 0 r.internal_storage.accepted_idx log)

abbrev pub buffer_above : Record → Bool
buffer_above r = any_above (part_of 0 r.buffered_proposals.len r.buffered_proposals.entries)

abbrev pub held_above : Option LogSync → List ℕ → Bool
held_above None buffer = false
held_above (Some x) buffer = any_above (part_of 0 x.len buffer)

abbrev pub best_sync : Record → Option LogSync
best_sync r = r.leader_state.max_promise.sync

abbrev pub sync_in : Option CachedPromise → Option LogSync
sync_in None = None
sync_in (Some m) = m.sync

abbrev pub cached_sync : Record → Option LogSync
cached_sync r = sync_in r.cached_promise_message

abbrev pub queued_above : Record → Row → List ℕ → Bool
queued_above r row store = any_head (head_above store) row r.outgoing

unfoldable pub kept_above : Record → Row → List ℕ → List ℕ → List ℕ → List ℕ → Bool
kept_above r row log cached best store =
    log_above r log
    || (buffer_above r
    || (held_above (cached_sync r) cached
    || (held_above (best_sync r) best
    || queued_above r row store)))

-- queue or buffer over its limit; the queue's entries are over theirs only where heads lie outside the store or overlap, which is a clause below

unfoldable pub over_limit : Record → Bool
over_limit r = ltb max_messages r.outgoing || ltb max_buffered r.buffered_proposals.len

-- a remembered position at or past the queue's end: of the AcceptDecide of each depot, whatever the role, and of the Accepted

abbrev pub meta_past : ℕ → Option AcceptedAt → Bool
meta_past len None = false
meta_past len (Some a) = leb len a.at

unfoldable pub position_past : Configuration → Record → Bool
position_past c r =
    any_place (place_past r.outgoing) c.depots r.leader_state
    || meta_past r.outgoing r.latest_accepted_meta

-- a head whose entries lie outside the store or overlap another's; a head with no entries is not tested and overlaps nothing

unfoldable pub head_off : Record → Row → Bool
head_off r row = any_head head_outside row r.outgoing || any_overlap row r.outgoing

-- a kept promise at a place that is not its pid's

abbrev pub promise_misplaced : Configuration → Record → Bool
promise_misplaced c r = any_place misplaced c.depots r.leader_state

-- a held sync ending past 512: the best promise's and the cached promise's

abbrev pub held_past : Option LogSync → Bool
held_past None = false
held_past (Some x) = ends_past x

unfoldable pub sync_past : Record → Bool
sync_past r = held_past (best_sync r) || held_past (cached_sync r)

-- a Leader whose ballot's pid is not its own

unfoldable pub leader_off : Configuration → Record → Bool
leader_off c r = is_leader r.state.role && not (eqb r.leader_state.n_leader.pid c.pid)

-- a kept nonzero ballot whose pid is no depot: promise, accepted round, the leader's, the accepted rounds of the best and of each kept promise,
-- both of the cached promise, the remembered Accepted's, and those in queued heads

abbrev pub cached_foreign : Configuration → Option CachedPromise → Bool
cached_foreign c None = false
cached_foreign c (Some m) = either_foreign c m.n m.n_accepted

abbrev pub meta_foreign : Configuration → Option AcceptedAt → Bool
meta_foreign c None = false
meta_foreign c (Some a) = foreign c a.n

unfoldable pub kept_foreign : Configuration → Record → Row → Bool
kept_foreign c r row =
    either_foreign c r.internal_storage.promise r.internal_storage.accepted_round
    || (either_foreign c r.leader_state.n_leader r.leader_state.max_promise.meta.n_accepted
    || (any_place (place_foreign c) c.depots r.leader_state
    || (cached_foreign c r.cached_promise_message
    || (meta_foreign c r.latest_accepted_meta
    || any_head (head_foreign c) row r.outgoing))))

-- a cached promise of the default ballot

abbrev pub message_default : Option CachedPromise → Bool
message_default None = false
message_default (Some m) = is_default m.n

abbrev pub cached_default : Record → Bool
cached_default r = message_default r.cached_promise_message

-- all of these that record and row alone say

unfoldable pub state_broken : Configuration → Record → Row → Bool
state_broken c r row =
    position_past c r
    || (head_off r row
    || (promise_misplaced c r
    || (sync_past r
    || (leader_off c r
    || (kept_foreign c r row
    || cached_default r)))))

-- or a book that is broken, as the hire book says

unfoldable pub record_broken : Configuration → Record → Row → Lent → Bool
record_broken c r row l =
    decided_past r
    || (length_past r
    || (kept_above r row l.log l.cached l.best l.store
    || (over_limit r
    || (state_broken c r row
    || broken_of l.book))))
