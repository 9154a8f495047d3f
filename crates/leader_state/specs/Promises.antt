-- Promises: which stands, which is the best, when a read quorum has promised, and where a follower's sync starts.
use Rattle.std.specs.Prelude.{ℕ, min, Bool, true, false, cond, take, ltb, Option, None}
use Rattle.base.specs.Count.{count, most}
use Rattle.ballot.specs.Ballot.{compare_of, same}
use Rattle.leader_state.specs.declared.LogSync.{LogSync}
use Rattle.ballot.specs.declared.Ballot.{Ballot}
use Rattle.std.specs.declared.cmp.Ordering.{Ordering}
use Rattle.std.specs.declared.cmp.Ordering.TheVariants.{Less, Equal, Greater}
use Rattle.quorum.specs.Quorum.{reaches_read}
use Rattle.quorum.specs.declared.Configuration.{Configuration}
use Rattle.leader_state.specs.declared.PromiseMetaData.{PromiseMetaData}
use Rattle.leader_state.specs.declared.PromiseState.{PromiseState}
use Rattle.leader_state.specs.declared.PromiseState.TheVariants.{NotPromised, Promised, PromisedHigher}
use Rattle.leader_state.specs.declared.MaxPromise.{MaxPromise}
use Rattle.leader_state.specs.declared.LeaderState.{LeaderState}
use Rattle.leader_state.specs.declared.SetPromise.{SetPromise}
use Rattle.leader_state.specs.State.{with_depot, with_best, set_promise_state}

abbrev pub is_promised : PromiseState → Bool
is_promised NotPromised = false
is_promised (Promised m) = true
is_promised PromisedHigher = false

abbrev pub decided_state : PromiseState → ℕ
decided_state NotPromised = 0
decided_state (Promised m) = m.decided_idx
decided_state PromisedHigher = 0

-- how many of the depots have promised
unfoldable pub promised_count : ℕ → LeaderState → ℕ
promised_count depots s = count (λ d. is_promised d.promise) (take depots s.depots)

-- the highest decided index of the promises that stand (R5.9)
unfoldable pub max_decided : ℕ → LeaderState → ℕ
max_decided depots s = most (λ d. decided_state d.promise) (take depots s.depots)

abbrev pub by_order : Ordering → Bool → Bool
by_order Less b = false
by_order Equal b = b
by_order Greater b = true

-- a higher n_accepted, or equal n_accepted and higher accepted index; a tie beats nothing (R5.6)
unfoldable pub beats : PromiseMetaData → PromiseMetaData → Bool
beats a b = by_order (compare_of a.n_accepted b.n_accepted) (ltb b.accepted_idx a.accepted_idx)

abbrev pub beats_best : PromiseMetaData → LeaderState → Bool
beats_best m s = beats m s.max_promise.meta

abbrev pub best_after : PromiseMetaData → Option LogSync → Bool → LeaderState → MaxPromise
best_after m sync check s = cond check (cond (beats_best m s) (record { meta = m; sync = sync }) s.max_promise) s.max_promise

-- the promise at its depot's place, and the best after it (R5.5)
abbrev pub promise_kept : PromiseMetaData → Option LogSync → Bool → LeaderState → LeaderState
promise_kept m sync check s = with_best (best_after m sync check s) (with_depot m.pid (set_promise_state (Promised m)) s)

abbrev pub set_promise_of : Configuration → PromiseMetaData → Option LogSync → Bool → LeaderState → SetPromise
set_promise_of c m sync check s = record { state = promise_kept m sync check s; reached = reaches_read c.quorum (promised_count c.depots (promise_kept m sync check s)) }

abbrev pub take_sync : LeaderState → LeaderState
take_sync s = with_best (record { meta = s.max_promise.meta; sync = None }) s

-- A sync starts at the follower's accepted index if its round is the current ballot; at the smaller of its accepted index and the best promise's
-- if its round is the best's; else at its decided index (R5.12).
unfoldable pub sync_start : Ballot → PromiseMetaData → PromiseMetaData → ℕ
sync_start n best m =
    cond (same m.n_accepted n) m.accepted_idx
    (cond (same m.n_accepted best.n_accepted) (min best.accepted_idx m.accepted_idx)
    m.decided_idx)
