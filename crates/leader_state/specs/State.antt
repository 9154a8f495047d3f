-- The leader's record, and the same with one depot's place changed.
use Rattle.std.specs.Prelude.{ℕ, ◌+◌, ◌-◌, ◌≤◌, ◌<◌, List, get_or, set, Option, None}
use Rattle.base.specs.Limits.{max_depots}
use Rattle.base.specs.Lists.{on_first}
use Rattle.ballot.specs.Ballot.{default}
use Rattle.ballot.specs.declared.Ballot.{Ballot}
use Rattle.sequence.specs.Sequence.{first}
use Rattle.sequence.specs.declared.SequenceNumber.{SequenceNumber}
use Rattle.leader_state.specs.declared.Depot.{Depot}
use Rattle.leader_state.specs.declared.PromiseState.{PromiseState}
use Rattle.leader_state.specs.declared.PromiseState.TheVariants.{NotPromised}
use Rattle.leader_state.specs.declared.MaxPromise.{MaxPromise}
use Rattle.leader_state.specs.declared.LeaderState.{LeaderState}

-- a pid that has a place in the row of seven
abbrev pub own_place : ℕ → Type 0
own_place pid = (0 < pid) × (pid ≤ max_depots)

-- a depot's place as fresh: not promised, number (0, 0), accepted index 0, nothing remembered
abbrev pub fresh : Depot
fresh = record { promise = NotPromised; seq_num = first; accepted_idx = 0; latest = None }

abbrev pub depot_of : ℕ → LeaderState → Depot
depot_of pid s = get_or s.depots (pid - 1) fresh

abbrev pub with_depots : List Depot → LeaderState → LeaderState
with_depots l s = record { n_leader = s.n_leader; depots = l; max_promise = s.max_promise }

-- only that depot's place changed (R5.3)
abbrev pub with_depot : ℕ → (Depot → Depot) → LeaderState → LeaderState
with_depot pid f s = with_depots (set s.depots (pid - 1) (f (depot_of pid s))) s

abbrev pub with_best : MaxPromise → LeaderState → LeaderState
with_best m s = record { n_leader = s.n_leader; depots = s.depots; max_promise = m }

-- one thing of a place changed
abbrev pub set_promise_state : PromiseState → Depot → Depot
set_promise_state p d = record { promise = p; seq_num = d.seq_num; accepted_idx = d.accepted_idx; latest = d.latest }

abbrev pub set_seq_num : SequenceNumber → Depot → Depot
set_seq_num q d = record { promise = d.promise; seq_num = q; accepted_idx = d.accepted_idx; latest = d.latest }

abbrev pub set_accepted : ℕ → Depot → Depot
set_accepted idx d = record { promise = d.promise; seq_num = d.seq_num; accepted_idx = idx; latest = d.latest }

abbrev pub set_latest : Option ℕ → Depot → Depot
set_latest l d = record { promise = d.promise; seq_num = d.seq_num; accepted_idx = d.accepted_idx; latest = l }

-- the next session, its counter from 0 again; the next counter
abbrev pub next_session : Depot → Depot
next_session d = set_seq_num (record { session = d.seq_num.session + 1; counter = 0 }) d

abbrev pub next_counter : Depot → Depot
next_counter d = set_seq_num (record { session = d.seq_num.session; counter = d.seq_num.counter + 1 }) d

-- no best promise yet: the default, which any promise with an accepted entry beats
abbrev pub no_best : MaxPromise
no_best = record { meta = record { n_accepted = default; accepted_idx = 0; decided_idx = 0; pid = 0 }; sync = None }

-- a new leader's record (R5.4); the places past the depots are as found
unfoldable pub with_of : Ballot → ℕ → LeaderState → LeaderState
with_of n depots s = record { n_leader = n; depots = on_first depots (λ d. fresh) s.depots; max_promise = no_best }

-- every remembered AcceptDecide forgotten; the places past the depots are as found
unfoldable pub forget_all : ℕ → LeaderState → LeaderState
forget_all depots s = with_depots (on_first depots (set_latest None) s.depots) s
