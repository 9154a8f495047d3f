-- Counts and marks over the places of the depots; places past them are not read.
use Rattle.std.specs.Prelude.{ℕ, ◌+◌, Bool, true, false, cond, List, take, leb, ltb, eqb}
use Rattle.base.specs.Limits.{max_depots}
use Rattle.base.specs.Count.{count}
use Rattle.base.specs.Lists.{tabulate}
use Rattle.quorum.specs.Quorum.{reaches_write}
use Rattle.quorum.specs.declared.Configuration.{Configuration}
use Rattle.leader_state.specs.declared.PromiseState.{PromiseState}
use Rattle.leader_state.specs.declared.PromiseState.TheVariants.{NotPromised, Promised, PromisedHigher}
use Rattle.leader_state.specs.declared.LeaderState.{LeaderState}
use Rattle.leader_state.specs.State.{depot_of}
use Rattle.leader_state.specs.Promises.{is_promised}

-- how many of the depots have reported an accepted index of at least idx
unfoldable pub accepted_at : ℕ → ℕ → LeaderState → ℕ
accepted_at idx depots s = count (λ d. leb idx d.accepted_idx) (take depots s.depots)

-- an index is chosen where these are a write quorum (R5.11)
abbrev pub chosen : ℕ → Configuration → LeaderState → Bool
chosen idx c s = reaches_write c.quorum (accepted_at idx c.depots s)

-- the depot of this pid has promised and is not the leader itself
unfoldable pub is_follower : ℕ → LeaderState → Bool
is_follower pid s = cond (eqb pid s.n_leader.pid) false (is_promised (depot_of pid s).promise)

abbrev pub is_preparable : PromiseState → Bool
is_preparable NotPromised = true
is_preparable (Promised m) = false
is_preparable PromisedHigher = false

-- the depot of this pid is not oneself and has not promised, this leader or a higher one
unfoldable pub is_peer : ℕ → ℕ → LeaderState → Bool
is_peer own pid s = cond (eqb pid own) false (is_preparable (depot_of pid s).promise)

-- a mark for each of the seven places: its depot is one and passes the test on its pid
abbrev pub marks : ℕ → (ℕ → Bool) → List Bool
marks depots f = tabulate max_depots (λ i. cond (ltb i depots) (f (i + 1)) false)

unfoldable pub promised_followers : ℕ → LeaderState → List Bool
promised_followers depots s = marks depots (λ pid. is_follower pid s)

unfoldable pub preparable_peers : ℕ → ℕ → LeaderState → List Bool
preparable_peers own depots s = marks depots (λ pid. is_peer own pid s)
