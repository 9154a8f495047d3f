-- Tests over the depots' places of the leader's record, 1 to depots: the remembered position, whose the kept promise is, its accepted round.
use Rattle.std.specs.Prelude.{ℕ, ◌+◌, ◌<◌, ◌≤◌, ◌≡◌, Bool, false, not, leb, eqb, Option, None, Some}
use Rattle.quorum.specs.declared.Configuration.{Configuration}
use Rattle.leader_state.specs.State.{depot_of}
use Rattle.leader_state.specs.declared.Depot.{Depot}
use Rattle.leader_state.specs.declared.LeaderState.{LeaderState}
use Rattle.leader_state.specs.declared.PromiseState.{PromiseState}
use Rattle.leader_state.specs.declared.PromiseState.TheVariants.{NotPromised, Promised, PromisedHigher}
use Rattle.hire_book.specs.Below.{any_below}
use Rattle.unfit.specs.Unfit.{foreign}

-- some depot's place passes a test on its pid and what it holds; places past the depots are not read
unfoldable pub any_place : (ℕ → Depot → Bool) → ℕ → LeaderState → Bool
any_place f depots l = any_below (λ i. f (i + 1) (depot_of (i + 1) l)) depots

-- the remembered position is at or past the queue's end
abbrev pub latest_past : ℕ → Option ℕ → Bool
latest_past len None = false
latest_past len (Some at) = leb len at

abbrev pub place_past : ℕ → ℕ → Depot → Bool
place_past len pid d = latest_past len d.latest

-- a promise is kept that is not this pid's
abbrev pub promise_else : ℕ → PromiseState → Bool
promise_else pid NotPromised = false
promise_else pid (Promised m) = not (eqb m.pid pid)
promise_else pid PromisedHigher = false

abbrev pub misplaced : ℕ → Depot → Bool
misplaced pid d = promise_else pid d.promise

-- a promise is kept whose accepted round is nonzero with a pid that is no depot
abbrev pub promise_foreign : Configuration → PromiseState → Bool
promise_foreign c NotPromised = false
promise_foreign c (Promised m) = foreign c m.n_accepted
promise_foreign c PromisedHigher = false

abbrev pub place_foreign : Configuration → ℕ → Depot → Bool
place_foreign c pid d = promise_foreign c d.promise

-- what a test answers, passed in and asked of each depot's place, is what f says
pub record Tells (answers : ℕ → Depot → Bool → Type 0) (f : ℕ → Depot → Bool) (depots : ℕ) (l : LeaderState) : Type 0 where
  pub at : (pid : ℕ) → 0 < pid → pid ≤ depots → (r : Bool) → answers pid (depot_of pid l) r → r ≡ f pid (depot_of pid l)
