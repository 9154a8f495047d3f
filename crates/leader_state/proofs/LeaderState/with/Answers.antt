-- `LeaderState::with` meets its contract: the depots' places are fresh, the others as found.
use Rattle.std.proofs.Common.{◌≡◌, ℕ, List, ◌++◌, length, take, drop, replicate}
use Rattle.ballot.specs.declared.Ballot.{Ballot}
use Rattle.leader_state.specs.declared.Depot.{Depot}
use Rattle.leader_state.specs.declared.LeaderState.{LeaderState}
use Rattle.leader_state.specs.declared.MaxPromise.{MaxPromise}
use Rattle.leader_state.specs.State.{fresh, no_best, with_of}
use Rattle.leader_state.proofs.Rows.{filled-first}
use Rattle.leader_state.proofs.LeaderState.with.Goals as goal

abbrev whole : Ballot → List Depot → MaxPromise → LeaderState
whole n l b = record { n_leader = n; depots = l; max_promise = b }

renewed : (n : Ballot) (depots : ℕ) (s : LeaderState) (l : List Depot) (b : MaxPromise) → l ≡ replicate (length (take depots s.depots)) fresh → b ≡ no_best → whole n (l ++ drop depots s.depots) b ≡ with_of n depots s
unfolding with_of
renewed n depots s l b p q = rw (p, q, filled-first depots fresh s.depots)

pub returns : goal.returns
returns c = renewed c.args.n_leader c.args.c.depots c.args.self _ _ (cc (c.fill.ensures.after (λ y p. p))) c.none.ensures
