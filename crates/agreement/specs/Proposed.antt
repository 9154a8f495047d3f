-- Nothing is made up: each place of every ballot's log is as P says.
use Rattle.ballot.specs.declared.Ballot.{Ballot}
use Rattle.agreement.specs.Core.{Ghost}
use Rattle.agreement.specs.All.{All}

pub record Only {E : Type 0} (P : E → Type 0) (g : Ghost E) : Type 0 where
  pub each : (n : Ballot) → All P (g.G n)
