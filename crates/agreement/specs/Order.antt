-- Ballots in order, and pairs of a ballot and an index; the depot that a ballot names.
use Rattle.std.specs.Prelude.{ℕ, ◌-◌, ◌≤◌, ◌<◌, ◌≡◌, true, false}
use Rattle.ballot.specs.Ballot.{above}
use Rattle.ballot.specs.declared.Ballot.{Ballot}

-- m is below n
pub record Below (m n : Ballot) : Type 0 where
  pub is : above n m ≡ true

-- m is n or below it
pub record Upto (m n : Ballot) : Type 0 where
  pub is : above m n ≡ false

-- k places of ballot m are at most a places of ballot n: a lower ballot, or the same and no more places
pub data Within (m : Ballot) (k : ℕ) (n : Ballot) (a : ℕ) : Type 0 where
  lower : Below m n → Within m k n a
  level : m ≡ n → k ≤ a → Within m k n a

-- a places of ballot n are above k places of ballot m
pub data Beats (n : Ballot) (a : ℕ) (m : Ballot) (k : ℕ) : Type 0 where
  higher : Below m n → Beats n a m k
  longer : m ≡ n → k < a → Beats n a m k

-- the place of the depot that a ballot names; pids count from 1, places from 0
unfoldable pub leader_of : Ballot → ℕ
leader_of n = n.pid - 1
