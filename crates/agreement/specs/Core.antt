-- The core, to be read first: what a run leaves behind, when a part of a log is chosen, the facts C1 to C3, and the agreement that is claimed of them.
-- A place of a log holds an E, of any type. A depot is its place, from 0; places past the depots are in no quorum.
use Rattle.std.specs.Prelude.{ℕ, ◌+◌, ◌≤◌, ◌<◌, min, ◌≡◌, Bool, true, false, List, [], leb, length, take}
use Rattle.base.specs.Count.{count_below}
use Rattle.ballot.specs.Ballot.{default}
use Rattle.ballot.specs.declared.Ballot.{Ballot}
use Rattle.agreement.specs.Order.{Below, Upto, Within, leader_of}

-- so many depots, and sizes of a read and a write quorum that cannot miss each other
pub record Sizes : Type 0 where
  pub depots : ℕ
  pub read : ℕ
  pub write : ℕ
  pub over : depots < read + write

-- what a run leaves behind and no depot sees whole
pub record Ghost (E : Type 0) : Type 0 where
  -- of a ballot: its leader reached a read quorum; its leader's log, which only grows at its end; how long that was at the start
  pub started : Ballot → Bool
  pub G : Ballot → List E
  pub g0 : Ballot → ℕ
  -- of a depot: its promise; its accepted round; how many places of each ballot's log it has accepted in that ballot
  pub promise : ℕ → Ballot
  pub rnd : ℕ → Ballot
  pub A : ℕ → Ballot → ℕ

module _ {E : Type 0} where
  -- the two lists have the same first k places
  pub record Same (k : ℕ) (xs ys : List E) : Type 0 where
    pub eq : take k xs ≡ take k ys

  -- a places of ballot n are a log that a depot may hold: nothing at all, or in a started ballot no less than what it started with
  pub data Mark (g : Ghost E) (n : Ballot) (a : ℕ) : Type 0 where
    nothing : n ≡ default → a ≡ 0 → Mark g n a
    begun : g.started n ≡ true → g.g0 n ≤ a → a ≤ length (g.G n) → Mark g n a

  -- C1, of depot b: its accepted round is at most its promise, it has accepted nothing above that round, and whatever it has accepted is a log that it may hold
  pub record Accepts (g : Ghost E) (b : ℕ) : Type 0 where
    pub low : Upto (g.rnd b) (g.promise b)
    pub here : Mark g (g.rnd b) (g.A b (g.rnd b))
    pub mark : (n : Ballot) → 0 < g.A b n → Mark g n (g.A b n)
    pub none : (n : Ballot) → Below (g.rnd b) n → g.A b n ≡ 0

  -- C2: ballot n's log began with the first a places of a lower ballot na
  pub record Origin (g : Ghost E) (n na : Ballot) (a : ℕ) : Type 0 where
    pub below : Below na n
    pub mark : Mark g na a
    pub kept : a ≤ g.g0 n
    pub same : Same a (g.G n) (g.G na)

  -- C3: a read quorum R has promised n or higher, and all that it accepted below n is at most a places of na
  pub record Heard (z : Sizes) (g : Ghost E) (n : Ballot) (R : ℕ → Bool) (na : Ballot) (a : ℕ) : Type 0 where
    pub quorum : z.read ≤ count_below R z.depots
    pub firm : (b : ℕ) → b < z.depots → R b ≡ true → Upto n (g.promise b)
    pub best : (b : ℕ) (m : Ballot) → b < z.depots → R b ≡ true → Below m n → 0 < g.A b m → Within m (g.A b m) na a

  -- a started ballot: whom it heard, what was the best, and that its own depot has promised it
  pub record Start (z : Sizes) (g : Ghost E) (n : Ballot) : Type 0 where
    pub R : ℕ → Bool
    pub na : Ballot
    pub a : ℕ
    pub origin : Origin g n na a
    pub heard : Heard z g n R na a
    pub fits : g.g0 n ≤ length (g.G n)
    pub own : Upto n (g.promise (leader_of n))

  pub record Core (z : Sizes) (g : Ghost E) : Type 0 where
    pub accepts : (b : ℕ) → Accepts g b
    pub starts : (n : Ballot) → g.started n ≡ true → Start z g n
    pub empty : (n : Ballot) → g.started n ≡ false → g.G n ≡ []

  -- the first k places of ballot m's log are chosen: a write quorum has accepted them in m
  pub record Chosen (z : Sizes) (g : Ghost E) (m : Ballot) (k : ℕ) : Type 0 where
    pub fits : k ≤ length (g.G m)
    pub quorum : z.write ≤ count_below (λ b. leb k (g.A b m)) z.depots

  -- ballot n started with the first k places of ballot m's log
  pub record Held (g : Ghost E) (m n : Ballot) (k : ℕ) : Type 0 where
    pub fits : k ≤ g.g0 n
    pub same : Same k (g.G n) (g.G m)

  -- what is claimed wherever C1 to C3 hold: a ballot starts with all that is chosen in a lower one, and two chosen parts agree as far as both reach
  pub record Agreement (z : Sizes) (g : Ghost E) : Type 0 where
    pub starts_with : {m n : Ballot} {k : ℕ} → g.started n ≡ true → Below m n → 0 < k → Chosen z g m k → Held g m n k
    pub agree : {m n : Ballot} {j k : ℕ} → Chosen z g m j → Chosen z g n k → Same (min j k) (g.G m) (g.G n)
