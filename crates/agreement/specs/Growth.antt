-- How the ghost data may grow when depot b moves.
use Rattle.std.specs.Prelude.{ℕ, ◌≤◌, ◌≡◌, ◌⊎◌, ◌≢◌, true, length}
use Rattle.ballot.specs.declared.Ballot.{Ballot}
use Rattle.agreement.specs.Order.{Below, Upto, leader_of}
use Rattle.agreement.specs.Core.{Sizes, Ghost, Same, Core}

module _ {E : Type 0} where
  -- ballot m: started stays started, what it started with stays, and its log grows at its end
  pub record Grows (g h : Ghost E) (m : Ballot) : Type 0 where
    pub started : g.started m ≡ true → h.started m ≡ true
    pub g0 : g.started m ≡ true → h.g0 m ≡ g.g0 m
    pub log : Same (length (g.G m)) (g.G m) (h.G m)

  -- ballot m is as it was
  pub record Rests (g h : Ghost E) (m : Ballot) : Type 0 where
    pub started : h.started m ≡ g.started m
    pub log : h.G m ≡ g.G m

  -- depot c: its promise never falls, what it accepted below its promise is fixed, and a new accepted round is at least the promise that it had
  pub record Moves (g h : Ghost E) (c : ℕ) : Type 0 where
    pub promise : Upto (g.promise c) (h.promise c)
    pub rnd : (h.rnd c ≡ g.rnd c) ⊎ Upto (g.promise c) (h.rnd c)
    pub up : (m : Ballot) → g.A c m ≤ h.A c m
    pub frozen : (m : Ballot) → Below m (g.promise c) → h.A c m ≡ g.A c m

  -- depot c is as it was
  pub record Stays (g h : Ghost E) (c : ℕ) : Type 0 where
    pub promise : h.promise c ≡ g.promise c
    pub rnd : h.rnd c ≡ g.rnd c
    pub A : (m : Ballot) → h.A c m ≡ g.A c m

  -- depot b moves: the other depots and their ballots are as they were
  pub record Ext (b : ℕ) (g h : Ghost E) : Type 0 where
    pub grows : (m : Ballot) → Grows g h m
    pub rests : (m : Ballot) → leader_of m ≢ b → Rests g h m
    pub moves : Moves g h b
    pub stays : (c : ℕ) → c ≢ b → Stays g h c

  -- depot b has moved, and the core's facts hold again
  pub record Moved (z : Sizes) (b : ℕ) (g h : Ghost E) : Type 0 where
    pub ext : Ext b g h
    pub core : Core z h
