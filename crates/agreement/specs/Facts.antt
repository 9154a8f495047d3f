-- What may be said over the ghost data of a depot's durable part and of decided places; no message is named.
use Rattle.std.specs.Prelude.{ℕ, ◌+◌, ◌≤◌, ◌<◌, ◌≡◌, ◌≢◌, true, List, ◌++◌, length, take}
use Rattle.ballot.specs.declared.Ballot.{Ballot}
use Rattle.agreement.specs.Order.{Upto}
use Rattle.agreement.specs.Core.{Sizes, Ghost, Same, Chosen}
use Rattle.agreement.specs.Growth.{Moved}

module _ {E : Type 0} where
  -- es are the places of a log from i on
  pub record Part (log : List E) (i : ℕ) (es : List E) : Type 0 where
    pub ends : i + length es ≤ length log
    pub is : take (i + length es) log ≡ take i log ++ es

  -- the first d places of ballot n's log are chosen, in n or in a lower ballot that has the same d places
  pub record Decided (z : Sizes) (g : Ghost E) (n : Ballot) (d : ℕ) : Type 0 where
    pub at : Ballot
    pub upto : Upto at n
    pub chosen : Chosen z g at d
    pub same : Same d (g.G at) (g.G n)

  -- d is a decided index that ballot n's log bears out
  abbrev pub Comm : Sizes → Ghost E → Ballot → ℕ → Type 0
  Comm z g n d = 0 < d → Decided z g n d

  -- these places are decided: they are the first of some ballot's log that bears them out
  pub record Settled (z : Sizes) (g : Ghost E) (xs : List E) : Type 0 where
    pub at : Ballot
    pub decided : Comm z g at (length xs)
    pub same : Same (length xs) xs (g.G at)

  -- k places of ballot n bear out the decided index d that ballot m's log bore out
  pub record Borne (z : Sizes) (g : Ghost E) (m n : Ballot) (k d : ℕ) : Type 0 where
    pub fits : d ≤ k
    pub same : Same d (g.G m) (g.G n)
    pub decided : Comm z g n d

  -- depot b keeps the promise p, the accepted round r, this log and the decided index d
  pub record Holds (z : Sizes) (g : Ghost E) (b : ℕ) (p r : Ballot) (log : List E) (d : ℕ) : Type 0 where
    pub promise : g.promise b ≡ p
    pub rnd : g.rnd b ≡ r
    pub here : g.A b r ≡ length log
    pub same : Same (length log) log (g.G r)
    pub fits : d ≤ length log
    pub decided : Comm z g r d

  -- a log that depot b may accept in ballot n: the first places of that ballot's log, no fewer than it started with, nor than b has accepted
  pub record Fit (g : Ghost E) (b : ℕ) (n : Ballot) (log : List E) : Type 0 where
    pub started : g.started n ≡ true
    pub whole : g.g0 n ≤ length log
    pub same : Same (length log) log (g.G n)
    pub up : g.A b n ≤ length log

  -- depot b has accepted the log in ballot n
  pub record Taken (z : Sizes) (g h : Ghost E) (b : ℕ) (n : Ballot) (log : List E) : Type 0 where
    pub moved : Moved z b g h
    pub here : h.A b n ≡ length log
    pub else : (m : Ballot) → m ≢ n → h.A b m ≡ g.A b m
    pub holds : (d : ℕ) → d ≤ length log → Comm z h n d → Holds z h b n n log d

  -- a log that depot b may accept in ballot n, and that bears out its decided index
  pub record Brought (z : Sizes) (g : Ghost E) (b : ℕ) (n : Ballot) (d : ℕ) (log : List E) : Type 0 where
    pub fit : Fit g b n log
    pub fits : d ≤ length log
    pub decided : Comm z g n d
