-- What depots tell each other, as facts over the ghost data; no message is named.
use Rattle.std.specs.Prelude.{ℕ, ◌+◌, ◌≤◌, ◌<◌, ◌≡◌, ◌⊎◌, true, false, List, ◌++◌, length, take}
use Rattle.ballot.specs.declared.Ballot.{Ballot}
use Rattle.agreement.specs.Order.{Below, Upto, Within, Beats, leader_of}
use Rattle.agreement.specs.Core.{Sizes, Ghost, Same, Mark}
use Rattle.agreement.specs.Growth.{Moved}
use Rattle.agreement.specs.Facts.{Part, Comm, Holds, Taken}

-- what is put on a log: nothing, or a suffix from an index on
pub data Sync (E : Type 0) : Type 0 where
  none : Sync E
  from : ℕ → List E → Sync E

module _ {E : Type 0} where
  abbrev pub put_on : Sync E → List E → List E
  put_on none log = log
  put_on (from i suffix) log = take i log ++ suffix

  abbrev pub start_of : Sync E → ℕ
  start_of none = 0
  start_of (from i suffix) = i

  -- put on the log, the sync gives the whole; it does not start past the log
  pub record Brings (log whole : List E) (sync : Sync E) : Type 0 where
    pub cut : start_of sync ≤ length log
    pub is : put_on sync log ≡ whole

  -- depot j has promised ballot n, and told its accepted round, accepted index and decided index of that moment. It stays true, however late it is heard:
  -- what j accepted below n is frozen, and its accepted round stays until it accepts in n or above
  pub record Report (z : Sizes) (g : Ghost E) (n : Ballot) (j : ℕ) (na : Ballot) (a d : ℕ) : Type 0 where
    pub firm : Upto n (g.promise j)
    pub upto : Upto na n
    pub mark : Mark g na a
    pub has : a ≤ g.A j na
    pub best : (m : Ballot) → Below m n → 0 < g.A j m → Within m (g.A j m) na a
    pub last : (g.rnd j ≡ na) ⊎ Upto n (g.rnd j)
    pub fits : d ≤ a
    pub decided : Comm z g na d

  -- a leader's report of itself in ballot n, claimed only while n has not started
  pub record Asks (z : Sizes) (g : Ghost E) (n na : Ballot) (a d : ℕ) : Type 0 where
    pub early : g.started n ≡ false → Report z g n (leader_of n) na a d

  -- a sync that is offered to the leader of n, onto the log that it told of: it is claimed where na, a beats what the leader has
  pub record Offer (z : Sizes) (g : Ghost E) (n : Ballot) (na : Ballot) (a : ℕ) (sync : Sync E) : Type 0 where
    pub lna : Ballot
    pub la : ℕ
    pub ld : ℕ
    pub own : Report z g n (leader_of n) lna la ld
    pub brings : Beats na a lna la → Brings (take la (g.G lna)) (take a (g.G na)) sync

  -- depot j's report to the leader of n, with the sync that it offers while n has not started
  pub record Answer (z : Sizes) (g : Ghost E) (n : Ballot) (j : ℕ) (na : Ballot) (a d : ℕ) (sync : Sync E) : Type 0 where
    pub report : Report z g n j na a d
    pub offer : g.started n ≡ false → Offer z g n na a sync

  -- depot j has told the leader of n no more than the best
  pub record Told (z : Sizes) (g : Ghost E) (n : Ballot) (bn : Ballot) (ba : ℕ) (j : ℕ) (na : Ballot) (a d : ℕ) : Type 0 where
    pub report : Report z g n j na a d
    pub least : Within na a bn ba

  -- depot b prepares ballot n over its log of round r: the best that it was told is ba places of bn, which the held sync makes of its log
  pub record Prepares (g : Ghost E) (b : ℕ) (n r : Ballot) (log : List E) (bn : Ballot) (ba : ℕ) (sync : Sync E) : Type 0 where
    pub own : leader_of n ≡ b
    pub fresh : g.started n ≡ false
    pub below : Below bn n
    pub mark : Mark g bn ba
    pub least : Within r (length log) bn ba
    pub brings : Brings log (take ba (g.G bn)) sync

  -- depot b leads ballot n, which has started from ba places of bn: its log is the ballot's
  pub record Leads (g : Ghost E) (b : ℕ) (n : Ballot) (log : List E) (bn : Ballot) (ba : ℕ) : Type 0 where
    pub own : leader_of n ≡ b
    pub started : g.started n ≡ true
    pub all : log ≡ g.G n
    pub mark : Mark g bn ba
    pub kept : ba ≤ g.g0 n
    pub same : Same ba (g.G bn) (g.G n)

  -- as long as depot t's promise is n, its log agrees with ballot n's below i
  pub record Valid (g : Ghost E) (t : ℕ) (n : Ballot) (i : ℕ) : Type 0 where
    pub r : Ballot
    pub firm : Upto n (g.promise t)
    pub has : i ≤ g.A t r
    pub same : Same i (g.G r) (g.G n)
    pub last : (g.rnd t ≡ r) ⊎ Upto n (g.rnd t)
    pub kept : (r ≡ n) ⊎ (i ≤ g.g0 n)

  -- depot t may put es on its log from i on, and then has the decided index d, all as ballot n has it
  pub record Syncs (z : Sizes) (g : Ghost E) (t : ℕ) (n : Ballot) (i : ℕ) (es : List E) (d : ℕ) : Type 0 where
    pub started : g.started n ≡ true
    pub valid : Valid g t n i
    pub part : Part (g.G n) i es
    pub whole : g.g0 n ≤ i + length es
    pub fits : d ≤ i + length es
    pub decided : Comm z g n d

  -- depot b is elected in ballot n, over what it holds
  pub record Elected (z : Sizes) (g h : Ghost E) (b : ℕ) (n r : Ballot) (log : List E) (d : ℕ) : Type 0 where
    pub moved : Moved z b g h
    pub holds : Holds z h b n r log d
    pub report : Report z h n b r (length log) d
    pub prepares : Prepares h b n r log r (length log) none

  -- depot t promises ballot n, over what it holds, and offers a sync
  pub record Promises (z : Sizes) (g h : Ghost E) (t : ℕ) (n r : Ballot) (log : List E) (d : ℕ) (sync : Sync E) : Type 0 where
    pub moved : Moved z t g h
    pub holds : Holds z h t n r log d
    pub answer : Answer z h n t r (length log) d sync

  -- depot b has accepted its own log in ballot n, which it leads
  pub record Led (z : Sizes) (g h : Ghost E) (b : ℕ) (n : Ballot) (log : List E) (bn : Ballot) (ba : ℕ) : Type 0 where
    pub taken : Taken z g h b n log
    pub leads : Leads h b n log bn ba
