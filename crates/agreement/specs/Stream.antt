-- What is under way from a ballot's leader to a follower: items whose numbers rise, with entries that join. Any item may be lost. No message is named.
use Rattle.std.specs.Prelude.{ℕ, suc, ◌+◌, ◌≤◌, ◌<◌, ◌≡◌, Bool, true, List, [], ◌∷◌, length}
use Rattle.agreement.specs.Facts.{Part}

-- what a message is to the stream of one ballot: nothing to it; the first of a session, with entries from an index on; the next of a session, with more entries, perhaps none
pub data Item (E : Type 0) : Type 0 where
  plain : Item E
  opens : (session counter index : ℕ) → List E → Item E
  adds : (session counter : ℕ) → List E → Item E

-- the number that was last, and how far the entries reach
pub record Spot : Type 0 where
  pub session : ℕ
  pub counter : ℕ
  pub end : ℕ

abbrev pub spot : ℕ → ℕ → ℕ → Spot
spot s c e = record { session = s; counter = c; end = e }

-- the number (s, c) is not above the spot's
pub data NoLater (s c : ℕ) (a : Spot) : Type 0 where
  before : s < a.session → NoLater s c a
  within : s ≡ a.session → c ≤ a.counter → NoLater s c a

-- x comes later than a: its number is above, and the entries reach as far or farther
pub record Later (a x : Spot) : Type 0 where
  pub above : NoLater a.session (suc a.counter) x
  pub end : a.end ≤ x.end

module _ {E : Type 0} where
  -- from one spot to another, over the ballot's log; where items were lost there is a gap
  pub data Stream (log : List E) : List (Item E) → Spot → Spot → Type 0 where
    done : {a : Spot} → Stream log [] a a
    skip : {l : List (Item E)} {a b : Spot} → Stream log l a b → Stream log (plain ∷ l) a b
    anew : {s c i : ℕ} {es : List E} {l : List (Item E)} {a b : Spot} → s ≡ suc a.session → c ≡ 1 → a.end ≤ i + length es → Stream log l (spot s c (i + length es)) b
        → Stream log (opens s c i es ∷ l) a b
    on : {s c : ℕ} {es : List E} {l : List (Item E)} {a b : Spot} → s ≡ a.session → c ≡ suc a.counter → Part log a.end es → Stream log l (spot s c (a.end + length es)) b
        → Stream log (adds s c es ∷ l) a b
    gap : {l : List (Item E)} {a x b : Spot} → Later a x → Stream log l x b → Stream log l a b

  -- items that are nothing to the stream
  pub data Plain : List (Item E) → Type 0 where
    none : Plain []
    more : {l : List (Item E)} → Plain l → Plain (plain ∷ l)

-- a follower: whether it takes the ballot's items, the number that it took last, and how long its log is
pub record Taker : Type 0 where
  pub takes : Bool
  pub session : ℕ
  pub counter : ℕ
  pub length : ℕ

-- a leader, to one follower: whether it leads the ballot, whether it sends the follower all that its log gains, and the number that it sent last
pub record Feeder : Type 0 where
  pub leads : Bool
  pub feeds : Bool
  pub session : ℕ
  pub counter : ℕ

-- the follower has taken no number above the front, and where it is at the front its log reaches the front's end
pub record Follows (x : Taker) (a : Spot) : Type 0 where
  pub upto : x.takes ≡ true → NoLater x.session x.counter a
  pub here : x.takes ≡ true → x.session ≡ a.session → x.counter ≡ a.counter → x.length ≡ a.end

-- the leader's number is the back's, and a follower that it feeds has been sent the whole
pub record Feeds (size : ℕ) (y : Feeder) (b : Spot) : Type 0 where
  pub number : y.leads ≡ true → (y.session ≡ b.session) × (y.counter ≡ b.counter)
  pub whole : y.feeds ≡ true → b.end ≡ size

-- from the leader y of a ballot with this log to the follower x, which has accepted k places of it: the items are under way
pub record Flow {E : Type 0} (log : List E) (k : ℕ) (items : List (Item E)) (x : Taker) (y : Feeder) : Type 0 where
  pub front : Spot
  pub back : Spot
  pub stream : Stream log items front back
  pub within : back.end ≤ length log
  pub ahead : k ≤ front.end
  pub follows : Follows x front
  pub feeds : Feeds (length log) y back

-- after an item with the number (s, c) the follower's number is that, and its log ends at e
pub record Took (s c e : ℕ) (x : Taker) : Type 0 where
  pub session : x.session ≡ s
  pub counter : x.counter ≡ c
  pub length : x.length ≡ e
