-- The invariant of a cluster: `Base` of depots and messages, `Flows` of what is under way from each leader to each follower, `Total` of both.
use Rattle.std.specs.Prelude.{ℕ, ◌+◌, ◌<◌, ◌≢◌, Bool, cond, List, ◌++◌, map, eqb, length}
use Rattle.ballot.specs.declared.Ballot.{Ballot}
use Rattle.outgoing.specs.Queue.{Msg}
use Rattle.agreement.specs.Order.{leader_of}
use Rattle.agreement.specs.Core.{Sizes, Ghost, Core}
use Rattle.agreement.specs.All.{All}
use Rattle.agreement.specs.Proposed.{Only}
use Rattle.agreement.specs.Queue.{sel}
use Rattle.agreement.specs.Stream.{Flow}
use Rattle.travels.specs.Face.{Face, item, taker, feeder, feeds_in}
use Rattle.travels.specs.Facts.{Ok, NodeOk}

abbrev pub Links : Type 0
Links = ℕ → ℕ → List Msg

-- of a queue, what is for the depot t
abbrev pub for_depot : ℕ → List Msg → List Msg
for_depot t q = sel (λ (m : Msg). m.to) (t + 1) q

-- under way from i to j: on the link, then in i's queue
abbrev pub chan : (ℕ → Face) → Links → ℕ → ℕ → List Msg
chan xs link i j = link i j ++ for_depot j (xs i).queue

pub record Base (z : Sizes) (P : ℕ → Type 0) (g : Ghost ℕ) (xs : ℕ → Face) (link : Links) : Type 0 where
  pub core : Core z g
  pub only : Only P g
  pub node : (b : ℕ) → b < z.depots → NodeOk z P g b (xs b)
  pub msgs : (i j : ℕ) → i < z.depots → All (Ok z P g i j) (chan xs link i j)

-- the flow of ballot n to t; `whole` is the part of the ballot's log that counts as sent or to be sent, `fed` whether all of it was
abbrev pub FlowOf : Ghost ℕ → List ℕ → Bool → Ballot → ℕ → List Msg → Face → Face → Type 0
FlowOf g whole fed n t ms x y = Flow whole (g.A t n) (map (item n) ms) (taker n x (length x.log)) (feeder fed n t y)

pub record Flows (z : Sizes) (g : Ghost ℕ) (whole : Ballot → ℕ → List ℕ) (fed : Ballot → ℕ → Bool) (xs : ℕ → Face) (link : Links) : Type 0 where
  pub flow : (n : Ballot) (t : ℕ) → leader_of n < z.depots → t < z.depots → t ≢ leader_of n → FlowOf g (whole n t) (fed n t) n t (chan xs link (leader_of n) t) (xs t) (xs (leader_of n))

-- between steps, all of a ballot's log, and whom its leader feeds
abbrev pub whole_now : Ghost ℕ → Ballot → ℕ → List ℕ
whole_now g n t = g.G n

abbrev pub fed_now : (ℕ → Face) → Ballot → ℕ → Bool
fed_now xs n t = feeds_in n t (xs (leader_of n))

pub record Total (z : Sizes) (P : ℕ → Type 0) (g : Ghost ℕ) (xs : ℕ → Face) (link : Links) : Type 0 where
  pub base : Base z P g xs link
  pub flows : Flows z g (whole_now g) (fed_now xs) xs link

-- one depot's face changed
abbrev pub put_face : ℕ → Face → (ℕ → Face) → ℕ → Face
put_face i x xs k = cond (eqb k i) x (xs k)
