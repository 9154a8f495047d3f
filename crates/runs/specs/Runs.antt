-- Runs of a cluster: depots that start fresh with one configuration, links that may lose a message but keep their order and neither duplicate nor alter one, and any
-- sequence of moves whatever. Depot i (counted from 0) has the pid i + 1. What a depot does is `step_of`, the definition that the code's promise cites, and nothing else.
use Rattle.std.specs.Prelude.{ℕ, ◌+◌, ◌<◌, ◌≡◌, true, cond, ◌&&◌, List, [], ◌∷◌, ◌++◌, eqb, length}
use Rattle.base.specs.Limits.{max_log, max_store}
use Rattle.ballot.specs.declared.Ballot.{Ballot}
use Rattle.quorum.specs.declared.Configuration.{Configuration}
use Rattle.quorum.specs.declared.Quorum.{Quorum}
use Rattle.quorum.specs.Quorum.{stands_of}
use Rattle.messages.specs.declared.Event.{Event}
use Rattle.messages.specs.declared.Event.TheVariants as event
use Rattle.record.specs.Record.{fresh_record}
use Rattle.hire_book.specs.Book.{fresh_book}
use Rattle.outgoing.specs.Queue.{Msg, lent, queue_of}
use Rattle.step.specs.Step.{World, Outcome, step_of}

-- how many depots there are, and their quorums: every depot has them, and a pid of its own
pub record Setup : Type 0 where
  pub depots : ℕ
  pub quorum : Quorum

abbrev pub config_of : Setup → ℕ → Configuration
config_of z i = record { depots = z.depots; pid = i + 1; quorum = z.quorum }

-- the depots, the link from each to each, and every entry that a proposal gave so far
pub record State : Type 0 where
  pub depot : ℕ → World
  pub link : ℕ → ℕ → List Msg
  pub proposed : List ℕ

-- a depot that never ran, with lists of the right lengths: what stands in cells that nothing uses is of no matter
pub record FreshDepot (w : World) : Type 0 where
  pub node : w.node ≡ fresh_record
  pub log : length w.lists.log ≡ max_log
  pub cached : length w.lists.cached ≡ max_log
  pub best : length w.lists.best ≡ max_log
  pub store : length w.lists.store ≡ max_store
  pub book : w.lists.book ≡ fresh_book

-- the configuration stands (read + write is above the depots), every depot is fresh, no message is on its way, nothing was proposed
pub record Start (z : Setup) (σ : State) : Type 0 where
  pub stands : (i : ℕ) → i < z.depots → stands_of (config_of z i) ≡ true
  pub fresh : (i : ℕ) → FreshDepot (σ.depot i)
  pub links : (i j : ℕ) → σ.link i j ≡ []
  pub nothing : σ.proposed ≡ []

pub data Move : Type 0 where
  deliver : ℕ → ℕ → Move
  lose : ℕ → ℕ → Move
  drain : ℕ → Move
  propose : ℕ → List ℕ → Move
  leader : ℕ → Ballot → Move
  reconnect : ℕ → ℕ → Move
  resend : ℕ → Move
  restart : ℕ → Move

-- a function changed at one place, or at one pair
module _ {A : Type 0} where
  abbrev pub put_at : ℕ → A → (ℕ → A) → ℕ → A
  put_at i x f k = cond (eqb k i) x (f k)

abbrev pub put_link : ℕ → ℕ → List Msg → (ℕ → ℕ → List Msg) → ℕ → ℕ → List Msg
put_link i j q f a b = cond (eqb a i && eqb b j) q (f a b)

-- one depot takes a step; a refused one leaves it as found
abbrev pub outcome : Setup → ℕ → Event → List ℕ → State → Outcome
outcome z i e entries σ = step_of (config_of z i) e entries (σ.depot i)

abbrev pub stepped : Setup → ℕ → Event → List ℕ → State → State
stepped z i e entries σ = record { depot = put_at i (outcome z i e entries σ).after σ.depot; link = σ.link; proposed = σ.proposed }

-- the messages of a queue that go to a depot, in order
unfoldable pub sent_to : ℕ → List Msg → List Msg
sent_to j [] = []
sent_to j (m ∷ q) = cond (eqb m.to (j + 1)) (m ∷ sent_to j q) (sent_to j q)

-- a drain hands the queue to the links, in order
abbrev pub handed : Setup → ℕ → State → List Msg
handed z i σ = queue_of (outcome z i event.Drain [] σ).answer.handed_out (lent (σ.depot i).row (σ.depot i).lists.store)

abbrev pub drained : Setup → ℕ → State → State
drained z i σ =
    record {
      depot = put_at i (outcome z i event.Drain [] σ).after σ.depot;
      link = λ a b. cond (eqb a i) (σ.link a b ++ sent_to b (handed z i σ)) (σ.link a b);
      proposed = σ.proposed;
    }

-- a link's first message goes; it is given to the depot at the link's end, or lost
abbrev pub without : ℕ → ℕ → List Msg → State → State
without i j q σ = record { depot = σ.depot; link = put_link i j q σ.link; proposed = σ.proposed }

abbrev pub arrives : Setup → ℕ → ℕ → List Msg → State → State
arrives z i j [] σ = σ
arrives z i j (m ∷ q) σ = stepped z j (event.Message (record { from = i + 1; msg = m.msg })) m.entries (without i j q σ)

abbrev pub lost : ℕ → ℕ → List Msg → State → State
lost i j [] σ = σ
lost i j (m ∷ q) σ = without i j q σ

-- a proposal that is taken is one given
abbrev pub proposes : Setup → ℕ → List ℕ → State → State
proposes z i entries σ =
    record {
      depot = put_at i (outcome z i event.Propose entries σ).after σ.depot;
      link = σ.link;
      proposed = cond (eqb (outcome z i event.Propose entries σ).answer.no 0) (σ.proposed ++ entries) σ.proposed;
    }

unfoldable pub moved : Setup → Move → State → State
moved z (deliver i j) σ = arrives z i j (σ.link i j) σ
moved z (lose i j) σ = lost i j (σ.link i j) σ
moved z (drain i) σ = drained z i σ
moved z (propose i entries) σ = proposes z i entries σ
moved z (leader i n) σ = stepped z i (event.Leader n) [] σ
moved z (reconnect i pid) σ = stepped z i (event.Reconnect pid) [] σ
moved z (resend i) σ = stepped z i event.Resend [] σ
moved z (restart i) σ = stepped z i event.Restart [] σ

-- any sequence of moves
unfoldable pub after : Setup → List Move → State → State
after z [] σ = σ
after z (m ∷ ms) σ = after z ms (moved z m σ)
