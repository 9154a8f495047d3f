-- The invariant as one depot b sees it while it takes a step: `inn` is under way to it from each depot, `out` on the links from it.
use Rattle.std.specs.Prelude.{ℕ, ◌<◌, ◌≡◌, ◌≢◌, Bool, List, ◌++◌}
use Rattle.ballot.specs.declared.Ballot.{Ballot}
use Rattle.outgoing.specs.Queue.{Msg}
use Rattle.agreement.specs.Order.{leader_of}
use Rattle.agreement.specs.Core.{Sizes, Ghost, Core}
use Rattle.agreement.specs.Growth.{Moved}
use Rattle.agreement.specs.All.{All}
use Rattle.agreement.specs.Proposed.{Only}
use Rattle.travels.specs.Face.{Face, feeds_in}
use Rattle.travels.specs.Facts.{Ok, NodeOk}
use Rattle.travels.specs.Inv.{for_depot, FlowOf}

-- what does not change while b takes its step: the others, and what is on the links
pub record Scene : Type 0 where
  pub others : ℕ → Face
  pub inn : ℕ → List Msg
  pub out : ℕ → List Msg

-- of the flows from b, `whole` and `fed` say what counts as sent: in the midst of a step not all is
pub record Near (z : Sizes) (P : ℕ → Type 0) (b : ℕ) (c : Scene) (g : Ghost ℕ) (whole : Ballot → ℕ → List ℕ) (fed : Ballot → ℕ → Bool) (x : Face) : Type 0 where
  pub core : Core z g
  pub only : Only P g
  pub node : NodeOk z P g b x
  pub msgs : (t : ℕ) → All (Ok z P g b t) (c.out t ++ for_depot t x.queue)
  pub down : (n : Ballot) → leader_of n < z.depots → leader_of n ≢ b → FlowOf g (g.G n) (feeds_in n b (c.others (leader_of n))) n b (c.inn (leader_of n)) x (c.others (leader_of n))
  pub up : (n : Ballot) (t : ℕ) → leader_of n ≡ b → t < z.depots → t ≢ b → FlowOf g (whole n t) (fed n t) n t (c.out t ++ for_depot t x.queue) (c.others t) x

-- before and after a step
abbrev pub Well : Sizes → (ℕ → Type 0) → ℕ → Scene → Ghost ℕ → Face → Type 0
Well z P b c g x = Near z P b c g (λ n t. g.G n) (λ n t. feeds_in n t x) x

-- b has come to x, and the ghost data with it
pub record Next (z : Sizes) (P : ℕ → Type 0) (b : ℕ) (c : Scene) (g : Ghost ℕ) (x : Face) : Type 0 where
  pub ghost : Ghost ℕ
  pub moved : Moved z b g ghost
  pub well : Well z P b c ghost x
