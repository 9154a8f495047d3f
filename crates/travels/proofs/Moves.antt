-- What every step of a depot has in common: its facts from the one ghost data to the next, and the flows of a depot that does not lead, or does not follow.
use Prim.Native.Nat.{ℕ, ◌<◌}
use mathlib.Core.Path.{◌≡◌}
use mathlib.Core.Logic.{◌≢◌}
use mathlib.Core.Bool.{false}
use mathlib.Core.List.{List, ◌++◌}
use lib.ListN.{length}
use Rattle.base.proofs.Tests.{not-both}
use Rattle.ballot.specs.declared.Ballot.{Ballot}
use Rattle.leader_state.specs.declared.LeaderState.{LeaderState}
use Rattle.paxos_box.specs.declared.State.{State}
use Rattle.paxos_box.specs.Box.{is_leader}
use Rattle.agreement.specs.Order.{leader_of}
use Rattle.agreement.specs.Core.{Sizes, Ghost, Same}
use Rattle.agreement.specs.Growth.{Moved}
use Rattle.agreement.specs.Proposed.{Only}
use Rattle.agreement.specs.Stream.{Item, Taker, Feeder, Flow}
use Rattle.agreement.proofs.Growth.{ext_refl}
use Rattle.agreement.proofs.Flow.{flow-idle, flow-grown}
use Rattle.travels.specs.Face.{Face, takes_in, leads_by, feeds_by, feeds_in}
use Rattle.travels.specs.Facts.{NodeOk}
use Rattle.travels.specs.Inv.{for_depot, FlowOf}
use Rattle.travels.specs.Near.{Scene, Well, Next}
use Rattle.travels.proofs.Up.{oks-up}

-- ---- nothing happens
pub stay : {z : Sizes} {P : ℕ → Type 0} {b : ℕ} {c : Scene} {g : Ghost ℕ} {x : Face} → Well z P b c g x → Next z P b c g x
stay {b = b} {g = g} v = record { ghost = g; moved = record { ext = ext_refl b g; core = v.core }; well = v }

-- ---- a depot that does not lead

pub leads-none : (n : Ballot) (s : State) (l : LeaderState) → is_leader s.role ≡ false → leads_by n s l ≡ false
unfolding leads_by
leads-none n s l e = rw e

pub feeds-none : (n : Ballot) (t : ℕ) (s : State) (l : LeaderState) → is_leader s.role ≡ false → feeds_by n t s l ≡ false
unfolding feeds_by leads_by
feeds-none n t s l e = rw e

-- its flows ask nothing of it
pub flow-left : {log log' : List ℕ} {k : ℕ} {l : List (Item ℕ)} {x : Taker} {y : Feeder} (y' : Feeder) → y'.leads ≡ false → y'.feeds ≡ false → Same (length log) log log' → Flow log k l x y → Flow log' k l x y'
flow-left y' p q s f = flow-grown f y' s (record { number = λ t. absurd (not-both t p); whole = λ t. absurd (not-both t q) })

module _ {z : Sizes} {P : ℕ → Type 0} {b : ℕ} {c : Scene} {g h : Ghost ℕ} {x : Face} (v : Well z P b c g x) (m : Moved z b g h) where
  -- the flows of a depot that leads no more
  pub up_left : (x' : Face) → is_leader x'.state.role ≡ false → (n : Ballot) (t : ℕ) → leader_of n ≡ b → t < z.depots → t ≢ b
      → FlowOf h (h.G n) (feeds_in n t x') n t (c.out t ++ for_depot t x.queue) (c.others t) x'
  up_left x' r n t o u ne =
      rw ((m.ext.stays t ne).A n) (flow-left _ (leads-none n x'.state x'.leader r) (feeds-none n t x'.state x'.leader r) (m.ext.grows n).log (v.up n t o u ne))

  -- the flow of a ballot that b takes nothing of
  pub down-idle : (x' : Face) (n : Ballot) → leader_of n < z.depots → leader_of n ≢ b → takes_in n x' ≡ false → h.A b n ≡ g.A b n
      → FlowOf h (h.G n) (feeds_in n b (c.others (leader_of n))) n b (c.inn (leader_of n)) x' (c.others (leader_of n))
  down-idle x' n u ne q a = rw ((m.ext.rests n ne).log, a) (flow-idle _ q (v.down n u ne))

  -- b has become x', a follower; its queue is as it was
  pub followed : Only P h → (x' : Face) → x'.queue ≡ x.queue → is_leader x'.state.role ≡ false → NodeOk z P h b x'
      → ((n : Ballot) → leader_of n < z.depots → leader_of n ≢ b → FlowOf h (h.G n) (feeds_in n b (c.others (leader_of n))) n b (c.inn (leader_of n)) x' (c.others (leader_of n)))
      → Next z P b c g x'
  followed o x' q r nd d =
      record {
        ghost = h;
        moved = m;
        well = record {
          core = m.core;
          only = o;
          node = nd;
          msgs = λ t. rw q (oks-up z m.ext v.core P b t (v.msgs t));
          down = d;
          up = λ n t w u ne. rw q (up_left x' r n t w u ne);
        };
      }
