-- A leader's record changes: its flows ask no more of it than they did, as long as its ballot and its numbers stay.
use Prim.Native.Nat.{ℕ, ◌+◌, ◌<◌}
use mathlib.Core.Path.{◌≡◌, refl, sym, ap, ◌∙◌}
use mathlib.Core.Logic.{◌≢◌}
use mathlib.Core.Bool.{Bool, true, false}
use mathlib.Core.List.{List}
use native.Mathlib.Omega.{arith}
use Rattle.ballot.specs.Ballot.{same}
use Rattle.ballot.specs.declared.Ballot.{Ballot}
use Rattle.ballot.proofs.Laws.{same-eq, same_refl as same_self}
use Rattle.sequence.specs.declared.SequenceNumber.{SequenceNumber}
use Rattle.leader_state.specs.declared.LeaderState.{LeaderState}
use Rattle.paxos_box.specs.declared.State.{State}
use Rattle.paxos_box.specs.Box.{is_leader, is_accept_phase}
use Rattle.agreement.specs.Order.{leader_of}
use Rattle.agreement.specs.Core.{Sizes, Ghost}
use Rattle.agreement.specs.Stream.{Item, Taker, Feeder, Flow}
use Rattle.agreement.proofs.Same.{same_refl}
use Rattle.agreement.proofs.Flow.{flow-grown, feeds-less}
use Rattle.travels.specs.Face.{Face, place, leads_by, feeds_by, with_leader, with_best}
use Rattle.travels.specs.Facts.{NodeOk}
use Rattle.travels.specs.Near.{Scene, Near}
use Rattle.travels.proofs.Tests.{both_true, and-false}

-- the depot that a ballot's pid names
pub leader-is : {b : ℕ} (n : Ballot) → n.pid ≡ b + 1 → leader_of n ≡ b
unfolding leader_of
leader-is n e = omega arith

pub leads-same : (n : Ballot) (s : State) (l l' : LeaderState) → l'.n_leader ≡ l.n_leader → leads_by n s l' ≡ leads_by n s l
unfolding leads_by
leads-same n s l l' e = rw e

-- a leader of the ballot that its record names, and of no other
pub leads-now : (n : Ballot) (s : State) (l : LeaderState) → is_leader s.role ≡ true → l.n_leader ≡ n → leads_by n s l ≡ true
unfolding leads_by
leads-now n s l e p = rw (e, p) (same_self n)

pub leads-other : (m : Ballot) (s : State) (l : LeaderState) {n : Ballot} → l.n_leader ≡ n → m ≢ n → leads_by m s l ≡ false
unfolding leads_by
leads-other m s l {n} p ne = go (leads_by m s l) refl
  where
    only : leads_by m s l ≡ true → m ≡ n
    only e =
        let k : (is_leader s.role ≡ true) × (same l.n_leader m ≡ true) = both_true e in
        sym (same-eq l.n_leader m k.1) ∙ p

    go : (t : Bool) → leads_by m s l ≡ t → leads_by m s l ≡ false
    go true e = absurd (ne (only e))
    go false e = e

-- a flow whose leader does no more than it did
pub flow-less : {log : List ℕ} {k : ℕ} {l : List (Item ℕ)} {x : Taker} {y : Feeder} (y' : Feeder) → (y'.leads ≡ true → (y.leads ≡ true) × (y'.session ≡ y.session) × (y'.counter ≡ y.counter))
    → (y'.feeds ≡ true → y.feeds ≡ true) → Flow log k l x y → Flow log k l x y'
flow-less y' p q f = flow-grown f y' same_refl (feeds-less p q f.feeds)

module _ {z : Sizes} {P : ℕ → Type 0} {b : ℕ} {c : Scene} {g : Ghost ℕ} {whole : Ballot → ℕ → List ℕ} {fed : Ballot → ℕ → Bool} {x : Face} (v : Near z P b c g whole fed x) where
  pub booked : (l : LeaderState) (best : List ℕ) (fed' : Ballot → ℕ → Bool) → l.n_leader ≡ x.leader.n_leader → ((t : ℕ) → t < z.depots → (place t l).seq_num ≡ (place t x.leader).seq_num)
      → ((n : Ballot) (t : ℕ) → leader_of n ≡ b → t < z.depots → t ≢ b → fed' n t ≡ true → fed n t ≡ true) → NodeOk z P g b (with_best best (with_leader l x))
      → Near z P b c g whole fed' (with_best best (with_leader l x))
  booked l best fed' en es ef nd =
      record {
        core = v.core;
        only = v.only;
        node = nd;
        msgs = v.msgs;
        down = v.down;
        up = λ n t o u ne.
            flow-less _ (λ e. (sym (leads-same n x.state x.leader l en) ∙ e, ap (λ (q : SequenceNumber). q.session) (es t u), ap (λ (q : SequenceNumber). q.counter) (es t u)))
            (ef n t o u ne) (v.up n t o u ne);
      }

  -- what counts as fed, told otherwise
  pub refed : (fed' : Ballot → ℕ → Bool) → ((n : Ballot) (t : ℕ) → leader_of n ≡ b → t < z.depots → t ≢ b → fed' n t ≡ true → fed n t ≡ true) → Near z P b c g whole fed' x
  refed fed' ef =
      record {
        core = v.core;
        only = v.only;
        node = v.node;
        msgs = v.msgs;
        down = v.down;
        up = λ n t o u ne. flow-less _ (λ e. (e, refl, refl)) (ef n t o u ne) (v.up n t o u ne);
      }

-- before it is in phase Accept a leader feeds nobody
pub feeds-early : (n : Ballot) (t : ℕ) (s : State) (l : LeaderState) → is_accept_phase s.phase ≡ false → feeds_by n t s l ≡ false
unfolding feeds_by
feeds-early n t s l e = rw e (and-false (leads_by n s l))
