-- A leader is elected, and takes note of promises, of accepted indexes and of depots that have promised higher.
use Rattle.std.specs.Prelude.{Option, None, Some}
use Prim.Native.Nat.{ℕ, ◌+◌, ◌<◌}
use mathlib.Core.Path.{◌≡◌, refl, sym, ap, subst}
use mathlib.Core.Logic.{◌⊎◌, inl, inr, ◌≢◌}
use mathlib.Core.Bool.{Bool, true, false, cond}
use mathlib.Core.List.{List, ◌++◌, map}
use native.Mathlib.Omega.{arith}
use lib.ListN.{length}
use Rattle.base.proofs.Tests.{not-both}
use Rattle.base.specs.Limits.{max_depots}
use Rattle.ballot.specs.Ballot.{same}
use Rattle.ballot.specs.declared.Ballot.{Ballot}
use Rattle.ballot.proofs.Laws.{same-eq}
use Rattle.sequence.specs.Sequence.{first}
use Rattle.sequence.specs.declared.SequenceNumber.{SequenceNumber}
use Rattle.leader_state.specs.declared.LeaderState.{LeaderState}
use Rattle.leader_state.specs.declared.PromiseMetaData.{PromiseMetaData}
use Rattle.leader_state.specs.declared.PromiseState.TheVariants.{Promised}
use Rattle.messages.specs.declared.PaxosMsg.{PaxosMsg}
use Rattle.messages.specs.declared.PaxosMsg.TheVariants as msg
use Rattle.paxos_box.specs.declared.State.{State}
use Rattle.paxos_box.specs.declared.Role.{Role}
use Rattle.paxos_box.specs.declared.Role.TheVariants.{Leader, Follower}
use Rattle.paxos_box.specs.declared.Phase.{Phase}
use Rattle.paxos_box.specs.declared.Phase.TheVariants as phase
use Rattle.paxos_box.specs.Box.{is_leader}
use Rattle.outgoing.specs.Queue.{Msg}
use Rattle.agreement.specs.Order.{Below, leader_of}
use Rattle.agreement.specs.Core.{Sizes, Ghost}
use Rattle.agreement.specs.Moves.{raise}
use Rattle.agreement.specs.Report.{Asks, Told, Elected}
use Rattle.agreement.specs.All.{All, nil, cons}
use Rattle.agreement.specs.Stream.{Item, plain, Plain, none, more}
use Rattle.agreement.proofs.Order.{within-refl, upto-refl}
use Rattle.agreement.proofs.Update.{ballot-eq}
use Rattle.agreement.proofs.Hold.{holds-low}
use Rattle.agreement.proofs.Report.{not-started, report-of}
use Rattle.agreement.proofs.Proposed.{only-raise}
use Rattle.agreement.proofs.Lead.{elected, none-accepted}
use Rattle.agreement.proofs.Flow.{flow-new}
use Rattle.agreement.proofs.Same.{same_refl}
use Rattle.travels.specs.Face.{Face, place, item, if_same, takes_in, feeds_in}
use Rattle.travels.specs.Facts.{Ok, MsgOk, Preparing, Leading, InRole, NodeOk}
use Rattle.travels.specs.Inv.{for_depot, FlowOf}
use Rattle.travels.specs.Near.{Scene, Near, Well, Next}
use Rattle.travels.proofs.Up.{cached-up, oks-up}
use Rattle.travels.proofs.Moves.{down-idle, flow-left}
use Rattle.travels.proofs.Books.{leader-is, leads-other, feeds-early}

-- ---- a message of a ballot that has not started has no number in it

pub not-of : {m n : Ballot} (i : Item ℕ) → m ≢ n → if_same m n i ≡ plain
not-of {m} {n} i ne = go (same m n) refl
  where
    go : (t : Bool) → same m n ≡ t → cond t i plain ≡ plain
    go true e = absurd (ne (same-eq m n e))
    go false e = refl

module _ (z : Sizes) (P : ℕ → Type 0) (g : Ghost ℕ) (n : Ballot) (s : g.started n ≡ false) where
  apart : (m : Ballot) → g.started m ≡ true → m ≢ n
  apart m t e = not-both (subst (λ k. g.started k ≡ true) e t) s

  early-item : (i j : ℕ) (m : Msg) → Ok z P g i j m → item n m ≡ plain
  early-item i j m o = go m.msg o
    where
      go : (p : PaxosMsg) → MsgOk z P g i j p m.entries → item n (record { to = m.to; msg = p; entries = m.entries }) ≡ plain
      go (msg.PrepareReq a) o = refl
      go (msg.Prepare a) o = refl
      go (msg.Promise a) o = refl
      go (msg.AcceptSync a) o = not-of _ (apart a.n o.started)
      go (msg.AcceptDecide a) o = not-of _ (apart a.n o.started)
      go (msg.Accepted a) o = refl
      go (msg.NotAccepted a) o = refl
      go (msg.Decide a) o = not-of _ (apart a.n o.started)
      go msg.ProposalForward o = refl

  early-items : (i j : ℕ) {l : List Msg} → All (Ok z P g i j) l → Plain (map (item n) l)
  early-items i j nil = none
  early-items i j (cons {x = m} p ps) = rw (early-item i j m p) (more (early-items i j ps))

-- nothing is remembered
pub no-latest : {A : Type 0} {at : ℕ} {l : Option ℕ} → l ≡ None → l ≡ Some at → A
no-latest p q = absurd (let w : ◌≡◌ {A = ℕ} 0 1 = cc in omega arith)

-- ---- elected

-- a new leader's record: its own promise in it, which is the best, and nothing else
pub record Elects (z : Sizes) (b : ℕ) (n : Ballot) (x : Face) (l : LeaderState) : Type 0 where
  pub row : length l.depots ≡ max_depots
  pub ballot : l.n_leader ≡ n
  pub own : n.pid ≡ b + 1
  pub round : l.max_promise.meta.n_accepted ≡ x.storage.accepted_round
  pub index : l.max_promise.meta.accepted_idx ≡ length x.log
  pub none : l.max_promise.sync ≡ None
  pub alone : (t : ℕ) (m : PromiseMetaData) → t < z.depots → (place t l).promise ≡ Promised m
      → (t ≡ b) × (m ≡ record { n_accepted = x.storage.accepted_round; accepted_idx = x.storage.accepted_idx; decided_idx = x.storage.decided_idx; pid = b + 1 })
  pub number : (t : ℕ) → t < z.depots → (place t l).seq_num ≡ first
  pub noted : (t : ℕ) → t < z.depots → (place t l).accepted_idx ≡ 0
  pub latest : (t : ℕ) → t < z.depots → (place t l).latest ≡ None

abbrev pub elected_to : Ballot → LeaderState → List ℕ → Face → Face
elected_to n l best x =
    record {
      storage = record { promise = n; accepted_round = x.storage.accepted_round; decided_idx = x.storage.decided_idx; accepted_idx = x.storage.accepted_idx };
      log = x.log;
      state = record { role = Leader; phase = phase.Prepare };
      seq = x.seq;
      leader = l;
      best = best;
      message = x.message;
      cached = x.cached;
      buffered = x.buffered;
      meta = x.meta;
      queue = x.queue;
    }

module _ {z : Sizes} {P : ℕ → Type 0} {b : ℕ} {c : Scene} {g : Ghost ℕ} {x : Face} (v : Well z P b c g x) where
  -- no depot takes items of a ballot that has not started
  pub t-elected : {n : Ballot} {l : LeaderState} (best : List ℕ) → Below x.storage.promise n → Elects z b n x l → ((t : ℕ) → t < z.depots → t ≢ b → takes_in n (c.others t) ≡ false)
      → Next z P b c g (elected_to n l best x)
  unfolding raise
  t-elected {n} {l} best lt o idle =
      record {
        ghost = raise b n g;
        moved = w.moved;
        well = record {
          core = w.moved.core;
          only = only-raise v.only b n;
          node = record {
            own = record { holds = w.holds; length = v.node.own.length };
            role = record {
              now = o.ballot;
              own = rw o.ballot o.own;
              prepares = rw (o.round, o.index, o.none) w.prepares;
              told = told;
              noted = λ t u. record { reached = omega (arith, o.noted t u) };
            };
            cached = cached-up z w.moved.ext b x.message x.cached v.node.cached;
            buffered = v.node.buffered;
            remembers = λ _ t u. record { stands = λ at e. no-latest (o.latest t u) e };
            meta = v.node.meta;
            row = o.row;
          };
          msgs = λ t. oks-up z w.moved.ext v.core P b t (v.msgs t);
          down = λ m u ne. down-idle v w.moved y m u ne refl refl;
          up = λ m t p u ne. up m t p u ne (ballot-eq m n);
        };
      }
    where
      y : Face
      y = elected_to n l best x

      is : leader_of n ≡ b
      is = leader-is n o.own

      w : Elected z g (raise b n g) b n x.storage.accepted_round x.log x.storage.decided_idx
      w = elected v.core v.node.own.holds is lt

      new : g.started n ≡ false
      new = not-started v.core (rw (is, v.node.own.holds.promise) lt)

      told : (t : ℕ) (m : PromiseMetaData) → t < z.depots → (place t l).promise ≡ Promised m
          → Told z (raise b n g) n l.max_promise.meta.n_accepted l.max_promise.meta.accepted_idx t m.n_accepted m.accepted_idx m.decided_idx
      told t m u e =
          let k : (t ≡ b) × (m ≡ record { n_accepted = x.storage.accepted_round; accepted_idx = x.storage.accepted_idx; decided_idx = x.storage.decided_idx; pid = b + 1 }) = o.alone t m u e in
          rw (k.0, k.1, o.round, o.index, v.node.own.length) (record { report = w.report; least = within-refl })

      up : (m : Ballot) (t : ℕ) → leader_of m ≡ b → t < z.depots → t ≢ b → (m ≡ n) ⊎ (m ≢ n) → FlowOf (raise b n g) (g.G m) (feeds_in m t y) m t (c.out t ++ for_depot t x.queue) (c.others t) y
      up m t p u ne (inr e) =
          flow-left _ (leads-other m y.state l o.ballot e) (feeds-early m t y.state l refl) same_refl (v.up m t p u ne)
      up m t p u ne (inl e) =
          subst (λ k. FlowOf (raise b n g) (g.G k) (feeds_in k t y) k t (c.out t ++ for_depot t x.queue) (c.others t) y) (sym e)
          (rw (none-accepted v.core t new)
          (flow-new (early-items z P g n new b t (v.msgs t)) (idle t u ne) (ap (λ (q : SequenceNumber). q.session) (o.number t u)) (ap (λ (q : SequenceNumber). q.counter) (o.number t u))
          (feeds-early n t y.state l refl)))

-- ---- a leader in its role

pub prepares-in : {z : Sizes} {P : ℕ → Type 0} {g : Ghost ℕ} {b : ℕ} {x : Face} → NodeOk z P g b x → x.state ≡ record { role = Leader; phase = phase.Prepare } → Preparing z g b x.storage x.log x.leader x.best
prepares-in {z} {P} {g} {b} {x} o e = subst (λ (s : State). InRole z g b x.storage x.log x.leader x.best s.role s.phase) e o.role

pub leads-in : {z : Sizes} {P : ℕ → Type 0} {g : Ghost ℕ} {b : ℕ} {x : Face} → NodeOk z P g b x → x.state ≡ record { role = Leader; phase = phase.Accept } → Leading z g b x.storage x.log x.leader
leads-in {z} {P} {g} {b} {x} o e = subst (λ (s : State). InRole z g b x.storage x.log x.leader x.best s.role s.phase) e o.role

-- what a leader tells in a Prepare: before its ballot starts, what it holds
pub asks-now : {z : Sizes} {P : ℕ → Type 0} {b : ℕ} {c : Scene} {g : Ghost ℕ} {whole : Ballot → ℕ → List ℕ} {fed : Ballot → ℕ → Bool} {x : Face} → Near z P b c g whole fed x → is_leader x.state.role ≡ true
    → Asks z g x.leader.n_leader x.storage.accepted_round x.storage.accepted_idx x.storage.decided_idx
asks-now {z} {P} {b} {c} {g} {x = x} v r = go x.state.role x.state.phase r v.node.role
  where
    go : (rl : Role) (ph : Phase) → is_leader rl ≡ true → InRole z g b x.storage x.log x.leader x.best rl ph
        → Asks z g x.leader.n_leader x.storage.accepted_round x.storage.accepted_idx x.storage.decided_idx
    go Follower ph e o = absurd (not-both e refl)
    go Leader phase.Prepare e o =
        record {
          early = λ s. rw (o.now, v.node.own.length, o.prepares.own) (report-of v.core v.node.own.holds (holds-low v.core v.node.own.holds) upto-refl);
        }
    go Leader phase.Accept e o = record { early = λ s. absurd (not-both o.leads.started (subst (λ k. g.started k ≡ false) o.now s)) }
    go Leader phase.Recover e o = absurd o
    go Leader phase.None e o = absurd o
