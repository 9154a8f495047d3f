-- A read quorum has promised: the ballot starts with the log that the best promise makes of the leader's, and the buffered proposals after it.
use Prim.Native.Nat.{ℕ, ◌≤◌, ◌<◌, max}
use mathlib.Core.Path.{◌≡◌, refl, sym, ap, ◌∙◌}
use mathlib.Core.Logic.{◌⊎◌, inl, inr, ◌≢◌}
use mathlib.Core.Bool.{true, false}
use mathlib.Core.List.{List, [], ◌++◌}
use native.Mathlib.Omega.{arith}
use lib.ListN.{length}
use Rattle.base.proofs.Tests.{not-both}
use Rattle.base.specs.Limits.{max_depots}
use Rattle.base.specs.Count.{count_below}
use Rattle.ballot.specs.Ballot.{default}
use Rattle.ballot.specs.declared.Ballot.{Ballot}
use Rattle.sequence.specs.declared.SequenceNumber.{SequenceNumber}
use Rattle.leader_state.specs.declared.LeaderState.{LeaderState}
use Rattle.leader_state.specs.declared.PromiseMetaData.{PromiseMetaData}
use Rattle.leader_state.specs.declared.PromiseState.{PromiseState}
use Rattle.leader_state.specs.declared.PromiseState.TheVariants.{NotPromised, Promised, PromisedHigher}
use Rattle.leader_state.specs.Promises.{is_promised}
use Rattle.paxos_box.specs.declared.Role.TheVariants.{Leader}
use Rattle.paxos_box.specs.declared.Phase.TheVariants as phase
use Rattle.paxos_box.specs.declared.State.{State}
use Rattle.paxos_box.specs.Box.{is_leader}
use Rattle.agreement.specs.Order.{leader_of}
use Rattle.agreement.specs.Core.{Sizes, Ghost}
use Rattle.agreement.specs.Growth.{Moved}
use Rattle.agreement.specs.Moves.{start, accept, Begins}
use Rattle.agreement.specs.Facts.{Comm, Borne}
use Rattle.agreement.specs.Report.{put_on, Told, Led}
use Rattle.agreement.specs.All.{All, nil}
use Rattle.agreement.proofs.Update.{ballot-eq, depot-eq}
use Rattle.agreement.proofs.All.{all_append}
use Rattle.agreement.proofs.Decided.{comm-on, comm-max}
use Rattle.agreement.proofs.Report.{told-decided, report-up}
use Rattle.agreement.proofs.Lead.{begins, led-first, led-decided}
use Rattle.agreement.proofs.Proposed.{only-start, only-accept, only-prepared}
use Rattle.agreement.proofs.Flow.{flow-grown}
use Rattle.travels.specs.Face.{Face, place, sync_of}
use Rattle.travels.specs.Facts.{Preparing, Noted}
use Rattle.travels.specs.Inv.{for_depot, FlowOf}
use Rattle.travels.specs.Near.{Scene, Near, Well}
use Rattle.travels.proofs.Up.{cached-up, oks-up, noted-up}
use Rattle.travels.proofs.Moves.{down-idle, flow-left}
use Rattle.travels.proofs.Follow.{takes-other}
use Rattle.travels.proofs.Books.{leads-now, leads-other}
use Rattle.travels.proofs.Elect.{prepares-in}
use Rattle.travels.proofs.Note.{remembers-less}

-- what a promise told
abbrev pub meta_of : PromiseState → PromiseMetaData
meta_of NotPromised = record { n_accepted = default; accepted_idx = 0; decided_idx = 0; pid = 0 }
meta_of (Promised m) = m
meta_of PromisedHigher = record { n_accepted = default; accepted_idx = 0; decided_idx = 0; pid = 0 }

pub promised-meta : (p : PromiseState) → is_promised p ≡ true → p ≡ Promised (meta_of p)
promised-meta NotPromised e = absurd (not-both e refl)
promised-meta (Promised m) e = refl
promised-meta PromisedHigher e = absurd (not-both e refl)

-- the leader's record: but for the own accepted index, and the held sync, which is put on, as it was
pub record Begun (z : Sizes) (b : ℕ) (k : ℕ) (l l' : LeaderState) : Type 0 where
  pub row : length l'.depots ≡ max_depots
  pub ballot : l'.n_leader ≡ l.n_leader
  pub best : l'.max_promise.meta ≡ l.max_promise.meta
  pub promise : (t : ℕ) → t < z.depots → (place t l').promise ≡ (place t l).promise
  pub number : (t : ℕ) → t < z.depots → (place t l').seq_num ≡ (place t l).seq_num
  pub latest : (t : ℕ) → t < z.depots → (place t l').latest ≡ (place t l).latest
  pub own : (place b l').accepted_idx ≤ k
  pub else : (t : ℕ) → t < z.depots → t ≢ b → (place t l').accepted_idx ≡ (place t l).accepted_idx

abbrev pub started_to : Ballot → ℕ → List ℕ → ℕ → LeaderState → Face → Face
started_to r d log k l x =
    record {
      storage = record { promise = x.storage.promise; accepted_round = r; decided_idx = d; accepted_idx = k };
      log = log;
      state = record { role = Leader; phase = phase.Accept };
      seq = x.seq;
      leader = l;
      best = [];
      message = x.message;
      cached = x.cached;
      buffered = [];
      meta = x.meta;
      queue = x.queue;
    }

-- the ballot has started, and nobody is fed yet
pub record Started (z : Sizes) (P : ℕ → Type 0) (b : ℕ) (c : Scene) (g : Ghost ℕ) (x : Face) : Type 0 where
  pub ghost : Ghost ℕ
  pub moved : Moved z b g ghost
  pub near : Near z P b c ghost (λ n t. ghost.G n) (λ n t. false) x

module _ {z : Sizes} {P : ℕ → Type 0} {b : ℕ} {c : Scene} {g : Ghost ℕ} {x : Face} (v : Well z P b c g x) (st : x.state ≡ record { role = Leader; phase = phase.Prepare }) where
  pub t-started : {r : Ballot} {k hi : ℕ} {l : LeaderState} {log es : List ℕ} → r ≡ x.storage.promise → log ≡ put_on (sync_of x.leader.max_promise.sync x.best) x.log ++ es → All P es → k ≡ length log
      → Begun z b k x.leader l → z.read ≤ count_below (λ t. is_promised (place t x.leader).promise) z.depots
      → ((Q : ℕ → Type 0) → Q 0 → ((t : ℕ) (m : PromiseMetaData) → t < z.depots → (place t x.leader).promise ≡ Promised m → Q m.decided_idx) → Q hi)
      → Started z P b c g (started_to r (max x.storage.decided_idx hi) log k l x)
  unfolding start accept
  t-started {r} {k} {hi} {l} {log} {es} er el pe ek o quorum highest =
      record {
        ghost = h;
        moved = w.taken.moved;
        near = record {
          core = w.taken.moved.core;
          only = only-accept (only-start v.only n all) b n (length log);
          node = record {
            own = record { holds = rw er (w.taken.holds _ (omega (arith, mine.0, his.0)) (comm-max x.storage.decided_idx hi mine.1 his.1)); length = ek };
            role = record {
              now = o.ballot ∙ p.now;
              own = rw o.ballot p.own;
              round = er;
              leads = rw o.best w.leads;
              told = λ t m u e. report-up w.taken.moved.ext (p.told t m u (sym (o.promise t u) ∙ e)).report;
              noted = λ t u. noted t u (depot-eq t b);
            };
            cached = cached-up z w.taken.moved.ext b x.message x.cached v.node.cached;
            buffered = nil;
            remembers = λ _ t u. remembers-less o.ballot (o.number t u) (inl (o.latest t u)) (v.node.remembers (ap (λ (s : State). is_leader s.role) st) t u);
            meta = v.node.meta;
            row = o.row;
          };
          msgs = λ t. oks-up z w.taken.moved.ext v.core P b t (v.msgs t);
          down = λ m u ne. down-idle v w.taken.moved y m u ne (takes-other n m y refl (λ e. ne (ap leader_of e ∙ p.prepares.own))) (w.taken.else m (λ e. ne (ap leader_of e ∙ p.prepares.own)));
          up = λ m t q u ne. rw ((w.taken.moved.ext.stays t ne).A m) (up m t q u ne (ballot-eq m n));
        };
      }
    where
      p : Preparing z g b x.storage x.log x.leader x.best
      p = prepares-in v.node st

      n : Ballot
      n = x.storage.promise

      bn : Ballot
      bn = x.leader.max_promise.meta.n_accepted

      ba : ℕ
      ba = x.leader.max_promise.meta.accepted_idx

      y : Face
      y = started_to r (max x.storage.decided_idx hi) log k l x

      h : Ghost ℕ
      h = accept b n (length log) (start n log g)

      tell : (t : ℕ) → t < z.depots → is_promised (place t x.leader).promise ≡ true
          → Told z g n bn ba t (meta_of (place t x.leader).promise).n_accepted (meta_of (place t x.leader).promise).accepted_idx (meta_of (place t x.leader).promise).decided_idx
      tell t u e = p.told t (meta_of (place t x.leader).promise) u (promised-meta (place t x.leader).promise e)

      bg : Begins z g n bn ba log
      bg = rw el (begins v.core es p.prepares (λ t. is_promised (place t x.leader).promise) (λ t. (meta_of (place t x.leader).promise).n_accepted) (λ t. (meta_of (place t x.leader).promise).accepted_idx)
          (λ t. (meta_of (place t x.leader).promise).decided_idx) quorum tell)

      w : Led z g h b n log bn ba
      w = led-first v.core p.prepares.own v.node.own.holds.promise p.prepares.fresh bg

      all : All P log
      all = rw el (all_append (only-prepared v.only p.prepares) pe)

      -- a decided index that the best bears out
      borne : {m : Ballot} (d : ℕ) → Borne z g m bn ba d → (d ≤ length log) × Comm z h n d
      borne d q = let j : Borne z h bn n (length log) d = led-decided d w p.prepares.below q.fits q.decided in (j.fits, j.decided)

      mine : (x.storage.decided_idx ≤ length log) × Comm z h n x.storage.decided_idx
      mine = borne x.storage.decided_idx (comm-on v.core x.storage.decided_idx p.prepares.least p.prepares.mark v.node.own.holds.fits v.node.own.holds.decided)

      his : (hi ≤ length log) × Comm z h n hi
      his =
          highest (λ d. (d ≤ length log) × Comm z h n d) (omega arith, λ q. absurd (omega arith))
          (λ t m u e. borne m.decided_idx (told-decided v.core p.prepares.mark (p.told t m u e)))

      noted : (t : ℕ) → t < z.depots → (t ≡ b) ⊎ (t ≢ b) → Noted h n t (place t l)
      noted t u (inl e) = rw e (record { reached = omega (arith, o.own, ek, w.taken.here) })
      noted t u (inr e) =
          let a : Noted h n t (place t x.leader) = noted-up w.taken.moved.ext (p.noted t u) in
          record { reached = omega (arith, a.reached, o.else t u e) }

      up : (m : Ballot) (t : ℕ) → leader_of m ≡ b → t < z.depots → t ≢ b → (m ≡ n) ⊎ (m ≢ n) → FlowOf g (h.G m) false m t (c.out t ++ for_depot t x.queue) (c.others t) y
      up m t q u ne (inr e) = flow-left _ (leads-other m y.state l (o.ballot ∙ p.now) e) refl (w.taken.moved.ext.grows m).log (v.up m t q u ne)
      up m t q u ne (inl e) =
          flow-grown (v.up m t q u ne) _ (w.taken.moved.ext.grows m).log
          (record {
            number = λ _.
                let k : ((place t x.leader).seq_num.session ≡ (v.up m t q u ne).back.session) × ((place t x.leader).seq_num.counter ≡ (v.up m t q u ne).back.counter)
                = (v.up m t q u ne).feeds.number (leads-now m x.state x.leader (ap (λ (s : State). is_leader s.role) st) (p.now ∙ sym e)) in
                (ap (λ (s : SequenceNumber). s.session) (o.number t u) ∙ k.0, ap (λ (s : SequenceNumber). s.counter) (o.number t u) ∙ k.1);
            whole = λ e. absurd (not-both e refl);
          })
