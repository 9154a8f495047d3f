-- A session is opened: the leader sends a promised follower an AcceptSync.
use Rattle.std.specs.Prelude.{None}
use Prim.Native.Nat.{ℕ, ◌+◌, ◌<◌, min}
use mathlib.Core.Path.{◌≡◌, refl, sym, ap, subst, ◌∙◌}
use mathlib.Core.Logic.{◌⊎◌, inl, inr, ◌≢◌}
use mathlib.Core.Bool.{Bool, true, false, cond}
use mathlib.Core.List.{List, [], ◌∷◌, ◌++◌, map-append, append_assoc}
use native.Mathlib.Omega.{arith}
use lib.ListN.{length, drop, length-drop}
use Rattle.base.proofs.Tests.{not-both}
use Rattle.base.specs.Limits.{max_depots}
use Rattle.ballot.specs.Ballot.{same}
use Rattle.ballot.specs.declared.Ballot.{Ballot}
use Rattle.ballot.proofs.Laws.{same-eq, same_refl as same_self}
use Rattle.sequence.specs.declared.SequenceNumber.{SequenceNumber}
use Rattle.leader_state.specs.declared.Depot.{Depot}
use Rattle.leader_state.specs.declared.LeaderState.{LeaderState}
use Rattle.leader_state.specs.declared.PromiseMetaData.{PromiseMetaData}
use Rattle.leader_state.specs.declared.PromiseState.TheVariants.{Promised}
use Rattle.leader_state.specs.Promises.{sync_start}
use Rattle.messages.specs.declared.PaxosMsg.TheVariants as msg
use Rattle.paxos_box.specs.declared.Role.TheVariants.{Leader}
use Rattle.paxos_box.specs.declared.Phase.TheVariants as phase
use Rattle.paxos_box.specs.declared.State.{State}
use Rattle.paxos_box.specs.declared.InternalStorage.{InternalStorage}
use Rattle.paxos_box.specs.Box.{is_leader}
use Rattle.outgoing.specs.Queue.{Msg}
use Rattle.agreement.specs.Order.{leader_of}
use Rattle.agreement.specs.Core.{Sizes, Ghost}
use Rattle.agreement.specs.Facts.{Holds}
use Rattle.agreement.specs.Report.{Report, Valid, Syncs}
use Rattle.agreement.specs.Stream.{opens}
use Rattle.agreement.proofs.Update.{ballot-eq, depot-eq}
use Rattle.agreement.proofs.All.{all_append}
use Rattle.agreement.proofs.Lead.{valid-own, valid-best, valid-decided, syncs}
use Rattle.agreement.proofs.Queue.{sel-past, sel-push}
use Rattle.agreement.proofs.Flow.{flow-opens}
use Rattle.travels.specs.Face.{Face, place, item, with_leader, push}
use Rattle.travels.specs.Facts.{Ok, InRole, Leading, Remembers}
use Rattle.travels.specs.Inv.{for_depot, FlowOf}
use Rattle.travels.specs.Near.{Scene, Near}
use Rattle.travels.proofs.Queues.{to_of, sent-end, one-all, flow-push, remembers-push, meta-push}
use Rattle.travels.proofs.Books.{leads-same, leads-now, leads-other, flow-less}
use Rattle.travels.proofs.Elect.{leads-in, not-of, no-latest}
use Rattle.travels.proofs.Note.{remembers-less}

-- ---- one place of the leader's record changed
pub record Puts (t : ℕ) (d : Depot) (l l' : LeaderState) : Type 0 where
  pub row : length l'.depots ≡ max_depots
  pub ballot : l'.n_leader ≡ l.n_leader
  pub best : l'.max_promise ≡ l.max_promise
  pub here : place t l' ≡ d
  pub else : (u : ℕ) → u ≢ t → place u l' ≡ place u l

-- a part of a place that the change leaves
pub puts-part : {t : ℕ} {d : Depot} {l l' : LeaderState} {A : Type 0} (part : Depot → A) → Puts t d l l' → part d ≡ part (place t l) → (u : ℕ) → part (place u l') ≡ part (place u l)
puts-part {t} {d} {l} {l'} part o e u = go (depot-eq u t)
  where
    go : (u ≡ t) ⊎ (u ≢ t) → part (place u l') ≡ part (place u l)
    go (inl q) = rw q (ap part o.here ∙ e)
    go (inr q) = ap part (o.else u q)

-- a leader's role after it
pub leading-puts : {z : Sizes} {g : Ghost ℕ} {b t : ℕ} {d : Depot} {st : InternalStorage} {log : List ℕ} {l l' : LeaderState} → Puts t d l l' → d.promise ≡ (place t l).promise → d.accepted_idx ≡ (place t l).accepted_idx
    → Leading z g b st log l → Leading z g b st log l'
leading-puts o ep ea w =
    record {
      now = o.ballot ∙ w.now;
      own = rw o.ballot w.own;
      round = w.round;
      leads = rw o.best w.leads;
      told = λ t m u e. w.told t m u (sym (puts-part (λ (d : Depot). d.promise) o ep t) ∙ e);
      noted = λ t u. record { reached = omega (arith, (w.noted t u).reached, puts-part (λ (d : Depot). d.accepted_idx) o ea t) };
    }

-- a message to t at the queue's end: for another depot nothing has changed
pub sent-else : (t u : ℕ) (o q : List Msg) (m : Msg) → m.to ≡ t + 1 → u ≢ t → o ++ for_depot u (q ++ (m ∷ [])) ≡ o ++ for_depot u q
sent-else t u o q m e ne = ap (λ l. o ++ l) (sel-past to_of q m (λ k. ne (omega arith)))

pub sent-here : (t : ℕ) (o q : List Msg) (m : Msg) → m.to ≡ t + 1 → o ++ for_depot t (q ++ (m ∷ [])) ≡ (o ++ for_depot t q) ++ (m ∷ [])
sent-here t o q m e = ap (λ l. o ++ l) (sel-push to_of q m e) ∙ sym (append_assoc o (for_depot t q) (m ∷ []))

-- the AcceptSync to t, and the place of t after it
abbrev pub opening : ℕ → ℕ → Face → Msg
opening t i x =
    record {
      to = t + 1;
      msg = msg.AcceptSync (record { n = x.leader.n_leader; seq_num = record { session = (place t x.leader).seq_num.session + 1; counter = 1 }; decided_idx = x.storage.decided_idx; sync_idx = i });
      entries = drop i x.log;
    }

abbrev pub opened : ℕ → Face → Depot
opened t x =
    record { promise = (place t x.leader).promise; seq_num = record { session = (place t x.leader).seq_num.session + 1; counter = 1 }; accepted_idx = (place t x.leader).accepted_idx; latest = None }

-- ---- where the sync starts, the follower's log is valid
module _ {z : Sizes} {P : ℕ → Type 0} {b : ℕ} {c : Scene} {g : Ghost ℕ} {whole : Ballot → ℕ → List ℕ} {fed : Ballot → ℕ → Bool} {x : Face} (v : Near z P b c g whole fed x)
    (st : x.state ≡ record { role = Leader; phase = phase.Accept }) where
  leading : Leading z g b x.storage x.log x.leader
  leading = leads-in v.node st

  valid : {t : ℕ} (m : PromiseMetaData) → Report z g x.storage.promise t m.n_accepted m.accepted_idx m.decided_idx → Valid g t x.storage.promise (sync_start x.storage.promise x.leader.max_promise.meta m)
  unfolding sync_start
  valid {t} m r = own (same m.n_accepted x.storage.promise) refl
    where
      n : Ballot
      n = x.storage.promise

      bn : Ballot
      bn = x.leader.max_promise.meta.n_accepted

      ba : ℕ
      ba = x.leader.max_promise.meta.accepted_idx

      apart : same m.n_accepted n ≡ false → m.n_accepted ≢ n
      apart e q = not-both (subst (λ k. same m.n_accepted k ≡ true) q (same_self m.n_accepted)) e

      best : same m.n_accepted n ≡ false → (s : Bool) → same m.n_accepted bn ≡ s → Valid g t n (cond s (min ba m.accepted_idx) m.decided_idx)
      best ne true e = valid-best v.core leading.leads (rw (same-eq m.n_accepted bn e) at r)
      best ne false e = valid-decided v.core leading.leads r (apart ne)

      own : (s : Bool) → same m.n_accepted n ≡ s → Valid g t n (cond s m.accepted_idx (cond (same m.n_accepted bn) (min ba m.accepted_idx) m.decided_idx))
      own true e = valid-own v.core (rw (same-eq m.n_accepted n e) at r)
      own false e = best e (same m.n_accepted bn) refl

  -- t is fed from here on, and of the others nothing has changed
  pub t-opens : (t : ℕ) (m : PromiseMetaData) {i : ℕ} {l : LeaderState} (fed' : Ballot → ℕ → Bool) → t < z.depots → (place t x.leader).promise ≡ Promised m
      → i ≡ sync_start x.leader.n_leader x.leader.max_promise.meta m → Puts t (opened t x) x.leader l → whole x.storage.promise t ≡ g.G x.storage.promise
      → ((n : Ballot) (u : ℕ) → leader_of n ≡ b → u < z.depots → u ≢ b → (n ≢ x.storage.promise) ⊎ (u ≢ t) → fed' n u ≡ true → fed n u ≡ true)
      → Near z P b c g whole fed' (push (opening t i x) (with_leader l x))
  t-opens t m {i} {l} fed' lt pr ei o ew ef =
      record {
        core = v.core;
        only = v.only;
        node = record {
          own = v.node.own;
          role = subst (λ (s : State). InRole z g b x.storage x.log l x.best s.role s.phase) (sym st) (leading-puts o refl refl leading);
          cached = v.node.cached;
          buffered = v.node.buffered;
          remembers = λ e u k. remembers-push (opening t i x ∷ []) (remembers u k e (depot-eq u t));
          meta = meta-push x.meta x.queue (opening t i x ∷ []) v.node.meta;
          row = o.row;
        };
        msgs = λ u. rw (sent-end u (c.out u) x.queue (opening t i x ∷ [])) (all_append (v.msgs u) (one-all u (opening t i x) (Ok z P g b u) (ok u)));
        down = v.down;
        up = λ k u q lu ne. up k u q lu ne (depot-eq u t) (ballot-eq k n);
      }
    where
      n : Ballot
      n = x.storage.promise

      y : Face
      y = push (opening t i x) (with_leader l x)

      lead : is_leader x.state.role ≡ true
      lead = ap (λ (s : State). is_leader s.role) st

      hd : Holds z g b n n x.log x.storage.decided_idx
      hd = rw leading.round at v.node.own.holds

      sy : Syncs z g t n i (drop i x.log) x.storage.decided_idx
      sy = rw (ei, leading.now) (syncs v.core hd leading.leads (valid m (leading.told t m lt pr)))

      ok : (u : ℕ) → t + 1 ≡ u + 1 → Syncs z g u x.leader.n_leader i (drop i x.log) x.storage.decided_idx
      ok u e = rw leading.now (subst (λ k. Syncs z g k n i (drop i x.log) x.storage.decided_idx) (omega arith) sy)

      remembers : (u : ℕ) → u < z.depots → is_leader x.state.role ≡ true → (u ≡ t) ⊎ (u ≢ t) → Remembers l.n_leader u (place u l) x.queue
      remembers u k e (inl q) = record { stands = λ at f. no-latest (ap (λ (d : Depot). d.latest) (subst (λ j. place j l ≡ opened t x) (sym q) o.here)) f }
      remembers u k e (inr q) = remembers-less o.ballot (ap (λ (d : Depot). d.seq_num) (o.else u q)) (inl (ap (λ (d : Depot). d.latest) (o.else u q))) (v.node.remembers e u k)

      number : (place t l).seq_num ≡ record { session = (place t x.leader).seq_num.session + 1; counter = 1 }
      number = ap (λ (d : Depot). d.seq_num) o.here

      is : item n (opening t i x) ≡ opens ((place t x.leader).seq_num.session + 1) 1 i (drop i x.log)
      is = rw (leading.now, same_self n)

      size : i + length (drop i x.log) ≡ length (whole n t)
      size = omega (arith, sy.part.ends, length-drop i x.log, ap length ew, ap length leading.leads.all)

      mine : t ≢ b → leader_of n ≡ b → FlowOf g (whole n t) (fed' n t) n t (c.out t ++ for_depot t (x.queue ++ (opening t i x ∷ []))) (c.others t) y
      mine ne q =
          rw (sent-here t (c.out t) x.queue (opening t i x) refl, map-append (item n) (c.out t ++ for_depot t x.queue) (opening t i x ∷ []), is)
          (flow-opens (v.up n t q lt ne) (leads-now n x.state x.leader lead leading.now) i (drop i x.log) _ (omega arith) refl size
          (ap (λ (s : SequenceNumber). s.session) number) (ap (λ (s : SequenceNumber). s.counter) number))

      up : (k : Ballot) (u : ℕ) → leader_of k ≡ b → u < z.depots → u ≢ b → (u ≡ t) ⊎ (u ≢ t) → (k ≡ n) ⊎ (k ≢ n)
          → FlowOf g (whole k u) (fed' k u) k u (c.out u ++ for_depot u (x.queue ++ (opening t i x ∷ []))) (c.others u) y
      up k u q lu ne (inr e) d =
          rw (sent-else t u (c.out u) x.queue (opening t i x) refl e)
          (flow-less _ (λ r. (sym (leads-same k x.state x.leader l o.ballot) ∙ r, ap (λ (d : Depot). d.seq_num.session) (o.else u e), ap (λ (d : Depot). d.seq_num.counter) (o.else u e)))
          (ef k u q lu ne (inr e)) (v.up k u q lu ne))
      up k u q lu ne (inl e) (inr d) =
          flow-push k u (c.out u) x.queue (opening t i x) (not-of _ (λ r. d (sym r ∙ leading.now)))
          (flow-other k u (ef k u q lu ne (inl d)) d (v.up k u q lu ne))
        where
          flow-other : (k : Ballot) (u : ℕ) → (fed' k u ≡ true → fed k u ≡ true) → k ≢ n → FlowOf g (whole k u) (fed k u) k u (c.out u ++ for_depot u x.queue) (c.others u) x
              → FlowOf g (whole k u) (fed' k u) k u (c.out u ++ for_depot u x.queue) (c.others u) y
          flow-other k u p d f = flow-less _ (λ r. absurd (not-both r (leads-other k x.state l (o.ballot ∙ leading.now) d))) p f
      up k u q lu ne (inl e) (inl d) =
          subst (λ j. (j ≢ b) → FlowOf g (whole k j) (fed' k j) k j (c.out j ++ for_depot j (x.queue ++ (opening t i x ∷ []))) (c.others j) y) (sym e)
          (subst (λ r. leader_of r ≡ b → (t ≢ b) → FlowOf g (whole r t) (fed' r t) r t (c.out t ++ for_depot t (x.queue ++ (opening t i x ∷ []))) (c.others t) y) (sym d) (λ q' ne'. mine ne' q') q) ne
