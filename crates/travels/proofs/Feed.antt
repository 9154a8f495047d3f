-- A leader's log gains entries, or its decided index rises, and each promised follower is told: in a message of its own, or in the one that is remembered.
use Rattle.std.specs.Prelude.{Option, None, Some}
use Prim.Native.Nat.{ℕ, suc, ◌+◌, ◌≤◌, ◌<◌}
use mathlib.Core.Path.{◌≡◌, refl, sym, ap, subst, ◌∙◌}
use mathlib.Core.Logic.{◌⊎◌, inl, inr, ◌≢◌}
use mathlib.Core.Bool.{Bool, true, false}
use mathlib.Core.List.{List, [], ◌∷◌, ◌++◌, map, map-append}
use native.Mathlib.Omega.{arith}
use lib.Dec.{leb}
use lib.ListN.{length, take, drop, set, get_or, length-set, length-append}
use lib.Seq.{get_or-set_other}
use Rattle.base.proofs.Tests.{not-both}
use Rattle.base.specs.Count.{count_below}
use Rattle.paxos_box.specs.declared.AcceptedAt.{AcceptedAt}
use Rattle.ballot.specs.declared.Ballot.{Ballot}
use Rattle.ballot.proofs.Laws.{same_refl as same_self}
use Rattle.sequence.specs.declared.SequenceNumber.{SequenceNumber}
use Rattle.leader_state.specs.declared.Depot.{Depot}
use Rattle.leader_state.specs.declared.LeaderState.{LeaderState}
use Rattle.leader_state.specs.Promises.{is_promised}
use Rattle.messages.specs.declared.PaxosMsg.TheVariants as msg
use Rattle.messages.specs.declared.AcceptDecide.{AcceptDecide}
use Rattle.messages.specs.Messages.{is_accept_decide, decided_as}
use Rattle.paxos_box.specs.declared.Role.TheVariants.{Leader}
use Rattle.paxos_box.specs.declared.Phase.TheVariants as phase
use Rattle.paxos_box.specs.declared.State.{State}
use Rattle.paxos_box.specs.declared.InternalStorage.{InternalStorage}
use Rattle.paxos_box.specs.Box.{is_leader}
use Rattle.outgoing.specs.Queue.{Msg}
use Rattle.agreement.specs.Order.{leader_of}
use Rattle.agreement.specs.Core.{Sizes, Ghost, Same}
use Rattle.agreement.specs.Growth.{Moved}
use Rattle.agreement.specs.Moves.{append, accept}
use Rattle.agreement.specs.Facts.{Comm, Holds}
use Rattle.agreement.specs.Report.{Led}
use Rattle.agreement.specs.All.{All}
use Rattle.agreement.specs.Queue.{There}
use Rattle.agreement.specs.Stream.{plain, adds}
use Rattle.agreement.proofs.Update.{ballot-eq, depot-eq, ballot-other}
use Rattle.agreement.proofs.Hold.{decides}
use Rattle.agreement.proofs.All.{all_append}
use Rattle.agreement.proofs.Decided.{decided-up, chosen_by, chosen-decided}
use Rattle.agreement.proofs.Report.{report-up}
use Rattle.agreement.proofs.Lead.{led-more}
use Rattle.agreement.proofs.Queue.{there-edit, there-else}
use Rattle.agreement.proofs.Proposed.{only-append, only-accept}
use Rattle.agreement.proofs.Flow.{flow-adds, flow-joins, flow-grown}
use Rattle.travels.specs.Face.{Face, place, item, item_of, feeds_in, with_leader, with_storage, with_queue, push}
use Rattle.travels.specs.Facts as facts
use Rattle.travels.specs.Facts.{Ok, InRole, Leading, Noted, Remembers, Standing, MetaOk, no_msg}
use Rattle.travels.specs.Inv.{for_depot, FlowOf}
use Rattle.travels.specs.Near.{Scene, Near, Well}
use Rattle.travels.proofs.Up.{cached-up, oks-up, noted-up}
use Rattle.travels.proofs.Queues.{to_of, sent-end, one-all, flow-push, remembers-push, meta-push}
use Rattle.travels.proofs.Moves.{down-idle}
use Rattle.travels.proofs.Follow.{takes-other}
use Rattle.travels.proofs.Reply.{edit-was, edit-is, edit-all, edit-items, edit-else}
use Rattle.travels.proofs.Books.{leads-same, leads-now, leads-other, flow-less}
use Rattle.travels.proofs.Elect.{leads-in, not-of}
use Rattle.travels.proofs.Note.{remembers-less, feeds-less-to}
use Rattle.travels.proofs.Start.{Begun}
use Rattle.travels.proofs.Open.{Puts, leading-puts, sent-here, sent-else}

-- ---- the log gains entries, of which no follower was told yet

abbrev pub grown_to : List ℕ → ℕ → LeaderState → Face → Face
grown_to log k l x =
    with_leader l (with_storage (record { promise = x.storage.promise; accepted_round = x.storage.accepted_round; decided_idx = x.storage.decided_idx; accepted_idx = k }) log x)

pub record Grown (z : Sizes) (P : ℕ → Type 0) (b : ℕ) (c : Scene) (g : Ghost ℕ) (es : List ℕ) (n : Ballot) (x : Face) : Type 0 where
  pub ghost : Ghost ℕ
  pub moved : Moved z b g ghost
  pub near : Near z P b c ghost (λ m t. g.G m) (λ m t. feeds_in m t x) x
  pub more : ghost.G n ≡ g.G n ++ es
  pub else : (m : Ballot) → m ≢ n → ghost.G m ≡ g.G m

module _ {z : Sizes} {P : ℕ → Type 0} {b : ℕ} {c : Scene} {g : Ghost ℕ} {x : Face} (v : Well z P b c g x) (st : x.state ≡ record { role = Leader; phase = phase.Accept }) where
  pub t-grown : {k : ℕ} {l : LeaderState} {log es : List ℕ} → log ≡ x.log ++ es → All P es → k ≡ length log → Begun z b k x.leader l → Grown z P b c g es x.storage.promise (grown_to log k l x)
  unfolding append accept
  t-grown {k} {l} {log} {es} el pe ek o =
      record {
        ghost = h;
        moved = w.taken.moved;
        near = record {
          core = w.taken.moved.core;
          only = only-accept (only-append v.only n pe) b n (length (x.log ++ es));
          node = record {
            own = record { holds = rw (p.round, el) (w.taken.holds x.storage.decided_idx (omega (arith, hd.fits, length-append x.log es)) (λ q. decided-up w.taken.moved.ext (hd.decided q))); length = ek };
            role = subst (λ (s : State). InRole z h b y.storage log l x.best s.role s.phase) (sym st) role;
            cached = cached-up z w.taken.moved.ext b x.message x.cached v.node.cached;
            buffered = v.node.buffered;
            remembers = λ e t u. remembers-less o.ballot (o.number t u) (inl (o.latest t u)) (v.node.remembers e t u);
            meta = v.node.meta;
            row = o.row;
          };
          msgs = λ t. oks-up z w.taken.moved.ext v.core P b t (v.msgs t);
          down = λ m u ne. down-idle v w.taken.moved y m u ne (takes-other n m y refl (λ e. ne (ap leader_of e ∙ p.leads.own))) (w.taken.else m (λ e. ne (ap leader_of e ∙ p.leads.own)));
          up = λ m t q u ne.
              rw ((w.taken.moved.ext.stays t ne).A m)
              (flow-less _ (λ r. (sym (leads-same m x.state x.leader l o.ballot) ∙ r, ap (λ (s : SequenceNumber). s.session) (o.number t u), ap (λ (s : SequenceNumber). s.counter) (o.number t u)))
              (feeds-less-to m t x.state x.leader l o.ballot (λ r. sym (ap is_promised (o.promise t u)) ∙ r)) (v.up m t q u ne));
        };
        more = sym w.leads.all ∙ ap (λ r. r ++ es) p.leads.all;
        else = λ m ne. ballot-other n (g.G n ++ es) g.G m ne;
      }
    where
      n : Ballot
      n = x.storage.promise

      y : Face
      y = grown_to log k l x

      h : Ghost ℕ
      h = accept b n (length (x.log ++ es)) (append n es g)

      p : Leading z g b x.storage x.log x.leader
      p = leads-in v.node st

      hd : Holds z g b n n x.log x.storage.decided_idx
      hd = rw p.round at v.node.own.holds

      w : Led z g h b n (x.log ++ es) x.leader.max_promise.meta.n_accepted x.leader.max_promise.meta.accepted_idx
      w = led-more v.core es hd p.leads

      noted : (t : ℕ) → t < z.depots → (t ≡ b) ⊎ (t ≢ b) → Noted h n t (place t l)
      noted t u (inl e) = rw e (record { reached = omega (arith, o.own, ek, ap length el, w.taken.here) })
      noted t u (inr e) =
          let a : Noted h n t (place t x.leader) = noted-up w.taken.moved.ext (p.noted t u) in
          record { reached = omega (arith, a.reached, o.else t u e) }

      role : Leading z h b y.storage log l
      role =
          record {
            now = o.ballot ∙ p.now;
            own = rw o.ballot p.own;
            round = p.round;
            leads = rw (o.best, el) w.leads;
            told = λ t m u e. report-up w.taken.moved.ext (p.told t m u (sym (o.promise t u) ∙ e));
            noted = λ t u. noted t u (depot-eq t b);
          }

  -- ---- a write quorum has accepted: the decided index rises
  pub t-decides : {k : ℕ} → k ≤ length x.log → z.write ≤ count_below (λ t. leb k (place t x.leader).accepted_idx) z.depots
      → Well z P b c g (with_storage (record { promise = x.storage.promise; accepted_round = x.storage.accepted_round; decided_idx = k; accepted_idx = x.storage.accepted_idx }) x.log x)
  t-decides {k} f q =
      record {
        core = v.core;
        only = v.only;
        node = record {
          own = record { holds = decides k f comm v.node.own.holds; length = v.node.own.length };
          role = subst (λ (s : State). InRole z g b y x.log x.leader x.best s.role s.phase) (sym st)
              (record { now = p.now; own = p.own; round = p.round; leads = p.leads; told = p.told; noted = p.noted });
          cached = v.node.cached;
          buffered = v.node.buffered;
          remembers = v.node.remembers;
          meta = v.node.meta;
          row = v.node.row;
        };
        msgs = v.msgs;
        down = v.down;
        up = v.up;
      }
    where
      y : InternalStorage
      y = record { promise = x.storage.promise; accepted_round = x.storage.accepted_round; decided_idx = k; accepted_idx = x.storage.accepted_idx }

      p : Leading z g b x.storage x.log x.leader
      p = leads-in v.node st

      comm : Comm z g x.storage.accepted_round k
      comm = rw p.round (λ _. chosen-decided (chosen_by (λ t. (place t x.leader).accepted_idx) (λ t u. (p.noted t u).reached) (omega (arith, ap length p.leads.all)) q))

-- ---- an edit of the queue, and what is remembered elsewhere in it

there-apart : {u i j : ℕ} {m : Msg} {q : List Msg} → There to_of no_msg u i m q → (x : Msg) → i ≢ j → There to_of no_msg u i m (set q j x)
there-apart {u} {i} {j} {m} {q} w x ne = record { below = rw (length-set q j x) w.below; is = get_or-set_other q j i x no_msg ne ∙ w.is; for = w.for }

-- an Accepted does not stand where an AcceptDecide does
meta-edit : (m : Option AcceptedAt) {u at : ℕ} {a : AcceptDecide} {es : List ℕ} {q : List Msg} → There to_of no_msg u at (record { to = u; msg = msg.AcceptDecide a; entries = es }) q → (x : Msg) → MetaOk m q → MetaOk m (set q at x)
meta-edit None w x o = tt
meta-edit (Some k) {u} {at} {a} {es} {q} w x o = record { index = o.index; there = there-apart o.there x (λ e. clash e) }
  where
    clash : k.at ≡ at → ⊥
    clash e =
        let i : get_or q at no_msg ≡ record { to = k.n.pid; msg = msg.Accepted (record { n = k.n; accepted_idx = o.index }); entries = [] } = subst (λ j. get_or q j no_msg ≡ record { to = k.n.pid; msg = msg.Accepted (record { n = k.n; accepted_idx = o.index }); entries = [] }) e o.there.is in
        not-both {b = false} (ap (λ (m : Msg). is_accept_decide m.msg) (sym i ∙ w.is)) refl

-- the remembered message with another decided index, and entries that join it
abbrev pub joining : ℕ → ℕ → List ℕ → AcceptDecide → List ℕ → Msg
joining t d es what was = record { to = t + 1; msg = msg.AcceptDecide (decided_as d what); entries = was ++ es }

-- ---- a message is sent with the entries that t lacks, perhaps none

module _ {z : Sizes} {P : ℕ → Type 0} {b : ℕ} {c : Scene} {g : Ghost ℕ} {whole : Ballot → ℕ → List ℕ} {fed : Ballot → ℕ → Bool} {x : Face} (v : Near z P b c g whole fed x)
    (st : x.state ≡ record { role = Leader; phase = phase.Accept }) (t : ℕ) (lt : t < z.depots) (fd : fed x.storage.promise t ≡ true) (whole' : Ballot → ℕ → List ℕ) (es : List ℕ)
    (was : whole x.storage.promise t ++ es ≡ g.G x.storage.promise) (now : whole' x.storage.promise t ≡ g.G x.storage.promise)
    (else : (n : Ballot) (u : ℕ) → (n ≢ x.storage.promise) ⊎ (u ≢ t) → whole' n u ≡ whole n u) where
  lead : is_leader x.state.role ≡ true
  lead = ap (λ (s : State). is_leader s.role) st

  p : Leading z g b x.storage x.log x.leader
  p = leads-in v.node st

  -- what a leader may say of its decided index
  pub led-now : facts.Led z g x.leader.n_leader x.storage.decided_idx
  led-now = rw p.now (record { started = p.leads.started; decided = rw p.round at v.node.own.holds.decided })

  pub t-adds : (m : Msg) {d : Depot} {l : LeaderState} → m.to ≡ t + 1 → Ok z P g b t m
      → item x.storage.promise m ≡ adds d.seq_num.session d.seq_num.counter es → ((k : Ballot) → k ≢ x.storage.promise → item k m ≡ plain)
      → d.promise ≡ (place t x.leader).promise → d.accepted_idx ≡ (place t x.leader).accepted_idx → d.seq_num.session ≡ (place t x.leader).seq_num.session
      → d.seq_num.counter ≡ suc (place t x.leader).seq_num.counter → Remembers x.leader.n_leader t d (x.queue ++ (m ∷ []))
      → Puts t d x.leader l → Near z P b c g whole' fed (push m (with_leader l x))
  t-adds m {d} {l} to ok im ik ep ea es' ec rm o =
      record {
        core = v.core;
        only = v.only;
        node = record {
          own = v.node.own;
          role = subst (λ (s : State). InRole z g b x.storage x.log l x.best s.role s.phase) (sym st) (leading-puts o ep ea p);
          cached = v.node.cached;
          buffered = v.node.buffered;
          remembers = λ e u k. remembers u k e (depot-eq u t);
          meta = meta-push x.meta x.queue (m ∷ []) v.node.meta;
          row = o.row;
        };
        msgs = λ u. rw (sent-end u (c.out u) x.queue (m ∷ [])) (all_append (v.msgs u) (one-all u m (Ok z P g b u) (λ e. subst (λ k. Ok z P g b k m) (omega (arith, to, e)) ok)));
        down = v.down;
        up = λ k u q lu ne. up k u q lu ne (depot-eq u t) (ballot-eq k n);
      }
    where
      n : Ballot
      n = x.storage.promise

      y : Face
      y = push m (with_leader l x)

      remembers : (u : ℕ) → u < z.depots → is_leader x.state.role ≡ true → (u ≡ t) ⊎ (u ≢ t) → Remembers l.n_leader u (place u l) (x.queue ++ (m ∷ []))
      remembers u k e (inl q) = rw (q, o.here, o.ballot) rm
      remembers u k e (inr q) =
          remembers-push (m ∷ []) (remembers-less o.ballot (ap (λ (d : Depot). d.seq_num) (o.else u q)) (inl (ap (λ (d : Depot). d.latest) (o.else u q))) (v.node.remembers e u k))

      mine : t ≢ b → leader_of n ≡ b → FlowOf g (whole' n t) (fed n t) n t (c.out t ++ for_depot t (x.queue ++ (m ∷ []))) (c.others t) y
      mine ne q =
          rw (now ∙ sym was, sent-here t (c.out t) x.queue m to, map-append (item n) (c.out t ++ for_depot t x.queue) (m ∷ []), im)
          (flow-adds (v.up n t q lt ne) (leads-now n x.state x.leader lead p.now) fd es _ es' ec (ap (λ (d : Depot). d.seq_num.session) o.here) (ap (λ (d : Depot). d.seq_num.counter) o.here))

      up : (k : Ballot) (u : ℕ) → leader_of k ≡ b → u < z.depots → u ≢ b → (u ≡ t) ⊎ (u ≢ t) → (k ≡ n) ⊎ (k ≢ n)
          → FlowOf g (whole' k u) (fed k u) k u (c.out u ++ for_depot u (x.queue ++ (m ∷ []))) (c.others u) y
      up k u q lu ne (inr e) d =
          rw (else k u (inr e), sent-else t u (c.out u) x.queue m to e)
          (flow-less _ (λ r. (sym (leads-same k x.state x.leader l o.ballot) ∙ r, ap (λ (d : Depot). d.seq_num.session) (o.else u e), ap (λ (d : Depot). d.seq_num.counter) (o.else u e)))
          (λ r. r) (v.up k u q lu ne))
      up k u q lu ne (inl e) (inr d) =
          rw (else k u (inl d))
          (flow-push k u (c.out u) x.queue m (ik k d) (flow-less _ (λ r. absurd (not-both r (leads-other k x.state l (o.ballot ∙ p.now) d))) (λ r. r) (v.up k u q lu ne)))
      up k u q lu ne (inl e) (inl d) =
          subst (λ j. (j ≢ b) → FlowOf g (whole' k j) (fed k j) k j (c.out j ++ for_depot j (x.queue ++ (m ∷ []))) (c.others j) y) (sym e)
          (subst (λ r. leader_of r ≡ b → (t ≢ b) → FlowOf g (whole' r t) (fed r t) r t (c.out t ++ for_depot t (x.queue ++ (m ∷ []))) (c.others t) y) (sym d) (λ q' ne'. mine ne' q') q) ne

  -- they join the AcceptDecide that is remembered, which still waits
  pub t-joins : {at : ℕ} (s : Standing x.leader.n_leader t (place t x.leader) at x.queue)
      → Near z P b c g whole' fed (with_queue (set x.queue at (joining t x.storage.decided_idx es s.what s.entries)) x)
  t-joins {at} s =
      record {
        core = v.core;
        only = v.only;
        node = record {
          own = v.node.own;
          role = v.node.role;
          cached = v.node.cached;
          buffered = v.node.buffered;
          remembers = λ e u k. remembers u (v.node.remembers e u k) (depot-eq u t);
          meta = meta-edit x.meta s.there (joining t x.storage.decided_idx es s.what s.entries) v.node.meta;
          row = v.node.row;
        };
        msgs = λ u. msgs u (depot-eq u t);
        down = v.down;
        up = λ k u q lu ne. up k u q lu ne (depot-eq u t) (ballot-eq k n);
      }
    where
      n : Ballot
      n = x.storage.promise

      q' : List Msg
      q' = set x.queue at (joining t x.storage.decided_idx es s.what s.entries)

      of-n : s.what.n ≡ n
      of-n = s.ballot ∙ p.now

      remembers : (u : ℕ) → Remembers x.leader.n_leader u (place u x.leader) x.queue → (u ≡ t) ⊎ (u ≢ t) → Remembers x.leader.n_leader u (place u x.leader) q'
      remembers u r (inl e) = record { stands = λ at' f. subst (λ k. Standing x.leader.n_leader k (place k x.leader) at' q') (sym e) (here at' (subst (λ k. (place k x.leader).latest ≡ Some at') e f) (subst (λ k. Remembers x.leader.n_leader k (place k x.leader) x.queue) e r)) }
        where
          here : (at' : ℕ) → (place t x.leader).latest ≡ Some at' → Remembers x.leader.n_leader t (place t x.leader) x.queue → Standing x.leader.n_leader t (place t x.leader) at' q'
          here at' f r = spot (depot-eq at' at)
            where
              spot : (at' ≡ at) ⊎ (at' ≢ at) → Standing x.leader.n_leader t (place t x.leader) at' q'
              spot (inl e) = rw e (record { what = decided_as x.storage.decided_idx s.what; entries = s.entries ++ es; there = there-edit to_of s.there (joining t x.storage.decided_idx es s.what s.entries) refl; ballot = s.ballot; number = s.number })
              spot (inr e) =
                  let k : Standing x.leader.n_leader t (place t x.leader) at' x.queue = r.stands at' f in
                  record { what = k.what; entries = k.entries; there = there-apart k.there (joining t x.storage.decided_idx es s.what s.entries) e; ballot = k.ballot; number = k.number }
      remembers u r (inr e) = record { stands = λ at' f. other at' (r.stands at' f) }
        where
          other : (at' : ℕ) → Standing x.leader.n_leader u (place u x.leader) at' x.queue → Standing x.leader.n_leader u (place u x.leader) at' q'
          other at' k = record { what = k.what; entries = k.entries; there = there-else to_of k.there (joining t x.storage.decided_idx es s.what s.entries) (λ r. e (omega arith)) s.there; ballot = k.ballot; number = k.number }

      led : facts.Led z g s.what.n x.storage.decided_idx
      led = rw s.ballot led-now

      msgs : (u : ℕ) → (u ≡ t) ⊎ (u ≢ t) → All (Ok z P g b u) (c.out u ++ for_depot u q')
      msgs u (inl e) = rw e (edit-all t s.there (joining t x.storage.decided_idx es s.what s.entries) refl (c.out t) led (v.msgs t))
      msgs u (inr e) = rw (edit-else t s.there (joining t x.storage.decided_idx es s.what s.entries) refl u e) (v.msgs u)

      mine : t ≢ b → leader_of n ≡ b → FlowOf g (whole' n t) (fed n t) n t (c.out t ++ for_depot t q') (c.others t) x
      mine ne q =
          rw (now ∙ sym was, edit-is t s.there (joining t x.storage.decided_idx es s.what s.entries) refl (c.out t), map-append (item n) (c.out t ++ for_depot t (take at x.queue)) (joining t x.storage.decided_idx es s.what s.entries ∷ for_depot t (drop (suc at) x.queue)), item-is (s.entries ++ es) x.storage.decided_idx)
          (flow-joins (v.up n t q lt ne) (leads-now n x.state x.leader lead p.now) fd es (map (item n) (c.out t ++ for_depot t (take at x.queue))) (map (item n) (for_depot t (drop (suc at) x.queue))) s.entries _
          list refl refl)
        where
          item-is : (l : List ℕ) (d : ℕ) → item_of n (msg.AcceptDecide (decided_as d s.what)) l ≡ adds (place t x.leader).seq_num.session (place t x.leader).seq_num.counter l
          item-is l d = rw (of-n, same_self n, s.number)

          list : map (item n) (c.out t ++ for_depot t x.queue)
              ≡ map (item n) (c.out t ++ for_depot t (take at x.queue)) ++ (adds (place t x.leader).seq_num.session (place t x.leader).seq_num.counter s.entries ∷ map (item n) (for_depot t (drop (suc at) x.queue)))
          list =
              ap (map (item n)) (edit-was t s.there (joining t x.storage.decided_idx es s.what s.entries) refl (c.out t)) ∙ map-append (item n) (c.out t ++ for_depot t (take at x.queue)) _
              ∙ ap (λ i. map (item n) (c.out t ++ for_depot t (take at x.queue)) ++ (i ∷ map (item n) (for_depot t (drop (suc at) x.queue)))) (item-is s.entries s.what.decided_idx)

      up : (k : Ballot) (u : ℕ) → leader_of k ≡ b → u < z.depots → u ≢ b → (u ≡ t) ⊎ (u ≢ t) → (k ≡ n) ⊎ (k ≢ n)
          → FlowOf g (whole' k u) (fed k u) k u (c.out u ++ for_depot u q') (c.others u) x
      up k u q lu ne (inr e) d = rw (else k u (inr e), edit-else t s.there (joining t x.storage.decided_idx es s.what s.entries) refl u e) (v.up k u q lu ne)
      up k u q lu ne (inl e) (inr d) =
          subst (λ j. (j < z.depots) → (j ≢ b) → FlowOf g (whole' k j) (fed k j) k j (c.out j ++ for_depot j q') (c.others j) x) (sym e)
          (λ lt' ne'. rw (else k t (inl d), edit-items t s.there (joining t x.storage.decided_idx es s.what s.entries) refl (c.out t) k (not-of _ (λ r. d (sym r ∙ of-n)) ∙ sym (not-of _ (λ r. d (sym r ∙ of-n))))) (v.up k t q lt' ne')) lu ne
      up k u q lu ne (inl e) (inl d) =
          subst (λ j. (j ≢ b) → FlowOf g (whole' k j) (fed k j) k j (c.out j ++ for_depot j q') (c.others j) x) (sym e)
          (subst (λ r. leader_of r ≡ b → (t ≢ b) → FlowOf g (whole' r t) (fed r t) r t (c.out t ++ for_depot t q') (c.others t) x) (sym d) (λ q'' ne'. mine ne' q'') q) ne

-- ---- every one of them was told: what is fed to nobody needs nothing
pub rewhole : {z : Sizes} {P : ℕ → Type 0} {b : ℕ} {c : Scene} {g : Ghost ℕ} {whole : Ballot → ℕ → List ℕ} {fed : Ballot → ℕ → Bool} {x : Face} (whole' : Ballot → ℕ → List ℕ)
    → ((n : Ballot) (t : ℕ) → t < z.depots → t ≢ b → (whole' n t ≡ whole n t) ⊎ ((fed n t ≡ false) × Same (length (whole n t)) (whole n t) (whole' n t)))
    → Near z P b c g whole fed x → Near z P b c g whole' fed x
rewhole {z} {P} {b} {c} {g} {whole} {fed} {x} whole' e v =
    record { core = v.core; only = v.only; node = v.node; msgs = v.msgs; down = v.down; up = λ n t q u ne. up n t (e n t u ne) (v.up n t q u ne) }
  where
    up : (n : Ballot) (t : ℕ) → (whole' n t ≡ whole n t) ⊎ ((fed n t ≡ false) × Same (length (whole n t)) (whole n t) (whole' n t))
        → FlowOf g (whole n t) (fed n t) n t (c.out t ++ for_depot t x.queue) (c.others t) x → FlowOf g (whole' n t) (fed n t) n t (c.out t ++ for_depot t x.queue) (c.others t) x
    up n t (inl q) f = rw q f
    up n t (inr q) f = flow-grown f _ q.1 (record { number = f.feeds.number; whole = λ r. absurd (not-both r q.0) })
