-- A step that is taken leaves a world that is not broken, with lists of the lengths as found: refusals 1 and 2 are never given to a box's own state.
use Rattle.std.specs.Prelude.{Option, None, Some}
use Prim.Native.Nat.{ℕ, ◌+◌, ◌-◌, ◌≤◌, ◌<◌}
use mathlib.Core.Path.{◌≡◌, refl, ap, sym, subst, ◌∙◌}
use mathlib.Core.Logic.{inl, inr}
use mathlib.Core.Bool.{false}
use mathlib.Core.List.{List}
use native.Mathlib.Omega.{arith}
use lib.ListN.{length}
use borrow.Author.Tests.{eq-eqb}
use Rattle.base.proofs.Tests.{not-both}
use Rattle.base.specs.Limits.{max_log, max_store, max_messages}
use Rattle.paxos_box.specs.declared.AcceptedAt.{AcceptedAt}
use Rattle.quorum.specs.declared.Configuration.{Configuration}
use Rattle.quorum.proofs.Laws.{Stands, says-stands}
use Rattle.leader_state.specs.declared.Depot as place
use Rattle.leader_state.specs.State.{fresh, set_latest, with_of, forget_all}
use Rattle.messages.specs.declared.Event.{Event}
use Rattle.messages.specs.declared.Event.TheVariants as event
use Rattle.paxos_box.specs.declared.SequencePaxos.{SequencePaxos}
use Rattle.paxos_box.specs.declared.Outgoing.{Outgoing}
use Rattle.outcome.specs.Outcome.{drained, restarted, outcome_refusal}
use Rattle.hire_book.specs.Book.{book_length}
use Rattle.sight.specs.Sight.{head_at, queue_entries}
use Rattle.sight.proofs.Sums.{sum-part}
use Rattle.broken.specs.Lent.{Lent}
use Rattle.broken.specs.Broken.{record_broken}
use Rattle.refusals.specs.Refusals.{lengths_off, wrong_call, call_off}
use Rattle.refusals.proofs.Exactly.{refused-1, refused-2}
use Rattle.refusals.proofs.Taken.{Depot, LatestBelow, PromiseFit, MetaFit, Lengths, Whole, Taken}
use Rattle.step.specs.Step.{World, Outcome, box_of, queue_of, waiting, perform_of, step_of}
use Rattle.step_laws.proofs.Plan.{none, first-place}
use Rattle.step_laws.proofs.Events.{Queues, along-event}
use Rattle.step_laws.proofs.Written.{Planned}
use Rattle.step_laws.proofs.Positions.{MetaBelow, Below, Positioned, positions-closed}
use Rattle.step_laws.proofs.Ballots.{MetaKnown, Named, default-known, ballots-closed}
use Rattle.step_laws.proofs.Entries as entry
use Rattle.step_laws.proofs.Entries.{Stocked, entries-closed}
use Rattle.decide_laws.proofs.Table.{Fits}
use Rattle.step_laws.proofs.Fits.{passes, found, as-found, planned-taken}
use Rattle.step_laws.proofs.Unbroken.{whole-unbroken}
use Rattle.step_laws.proofs.After.{Shape, log-length, log-fit, book-stands, buffer-length, buffer-fit, best-length, best-fit, cached-length, cached-fit, messages-fit, queue-lies, queue-sizes}
use Rattle.step_laws.proofs.Outcome.{outcome_of, Gives, Ways, refused, took, outcome-later, ways}

-- the remembered Accepted: its position and its ballot
meta-parts : (c : Configuration) (n : ℕ) (m : Option AcceptedAt) → MetaFit c n m → MetaBelow n m × MetaKnown c m
meta-parts c n None f = (tt, tt)
meta-parts c n (Some a) f = (f.0, f.1)

meta-whole : (c : Configuration) (n : ℕ) (m : Option AcceptedAt) → MetaBelow n m → MetaKnown c m → MetaFit c n m
meta-whole c n None b k = tt
meta-whole c n (Some a) b k = (b, k)

-- what the found box has
module _ (c : Configuration) (e : Event) (entries : List ℕ) (w : World) (t : Taken c w.node w.row w.lists e entries) where
  named-found : Named c 0 (found c e entries w)
  unfolding box_of
  named-found =
      record {
        config = refl;
        things = omega arith;
        promise-known = t.whole.promise;
        round-known = t.whole.round;
        leads-known = t.whole.leads;
        best-known = t.whole.best-round;
        own = t.whole.leader;
        places = λ pid d. (t.whole.places pid d).promise;
        message = t.whole.message;
        accepted = (meta-parts c w.node.outgoing w.node.latest_accepted_meta t.whole.accepted).1;
        items = record { room = refl; each = none };
      }

  positioned-found : Positioned c 0 (found c e entries w)
  unfolding box_of
  positioned-found =
      record {
        config = refl;
        things = omega arith;
        below = let z : w.node.outgoing + 0 ≡ w.node.outgoing = omega arith in rw z (record { places = λ pid d. (t.whole.places pid d).latest; accepted = (meta-parts c w.node.outgoing w.node.latest_accepted_meta t.whole.accepted).0 });
      }

  stocked-found : Stocked c e entries (found c e entries w) 0 (found c e entries w)
  unfolding box_of
  stocked-found = record { config = refl; things = omega arith; buffer = tt; best = entry.kept refl refl; cached = entry.kept refl refl; items = record { room = refl; each = none } }

-- a drain and a restart
depots-same : (c : Configuration) (s : SequencePaxos) → s.config ≡ c → (pid : ℕ) → Depot c pid → pid - 1 < s.config.depots
depots-same c s q pid d = let g : s.config.depots ≡ c.depots = ap (λ (x : Configuration). x.depots) q in omega (arith, d.0, d.1)

named-drained : (c : Configuration) (s : SequencePaxos) → Named c 0 s → Named c 7 (drained s)
unfolding drained forget_all
named-drained c s p =
    record {
      config = p.config;
      things = omega (arith, p.things);
      promise-known = p.promise-known;
      round-known = p.round-known;
      leads-known = p.leads-known;
      best-known = p.best-known;
      own = p.own;
      places = λ pid d. first-place (λ (x : place.Depot). PromiseFit c pid x.promise) s.config.depots (set_latest None) s.leader_state.depots (pid - 1) fresh (depots-same c s p.config pid d) (p.places pid d) tt;
      message = p.message;
      accepted = tt;
      items = p.items;
    }

named-restarted : (c : Configuration) (s : SequencePaxos) → Named c 0 s → Named c 7 (restarted s)
unfolding restarted with_of
named-restarted c s p =
    record {
      config = p.config;
      things = omega (arith, p.things);
      promise-known = p.promise-known;
      round-known = p.round-known;
      leads-known = default-known c;
      best-known = default-known c;
      own = λ l. absurd (let w : ◌≡◌ {A = ℕ} 0 1 = cc in omega arith);
      places = λ pid d. first-place (λ (x : place.Depot). PromiseFit c pid x.promise) s.config.depots (λ x. fresh) s.leader_state.depots (pid - 1) fresh (depots-same c s p.config pid d) tt tt;
      message = tt;
      accepted = tt;
      items = p.items;
    }

below-drained : (c : Configuration) (s : SequencePaxos) → s.config ≡ c → Below c 0 (drained s).leader_state.depots (drained s).latest_accepted_meta
unfolding drained forget_all
below-drained c s q =
    record { places = λ pid d. first-place (λ (x : place.Depot). LatestBelow 0 x.latest) s.config.depots (set_latest None) s.leader_state.depots (pid - 1) fresh (depots-same c s q pid d) tt tt; accepted = tt }

below-restarted : (c : Configuration) (s : SequencePaxos) → s.config ≡ c → Below c 0 (restarted s).leader_state.depots (restarted s).latest_accepted_meta
unfolding restarted with_of
below-restarted c s q =
    record { places = λ pid d. first-place (λ (x : place.Depot). LatestBelow 0 x.latest) s.config.depots (λ x. fresh) s.leader_state.depots (pid - 1) fresh (depots-same c s q pid d) tt tt; accepted = tt }

stocked-drained : (c : Configuration) (entries : List ℕ) (f s : SequencePaxos) → Stocked c event.Drain entries f 0 s → Stocked c event.Drain entries f 7 (drained s)
unfolding drained forget_all
stocked-drained c entries f s p = (entries-closed c event.Drain entries f).more 0 7 s (omega arith) p

stocked-restarted : (c : Configuration) (entries : List ℕ) (f s : SequencePaxos) → Stocked c event.Restart entries f 0 s → Stocked c event.Restart entries f 7 (restarted s)
unfolding restarted with_of
stocked-restarted c entries f s p =
    record { config = p.config; things = omega (arith, p.things); buffer = p.buffer; best = entry.none refl; cached = entry.none refl (entry.unsaid _ _ _ _ p.cached); items = p.items }

-- of every step: what is named, what is stocked, where positions lie
pub record Leaves (c : Configuration) (e : Event) (entries : List ℕ) (f s : SequencePaxos) : Type 0 where
  pub named : Named c 7 s
  pub stocked : Stocked c e entries f 7 s
  pub below : Below c (waiting e (f.outgoing.len + s.plan.sends.messages)) s.leader_state.depots s.latest_accepted_meta

at-wait : (c : Configuration) (e : Event) (m n k : ℕ) (l : List place.Depot) (a : Option AcceptedAt) → ((n : ℕ) → waiting e n ≡ n) → m ≡ n → Below c (m + k) l a → Below c (waiting e (n + k)) l a
at-wait c e m n k l a same q b = rw (same (n + k), ← q) b

module _ (c : Configuration) (entries : List ℕ) (w : World) where
  leaves-queued : (e : Event) → Queues e → Taken c w.node w.row w.lists e entries → Named c 7 (outcome_of c e entries w) × Stocked c e entries (found c e entries w) 7 (outcome_of c e entries w) × Positioned c 7 (outcome_of c e entries w)
  leaves-queued e q t =
      let f = found c e entries w in
      let a = as-found c e entries w t in (
        along-event c entries f (Named c) a (named-found c e entries w t) e (ballots-closed c e entries f a.own) q t.event,
        along-event c entries f (Stocked c e entries f) a (stocked-found c e entries w t) e (entries-closed c e entries f) q t.event,
        along-event c entries f (Positioned c) a (positioned-found c e entries w t) e (positions-closed c e entries f a.own) q t.event,
      )

  pub leaves : (e : Event) → Taken c w.node w.row w.lists e entries → Leaves c e entries (found c e entries w) (outcome_of c e entries w)
  leaves e t = by e t
    where
      queued : (e : Event) → Queues e → ((n : ℕ) → waiting e n ≡ n) → Taken c w.node w.row w.lists e entries → Leaves c e entries (found c e entries w) (outcome_of c e entries w)
      queued e q same t =
          let s = outcome_of c e entries w in
          let l = leaves-queued e q t in
          let o : s.outgoing.len ≡ (found c e entries w).outgoing.len = ap (λ (x : Outgoing). x.len) (planned-taken c e entries w t).queue in
          record { named = l.0; stocked = l.1; below = at-wait c e s.outgoing.len (found c e entries w).outgoing.len s.plan.sends.messages s.leader_state.depots s.latest_accepted_meta same o l.2.below }

      by : (e : Event) → Taken c w.node w.row w.lists e entries → Leaves c e entries (found c e entries w) (outcome_of c e entries w)
      by (event.Message m) t = queued (event.Message m) tt (λ n. refl) t
      by event.Propose t = queued event.Propose tt (λ n. refl) t
      by (event.Leader n) t = queued (event.Leader n) tt (λ n. refl) t
      by (event.Reconnect pid) t = queued (event.Reconnect pid) tt (λ n. refl) t
      by event.Resend t = queued event.Resend tt (λ n. refl) t
      by event.Drain t =
          let f = found c event.Drain entries w in
          let n = named-found c event.Drain entries w t in
          record { named = named-drained c f n; stocked = stocked-drained c entries f f (stocked-found c event.Drain entries w t); below = below-drained c f n.config }
      by event.Restart t =
          let f = found c event.Restart entries w in
          let n = named-found c event.Restart entries w t in
          record { named = named-restarted c f n; stocked = stocked-restarted c entries f f (stocked-found c event.Restart entries w t); below = below-restarted c f n.config }

-- no more wait than are in the queue
pub waiting-le : (e : Event) (n : ℕ) → waiting e n ≤ n
waiting-le (event.Message m) n = omega arith
waiting-le event.Propose n = omega arith
waiting-le (event.Leader b) n = omega arith
waiting-le (event.Reconnect pid) n = omega arith
waiting-le event.Resend n = omega arith
waiting-le event.Drain n = omega arith
waiting-le event.Restart n = omega arith

module _ (c : Configuration) (e : Event) (entries : List ℕ) (w : World) (t : Taken c w.node w.row w.lists e entries) (h : Shape w.node w.row) (s : SequencePaxos) (p : Planned c e entries (found c e entries w) 7 s) (o : Fits s) (v : Leaves c e entries (found c e entries w) s) where
  fewer : waiting e (w.node.outgoing + s.plan.sends.messages) ≤ w.node.outgoing + s.plan.sends.messages
  fewer = waiting-le e (w.node.outgoing + s.plan.sends.messages)

  few-carried : queue_entries (queue_of entries s w).row (waiting e (w.node.outgoing + s.plan.sends.messages)) ≤ max_store
  unfolding queue_entries
  few-carried = let a = sum-part (λ i. (head_at (queue_of entries s w).row i).count) _ _ fewer in let b = (queue-lies c e entries w t h s p o).few in omega (arith, a, b)

  few-wait : waiting e (w.node.outgoing + s.plan.sends.messages) ≤ max_messages
  unfolding box_of
  few-wait = let n : s.outgoing.len ≡ w.node.outgoing = ap (λ (q : Outgoing). q.len) p.queue in omega (arith, fewer, n, o.messages)

  pub whole-after : Whole c (perform_of e entries s w).node (perform_of e entries s w).row (perform_of e entries s w).lists
  unfolding perform_of box_of
  whole-after =
      let n = w.node.outgoing + s.plan.sends.messages in
      record {
        decided = omega (arith, p.decided, p.ends);
        ends = o.log;
        log = log-fit c e entries w t h s p o;
        buffer = o.buffer;
        buffered = buffer-fit c e entries w t h s p o v.stocked;
        cached = cached-fit c e entries w t h s p o v.stocked;
        best = best-fit c e entries w t h s p o v.stocked;
        queue = few-wait;
        heads = λ k l. messages-fit c e entries w t h s p o v.stocked v.named k (omega (arith, fewer));
        apart = λ i j l m. (queue-lies c e entries w t h s p o).apart i j l (omega (arith, fewer));
        carried = few-carried;
        places = λ pid d. record { latest = v.below.places pid d; promise = v.named.places pid d };
        accepted = meta-whole c (waiting e n) s.latest_accepted_meta v.below.accepted v.named.accepted;
        leader = v.named.own;
        promise = v.named.promise-known;
        round = v.named.round-known;
        leads = v.named.leads-known;
        best-round = v.named.best-known;
        message = v.named.message;
        book = book-stands c e entries w t h s p o;
      }

  pub lengths-after : Lengths (perform_of e entries s w).lists
  unfolding perform_of
  lengths-after =
      record {
        log = log-length c e entries w t h s p o;
        cached = cached-length c e entries w t h s p o v.stocked;
        best = best-length c e entries w t h s p o v.stocked;
        store = (queue-sizes c e entries w t h s p o).1;
        book = (book-stands c e entries w t h s p o).cells;
      }

  pub shape-after : Shape (perform_of e entries s w).node (perform_of e entries s w).row
  unfolding perform_of
  shape-after = record { buffered = buffer-length c e entries w t h s p o v.stocked; heads = (queue-sizes c e entries w t h s p o).0 }

-- the lengths are right, so refusal 1 is not given
pub not-off : (c : Configuration) (l : Lent) → Stands c → Lengths l → call_off c l ≡ false
unfolding wrong_call lengths_off
not-off c l s n = rw (says-stands c s, eq-eqb (length l.log) max_log n.log, eq-eqb (length l.cached) max_log n.cached, eq-eqb (length l.best) max_log n.best, eq-eqb (length l.store) max_store n.store, eq-eqb (length l.book) book_length n.book)

-- a world to which neither refusal 1 nor refusal 2 is given
pub record Stays (c : Configuration) (w : World) : Type 0 where
  pub lengths : Lengths w.lists
  pub shape : Shape w.node w.row
  pub whole : Whole c w.node w.row w.lists
  pub call : call_off c w.lists ≡ false
  pub record-stands : record_broken c w.node w.row w.lists ≡ false

-- what a taken step leaves
pub performed-stays : (c : Configuration) (e : Event) (entries : List ℕ) (w : World) → Shape w.node w.row → Taken c w.node w.row w.lists e entries → outcome_refusal (outcome_of c e entries w) ≡ 0 → Stays c (perform_of e entries (outcome_of c e entries w) w)
performed-stays c e entries w h t z =
    let s = outcome_of c e entries w in
    let p = planned-taken c e entries w t in
    let o = passes s z in
    let v = leaves c entries w e t in
    let a = perform_of e entries s w in
    let n = lengths-after c e entries w t h s p o v in
    let l = whole-after c e entries w t h s p o v in
    record { lengths = n; shape = shape-after c e entries w t h s p o v; whole = l; call = not-off c a.lists t.stands n; record-stands = whole-unbroken c a.node a.row a.lists l }

pub unbroken-stays : (c : Configuration) (e : Event) (entries : List ℕ) (w : World) → Shape w.node w.row → (step_of c e entries w).answer.no ≡ 0 → Stays c (step_of c e entries w).after
unbroken-stays c e entries w h z = by (ways c e entries w)
  where
    by : Ways c e entries w → Stays c (step_of c e entries w).after
    by (refused n d g q) = absurd (d (sym (ap (λ (x : Outcome). x.answer.no) q) ∙ z))
    by (took t r q) = subst (λ (x : Outcome). Stays c x.after) (sym q) (performed-stays c e entries w h t r)

-- so every step, taken or refused, leaves such a world as one
pub always-stays : (c : Configuration) (e : Event) (entries : List ℕ) (w : World) → Stays c w → Stays c (step_of c e entries w).after
always-stays c e entries w v = by (ways c e entries w)
  where
    by : Ways c e entries w → Stays c (step_of c e entries w).after
    by (refused n d g q) = subst (λ (x : Outcome). Stays c x.after) (sym q) v
    by (took t r q) = subst (λ (x : Outcome). Stays c x.after) (sym q) (performed-stays c e entries w v.shape t r)

-- and none is refused with 1 or 2 there
pub never-broken : (c : Configuration) (e : Event) (entries : List ℕ) (w : World) → Stays c w → ((step_of c e entries w).answer.no ≡ 1 → ⊥) × ((step_of c e entries w).answer.no ≡ 2 → ⊥)
never-broken c e entries w v = by (ways c e entries w)
  where
    given : (n : ℕ) → (n ≡ 0 → ⊥) → Gives c e entries w n → (n ≡ 1 → ⊥) × (n ≡ 2 → ⊥)
    given n d (inl g) = (
      (λ q. not-both ((refused-1 c w.node w.row w.lists e entries).0 (g ∙ q)) v.call),
      (λ q. not-both ((refused-2 c w.node w.row w.lists e entries).0 (g ∙ q)).1 v.record-stands),
    )
    given n d (inr g) = let l = (outcome-later (outcome_of c e entries w)).least (λ z. d (sym g ∙ z)) in ((λ q. omega arith), (λ q. omega arith))

    by : Ways c e entries w → ((step_of c e entries w).answer.no ≡ 1 → ⊥) × ((step_of c e entries w).answer.no ≡ 2 → ⊥)
    by (refused n d g q) = subst (λ (x : Outcome). (x.answer.no ≡ 1 → ⊥) × (x.answer.no ≡ 2 → ⊥)) (sym q) (given n d g)
    by (took t r q) = subst (λ (x : Outcome). (x.answer.no ≡ 1 → ⊥) × (x.answer.no ≡ 2 → ⊥)) (sym q) ((λ z. omega arith), (λ z. omega arith))
