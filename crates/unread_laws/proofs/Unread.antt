-- Two depots that differ only in places past the depots, or in cells that nothing uses, get the same answer and the same changes, and those places keep what they held.
use Prim.Native.Nat.{ℕ, zero, suc, ◌+◌, ◌-◌, ◌≤◌}
use mathlib.Core.Path.{◌≡◌, refl, sym, ap, subst, ◌∙◌}
use mathlib.Core.Bool.{Bool, true, false, cond}
use mathlib.Core.List.{List, [], ◌∷◌}
use native.Mathlib.Omega.{arith}
use lib.Dec.{eqb}
use lib.ListN.{length, take, drop}
use lib.Seq.{take-take}
use borrow.Author.Tests.{eqb-true, eqb-false}
use Rattle.quorum.specs.declared.Configuration.{Configuration}
use Rattle.leader_state.specs.declared.Depot as place
use Rattle.messages.specs.declared.Event.{Event}
use Rattle.messages.specs.declared.Event.TheVariants as event
use Rattle.messages.specs.declared.Head.{Head}
use Rattle.paxos_box.specs.declared.SequencePaxos.{SequencePaxos}
use Rattle.paxos_box.specs.declared.InternalStorage.{InternalStorage}
use Rattle.paxos_box.specs.declared.Sends.{Sends}
use Rattle.outcome.specs.Outcome.{outcome_refusal, settled}
use Rattle.sequence_paxos.specs.Decide.{taken}
use Rattle.record.specs.declared.Record.{Record}
use Rattle.hire_book.specs.Book.{apply_all, book_of}
use Rattle.refusals.specs.Refusals.{refusal_of}
use Rattle.refusals.proofs.Taken.{Taken}
use Rattle.outgoing.specs.Queue as queue
use Rattle.outgoing.specs.Perform.{Sources, perform_all, performed, items_of, new_in}
use Rattle.outgoing.proofs.Laid.{take-over, length-heads}
use Rattle.outgoing.proofs.Steps.{all-longer}
use Rattle.step.specs.declared.Answer.{Answer}
use Rattle.step.specs.Step.{World, Outcome, box_of, decision_of, handed_out, waiting, newly_decided, is_restart, book_after, log_of, queue_of, perform_of, refused_with, taken_to, concluded, step_of}
use Rattle.step_laws.proofs.After.{Shape}
use Rattle.step_laws.proofs.Fits.{found, planned-taken}
use Rattle.step_laws.proofs.Outcome.{outcome_of}
use Rattle.step_laws.proofs.Whole.{performed-stays, unbroken-stays}
use Rattle.step_laws.proofs.Step.{as-found}
use Rattle.refusals.proofs.Sound as refusals
use Rattle.views.specs.View.{View, view_of, perform_view, box_view}
use Rattle.views.proofs.View.{queue-back}
use Rattle.views.proofs.Box.{box-viewed}
use Rattle.views.proofs.Step.{taken-view}
use Rattle.unread_laws.specs.InUse.{past_box, used_node, InUse, in_use, Alike}
use Rattle.unread_laws.proofs.Mix.{mix-take}
use Rattle.unread_laws.proofs.Boxes.{Pair}
use Rattle.unread_laws.proofs.Deciding.{decides-alike}
use Rattle.unread_laws.proofs.Refusing.{refusals-alike}
use Rattle.unread_laws.proofs.Viewing.{past_node, past_view, past_of, view-alike, box-alike, performed-alike, counted-whole}

-- the heads of a queue that was laid down are read off its messages
heads-laid : (f : Sources) (s : Sends) (len : ℕ) (w : queue.Lent) → length (queue.queue_of len w) ≡ len → eqb s.count 0 ≡ false → take (len + new_in (items_of s)) (performed f s len w).row.heads ≡ queue.heads_from 0 (queue.queue_of (len + new_in (items_of s)) (performed f s len w))
unfolding performed queue.laid
heads-laid f s len w h e =
    let q = perform_all f (items_of s) (queue.queue_of len w) in
    let n : length q ≡ len + new_in (items_of s) = omega (arith, h, all-longer f (items_of s) (queue.queue_of len w)) in
    rw (queue-back f s len w h, e) (take-over (queue.heads_from 0 q) w.row.heads (len + new_in (items_of s)) (length-heads 0 q ∙ n))

-- two queues with the same heads and messages, after the same plan
heads-same : (f g : Sources) (s : Sends) (len : ℕ) (w v : queue.Lent) → length (queue.queue_of len w) ≡ len → length (queue.queue_of len v) ≡ len → take len w.row.heads ≡ take len v.row.heads → queue.queue_of (len + new_in (items_of s)) (performed f s len w) ≡ queue.queue_of (len + new_in (items_of s)) (performed g s len v) → take (len + new_in (items_of s)) (performed f s len w).row.heads ≡ take (len + new_in (items_of s)) (performed g s len v).row.heads
unfolding performed new_in
heads-same f g s len w v hw hv h q = by (eqb s.count 0) refl
  where
    by : (t : Bool) → eqb s.count 0 ≡ t → take (len + new_in (items_of s)) (performed f s len w).row.heads ≡ take (len + new_in (items_of s)) (performed g s len v).row.heads
    by true e = let n : len + 0 ≡ len = omega arith in rw (e, eqb-true s.count 0 e, n) h
    by false e = heads-laid f s len w hw e ∙ ap (queue.heads_from 0) q ∙ sym (heads-laid g s len v hv e)

heads-both : (f g : Sources) (s t : Sends) (len n m k : ℕ) (w v : queue.Lent) → t ≡ s → n ≡ len → m ≡ new_in (items_of s) → k ≡ new_in (items_of t) → length (queue.queue_of len w) ≡ len → length (queue.queue_of n v) ≡ n → take len w.row.heads ≡ take n v.row.heads → queue.queue_of (len + m) (performed f s len w) ≡ queue.queue_of (n + k) (performed g t n v) → take (len + m) (performed f s len w).row.heads ≡ take (n + k) (performed g t n v).row.heads
heads-both f g s t len n m k w v e i a b hw hv h q =
    let hv' : length (queue.queue_of len v) ≡ len = rw i at hv in
    let h' : take len w.row.heads ≡ take len v.row.heads = rw i at h in
    let q' : queue.queue_of (len + new_in (items_of s)) (performed f s len w) ≡ queue.queue_of (len + new_in (items_of s)) (performed g s len v) = rw (a, b, e, i) at q in
    rw (a, b, e, i) (heads-same f g s len w v hw hv' h' q')

-- a part of a list is read off its first places
part_same : (i k n : ℕ) (l m : List ℕ) → i + k ≤ n → take n l ≡ take n m → take k (drop i l) ≡ take k (drop i m)
part_same zero k n l m h e = sym (take-take k n l (omega arith)) ∙ ap (take k) e ∙ take-take k n m (omega arith)
part_same (suc i) k zero l m h e = absurd (omega arith)
part_same (suc i) k (suc n) [] [] h e = refl
part_same (suc i) k (suc n) [] (y ∷ m) h e = absurd (let z : ◌≡◌ {A = ℕ} 0 1 = cc in omega arith)
part_same (suc i) k (suc n) (x ∷ l) [] h e = absurd (let z : ◌≡◌ {A = ℕ} 0 1 = cc in omega arith)
part_same (suc i) k (suc n) (x ∷ l) (y ∷ m) h e = let b : take n l ≡ take n m = cc in part_same i k n l m (omega arith) b

-- the book after logs that are alike as far as they go
book-same : (r : Bool) (old new n : ℕ) (l m book : List ℕ) → old ≤ new → new ≤ n → take n l ≡ take n m → cond r (book_of (take new l)) (apply_all (newly_decided old new l) book) ≡ cond r (book_of (take new m)) (apply_all (newly_decided old new m) book)
book-same true old new n l m book h k e = ap book_of (part_same 0 new n l m (omega arith) e)
book-same false old new n l m book h k e = ap (λ (x : List ℕ). apply_all x book) (part_same old (new - old) n l m (omega arith) e)

book-both : (e : Event) (o p n m : InternalStorage) (k l b d : List ℕ) → p ≡ o → m ≡ n → d ≡ b → o.decided_idx ≤ n.decided_idx → n.decided_idx ≤ n.accepted_idx → take n.accepted_idx k ≡ take m.accepted_idx l → book_after e o.decided_idx n.decided_idx k b ≡ book_after e p.decided_idx m.decided_idx l d
unfolding book_after
book-both e o p n m k l b d old new same h i f =
    let f' : take n.accepted_idx k ≡ take n.accepted_idx l = rw new at f in
    rw (old, new, same) (book-same (is_restart e) o.decided_idx n.decided_idx n.accepted_idx k l b h i f')

-- a node with other places past the depots has the same in use
node-past : (c : Configuration) (z : List place.Depot) (r : Record) → used_node c (past_node c.depots z r) ≡ used_node c r
node-past c z r = ap (λ (l : List place.Depot). used_with l) (mix-take c.depots r.leader_state.depots z)
  where
    used_with : List place.Depot → Record
    used_with l =
        record {
          internal_storage = r.internal_storage;
          state = r.state;
          buffered_proposals = record { entries = []; len = r.buffered_proposals.len };
          outgoing = r.outgoing;
          leader_state = record { n_leader = r.leader_state.n_leader; depots = l; max_promise = r.leader_state.max_promise };
          latest_accepted_meta = r.latest_accepted_meta;
          current_seq_num = r.current_seq_num;
          cached_promise_message = r.cached_promise_message;
        }

pub same-use :
    {a a' : Record} {b b' d d' f f' g g' : List ℕ} {h h' : List Head} {q q' : List queue.Msg} {k k' : List ℕ} {m m' n n' o o' p p' : ℕ}
    → a ≡ a' → b ≡ b' → d ≡ d' → f ≡ f' → g ≡ g' → h ≡ h' → q ≡ q' → k ≡ k' → m ≡ m' → n ≡ n' → o ≡ o' → p ≡ p'
    → ◌≡◌ {A = InUse}
    (record { node = a; log = b; buffered = d; cached = f; best = g; heads = h; queue = q; book = k; log-cells = m; cached-cells = n; best-cells = o; store_cells = p })
    (record { node = a'; log = b'; buffered = d'; cached = f'; best = g'; heads = h'; queue = q'; book = k'; log-cells = m'; cached-cells = n'; best-cells = o'; store_cells = p' })
same-use a b d f g h q k m n o p = rw (a, b, d, f, g, h, q, k, m, n, o, p)

module _ (c : Configuration) (e : Event) (entries : List ℕ) (w v : World) (a : Alike c w v) (x : Shape w.node w.row) (y : Shape v.node v.row) (tw : Taken c w.node w.row w.lists e entries) (tv : Taken c v.node v.row v.lists e entries) where
  -- what each decides
  found_alike : Pair c (past_of c v) (found c e entries w) (found c e entries v)
  unfolding box_of
  found_alike =
      let kw = counted-whole c w x tw.lengths tw.whole in
      let kv = counted-whole c v y tv.lengths tv.whole in (
        box-viewed c e entries v kv tv.whole tv.lengths.store
            ∙ ap (box_view c e entries) (view-alike c w v a)
            ∙ box-alike c e entries (past_of c v) (view_of w)
            ∙ ap (past_box c.depots (past_of c v)) (sym (box-viewed c e entries w kw tw.whole tw.lengths.store)),
        refl,
      )

  pub outcomes-alike : Pair c (past_of c v) (outcome_of c e entries w) (outcome_of c e entries v)
  outcomes-alike = decides-alike c (past_of c v) tw.stands.own e entries tw.event (found c e entries w) (found c e entries v) found_alike

  pub refused-alike : outcome_refusal (outcome_of c e entries v) ≡ outcome_refusal (outcome_of c e entries w)
  unfolding outcome_refusal
  refused-alike = ap outcome_refusal outcomes-alike.0

  module _ (r : outcome_refusal (outcome_of c e entries w) ≡ 0) (qw : step_of c e entries w ≡ taken_to e entries (outcome_of c e entries w) w) (qv : step_of c e entries v ≡ taken_to e entries (outcome_of c e entries v) v) where
    view-after : view_of (perform_of e entries (outcome_of c e entries v) v) ≡ past_view c.depots (past_of c v) (view_of (perform_of e entries (outcome_of c e entries w) w))
    view-after =
        let kw = counted-whole c w x tw.lengths tw.whole in
        let kv = counted-whole c v y tv.lengths tv.whole in
        let gw = (taken-view c e entries w kw (ap (λ (o : Outcome). o.answer.no) qw)).view in
        let gv = (taken-view c e entries v kv (ap (λ (o : Outcome). o.answer.no) qv)).view in
        let bw = box-viewed c e entries w kw tw.whole tw.lengths.store in
        let bv = box-viewed c e entries v kv tv.whole tv.lengths.store in
        ap (λ (o : Outcome). view_of o.after) (sym qv)
        ∙ gv
        ∙ ap (λ (s : SequencePaxos). perform_view e entries (taken e (length entries) s) (view_of v)) (sym bv)
        ∙ ap (λ (s : SequencePaxos). perform_view e entries s (view_of v)) outcomes-alike.0
        ∙ ap (perform_view e entries (past_box c.depots (past_of c v) (outcome_of c e entries w))) (view-alike c w v a)
        ∙ performed-alike e entries c.depots (past_of c v) (outcome_of c e entries w) (view_of w)
        ∙ ap (λ (s : SequencePaxos). past_view c.depots (past_of c v) (perform_view e entries (taken e (length entries) s) (view_of w))) bw
        ∙ ap (past_view c.depots (past_of c v)) (sym gw)
        ∙ ap (λ (o : Outcome). past_view c.depots (past_of c v) (view_of o.after)) qw

    -- the heads that wait after it
    abbrev waits : World → SequencePaxos → ℕ
    waits u s = waiting e (u.node.outgoing + s.plan.sends.messages)

    queued-heads : ((n : ℕ) → waiting e n ≡ n) → take (waits w (outcome_of c e entries w)) (queue_of entries (outcome_of c e entries w) w).row.heads ≡ take (waits v (outcome_of c e entries v)) (queue_of entries (outcome_of c e entries v) v).row.heads
    unfolding queue_of in_use view_of perform_of
    queued-heads same =
        let sw = outcome_of c e entries w in
        let sv = outcome_of c e entries v in
        let kw = counted-whole c w x tw.lengths tw.whole in
        let kv = counted-whole c v y tv.lengths tv.whole in
        rw (same (w.node.outgoing + sw.plan.sends.messages), same (v.node.outgoing + sv.plan.sends.messages))
        (heads-both _ _ sw.plan.sends sv.plan.sends w.node.outgoing v.node.outgoing sw.plan.sends.messages sv.plan.sends.messages (queue.lent w.row w.lists.store) (queue.lent v.row v.lists.store)
        (ap (λ (s : SequencePaxos). s.plan.sends) outcomes-alike.0)
        (sym (ap (λ (u : InUse). u.node.outgoing) a))
        (planned-taken c e entries w tw).sums.messages
        (planned-taken c e entries v tv).sums.messages
        kw.queue
        kv.queue
        (ap (λ (u : InUse). u.heads) a)
        (rw (same (w.node.outgoing + sw.plan.sends.messages), same (v.node.outgoing + sv.plan.sends.messages)) at (sym (ap (λ (u : View). u.queue) view-after))))

    none_left : ((n : ℕ) → waiting e n ≡ 0) → take (waits w (outcome_of c e entries w)) (queue_of entries (outcome_of c e entries w) w).row.heads ≡ take (waits v (outcome_of c e entries v)) (queue_of entries (outcome_of c e entries v) v).row.heads
    none_left none = rw (none (w.node.outgoing + (outcome_of c e entries w).plan.sends.messages), none (v.node.outgoing + (outcome_of c e entries v).plan.sends.messages))

    heads-after : (f : Event) → f ≡ e → take (waits w (outcome_of c e entries w)) (queue_of entries (outcome_of c e entries w) w).row.heads ≡ take (waits v (outcome_of c e entries v)) (queue_of entries (outcome_of c e entries v) v).row.heads
    heads-after (event.Message m) q = queued-heads (subst (λ (g : Event). (n : ℕ) → waiting g n ≡ n) q (λ n. refl))
    heads-after event.Propose q = queued-heads (subst (λ (g : Event). (n : ℕ) → waiting g n ≡ n) q (λ n. refl))
    heads-after (event.Leader b) q = queued-heads (subst (λ (g : Event). (n : ℕ) → waiting g n ≡ n) q (λ n. refl))
    heads-after (event.Reconnect pid) q = queued-heads (subst (λ (g : Event). (n : ℕ) → waiting g n ≡ n) q (λ n. refl))
    heads-after event.Resend q = queued-heads (subst (λ (g : Event). (n : ℕ) → waiting g n ≡ n) q (λ n. refl))
    heads-after event.Drain q = none_left (subst (λ (g : Event). (n : ℕ) → waiting g n ≡ 0) q (λ n. refl))
    heads-after event.Restart q = none_left (subst (λ (g : Event). (n : ℕ) → waiting g n ≡ 0) q (λ n. refl))

    -- the book after it
    book-after : (perform_of e entries (outcome_of c e entries w) w).lists.book ≡ (perform_of e entries (outcome_of c e entries v) v).lists.book
    unfolding perform_of in_use view_of box_of
    book-after =
        book-both e w.node.internal_storage v.node.internal_storage (outcome_of c e entries w).internal_storage (outcome_of c e entries v).internal_storage (log_of entries (outcome_of c e entries w) w) (log_of entries (outcome_of c e entries v) v) w.lists.book v.lists.book
        (sym (ap (λ (u : InUse). u.node.internal_storage) a))
        (ap (λ (s : SequencePaxos). s.internal_storage) outcomes-alike.0)
        (sym (ap (λ (u : InUse). u.book) a))
        (planned-taken c e entries w tw).rises
        (performed-stays c e entries w x tw r).whole.decided
        (sym (ap (λ (u : View). u.log) view-after))

    -- all of it
    pub after-alike : Alike c (perform_of e entries (outcome_of c e entries w) w) (perform_of e entries (outcome_of c e entries v) v)
    unfolding in_use view_of perform_of
    after-alike =
        let g = sym view-after in
        let iw = (performed-stays c e entries w x tw r).lengths in
        let iv = (performed-stays c e entries v y tv (refused-alike ∙ r)).lengths in
        same-use
        (sym (node-past c (past_of c v) (perform_of e entries (outcome_of c e entries w) w).node) ∙ ap (λ (u : View). used_node c u.node) g)
        (ap (λ (u : View). u.log) g)
        (ap (λ (u : View). u.buffered) g)
        (ap (λ (u : View). u.cached) g)
        (ap (λ (u : View). u.best) g)
        (heads-after e refl)
        (ap (λ (u : View). u.queue) g)
        book-after
        (iw.log ∙ sym iv.log)
        (iw.cached ∙ sym iv.cached)
        (iw.best ∙ sym iv.best)
        (iw.store ∙ sym iv.store)

-- a step that is refused at once; one that goes on to decide
refused-now : (c : Configuration) (e : Event) (entries : List ℕ) (w : World) → eqb (refusal_of c w.node w.row w.lists e entries) 0 ≡ false → step_of c e entries w ≡ refused_with (refusal_of c w.node w.row w.lists e entries) w
unfolding step_of
refused-now c e entries w h = rw h

pub goes_on : (c : Configuration) (e : Event) (entries : List ℕ) (w : World) → eqb (refusal_of c w.node w.row w.lists e entries) 0 ≡ true → (b : Bool) → eqb (outcome_refusal (outcome_of c e entries w)) 0 ≡ b → step_of c e entries w ≡ cond b (taken_to e entries (outcome_of c e entries w) w) (refused_with (outcome_refusal (outcome_of c e entries w)) w)
unfolding step_of decision_of concluded settled
goes_on c e entries w h true k = rw (h, k)
goes_on c e entries w h false k = rw (h, k, k)

-- an event, and the entries given with it
pub record Given : Type 0 where
  pub event : Event
  pub entries : List ℕ

-- the same answer, and what is in use after it the same
pub record SameStep (c : Configuration) (e : Event) (entries : List ℕ) (w v : World) : Type 0 where
  pub answer : (step_of c e entries w).answer ≡ (step_of c e entries v).answer
  pub after : Alike c (step_of c e entries w).after (step_of c e entries v).after

module _ (c : Configuration) (e : Event) (entries : List ℕ) (w v : World) (a : Alike c w v) where
  both-refused : (n m : ℕ) → n ≡ m → step_of c e entries w ≡ refused_with n w → step_of c e entries v ≡ refused_with m v → SameStep c e entries w v
  both-refused n m q p r = record { answer = rw (p, r, q); after = rw (p, r) a }

  module _ (x : Shape w.node w.row) (y : Shape v.node v.row) where
    decided-both : eqb (refusal_of c w.node w.row w.lists e entries) 0 ≡ true → eqb (refusal_of c v.node v.row v.lists e entries) 0 ≡ true → SameStep c e entries w v
    unfolding in_use
    decided-both h k = by (eqb (outcome_refusal (outcome_of c e entries w)) 0) refl
      where
        tw : Taken c w.node w.row w.lists e entries
        tw = refusals.taken c w.node w.row w.lists e entries (eqb-true _ 0 h)

        tv : Taken c v.node v.row v.lists e entries
        tv = refusals.taken c v.node v.row v.lists e entries (eqb-true _ 0 k)

        alike : outcome_refusal (outcome_of c e entries v) ≡ outcome_refusal (outcome_of c e entries w)
        alike = refused-alike c e entries w v a x y tw tv

        took-both : eqb (outcome_refusal (outcome_of c e entries w)) 0 ≡ true → step_of c e entries w ≡ taken_to e entries (outcome_of c e entries w) w → step_of c e entries v ≡ taken_to e entries (outcome_of c e entries v) v → SameStep c e entries w v
        took-both z p q =
            record {
              answer = ap (λ (o : Outcome). o.answer) p ∙ answers ∙ sym (ap (λ (o : Outcome). o.answer) q);
              after = ap (λ (o : Outcome). in_use c o.after) p ∙ after-alike c e entries w v a x y tw tv (eqb-true _ 0 z) p q ∙ sym (ap (λ (o : Outcome). in_use c o.after) q);
            }
          where
            answers : (taken_to e entries (outcome_of c e entries w) w).answer ≡ (taken_to e entries (outcome_of c e entries v) v).answer
            answers =
                ap (λ (n : ℕ). answered (outcome_of c e entries w).plan.writes.dropped n) (ap (λ (u : InUse). u.node.outgoing) a)
                ∙ ap (λ (s : SequencePaxos). answered s.plan.writes.dropped v.node.outgoing) (sym (outcomes-alike c e entries w v a x y tw tv).0)
              where
                answered : ℕ → ℕ → Answer
                answered dropped waits = record { no = 0; dropped = dropped; handed_out = handed_out e waits }

        by : (b : Bool) → eqb (outcome_refusal (outcome_of c e entries w)) 0 ≡ b → SameStep c e entries w v
        by true z = took-both z (goes_on c e entries w h true z) (goes_on c e entries v k true (ap (λ (n : ℕ). eqb n 0) alike ∙ z))
        by false z = both-refused _ _ (sym alike) (goes_on c e entries w h false z) (goes_on c e entries v k false (ap (λ (n : ℕ). eqb n 0) alike ∙ z))

    -- of every step, where the arrays of both have their lengths (the code's types say so)
    pub unread : SameStep c e entries w v
    unread = by (eqb (refusal_of c w.node w.row w.lists e entries) 0) refl
      where
        same : refusal_of c w.node w.row w.lists e entries ≡ refusal_of c v.node v.row v.lists e entries
        same = refusals-alike c e entries w v a

        by : (b : Bool) → eqb (refusal_of c w.node w.row w.lists e entries) 0 ≡ b → SameStep c e entries w v
        by true z = decided-both z (rw (← same) z)
        by false z = both-refused _ _ same (refused-now c e entries w z) (refused-now c e entries v (rw (← same) z))

-- the arrays keep their lengths
pub shape-stays : (c : Configuration) (e : Event) (entries : List ℕ) (w : World) → Shape w.node w.row → Shape (step_of c e entries w).after.node (step_of c e entries w).after.row
shape-stays c e entries w x = by (eqb (step_of c e entries w).answer.no 0) refl
  where
    by : (b : Bool) → eqb (step_of c e entries w).answer.no 0 ≡ b → Shape (step_of c e entries w).after.node (step_of c e entries w).after.row
    by true z = (unbroken-stays c e entries w x (eqb-true _ 0 z)).shape
    by false z = subst (λ (u : World). Shape u.node u.row) (sym (as-found c e entries w (eqb-false _ 0 z)).after) x

-- events one after another: the same answers, and at the end the same in use
abbrev pub after : Configuration → List Given → World → World
after c [] w = w
after c (g ∷ gs) w = after c gs (step_of c g.event g.entries w).after

abbrev pub answers : Configuration → List Given → World → List Answer
answers c [] w = []
answers c (g ∷ gs) w = (step_of c g.event g.entries w).answer ∷ answers c gs (step_of c g.event g.entries w).after

pub unread-run : (c : Configuration) (gs : List Given) (w v : World) → Alike c w v → Shape w.node w.row → Shape v.node v.row → (answers c gs w ≡ answers c gs v) × Alike c (after c gs w) (after c gs v)
unread-run c [] w v a x y = (refl, a)
unread-run c (g ∷ gs) w v a x y =
    let s = unread c g.event g.entries w v a x y in
    let r = unread-run c gs (step_of c g.event g.entries w).after (step_of c g.event g.entries v).after s.after (shape-stays c g.event g.entries w x) (shape-stays c g.event g.entries v y) in
    (rw (s.answer, r.0), r.1)
