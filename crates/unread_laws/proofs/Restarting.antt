-- A taken restart keeps promise, accepted round, log and decided index, and leaves the rest as a fresh box has it; a box that kept only these four through a power cut steps on
-- as the one that kept all.
use Prim.Native.Nat.{ℕ, zero, suc, ◌+◌, ◌-◌, ◌≤◌}
use mathlib.Core.Path.{◌≡◌, refl, sym, ap, ◌∙◌}
use mathlib.Core.Bool.{true}
use mathlib.Core.List.{List, [], ◌∷◌}
use native.Mathlib.Omega.{arith}
use lib.Dec.{eqb}
use lib.ListN.{length, get_or, take, replicate, length-append, length-replicate, take-append-drop}
use lib.Seq.{length-take-le, take_at, take-take, get_or-take}
use borrow.Author.Tests.{eqb-true, le-ltb}
use Rattle.base.specs.Limits.{max_log, max_messages, max_store}
use Rattle.base.specs.Lists.{over, on_first}
use Rattle.quorum.specs.declared.Configuration.{Configuration}
use Rattle.quorum.proofs.Laws.{Stands}
use Rattle.messages.specs.declared.Event.TheVariants as event
use Rattle.paxos_box.specs.declared.LogOp.TheVariants as log
use Rattle.leader_state.specs.State.{fresh, with_depots, with_of}
use Rattle.leader_state.specs.declared.Depot as place
use Rattle.outcome.specs.Outcome.{restarted, outcome_refusal, queue_refusal}
use Rattle.record.specs.declared.Record.{Record}
use Rattle.record.specs.Record.{fresh_record}
use Rattle.messages.specs.declared.Head.{Head}
use Rattle.messages.specs.Messages.{no_head}
use Rattle.hire_book.proofs.Sound.{fresh-length, fresh-sound}
use Rattle.refusals.specs.Refusals.{refusal_of}
use Rattle.refusals.proofs.Taken.{Fit, Whole}
use Rattle.refusals.proofs.Sound as refusals
use Rattle.storage.specs.Storage.{put_at, log_after}
use Rattle.outgoing.specs.Queue as queue
use Rattle.outgoing.specs.Perform.{performed}
use Rattle.hire_book.specs.Book.{book_of}
use Rattle.sight.specs.Sight.{queue_entries}
use Rattle.step.specs.Step.{World, world, Outcome, box_of, log_of, cached_of, best_of, buffer_of, queue_of, book_after, perform_of, step_of}
use Rattle.step_laws.proofs.Outcome.{outcome_of}
use Rattle.step_laws.proofs.Whole.{Stays}
use Rattle.step_laws.proofs.Step.{fresh-stays}
use Rattle.step_laws.proofs.Unbroken.{whole-unbroken}
use Rattle.unread_laws.specs.InUse.{in_use, Alike}
use Rattle.unread_laws.specs.PowerCut.{restarted_node, restarted_world, kept_log, fresh_row, power_cut}
use Rattle.unread_laws.proofs.Unread.{goes_on, same-use, Given, SameStep, answers, after, unread-run, shape-stays}

-- a log on which nothing is put
nothing_put : (n : ℕ) (given held buffered l : List ℕ) → log_after log.Keep n given held buffered 0 l ≡ l
unfolding log_after put_at over
nothing_put n given held buffered l = take-append-drop n l

-- what a restart performs
performs : (c : Configuration) (entries : List ℕ) (w : World) → perform_of event.Restart entries (outcome_of c event.Restart entries w) w ≡ restarted_world c w
unfolding perform_of box_of restarted with_of log_of cached_of best_of buffer_of queue_of book_after performed
performs c entries w = rw (nothing_put w.node.internal_storage.accepted_idx entries w.lists.best w.node.buffered_proposals.entries w.lists.log)

-- nothing refuses a restart of an unbroken record
module _ (c : Configuration) (entries : List ℕ) (w : World) (s : Stays c w) where
  fits : eqb (refusal_of c w.node w.row w.lists event.Restart entries) 0 ≡ true
  unfolding refusal_of
  fits = rw (s.call, s.record-stands)

  passes : outcome_refusal (outcome_of c event.Restart entries w) ≡ 0
  unfolding outcome_refusal box_of restarted queue_refusal
  passes =
      let a : w.node.outgoing + 0 ≤ max_messages = omega (arith, s.whole.queue) in
      let b : queue_entries w.row w.node.outgoing + 0 ≤ max_store = omega (arith, s.whole.carried) in
      rw (le-ltb max_log w.node.internal_storage.accepted_idx s.whole.ends, le-ltb max_messages (w.node.outgoing + 0) a, le-ltb max_store (queue_entries w.row w.node.outgoing + 0) b)

  -- a restart is taken, drops and hands out nothing, and leaves exactly this
  pub restart-leaves : step_of c event.Restart entries w ≡ record { answer = record { no = 0; dropped = 0; handed_out = 0 }; after = restarted_world c w }
  unfolding box_of restarted
  restart-leaves =
      goes_on c event.Restart entries w fits true (ap (λ (n : ℕ). eqb n 0) passes)
      ∙ ap (λ (v : World). taken-to v) (performs c entries w)
    where
      taken-to : World → Outcome
      taken-to v = record { answer = record { no = 0; dropped = 0; handed_out = 0 }; after = v }

-- The power cut

kept-front : (n k : ℕ) (l : List ℕ) → k ≤ n → n ≤ length l → take k (kept_log n l) ≡ take k l
kept-front n k l h e =
    sym (take-take k n (kept_log n l) h) ∙ ap (take k) (take_at (take n l) (replicate (max_log - n) 0) n (length-take-le n l e)) ∙ take-take k n l h

kept-length : (n : ℕ) (l : List ℕ) → n ≤ max_log → length l ≡ max_log → length (kept_log n l) ≡ max_log
kept-length n l h e = simp (length-append, length-replicate, length-take-le n l (omega (arith, e))) (omega arith)

first-fresh : (n : ℕ) (l : List place.Depot) → n ≤ length l → take n (on_first n (λ d. fresh) l) ≡ replicate n fresh
unfolding on_first
first-fresh zero l h = refl
first-fresh (suc n) [] h = absurd (omega arith)
first-fresh (suc n) (x ∷ l) h = ap (λ (r : List place.Depot). fresh ∷ r) (first-fresh n l (omega arith))

fit-front : (n : ℕ) (l : List ℕ) → n ≤ length l → Fit l n → Fit (kept_log n l) n
fit-front n l h f i k =
    let a : get_or (take n (kept_log n l)) i 0 ≡ get_or (kept_log n l) i 0 = get_or-take n (kept_log n l) i 0 k in
    let b : get_or (take n l) i 0 ≡ get_or l i 0 = get_or-take n l i 0 k in
    let e : get_or (take n (kept_log n l)) i 0 ≡ get_or (take n l) i 0 = ap (λ (r : List ℕ). get_or r i 0) (kept-front n n l (omega arith) h) in
    let d : get_or (kept_log n l) i 0 ≡ get_or l i 0 = sym a ∙ e ∙ b in
    rw d (f i k)

-- a restart, as an event of a run
abbrev pub restart : Given
restart = record { event = event.Restart; entries = [] }

module _ (c : Configuration) (w : World) (s : Stays c w) where
  stands : Stands c
  stands = (refusals.taken c w.node w.row w.lists event.Restart [] (eqb-true _ 0 (fits c [] w s))).stands

  -- all the cells that are fresh
  cut-fresh : Stays c (world fresh_record fresh_row (power_cut w).lists)
  unfolding power_cut
  cut-fresh =
      fresh-stays c fresh_row (power_cut w).lists stands
      (record {
        log = kept-length w.node.internal_storage.accepted_idx w.lists.log s.whole.ends s.lengths.log;
        cached = length-replicate {A = ℕ} max_log 0;
        best = length-replicate {A = ℕ} max_log 0;
        store = length-replicate {A = ℕ} max_store 0;
        book = fresh-length;
      })
      (length-replicate {A = Head} max_messages no_head) fresh-sound

  -- a box after a power cut is unbroken
  cut-whole : Whole c (power_cut w).node (power_cut w).row (power_cut w).lists
  unfolding power_cut
  cut-whole =
      let f = cut-fresh.whole in
      let g = s.whole in
      record {
        decided = g.decided;
        ends = g.ends;
        log = fit-front w.node.internal_storage.accepted_idx w.lists.log (omega (arith, s.lengths.log, g.ends)) g.log;
        buffer = f.buffer;
        buffered = f.buffered;
        cached = f.cached;
        best = f.best;
        queue = f.queue;
        heads = f.heads;
        apart = f.apart;
        carried = f.carried;
        places = λ pid d. record { latest = (f.places pid d).latest; promise = (f.places pid d).promise };
        accepted = f.accepted;
        leader = f.leader;
        promise = g.promise;
        round = g.round;
        leads = f.leads;
        best-round = f.best-round;
        message = f.message;
        book = f.book;
      }

  pub cut-stays : Stays c (power_cut w)
  unfolding power_cut
  cut-stays =
      record {
        lengths = cut-fresh.lengths;
        shape = record { buffered = cut-fresh.shape.buffered; heads = cut-fresh.shape.heads };
        whole = cut-whole;
        call = cut-fresh.call;
        record-stands = whole-unbroken c (power_cut w).node (power_cut w).row (power_cut w).lists cut-whole;
      }

  module _ (n : c.depots ≤ length w.node.leader_state.depots) where
    -- what is in use after the restart of each
    restarts-alike : Alike c (restarted_world c (power_cut w)) (restarted_world c w)
    unfolding in_use power_cut queue.queue_of
    restarts-alike =
        let len = w.node.internal_storage.accepted_idx in
        let d = w.node.internal_storage.decided_idx in
        let l = w.lists.log in
        let cells : len ≤ length l = omega (arith, s.lengths.log, s.whole.ends) in
        let f = cut-fresh.lengths in
        same-use
        (ap restarted_with (first-fresh c.depots fresh_record.leader_state.depots stands.most ∙ sym (first-fresh c.depots w.node.leader_state.depots n)))
        (kept-front len len l (omega arith) cells)
        refl refl refl refl refl
        (ap book_of (kept-front len d l s.whole.decided cells))
        (f.log ∙ sym s.lengths.log)
        (f.cached ∙ sym s.lengths.cached)
        (f.best ∙ sym s.lengths.best)
        (f.store ∙ sym s.lengths.store)
      where
        restarted_with : List place.Depot → Record
        restarted_with ds =
            record {
              internal_storage = w.node.internal_storage;
              state = (restarted_node c w.node).state;
              buffered_proposals = record { entries = []; len = 0 };
              outgoing = 0;
              leader_state = with_depots ds (restarted_node c w.node).leader_state;
              latest_accepted_meta = (restarted_node c w.node).latest_accepted_meta;
              current_seq_num = (restarted_node c w.node).current_seq_num;
              cached_promise_message = (restarted_node c w.node).cached_promise_message;
            }

    -- a restart of each gets the same answer, and then so does every event: what they have in use, the waiting messages and the book with it, stays the same
    pub power-cut : SameStep c event.Restart [] (power_cut w) w
    power-cut =
        let p = restart-leaves c [] (power_cut w) cut-stays in
        let q = restart-leaves c [] w s in
        record { answer = ap (λ (o : Outcome). o.answer) p ∙ sym (ap (λ (o : Outcome). o.answer) q); after = ap (λ (o : Outcome). in_use c o.after) p ∙ restarts-alike ∙ sym (ap (λ (o : Outcome). in_use c o.after) q) }

    pub steps_on : (gs : List Given) → (answers c (restart ∷ gs) (power_cut w) ≡ answers c (restart ∷ gs) w) × Alike c (after c (restart ∷ gs) (power_cut w)) (after c (restart ∷ gs) w)
    steps_on gs =
        let r = unread-run c gs (step_of c event.Restart [] (power_cut w)).after (step_of c event.Restart [] w).after power-cut.after (shape-stays c event.Restart [] (power_cut w) cut-stays.shape) (shape-stays c event.Restart [] w s.shape) in
        (rw (power-cut.answer, r.0), r.1)
