-- Of every step, taken or refused: heads past the queue and cells of the store past its entries are as found, and row and store altogether where nothing is planned for them.
use Prim.Native.Nat.{ℕ, ◌+◌}
use mathlib.Core.Path.{◌≡◌, refl, sym, ap, subst, ◌∙◌}
use mathlib.Core.List.{List}
use native.Mathlib.Omega.{arith}
use lib.Dec.{eqb}
use lib.ListN.{length, take, drop}
use Rattle.base.specs.Limits.{max_messages}
use Rattle.quorum.specs.declared.Configuration.{Configuration}
use Rattle.messages.specs.declared.Event.{Event}
use Rattle.messages.specs.declared.Event.TheVariants as event
use Rattle.messages.specs.declared.Row.{Row}
use Rattle.paxos_box.specs.declared.Sends.{Sends}
use Rattle.outcome.specs.Outcome.{outcome_refusal, drained, restarted}
use Rattle.sight.specs.Sight.{queue_entries}
use Rattle.outgoing.specs.Queue as queue
use Rattle.outgoing.specs.Queue.{Lent, Msg, entries_in, laid}
use Rattle.outgoing.specs.Perform.{Sources, perform_all, performed, items_of, new_in, carried, Fits}
use Rattle.outgoing.proofs.Laid.{past-over}
use Rattle.outgoing.proofs.Steps.{laid-carried}
use Rattle.outgoing.proofs.Kept.{performed-none, after-length, heads-past}
use Rattle.refusals.proofs.Taken.{Taken}
use Rattle.decide_laws.proofs.Grown.{either}
use Rattle.step.specs.Step.{World, Outcome, box_of, queue_of, waiting, perform_of, step_of}
use Rattle.step_laws.proofs.Queue.{carried-found}
use Rattle.step_laws.proofs.Fits.{planned-taken, writable}
use Rattle.step_laws.proofs.Outcome.{outcome_of, Ways, refused, took, ways}

pub record QueueCells (w v : World) : Type 0 where
  pub heads : drop v.node.outgoing v.row.heads ≡ drop v.node.outgoing w.row.heads
  pub store : drop (queue_entries v.row v.node.outgoing) v.lists.store ≡ drop (queue_entries v.row v.node.outgoing) w.lists.store

-- the store under the plan's queue
module _ (f : Sources) (x : Sends) (len : ℕ) (row : Row) (store : List ℕ) (p : Fits len x row store) (h : length row.heads ≡ max_messages) where
  laid-past : (q : List Msg) (n : ℕ) → length q ≡ n → drop (queue_entries (laid q (queue.lent row store)).row n) (laid q (queue.lent row store)).store ≡ drop (queue_entries (laid q (queue.lent row store)).row n) store
  unfolding laid
  laid-past q n e =
      let w = queue.lent row store in
      let k : queue_entries (laid q w).row n ≡ length (entries_in q) = sym (carried-found (laid q w).row n) ∙ subst (λ (m : ℕ). carried (take m (laid q w).row.heads) ≡ length (entries_in q)) e (laid-carried q w) in
      subst (λ (m : ℕ). drop m (laid q w).store ≡ drop m store) (sym k) (past-over (entries_in q) (entries_in q) store (omega arith))

  store-past : drop (queue_entries (performed f x len (queue.lent row store)).row (len + new_in (items_of x))) (performed f x len (queue.lent row store)).store ≡ drop (queue_entries (performed f x len (queue.lent row store)).row (len + new_in (items_of x))) store
  unfolding performed
  store-past =
      let n = len + new_in (items_of x) in
      let q = perform_all f (items_of x) (queue.queue_of len (queue.lent row store)) in
      either (λ (v : Lent). drop (queue_entries v.row n) v.store ≡ drop (queue_entries v.row n) store) (eqb x.count 0) (queue.lent row store) (laid q (queue.lent row store))
      (λ e. refl)
      (λ e. laid-past q n (after-length f x len row store p h))

module _ (c : Configuration) (entries : List ℕ) (w : World) (h : length w.row.heads ≡ max_messages) where
  -- a plan of nothing: a drain hands the queue out and a restart forgets it, and both leave row and store
  kept : (e : Event) → (outcome_of c e entries w).plan.sends.count ≡ 0 → QueueCells w (perform_of e entries (outcome_of c e entries w) w)
  unfolding perform_of queue_of
  kept e z =
      let n = (perform_of e entries (outcome_of c e entries w) w).node.outgoing in
      let q = performed-none _ (outcome_of c e entries w).plan.sends w.node.outgoing (queue.lent w.row w.lists.store) z in
      record {
        heads = ap (λ (v : Lent). drop n v.row.heads) q;
        store = ap (λ (v : Lent). drop (queue_entries (queue_of entries (outcome_of c e entries w) w).row n) v.store) q;
      }

  queued : (e : Event) → ((n : ℕ) → waiting e n ≡ n) → Taken c w.node w.row w.lists e entries → outcome_refusal (outcome_of c e entries w) ≡ 0 → QueueCells w (perform_of e entries (outcome_of c e entries w) w)
  unfolding perform_of queue_of
  queued e same t z =
      let s = outcome_of c e entries w in
      let len = w.node.outgoing in
      let x = (writable c e entries w t z).queue in
      let m : waiting e (len + s.plan.sends.messages) ≡ len + new_in (items_of s.plan.sends) = same _ ∙ ap (λ (k : ℕ). len + k) (planned-taken c e entries w t).sums.messages in
      record {
        heads = rw m (heads-past _ s.plan.sends len w.row w.lists.store x h);
        store = rw m (store-past _ s.plan.sends len w.row w.lists.store x h);
      }

  taken-queue : (e : Event) → Taken c w.node w.row w.lists e entries → outcome_refusal (outcome_of c e entries w) ≡ 0 → QueueCells w (perform_of e entries (outcome_of c e entries w) w)
  unfolding box_of drained restarted
  taken-queue (event.Message m) t z = queued (event.Message m) (λ n. refl) t z
  taken-queue event.Propose t z = queued event.Propose (λ n. refl) t z
  taken-queue (event.Leader b) t z = queued (event.Leader b) (λ n. refl) t z
  taken-queue (event.Reconnect pid) t z = queued (event.Reconnect pid) (λ n. refl) t z
  taken-queue event.Resend t z = queued event.Resend (λ n. refl) t z
  taken-queue event.Drain t z = kept event.Drain refl
  taken-queue event.Restart t z = kept event.Restart refl

  -- of every step, where the row has its 64 heads (the code's types say so)
  pub queue-cells : (e : Event) → QueueCells w (step_of c e entries w).after
  queue-cells e = by (ways c e entries w)
    where
      by : Ways c e entries w → QueueCells w (step_of c e entries w).after
      by (refused n d g q) = subst (λ (x : Outcome). QueueCells w x.after) (sym q) (record { heads = refl; store = refl })
      by (took t r q) = subst (λ (x : Outcome). QueueCells w x.after) (sym q) (taken-queue e t r)

-- a step that plans nothing for the queue leaves row and store alone
abbrev pub Idle : World → World → Type 0
Idle w v = (v.row ≡ w.row) × (v.lists.store ≡ w.lists.store)

unsent : (c : Configuration) (e : Event) (entries : List ℕ) (w : World) → (outcome_of c e entries w).plan.sends.count ≡ 0 → Idle w (perform_of e entries (outcome_of c e entries w) w)
unfolding perform_of queue_of
unsent c e entries w z =
    let q = performed-none _ (outcome_of c e entries w).plan.sends w.node.outgoing (queue.lent w.row w.lists.store) z in
    (ap (λ (v : Lent). v.row) q, ap (λ (v : Lent). v.store) q)

pub idle : (c : Configuration) (e : Event) (entries : List ℕ) (w : World) → (outcome_of c e entries w).plan.sends.count ≡ 0 → Idle w (step_of c e entries w).after
idle c e entries w z = by (ways c e entries w)
  where
    by : Ways c e entries w → Idle w (step_of c e entries w).after
    by (refused n d g q) = subst (λ (x : Outcome). Idle w x.after) (sym q) (refl, refl)
    by (took t r q) = subst (λ (x : Outcome). Idle w x.after) (sym q) (unsent c e entries w z)
