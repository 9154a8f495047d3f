-- How the parts of a step come together: the book made again, the entries newly decided, and the one equation that the whole step promises.
use Prim.Native.Nat.{ℕ, ◌+◌, ◌-◌, ◌<◌}
use mathlib.Core.Path.{◌≡◌, refl, ap, sym, ◌∙◌}
use mathlib.Core.Bool.{Bool, true, false}
use mathlib.Core.List.{List, []}
use native.Mathlib.Omega.{arith}
use lib.Dec.{eqb}
use native.Mathlib.Decide.{dec_lt}
use lib.ListN.{length, take}
use borrow.Author.Tests.{eq-eqb, ne_eqb, eqb-true, eqb-false}
use Rattle.base.specs.declared.Refusal.{Refusal}
use Rattle.base.specs.declared.Refusal.TheVariants.{WrongCall, Broken, Stranger, Unfit, LogFull, QueueFull, AtTop, BufferFull}
use Rattle.base.specs.Refusal.{number_of}
use Rattle.depot_row.specs.Decided.{Decided}
use Rattle.sequence_paxos.specs.Decide as decide
use Rattle.sequence_paxos.specs.Decide.{decide_of}
use Rattle.step_laws.proofs.Fits.{writable}
use Rattle.std.specs.Prelude.{Result, Ok, Err}
use Rattle.quorum.specs.declared.Configuration.{Configuration}
use Rattle.messages.specs.declared.Event.{Event}
use Rattle.messages.specs.declared.Row.{Row}
use Rattle.paxos_box.specs.declared.SequencePaxos.{SequencePaxos}
use Rattle.outcome.specs.Outcome.{Decision, as_decision, outcome_refusal, settled}
use Rattle.record.specs.declared.Record.{Record}
use Rattle.record.specs.Record.{store_of}
use Rattle.hire_book.specs.Book.{book_length, fresh_book, any_above}
use Rattle.hire_book.specs.Step as book
use Rattle.hire_book.proofs.Entries.{none_above, within-part}
use Rattle.refusals.proofs.Says.{first-fit}
use Rattle.broken.specs.Lent.{lent}
use Rattle.refusals.specs.Refusals.{refusal_of}
use Rattle.refusals.proofs.Sound.{taken}
use Rattle.storage.specs.Storage.{log_after, cached_after, best_after, buffer_after}
use Rattle.outgoing.specs.Queue as queue
use Rattle.outgoing.specs.Perform.{sources, performed}
use Rattle.step.specs.Step.{World, Outcome, world, seen, box_of, refused_with, decision_of, log_of, cached_of, best_of, buffer_of, queue_of, waiting, handed_out, newly_decided, book_after, perform_of, taken_to, concluded, step_of}

-- a book of the right length is fresh again
fresh-again : (found : List ℕ) → length found ≡ book_length → book.fresh_step found ≡ book.seen 0 fresh_book
unfolding book.fresh_step
fresh-again found h = rw (eq-eqb (length found) book_length h)

pub made-fresh : (found left : List ℕ) (n : ℕ) → length found ≡ book_length → book.seen n left ≡ book.fresh_step found → left ≡ fresh_book
made-fresh found left n h e = ap (λ (s : book.Seen). s.book) (e ∙ fresh-again found h)

-- the entries newly decided are some of those decided
pub newly-fit : (old new : ℕ) (log : List ℕ) → any_above (take new log) ≡ false → any_above (newly_decided old new log) ≡ false
newly-fit old new log h = go (dec_lt new old)
  where
    go : Dec (new < old) → any_above (newly_decided old new log) ≡ false
    go (yes l) = let z : new - old ≡ 0 = omega arith in rw z (none_above [] (λ i k. absurd (omega arith)))
    go (no l) = none_above (newly_decided old new log) (within-part log old (new - old) (λ i k. first-fit log new h i (omega arith)))

-- the log, the buffers, the queue, the book and the record, each as the step leaves it, are what a taken step gives
module _ (e : Event) (entries : List ℕ) (s : SequencePaxos) (r : Record) (row : Row) (log cached best store held : List ℕ) where
  pub finish :
      (log₁ cached₁ best₁ store₁ held₁ : List ℕ) (row₁ : Row) (node : Record) (out : ℕ)
      → log₁ ≡ log_after s.plan.writes.log r.internal_storage.accepted_idx entries best r.buffered_proposals.entries s.plan.writes.buffered log
      → cached₁ ≡ cached_after s.plan.writes.cached (log_after s.plan.writes.log r.internal_storage.accepted_idx entries best r.buffered_proposals.entries s.plan.writes.buffered log) cached
      → best₁ ≡ best_after s.plan.writes.best entries best
      → queue.lent row₁ store₁ ≡ performed (sources log₁ entries r.buffered_proposals.entries cached₁) s.plan.sends r.outgoing (queue.lent row store)
      → held₁ ≡ book_after e r.internal_storage.decided_idx s.internal_storage.decided_idx log₁ held
      → out ≡ handed_out e r.outgoing
      → node ≡ store_of s (buffer_after s.plan.writes.buffer r.buffered_proposals.len entries r.buffered_proposals.entries) (waiting e (r.outgoing + s.plan.sends.messages))
      → ◌≡◌ {A = Outcome} (seen (record { answer = record { no = 0; dropped = s.plan.writes.dropped; handed_out = out }; node = node; row = row₁ }) (lent log₁ cached₁ best₁ store₁ held₁)) (taken_to e entries s (world r row (lent log cached best store held)))
  unfolding perform_of log_of cached_of best_of buffer_of queue_of
  finish log₁ cached₁ best₁ store₁ held₁ row₁ node out l c b q k o n =
      let x : row₁ ≡ (performed (sources log₁ entries r.buffered_proposals.entries cached₁) s.plan.sends r.outgoing (queue.lent row store)).row = ap (λ (w : queue.Lent). w.row) q in
      let y : store₁ ≡ (performed (sources log₁ entries r.buffered_proposals.entries cached₁) s.plan.sends r.outgoing (queue.lent row store)).store = ap (λ (w : queue.Lent). w.store) q in
      rw (n, o, k, x, y, b, c, l)

-- a decision that gives no refusal is the step as it would be, and nothing refuses that
pub decided-taken : (found s : SequencePaxos) (d : Decision) → d ≡ settled found s → d.no ≡ 0 → (outcome_refusal s ≡ 0) × (d.node ≡ s)
unfolding settled
decided-taken found s d p z = go (eqb (outcome_refusal s) 0) refl
  where
    go : (b : Bool) → eqb (outcome_refusal s) 0 ≡ b → (outcome_refusal s ≡ 0) × (d.node ≡ s)
    go true e = (eqb-true (outcome_refusal s) 0 e, ap (λ (x : Decision). x.node) (rw e at p))
    go false e =
        let q : d.no ≡ outcome_refusal s = ap (λ (x : Decision). x.no) (rw e at p) in
        absurd (eqb-false (outcome_refusal s) 0 e (sym q ∙ z))

refusal-number : (refusal : Refusal) → number_of refusal ≡ 0 → ⊥
refusal-number WrongCall e = absurd (omega arith)
refusal-number Broken e = absurd (omega arith)
refusal-number Stranger e = absurd (omega arith)
refusal-number Unfit e = absurd (omega arith)
refusal-number LogFull e = absurd (omega arith)
refusal-number QueueFull e = absurd (omega arith)
refusal-number AtTop e = absurd (omega arith)
refusal-number BufferFull e = absurd (omega arith)

-- the three ways of a step
module _ (c : Configuration) (e : Event) (entries : List ℕ) (w : World) where
  pub refused-first : (refusal : Refusal) → number_of refusal ≡ refusal_of c w.node w.row w.lists e entries → step_of c e entries w ≡ refused_with (number_of refusal) w
  unfolding step_of
  refused-first refusal r = rw (← r, ne_eqb (number_of refusal) 0 (refusal-number refusal))

  abbrev pub box : SequencePaxos
  box = box_of c e entries w.node w.row w.lists.log w.lists.best

  pub decided : (result : Result SequencePaxos Refusal) → 0 ≡ refusal_of c w.node w.row w.lists e entries → as_decision box result ≡ decide_of e (length entries) box → Decided c e entries w result
  unfolding step_of concluded decision_of
  decided (Ok s) z d =
      let f = decided-taken box (decide.taken e (length entries) box) (record { no = 0; node = s }) d refl in
      let t = taken c w.node w.row w.lists e entries (sym z) in
      (rw f.1 (writable c e entries w t f.0), rw (← z, ← d))
  decided (Err refusal) z d = rw (← z, ← d, ne_eqb (number_of refusal) 0 (refusal-number refusal))
