-- The whole step, seen as lists: a taken one does what its plan says, a refused one nothing, and counts stay the lengths of lists.
use Prim.Native.Nat.{ℕ, ◌≤◌}
use mathlib.Core.Path.{◌≡◌, refl, sym, subst}
use mathlib.Core.Bool.{Bool, true, false}
use mathlib.Core.List.{List}
use native.Mathlib.Omega.{arith}
use lib.Dec.{eqb}
use lib.ListN.{length, take}
use lib.Seq.{take-take}
use borrow.Author.Tests.{eqb-true, eqb-false}
use Rattle.quorum.specs.declared.Configuration.{Configuration}
use Rattle.messages.specs.declared.Event.{Event}
use Rattle.messages.specs.declared.Event.TheVariants as event
use Rattle.paxos_box.specs.declared.SequencePaxos.{SequencePaxos}
use Rattle.outcome.specs.Outcome.{outcome_refusal}
use Rattle.sequence_paxos.specs.Decide.{taken}
use Rattle.record.specs.Record.{fresh_record}
use Rattle.outgoing.specs.Queue.{lent, queue_of}
use Rattle.outgoing.proofs.Kept.{sums_none}
use Rattle.quorum.proofs.Laws.{Stands}
use Rattle.refusals.proofs.Taken.{EventFit, Taken}
use Rattle.step.specs.Step.{World, Outcome, handed_out, taken_to, refused_with, step_of}
use Rattle.step_laws.proofs.Plan.{none}
use Rattle.step_laws.proofs.Moves.{Found, Closed}
use Rattle.step_laws.proofs.Fits.{found}
use Rattle.step_laws.proofs.Outcome.{outcome_of, Ways, refused, took, ways}
use Rattle.step_laws.proofs.Events.{Queues, along-event}
use Rattle.views.specs.View.{View, view_of, fresh_view, perform_view, box_view, Counted, Plain}
use Rattle.views.proofs.Fine.{FineBox, fine_more}
use Rattle.views.proofs.Moves.{fine-closed, drained-fine, restarted-fine}
use Rattle.views.proofs.Plain.{sizes_of, plain-fine, counted-after}
use Rattle.views.proofs.View.{viewed}
use Rattle.views.proofs.Box.{box-viewed}

-- the box that decides, of the view
module _ (c : Configuration) (e : Event) (entries : List ℕ) (v : View) (k : Counted v) where
  -- nothing is planned yet
  found-fine : FineBox c (sizes_of entries v) 0 (box_view c e entries v)
  unfolding box_view
  found-fine =
      record {
        config = refl;
        things = omega arith;
        sums = sums_none (box_view c e entries v).plan.sends refl refl refl refl;
        op = tt;
        joins = omega arith;
        log = omega (arith, k.log);
        buffer = omega (arith, k.buffered);
        cached = omega (arith, k.cached);
        best = omega (arith, k.best);
        sends = record { room = refl; each = none };
      }

  module _ (s : Stands c) (d : v.node.internal_storage.decided_idx ≤ v.node.internal_storage.accepted_idx) (h : EventFit c e entries) where
    begins : Found c (box_view c e entries v)
    unfolding box_view
    begins =
        record {
          writes = record { log = refl; buffered = refl; cached = refl; best = refl; buffer = refl };
          decided = d;
          depots = s.most;
          own = s.own;
        }

    closed : Closed c e entries (box_view c e entries v) (FineBox c (sizes_of entries v))
    unfolding box_view
    closed = fine-closed c e entries (box_view c e entries v) (sizes_of entries v) refl k.buffered k.best

    queues-fine : Queues e → FineBox c (sizes_of entries v) 7 (taken e (length entries) (box_view c e entries v))
    queues-fine q = along-event c entries (box_view c e entries v) (FineBox c (sizes_of entries v)) begins found-fine e closed q h

taken_fine : (c : Configuration) (e : Event) (entries : List ℕ) (v : View) → Counted v → Stands c → v.node.internal_storage.decided_idx ≤ v.node.internal_storage.accepted_idx → EventFit c e entries → FineBox c (sizes_of entries v) 7 (taken e (length entries) (box_view c e entries v))
unfolding box_view
taken_fine c (event.Message m) entries v k s d h = queues-fine c (event.Message m) entries v k s d h tt
taken_fine c event.Propose entries v k s d h = queues-fine c event.Propose entries v k s d h tt
taken_fine c (event.Leader n) entries v k s d h = queues-fine c (event.Leader n) entries v k s d h tt
taken_fine c (event.Reconnect pid) entries v k s d h = queues-fine c (event.Reconnect pid) entries v k s d h tt
taken_fine c event.Resend entries v k s d h = queues-fine c event.Resend entries v k s d h tt
taken_fine c event.Drain entries v k s d h = fine_more c (sizes_of entries v) 7 (omega arith) (drained-fine c (sizes_of entries v) (box_view c event.Drain entries v) (found-fine c event.Drain entries v k))
taken_fine c event.Restart entries v k s d h = fine_more c (sizes_of entries v) 7 (omega arith) (restarted-fine c (sizes_of entries v) (box_view c event.Restart entries v) refl (found-fine c event.Restart entries v k))

pub plain : (c : Configuration) (e : Event) (entries : List ℕ) (v : View) → Counted v → Stands c → v.node.internal_storage.decided_idx ≤ v.node.internal_storage.accepted_idx → EventFit c e entries → Plain entries (taken e (length entries) (box_view c e entries v)) v
plain c e entries v k s d h = plain-fine entries v (taken e (length entries) (box_view c e entries v)) c 7 (taken_fine c e entries v k s d h)

-- what holds of a refused outcome and of a taken one
step_by : (c : Configuration) (e : Event) (entries : List ℕ) (w : World) (P : Outcome → Type 0) → ((n : ℕ) → (n ≡ 0 → ⊥) → P (refused_with n w)) → (Taken c w.node w.row w.lists e entries → outcome_refusal (outcome_of c e entries w) ≡ 0 → P (taken_to e entries (outcome_of c e entries w) w)) → P (step_of c e entries w)
step_by c e entries w P f g = by (ways c e entries w)
  where
    by : Ways c e entries w → P (step_of c e entries w)
    by (refused n h l q) = subst P (sym q) (f n h)
    by (took t o q) = subst P (sym q) (g t o)

-- A taken step, seen as lists: what the refusals leave, and what it does
pub record Seen (c : Configuration) (e : Event) (entries : List ℕ) (w : World) (s : SequencePaxos) (o : Outcome) : Type 0 where
  pub fit : Taken c w.node w.row w.lists e entries
  pub passes : outcome_refusal s ≡ 0
  pub view : view_of o.after ≡ perform_view e entries s (view_of w)
  pub counted : Counted (view_of o.after)
  pub handed : o.answer.handed_out ≡ handed_out e (view_of w).node.outgoing

-- a refused one
pub record Same (w : World) (o : Outcome) : Type 0 where
  pub after : o.after ≡ w
  pub handed : o.answer.handed_out ≡ 0

same-refused : (n : ℕ) (w : World) → Same w (refused_with n w)
same-refused n w = record { after = refl; handed = refl }

module _ (c : Configuration) (e : Event) (entries : List ℕ) (w : World) (k : Counted (view_of w)) where
  seen-taken : Taken c w.node w.row w.lists e entries → (s : SequencePaxos) → Plain entries s (view_of w) → outcome_refusal s ≡ 0 → Seen c e entries w s (taken_to e entries s w)
  unfolding view_of
  seen-taken t s p o =
      let v = viewed entries s w k p e in
      record { fit = t; passes = o; view = v; counted = rw v (counted-after entries s (view_of w) k p e); handed = refl }

  whole_plain : Taken c w.node w.row w.lists e entries → Plain entries (taken e (length entries) (box_view c e entries (view_of w))) (view_of w)
  unfolding view_of
  whole_plain t = plain c e entries (view_of w) k t.stands t.whole.decided t.event

  seen-box : Taken c w.node w.row w.lists e entries → (b : SequencePaxos) → b ≡ box_view c e entries (view_of w) → outcome_refusal (taken e (length entries) b) ≡ 0 → Seen c e entries w (taken e (length entries) (box_view c e entries (view_of w))) (taken_to e entries (taken e (length entries) b) w)
  seen-box t b q = rw q (seen-taken t (taken e (length entries) (box_view c e entries (view_of w))) (whole_plain t))

  -- taken: the view after it is what the plan makes of the view before it
  pub taken-view : (step_of c e entries w).answer.no ≡ 0 → Seen c e entries w (taken e (length entries) (box_view c e entries (view_of w))) (step_of c e entries w)
  taken-view =
      step_by c e entries w (λ (o : Outcome). o.answer.no ≡ 0 → Seen c e entries w (taken e (length entries) (box_view c e entries (view_of w))) o)
      (λ n h z. absurd (h z))
      (λ t o z. seen-box t (found c e entries w) (box-viewed c e entries w k t.whole t.lengths.store) o)

-- refused: everything is as found
pub refused-view : (c : Configuration) (e : Event) (entries : List ℕ) (w : World) → ((step_of c e entries w).answer.no ≡ 0 → ⊥) → Same w (step_of c e entries w)
refused-view c e entries w =
    step_by c e entries w (λ (o : Outcome). (o.answer.no ≡ 0 → ⊥) → Same w o) (λ n h z. same-refused n w) (λ t o z. absurd (z refl))

-- either way the counts stay the lengths of the lists
pub counted_step : (c : Configuration) (e : Event) (entries : List ℕ) (w : World) → Counted (view_of w) → Counted (view_of (step_of c e entries w).after)
counted_step c e entries w k = go (eqb (step_of c e entries w).answer.no 0) refl
  where
    go : (t : Bool) → eqb (step_of c e entries w).answer.no 0 ≡ t → Counted (view_of (step_of c e entries w).after)
    go true p = (taken-view c e entries w k (eqb-true _ 0 p)).counted
    go false p = rw (refused-view c e entries w (eqb-false _ 0 p)).after k

-- a depot that never ran
pub fresh-view : (w : World) → w.node ≡ fresh_record → view_of w ≡ fresh_view
unfolding view_of queue_of
fresh-view w e = rw e

pub fresh-counted : Counted fresh_view
fresh-counted = record { log = refl; buffered = refl; cached = refl; best = refl; queue = refl }

-- the queue that a drain hands out
pub handed-view : (w : World) → queue_of (view_of w).node.outgoing (lent w.row w.lists.store) ≡ (view_of w).queue
unfolding view_of
handed-view w = refl

-- decided entries are read off the log
pub history-view : (w : World) (n : ℕ) → n ≤ w.node.internal_storage.accepted_idx → take n w.lists.log ≡ take n (view_of w).log
unfolding view_of
history-view w n h = sym (take-take n w.node.internal_storage.accepted_idx w.lists.log h)
