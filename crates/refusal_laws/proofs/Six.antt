-- A step queues at most six new messages, and one from an empty queue never gets 6.
use Prim.Native.Nat.{ℕ, ◌+◌, ◌≤◌}
use mathlib.Core.Path.{◌≡◌, refl, sym, subst, ◌∙◌}
use mathlib.Core.Logic.{◌≢◌}
use mathlib.Core.Bool.{Bool, true, false}
use mathlib.Core.List.{List}
use native.Mathlib.Omega.{arith}
use lib.Dec.{eqb}
use lib.ListN.{length}
use borrow.Author.Tests.{eqb-true, eqb-false}
use Rattle.quorum.specs.declared.Configuration.{Configuration}
use Rattle.messages.specs.declared.Row.{Row}
use Rattle.messages.specs.declared.Event.{Event}
use Rattle.decide_laws.specs.Counts.{Six}
use Rattle.decide_laws.proofs.Steps as decides
use Rattle.hire_book.specs.Below.{sum_below}
use Rattle.sight.specs.Sight.{queue_entries}
use Rattle.refusals.specs.Refusals.{refusal_of}
use Rattle.refusals.proofs.Exactly.{one-of-five}
use Rattle.refusals.proofs.Taken.{Taken}
use Rattle.refusals.proofs.Sound as refusals
use Rattle.step.specs.Step.{World, Outcome, box_of, waiting, perform_of, step_of}
use Rattle.step_laws.proofs.Fits.{found}
use Rattle.step_laws.proofs.Outcome.{outcome_of, Ways, refused, took, ways}
use Rattle.step_laws.proofs.Whole.{waiting-le}
use Rattle.refusal_laws.proofs.Ready.{ready}
use Rattle.refusal_laws.proofs.Number.{number-first, number-decided}

-- an empty queue carries nothing
empty-carries : (row : Row) (n : ℕ) → n ≡ 0 → queue_entries row n ≡ 0
unfolding queue_entries sum_below
empty-carries row n q = rw q refl

-- a step leaves at most what is queued, with at most six more
queued-le : (e : Event) (old new : ℕ) → new ≤ 6 → waiting e (old + new) ≤ old + 6
queued-le e old new h = omega (arith, waiting-le e (old + new))

module _ (c : Configuration) (e : Event) (entries : List ℕ) (w : World) where
  -- all the things that a step plans: at most six, of at most six new messages, each of at most 512 entries
  pub six-planned : Taken c w.node w.row w.lists e entries → Six (outcome_of c e entries w)
  six-planned t =
      let y = ready c w.node w.row w.lists e entries t in
      decides.six e (length entries) (found c e entries w) y.unbroken y.fit y.from-depot y.unplanned

  six-performed : Taken c w.node w.row w.lists e entries → (perform_of e entries (outcome_of c e entries w) w).node.outgoing ≤ w.node.outgoing + 6
  unfolding perform_of
  six-performed t = queued-le e w.node.outgoing (outcome_of c e entries w).plan.sends.messages (six-planned t).messages

  -- at most six new messages wait after a step
  pub six-messages : (step_of c e entries w).after.node.outgoing ≤ w.node.outgoing + 6
  six-messages = by (ways c e entries w)
    where
      by : Ways c e entries w → (step_of c e entries w).after.node.outgoing ≤ w.node.outgoing + 6
      by (refused n d g q) = subst (λ (x : Outcome). x.after.node.outgoing ≤ w.node.outgoing + 6) (sym q) (omega arith)
      by (took t r q) = subst (λ (x : Outcome). x.after.node.outgoing ≤ w.node.outgoing + 6) (sym q) (six-performed t)

  waits-none : w.node.outgoing ≡ 0 → ((found c e entries w).outgoing.len ≡ 0) × ((found c e entries w).outgoing.entries ≡ 0)
  unfolding box_of
  waits-none h = (h, empty-carries w.row w.node.outgoing h)

  -- a step from an empty queue never gets 6
  pub never-six : w.node.outgoing ≡ 0 → (step_of c e entries w).answer.no ≢ 6
  never-six h q = by (eqb (refusal_of c w.node w.row w.lists e entries) 0) refl
    where
      by : (t : Bool) → eqb (refusal_of c w.node w.row w.lists e entries) 0 ≡ t → ⊥
      by true k =
          let z = eqb-true (refusal_of c w.node w.row w.lists e entries) 0 k in
          let y = ready c w.node w.row w.lists e entries (refusals.taken c w.node w.row w.lists e entries z) in
          let o = waits-none h in
          decides.never-six e (length entries) (found c e entries w) y.unbroken y.fit y.from-depot y.unplanned o.0 o.1 (sym (number-decided c e entries w z) ∙ q)
      by false k =
          let n = number-first c e entries w (refusal_of c w.node w.row w.lists e entries) (eqb-false (refusal_of c w.node w.row w.lists e entries) 0 k) refl in
          let l = one-of-five c w.node w.row w.lists e entries in
          omega (arith, n, q, l)
