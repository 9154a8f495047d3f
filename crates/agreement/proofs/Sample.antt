-- The facts do not exclude each other: among three depots the first is elected, the second promises and accepts, and an entry is chosen; and a stream is sent and taken.
use Prim.Native.Nat.{ℕ, zero, suc, ◌≤◌, ◌<◌}
use mathlib.Core.Path.{◌≡◌, refl, sym, ap, ◌∙◌, subst}
use mathlib.Core.Logic.{inl}
use mathlib.Core.Bool.{Bool, true, false, cond}
use mathlib.Core.List.{[], ◌∷◌}
use native.Mathlib.Omega.{arith}
use native.Mathlib.Nat.{le_refl}
use lib.Dec.{ltb}
use lib.ListN.{length}
use Rattle.base.proofs.Tests.{not-both}
use Rattle.base.specs.Count.{count_below}
use Rattle.ballot.specs.Ballot.{default}
use Rattle.ballot.specs.declared.Ballot.{Ballot}
use Rattle.ballot.proofs.Laws.{words-above}
use borrow.Author.Tests.{le-ltb}
use Rattle.agreement.specs.Order.{Below, leader_of}
use Rattle.agreement.specs.Core.{Sizes, Ghost, Core, Chosen}
use Rattle.agreement.specs.Growth.{Ext}
use Rattle.agreement.specs.Moves.{fresh, raise, start, accept, Begins}
use Rattle.agreement.specs.Facts.{Part, Holds, Brought, Taken}
use Rattle.agreement.specs.Stream.{Taker, Feeder, Flow, opens, adds, none as no_items}
use Rattle.agreement.specs.Report.{none, Report, Told, Promises, Elected, Prepares, Syncs, Led}
use Rattle.agreement.proofs.Order.{upto-of, not-self, within-refl}
use Rattle.agreement.proofs.Growth.{longer}
use Rattle.agreement.proofs.Moves.{begin}
use Rattle.agreement.proofs.Decided.{chosen_by}
use Rattle.agreement.proofs.Hold.{holds-fresh, holds-up, synced, taken}
use Rattle.agreement.proofs.Report.{report-up, answered}
use Rattle.agreement.proofs.Flow.{flow-new, flow-opens, flow-adds, took-opens, adds-part}
use Rattle.agreement.proofs.Lead.{prepares-up, elected, begins, none-accepted, led-first, valid-best, syncs}

unfoldable pub three : Sizes
three = record { depots = 3; read = 2; write = 2; over = omega arith }

unfoldable pub n : Ballot
n = record { n = 1; priority = 0; pid = 1 }

lt : Below default n
unfolding n
lt = record { is = words-above n default (inl (omega arith)) }

own : leader_of n ≡ 0
unfolding n leader_of
own = refl

module _ {E : Type 0} (x : E) where
  abbrev g₁ : Ghost E
  g₁ = raise 0 n fresh

  first : Elected three fresh g₁ 0 n default [] 0
  first = elected begin (holds-fresh 0) own lt

  abbrev g₂ : Ghost E
  g₂ = raise 1 n g₁

  second : Promises three g₁ g₂ 1 n default [] 0 none
  second =
      answered first.moved.core (holds-up first.moved.ext (omega arith) (holds-fresh 1)) (upto-of lt)
      (record { early = λ _. subst (λ b. Report three g₁ n b default 0 0) (sym own) first.report }) (λ l. absurd (not-self l)) (λ e l. absurd (omega arith))

  -- the first two have told nothing, so the ballot may start with any log
  promised : ℕ → Bool
  promised j = ltb j 2

  told : (j : ℕ) → j < 3 → promised j ≡ true → Told three g₂ n default 0 j default 0 0
  unfolding promised
  told zero l t = record { report = report-up second.moved.ext first.report; least = within-refl }
  told (suc zero) l t = record { report = second.answer.report; least = within-refl }
  told (suc (suc j)) l t = absurd (not-both t (le-ltb (suc (suc j)) 2 (omega arith)))

  leading : Prepares g₂ 0 n default [] default 0 none
  leading = prepares-up second.moved.ext (omega arith) first.prepares

  start-with : Begins three g₂ n default 0 (x ∷ [])
  unfolding promised three count_below
  start-with = begins second.moved.core (x ∷ []) leading promised (λ j. default) (λ j. 0) (λ j. 0) (le_refl 2) told

  abbrev g₃ : Ghost E
  g₃ = accept 0 n 1 (start n (x ∷ []) g₂)

  third : Led three g₂ g₃ 0 n (x ∷ []) default 0
  third = led-first second.moved.core own (holds-up second.moved.ext (omega arith) first.holds).promise leading.fresh start-with

  -- the second is brought the log and accepts it
  brought : Brought three g₃ 1 n 0 (x ∷ [])
  brought = synced c (holds-up e (omega arith) second.holds) sync (omega (arith, none_yet))
    where
      e : Ext 0 g₂ g₃
      e = third.taken.moved.ext

      c : Core three g₃
      c = third.taken.moved.core

      h : Holds three g₃ 0 n n (x ∷ []) 0
      h = third.taken.holds 0 (omega arith) (λ p. absurd (omega arith))

      sync : Syncs three g₃ 1 n 0 (x ∷ []) 0
      sync = syncs c h third.leads (valid-best c third.leads (report-up e second.answer.report))

      none_yet : g₃.A 1 n ≡ 0
      none_yet = (e.stays 1 (omega arith)).A n ∙ none-accepted second.moved.core 1 leading.fresh

  abbrev g₄ : Ghost E
  g₄ = accept 1 n 1 g₃

  fourth : Taken three g₃ g₄ 1 n (x ∷ [])
  fourth = taken third.taken.moved.core (holds-up third.taken.moved.ext (omega arith) second.holds).promise brought.fit

  pub one-chosen : Chosen {E = E} three (accept 1 n 1 (accept 0 n 1 (start n (x ∷ []) (raise 1 n (raise 0 n fresh))))) n 1
  unfolding promised three count_below
  one-chosen = chosen_by (λ b. cond (promised b) 1 0) has (omega (arith, ap length third.leads.all, longer fourth.moved.ext n)) (le_refl 2)
    where
      has : (b : ℕ) → b < 3 → cond (promised b) 1 0 ≤ g₄.A b n
      has zero l = omega (arith, third.taken.here, (fourth.moved.ext.stays 0 (omega arith)).A n)
      has (suc zero) l = omega (arith, fourth.here)
      has (suc (suc b)) l = rw (le-ltb (suc (suc b)) 2 (omega arith)) (omega arith)

-- a session is opened with the log's one place, and taken; a second place is sent, and starts where the follower's log ends
module _ {E : Type 0} (x y : E) where
  leader : Bool → ℕ → ℕ → Feeder
  leader feeds s c = record { leads = true; feeds = feeds; session = s; counter = c }

  follower : Bool → ℕ → ℕ → ℕ → Taker
  follower takes s c k = record { takes = takes; session = s; counter = c; length = k }

  opened : Flow (x ∷ []) 0 (opens 1 1 0 (x ∷ []) ∷ []) (follower false 0 0 0) (leader true 1 1)
  unfolding leader follower
  opened = flow-opens (flow-new {y = leader false 0 0} no_items refl refl refl refl) refl 0 (x ∷ []) (leader true 1 1) refl refl refl refl refl

  sent : Flow (x ∷ y ∷ []) 1 (adds 1 2 (y ∷ []) ∷ []) (follower true 1 1 1) (leader true 1 2)
  unfolding leader follower
  sent = flow-adds (took-opens opened (follower true 1 1 1) (le_refl 1) (record { session = refl; counter = refl; length = refl })) refl refl (y ∷ []) (leader true 1 2) refl refl refl refl

  pub starts-where-it-ends : Part (x ∷ y ∷ []) 1 (y ∷ [])
  unfolding follower
  starts-where-it-ends = adds-part sent refl refl refl
