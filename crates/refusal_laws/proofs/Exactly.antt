-- Each number of document 01's table is given exactly when its row applies and none before it does; the leader's record has its seven places.
use Prim.Native.Nat.{ℕ, ◌≤◌, ◌<◌}
use mathlib.Core.Path.{◌≡◌, refl, sym, subst, ◌∙◌}
use mathlib.Core.Logic.{inl, inr, ◌↔◌}
use mathlib.Core.Bool.{Bool, true, false}
use mathlib.Core.List.{List}
use native.Mathlib.Omega.{arith}
use lib.Dec.{ltb}
use lib.ListN.{length}
use borrow.Author.Tests.{ltb-true, ltb-false}
use Rattle.base.proofs.Tests.{not-both, is_false}
use Rattle.base.specs.Limits.{max_log, max_buffered, max_messages, max_store, max_depots}
use Rattle.quorum.specs.declared.Configuration.{Configuration}
use Rattle.messages.specs.declared.Event.{Event}
use Rattle.paxos_box.specs.declared.SequencePaxos.{SequencePaxos}
use Rattle.sequence_paxos.specs.Decide.{taken, decide_of}
use Rattle.decide_laws.proofs.Table.{QueuePassed, Fits, Given, is-unfit, at_top, past-log, past-buffer, past-queue, all_fit, given-exactly}
use Rattle.decide_laws.proofs.Five.{TakesPast, five-exactly}
use Rattle.table_laws.specs.Words.{Unfits, Tops}
use Rattle.table_laws.proofs.Exactly.{four-exactly, seven-exactly}
use Rattle.unfit.specs.Unfit.{stranger_of, unfit_of}
use Rattle.broken.specs.Broken.{record_broken}
use Rattle.refusals.specs.Refusals.{call_off, refusal_of}
use Rattle.refusals.proofs.Exactly.{None, refused-1, refused-2, refused-3, refused-4, refused_none}
use Rattle.refusals.proofs.Sound as refusals
use Rattle.step.specs.Step.{World, step_of}
use Rattle.step_laws.proofs.Fits.{found}
use Rattle.step_laws.proofs.Outcome.{outcome_of}
use Rattle.refusal_laws.specs.Rows.{IsUnfit, TopReached, LogPassed, QueueOver, PastFour, PastEight, Row, row-1, row-2, row-3, row-4, row-7, row-5, row-8, row-6, row-0}
use Rattle.refusal_laws.proofs.Ready.{Ready, ready, seated}
use Rattle.refusal_laws.proofs.Number.{number-first, number-decided}

-- A number not above a limit
within : (n limit : ℕ) → (limit < n → ⊥) → n ≤ limit
within n limit h = by (ltb limit n) refl
  where
    by : (t : Bool) → ltb limit n ≡ t → n ≤ limit
    by true q = absurd (h (ltb-true limit n q))
    by false q = ltb-false limit n q

not-passed : (messages entries : ℕ) → messages ≤ max_messages → entries ≤ max_store → QueuePassed messages entries → ⊥
not-passed messages entries m n (inl l) = omega arith
not-passed messages entries m n (inr l) = omega arith

-- The rows that deciding tests, of a box and an event as refusals 1 to 4 of every state leave them
module _ (e : Event) (count : ℕ) (s : SequencePaxos) (y : Ready e count s) (seats : s.config.depots ≤ length s.leader_state.depots) where
  four : ((decide_of e count s).no ≡ 4) ↔ Unfits e count s
  four = four-exactly e count s y.unbroken y.unflagged seats y.fit y.from-depot

  seven : ((decide_of e count s).no ≡ 7) ↔ ((Unfits e count s → ⊥) × Tops e count s)
  seven = seven-exactly e count s y.unbroken y.unflagged seats y.fit y.from-depot

  five : ((decide_of e count s).no ≡ 5) ↔ (((taken e count s).plan.unfit ≡ false) × ((taken e count s).plan.top ≡ false) × TakesPast e count s)
  five = five-exactly e count s y.unbroken y.fit y.from-depot

  -- neither 4 nor 7 is given, so neither row applies
  not-unfit : (n : ℕ) → (decide_of e count s).no ≡ n → (n ≡ 4 → ⊥) → Unfits e count s → ⊥
  not-unfit n q h x = h (sym q ∙ four.1 x)

  not_top : (n : ℕ) → (decide_of e count s).no ≡ n → (n ≡ 4 → ⊥) → (n ≡ 7 → ⊥) → Tops e count s → ⊥
  not_top n q h k x = k (sym q ∙ seven.1 (not-unfit n q h, x))

  not-past : (n : ℕ) → (decide_of e count s).no ≡ n → (n ≡ 5 → ⊥) → (taken e count s).plan.unfit ≡ false → (taken e count s).plan.top ≡ false → TakesPast e count s → ⊥
  not-past n q h u t x = h (sym q ∙ five.1 (u, t, x))

  -- neither row applies, so neither flag is set
  fit : (Unfits e count s → ⊥) → (taken e count s).plan.unfit ≡ false
  fit h = is_false (taken e count s).plan.unfit (λ k. h (four.0 ((given-exactly e count s 4).1 (is-unfit k))))

  below : (Unfits e count s → ⊥) → (Tops e count s → ⊥) → (taken e count s).plan.top ≡ false
  below h k = is_false (taken e count s).plan.top (λ b. k (seven.0 ((given-exactly e count s 7).1 (at_top (fit h) b))).1)

  log-within : (Unfits e count s → ⊥) → (Tops e count s → ⊥) → (TakesPast e count s → ⊥) → (taken e count s).internal_storage.accepted_idx ≤ max_log
  log-within h k l = within (taken e count s).internal_storage.accepted_idx max_log (λ b. l (five.0 ((given-exactly e count s 5).1 (past-log (fit h) (below h k) b))).2)

-- The rows of the whole step

-- none of the refusals that come first
abbrev First : Configuration → Event → List ℕ → World → Type 0
First c e entries w = None (call_off c w.lists) (record_broken c w.node w.row w.lists) (stranger_of c e) (unfit_of c e entries)

module _ (c : Configuration) (e : Event) (entries : List ℕ) (w : World) (seats : max_depots ≤ length w.node.leader_state.depots) where
  is-ready : refusal_of c w.node w.row w.lists e entries ≡ 0 → Ready e (length entries) (found c e entries w)
  is-ready z = ready c w.node w.row w.lists e entries (refusals.taken c w.node w.row w.lists e entries z)

  has-seats : refusal_of c w.node w.row w.lists e entries ≡ 0 → (found c e entries w).config.depots ≤ length (found c e entries w).leader_state.depots
  has-seats z = seated c w.node w.row w.lists e entries (refusals.taken c w.node w.row w.lists e entries z) seats

  past-four : First c e entries w → (Unfits e (length entries) (found c e entries w) → ⊥) → PastFour c e entries w
  past-four n h =
      record { not-1 = λ x. not-both x n.one; not-2 = λ x. not-both x n.two; not-3 = λ x. not-both x n.three; not-4 = by }
    where
      by : IsUnfit c e entries w → ⊥
      by (inl x) = not-both x n.four
      by (inr x) = h x

  -- deciding's row is the step's
  decided-row : First c e entries w → (z : refusal_of c w.node w.row w.lists e entries ≡ 0) → (n : ℕ) → (decide_of e (length entries) (found c e entries w)).no ≡ n → Given (outcome_of c e entries w) n → Row c e entries w n
  decided-row f z n q g = by n q g
    where
      s : SequencePaxos
      s = found c e entries w

      y : Ready e (length entries) s
      y = is-ready z

      t : s.config.depots ≤ length s.leader_state.depots
      t = has-seats z

      k : ℕ
      k = length entries

      four-past : (n : ℕ) → (decide_of e k s).no ≡ n → (n ≡ 4 → ⊥) → PastFour c e entries w
      four-past n q h = past-four f (not-unfit e k s y t n q h)

      by : (n : ℕ) → (decide_of e k s).no ≡ n → Given (outcome_of c e entries w) n → Row c e entries w n
      by n q (is-unfit pu) = row-4 (λ x. not-both x f.one) (λ x. not-both x f.two) (λ x. not-both x f.three) (inr ((four e k s y t).0 q))
      by n q (at_top pu pt) = row-7 (four-past 7 q (λ x. omega arith)) ((seven e k s y t).0 q).1
      by n q (past-log pu pt pl) = row-5 (four-past 5 q (λ x. omega arith)) (not_top e k s y t 5 q (λ x. omega arith) (λ x. omega arith)) ((five e k s y t).0 q).2
      by n q (past-buffer pu pt pl pb) =
          row-8 (four-past 8 q (λ x. omega arith)) (not_top e k s y t 8 q (λ x. omega arith) (λ x. omega arith)) (not-past e k s y t 8 q (λ x. omega arith) pu pt) pb
      by n q (past-queue pu pt pl pb pq) =
          row-6 (record { past-four = four-past 6 q (λ x. omega arith); not-7 = not_top e k s y t 6 q (λ x. omega arith) (λ x. omega arith); not-5 = not-past e k s y t 6 q (λ x. omega arith) pu pt; not-8 = λ x. omega arith }) pq
      by n q (all_fit a) =
          row-0 (record { past-four = four-past 0 q (λ x. omega arith); not-7 = not_top e k s y t 0 q (λ x. omega arith) (λ x. omega arith); not-5 = not-past e k s y t 0 q (λ x. omega arith) a.fit a.below; not-8 = λ x. omega (arith, a.buffer) }) (not-passed _ _ a.messages a.entries)

  -- every step has its row
  first-row : (a b d g : Bool) → call_off c w.lists ≡ a → record_broken c w.node w.row w.lists ≡ b → stranger_of c e ≡ d → unfit_of c e entries ≡ g → Row c e entries w (step_of c e entries w).answer.no
  first-row true b d g pa pb pd pg = subst (Row c e entries w) (sym (number-first c e entries w 1 (λ x. omega arith) ((refused-1 c w.node w.row w.lists e entries).1 pa))) (row-1 pa)
  first-row false true d g pa pb pd pg =
      subst (Row c e entries w) (sym (number-first c e entries w 2 (λ x. omega arith) ((refused-2 c w.node w.row w.lists e entries).1 (pa, pb)))) (row-2 (λ x. not-both x pa) pb)
  first-row false false true g pa pb pd pg =
      subst (Row c e entries w) (sym (number-first c e entries w 3 (λ x. omega arith) ((refused-3 c w.node w.row w.lists e entries).1 (pa, pb, pd)))) (row-3 (λ x. not-both x pa) (λ x. not-both x pb) pd)
  first-row false false false true pa pb pd pg =
      subst (Row c e entries w) (sym (number-first c e entries w 4 (λ x. omega arith) ((refused-4 c w.node w.row w.lists e entries).1 (pa, pb, pd, pg)))) (row-4 (λ x. not-both x pa) (λ x. not-both x pb) (λ x. not-both x pd) (inl pg))
  first-row false false false false pa pb pd pg =
      let f : First c e entries w = record { one = pa; two = pb; three = pd; four = pg } in
      let z = (refused_none c w.node w.row w.lists e entries).1 f in
      let q = number-decided c e entries w z in
      decided-row f z (step_of c e entries w).answer.no (sym q) ((given-exactly e (length entries) (found c e entries w) (step_of c e entries w).answer.no).0 (sym q))

  pub row_of : Row c e entries w (step_of c e entries w).answer.no
  row_of = first-row (call_off c w.lists) (record_broken c w.node w.row w.lists) (stranger_of c e) (unfit_of c e entries) refl refl refl refl

  -- and each row gives its number
  none_first : PastFour c e entries w → refusal_of c w.node w.row w.lists e entries ≡ 0
  none_first p =
      (refused_none c w.node w.row w.lists e entries).1 (record { one = is_false _ p.not-1; two = is_false _ p.not-2; three = is_false _ p.not-3; four = is_false _ (λ x. p.not-4 (inl x)) })

  -- by deciding, where the rows 1 to 4 do not apply
  gives : (n : ℕ) → PastFour c e entries w → (refusal_of c w.node w.row w.lists e entries ≡ 0 → (decide_of e (length entries) (found c e entries w)).no ≡ n) → (step_of c e entries w).answer.no ≡ n
  gives n p d = let z = none_first p in number-decided c e entries w z ∙ d z

  unfit-gives : call_off c w.lists ≡ false → record_broken c w.node w.row w.lists ≡ false → stranger_of c e ≡ false → IsUnfit c e entries w → (step_of c e entries w).answer.no ≡ 4
  unfit-gives pa pb pd u = by (unfit_of c e entries) refl u
    where
      by : (g : Bool) → unfit_of c e entries ≡ g → IsUnfit c e entries w → (step_of c e entries w).answer.no ≡ 4
      by true pg x = number-first c e entries w 4 (λ x. omega arith) ((refused-4 c w.node w.row w.lists e entries).1 (pa, pb, pd, pg))
      by false pg (inl x) = absurd (not-both x pg)
      by false pg (inr x) =
          let z = (refused_none c w.node w.row w.lists e entries).1 (record { one = pa; two = pb; three = pd; four = pg }) in
          number-decided c e entries w z ∙ (four e (length entries) (found c e entries w) (is-ready z) (has-seats z)).1 x

  -- what the rows past 4 leave of the box as it would be
  fit_at : PastFour c e entries w → (outcome_of c e entries w).plan.unfit ≡ false
  fit_at p = let z = none_first p in fit e (length entries) (found c e entries w) (is-ready z) (has-seats z) (λ x. p.not-4 (inr x))

  below_at : PastFour c e entries w → (TopReached c e entries w → ⊥) → (outcome_of c e entries w).plan.top ≡ false
  below_at p h = let z = none_first p in below e (length entries) (found c e entries w) (is-ready z) (has-seats z) (λ x. p.not-4 (inr x)) h

  log-at : PastFour c e entries w → (TopReached c e entries w → ⊥) → (LogPassed c e entries w → ⊥) → (outcome_of c e entries w).internal_storage.accepted_idx ≤ max_log
  log-at p h l = let z = none_first p in log-within e (length entries) (found c e entries w) (is-ready z) (has-seats z) (λ x. p.not-4 (inr x)) h l

  fits-at : PastEight c e entries w → (QueueOver c e entries w → ⊥) → Fits (outcome_of c e entries w)
  fits-at p h =
      record {
        fit = fit_at p.past-four;
        below = below_at p.past-four p.not-7;
        log = log-at p.past-four p.not-7 p.not-5;
        buffer = within _ max_buffered p.not-8;
        messages = within _ max_messages (λ x. h (inl x));
        entries = within _ max_store (λ x. h (inr x));
      }

  pub number_of : (n : ℕ) → Row c e entries w n → (step_of c e entries w).answer.no ≡ n
  number_of n (row-1 a) = number-first c e entries w 1 (λ x. omega arith) ((refused-1 c w.node w.row w.lists e entries).1 a)
  number_of n (row-2 a b) = number-first c e entries w 2 (λ x. omega arith) ((refused-2 c w.node w.row w.lists e entries).1 (is_false _ a, b))
  number_of n (row-3 a b d) = number-first c e entries w 3 (λ x. omega arith) ((refused-3 c w.node w.row w.lists e entries).1 (is_false _ a, is_false _ b, d))
  number_of n (row-4 a b d u) = unfit-gives (is_false _ a) (is_false _ b) (is_false _ d) u
  number_of n (row-7 p t) = gives 7 p (λ z. (seven e (length entries) (found c e entries w) (is-ready z) (has-seats z)).1 ((λ x. p.not-4 (inr x)), t))
  number_of n (row-5 p t l) = gives 5 p (λ z. (five e (length entries) (found c e entries w) (is-ready z) (has-seats z)).1 (fit_at p, below_at p t, l))
  number_of n (row-8 p t l b) = gives 8 p (λ z. (given-exactly e (length entries) (found c e entries w) 8).1 (past-buffer (fit_at p) (below_at p t) (log-at p t l) b))
  number_of n (row-6 p q) =
      let o = p.past-four in
      gives 6 o (λ z. (given-exactly e (length entries) (found c e entries w) 6).1 (past-queue (fit_at o) (below_at o p.not-7) (log-at o p.not-7 p.not-5) (within _ max_buffered p.not-8) q))
  number_of n (row-0 p q) = gives 0 p.past-four (λ z. (given-exactly e (length entries) (found c e entries w) 0).1 (all_fit (fits-at p q)))

  -- a number is given exactly when its row is
  pub exactly : (n : ℕ) → ((step_of c e entries w).answer.no ≡ n) ↔ Row c e entries w n
  exactly n = ((λ q. subst (Row c e entries w) q row_of), (λ x. number_of n x))
