-- Refusals 4, 7, 5, 8 and 6 are given exactly when the table of refusals says (docs/RULES.md, R2), in its order; a step refused so gives the box back as found, and a step taken fits.
use Prim.Native.Nat.{ℕ, ◌+◌, ◌≤◌, ◌<◌}
use mathlib.Core.Path.{◌≡◌, refl, sym, subst, ◌∙◌}
use mathlib.Core.Logic.{◌⊎◌, inl, inr, ◌↔◌, ◌≢◌}
use mathlib.Core.Bool.{Bool, true, false, cond}
use native.Mathlib.Omega.{arith}
use lib.Dec.{ltb, eqb}
use borrow.Author.Tests.{ltb-true, ltb-false, lt-ltb, le-ltb, eq-eqb, ne_eqb, eqb-true}
use Rattle.base.specs.Limits.{max_log, max_buffered, max_messages, max_store}
use Rattle.messages.specs.declared.Event.{Event}
use Rattle.paxos_box.specs.declared.SequencePaxos.{SequencePaxos}
use Rattle.outcome.specs.Outcome.{Decision, queue_refusal, outcome_refusal, settled}
use Rattle.sequence_paxos.specs.Decide.{taken, decide_of}
use Rattle.decide_laws.proofs.Grown.{either}

-- how many messages and entries the queue would have
abbrev pub would_wait : SequencePaxos → ℕ
would_wait s = s.outgoing.len + s.plan.sends.messages

abbrev pub would_carry : SequencePaxos → ℕ
would_carry s = s.outgoing.entries + s.plan.sends.entries

-- the queue would pass 64 messages or 4,096 entries
abbrev pub QueuePassed : ℕ → ℕ → Type 0
QueuePassed messages entries = (max_messages < messages) ⊎ (max_store < entries)

-- the step as it would be is neither unfit nor at a top, and all its numbers are within the limits
pub record Fits (s : SequencePaxos) : Type 0 where
  pub fit : s.plan.unfit ≡ false
  pub below : s.plan.top ≡ false
  pub log : s.internal_storage.accepted_idx ≤ max_log
  pub buffer : s.buffered_proposals ≤ max_buffered
  pub messages : would_wait s ≤ max_messages
  pub entries : would_carry s ≤ max_store

-- the table's rows, each with what the rows before it left
pub data Given (s : SequencePaxos) : ℕ → Type 0 where
  is-unfit : s.plan.unfit ≡ true → Given s 4
  at_top : s.plan.unfit ≡ false → s.plan.top ≡ true → Given s 7
  past-log : s.plan.unfit ≡ false → s.plan.top ≡ false → max_log < s.internal_storage.accepted_idx → Given s 5
  past-buffer : s.plan.unfit ≡ false → s.plan.top ≡ false → s.internal_storage.accepted_idx ≤ max_log → max_buffered < s.buffered_proposals → Given s 8
  past-queue : s.plan.unfit ≡ false → s.plan.top ≡ false → s.internal_storage.accepted_idx ≤ max_log → s.buffered_proposals ≤ max_buffered → QueuePassed (would_wait s) (would_carry s) → Given s 6
  all_fit : Fits s → Given s 0

-- every outcome has its row
pub outcome : (s : SequencePaxos) → Given s (outcome_refusal s)
unfolding outcome_refusal queue_refusal
outcome s = go s.plan.unfit s.plan.top (ltb max_log s.internal_storage.accepted_idx) (ltb max_buffered s.buffered_proposals) (ltb max_messages (would_wait s)) (ltb max_store (would_carry s)) refl refl refl refl refl refl
  where
    go : (u t l b m c : Bool) → s.plan.unfit ≡ u → s.plan.top ≡ t → ltb max_log s.internal_storage.accepted_idx ≡ l → ltb max_buffered s.buffered_proposals ≡ b → ltb max_messages (would_wait s) ≡ m → ltb max_store (would_carry s) ≡ c → Given s (cond u 4 (cond t 7 (cond l 5 (cond b 8 (cond m 6 (cond c 6 0))))))
    go true t l b m c pu pt pl pb pm pc = is-unfit pu
    go false true l b m c pu pt pl pb pm pc = at_top pu pt
    go false false true b m c pu pt pl pb pm pc = past-log pu pt (ltb-true _ _ pl)
    go false false false true m c pu pt pl pb pm pc = past-buffer pu pt (ltb-false _ _ pl) (ltb-true _ _ pb)
    go false false false false true c pu pt pl pb pm pc = past-queue pu pt (ltb-false _ _ pl) (ltb-false _ _ pb) (inl (ltb-true _ _ pm))
    go false false false false false true pu pt pl pb pm pc = past-queue pu pt (ltb-false _ _ pl) (ltb-false _ _ pb) (inr (ltb-true _ _ pc))
    go false false false false false false pu pt pl pb pm pc =
        all_fit (record { fit = pu; below = pt; log = ltb-false _ _ pl; buffer = ltb-false _ _ pb; messages = ltb-false _ _ pm; entries = ltb-false _ _ pc })

queue-passed : (messages entries : ℕ) → QueuePassed messages entries → queue_refusal messages entries ≡ 6
unfolding queue_refusal
queue-passed messages entries (inl h) = rw (lt-ltb max_messages messages h)
queue-passed messages entries (inr h) = go (ltb max_messages messages)
  where
    go : (b : Bool) → ◌≡◌ {A = ℕ} (cond b 6 (cond (ltb max_store entries) 6 0)) 6
    go true = refl
    go false = rw (lt-ltb max_store entries h)

queue-fits : (messages entries : ℕ) → messages ≤ max_messages → entries ≤ max_store → queue_refusal messages entries ≡ 0
unfolding queue_refusal
queue-fits messages entries h k = rw (le-ltb max_messages messages h, le-ltb max_store entries k)

-- and each row gives its number
pub given : (n : ℕ) (s : SequencePaxos) → Given s n → outcome_refusal s ≡ n
unfolding outcome_refusal
given n s (is-unfit pu) = rw pu
given n s (at_top pu pt) = rw (pu, pt)
given n s (past-log pu pt pl) = rw (pu, pt, lt-ltb _ _ pl)
given n s (past-buffer pu pt pl pb) = rw (pu, pt, le-ltb _ _ pl, lt-ltb _ _ pb)
given n s (past-queue pu pt pl pb pq) = rw (pu, pt, le-ltb _ _ pl, le-ltb _ _ pb) (queue-passed (would_wait s) (would_carry s) pq)
given n s (all_fit f) = rw (f.fit, f.below, le-ltb _ _ f.log, le-ltb _ _ f.buffer) (queue-fits (would_wait s) (would_carry s) f.messages f.entries)

-- a number is given exactly when its row holds
pub exactly : (n : ℕ) (s : SequencePaxos) → (outcome_refusal s ≡ n) ↔ Given s n
exactly n s = ((λ e. subst (Given s) e (outcome s)), (λ g. given n s g))

-- the rows of 0, 5 and 6, read back
pub fits-if-taken : (n : ℕ) (s : SequencePaxos) → n ≡ 0 → Given s n → Fits s
fits-if-taken n s e (is-unfit pu) = absurd (omega (arith, e))
fits-if-taken n s e (at_top pu pt) = absurd (omega (arith, e))
fits-if-taken n s e (past-log pu pt pl) = absurd (omega (arith, e))
fits-if-taken n s e (past-buffer pu pt pl pb) = absurd (omega (arith, e))
fits-if-taken n s e (past-queue pu pt pl pb pq) = absurd (omega (arith, e))
fits-if-taken n s e (all_fit f) = f

pub past-log-if-five : (n : ℕ) (s : SequencePaxos) → n ≡ 5 → Given s n → (s.plan.unfit ≡ false) × (s.plan.top ≡ false) × (max_log < s.internal_storage.accepted_idx)
past-log-if-five n s e (is-unfit pu) = absurd (omega (arith, e))
past-log-if-five n s e (at_top pu pt) = absurd (omega (arith, e))
past-log-if-five n s e (past-log pu pt pl) = (pu, pt, pl)
past-log-if-five n s e (past-buffer pu pt pl pb) = absurd (omega (arith, e))
past-log-if-five n s e (past-queue pu pt pl pb pq) = absurd (omega (arith, e))
past-log-if-five n s e (all_fit f) = absurd (omega (arith, e))

pub passed-if-six : (n : ℕ) (s : SequencePaxos) → n ≡ 6 → Given s n → QueuePassed (would_wait s) (would_carry s)
passed-if-six n s e (is-unfit pu) = absurd (omega (arith, e))
passed-if-six n s e (at_top pu pt) = absurd (omega (arith, e))
passed-if-six n s e (past-log pu pt pl) = absurd (omega (arith, e))
passed-if-six n s e (past-buffer pu pt pl pb) = absurd (omega (arith, e))
passed-if-six n s e (past-queue pu pt pl pb pq) = pq
passed-if-six n s e (all_fit f) = absurd (omega (arith, e))

-- the numbers that deciding gives are those of R2
abbrev pub Numbered : ℕ → Type 0
Numbered n = (n ≡ 0) ⊎ (n ≡ 4) ⊎ (n ≡ 7) ⊎ (n ≡ 5) ⊎ (n ≡ 8) ⊎ (n ≡ 6)

row-numbered : (n : ℕ) (s : SequencePaxos) → Given s n → Numbered n
row-numbered n s (is-unfit pu) = inr (inl refl)
row-numbered n s (at_top pu pt) = inr (inr (inl refl))
row-numbered n s (past-log pu pt pl) = inr (inr (inr (inl refl)))
row-numbered n s (past-buffer pu pt pl pb) = inr (inr (inr (inr (inl refl))))
row-numbered n s (past-queue pu pt pl pb pq) = inr (inr (inr (inr (inr refl))))
row-numbered n s (all_fit f) = inl refl

-- what is settled: the outcome's number, and the outcome where that is 0, else the box as found
module _ (found s : SequencePaxos) where
  settled-no : (settled found s).no ≡ outcome_refusal s
  unfolding settled
  settled-no =
      either (λ (d : Decision). d.no ≡ outcome_refusal s) (eqb (outcome_refusal s) 0) _ _
      (λ e. sym (eqb-true (outcome_refusal s) 0 e))
      (λ e. refl)

  settled-taken : outcome_refusal s ≡ 0 → (settled found s).node ≡ s
  unfolding settled
  settled-taken e = rw (eq-eqb (outcome_refusal s) 0 e)

  settled-refused : outcome_refusal s ≢ 0 → (settled found s).node ≡ found
  unfolding settled
  settled-refused e = rw (ne_eqb (outcome_refusal s) 0 e)

-- what a step decides
module _ (e : Event) (count : ℕ) (s : SequencePaxos) where
  pub number_is : (decide_of e count s).no ≡ outcome_refusal (taken e count s)
  number_is = settled-no s (taken e count s)

  -- a refusal number is one of R2's
  pub numbered : Numbered (decide_of e count s).no
  numbered = row-numbered (decide_of e count s).no (taken e count s) (rw number_is (outcome (taken e count s)))

  -- each is given exactly when its row holds of the step as it would be
  pub given-exactly : (n : ℕ) → ((decide_of e count s).no ≡ n) ↔ Given (taken e count s) n
  given-exactly n = ((λ h. (exactly n (taken e count s)).0 (sym number_is ∙ h)), (λ g. number_is ∙ given n (taken e count s) g))

  -- refused, the box is as found
  pub refused-as-found : (decide_of e count s).no ≢ 0 → (decide_of e count s).node ≡ s
  refused-as-found h = settled-refused s (taken e count s) (λ k. h (number_is ∙ k))

  -- 0 is the step itself, and it fits
  pub zero-is-taken : (decide_of e count s).no ≡ 0 → (decide_of e count s).node ≡ taken e count s
  zero-is-taken h = settled-taken s (taken e count s) (sym number_is ∙ h)

  pub taken-fits : (decide_of e count s).no ≡ 0 → Fits (taken e count s)
  taken-fits h = fits-if-taken (decide_of e count s).no (taken e count s) h (rw number_is (outcome (taken e count s)))
