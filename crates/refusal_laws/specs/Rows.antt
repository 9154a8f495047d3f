-- Document 01's table "When a box says no", for the whole step: what each row says of an event, its entries and the world it finds, and which row is given.
use Rattle.std.specs.Prelude.{ℕ, ◌<◌, ◌≡◌, ◌⊎◌, true, List, length}
use Rattle.base.specs.Limits.{max_buffered}
use Rattle.quorum.specs.declared.Configuration.{Configuration}
use Rattle.messages.specs.declared.Event.{Event}
use Rattle.decide_laws.proofs.Table.{QueuePassed, would_wait, would_carry}
use Rattle.decide_laws.proofs.Five.{TakesPast}
use Rattle.table_laws.specs.Words.{Unfits, Tops}
use Rattle.unfit.specs.Unfit.{stranger_of, unfit_of}
use Rattle.broken.specs.Broken.{record_broken}
use Rattle.refusals.specs.Refusals.{call_off}
use Rattle.step.specs.Step.{World}
use Rattle.step_laws.proofs.Fits.{found}
use Rattle.step_laws.proofs.Outcome.{outcome_of}

-- 1: depots, own pid or a quorum size out of range, read + write not above depots, or a lent slice of the wrong length
abbrev pub WrongCall : Configuration → World → Type 0
WrongCall c w = call_off c w.lists ≡ true

-- 2: the record is broken
abbrev pub RecordBroken : Configuration → World → Type 0
RecordBroken c w = record_broken c w.node w.row w.lists ≡ true

-- 3: the sender, or the depot named, is none, or the sender is oneself
abbrev pub Stranger : Configuration → Event → Type 0
Stranger c e = stranger_of c e ≡ true

-- 4: the message is unfit, in every state or where it would be taken
abbrev pub IsUnfit : Configuration → Event → List ℕ → World → Type 0
IsUnfit c e entries w = (unfit_of c e entries ≡ true) ⊎ Unfits e (length entries) (found c e entries w)

-- 7: a session or counter is at the top
abbrev pub TopReached : Configuration → Event → List ℕ → World → Type 0
TopReached c e entries w = Tops e (length entries) (found c e entries w)

-- 5: a proposal would take a leader's log past 512
abbrev pub LogPassed : Configuration → Event → List ℕ → World → Type 0
LogPassed c e entries w = TakesPast e (length entries) (found c e entries w)

-- 8: more than 16 buffered proposals would result
abbrev pub BufferPassed : Configuration → Event → List ℕ → World → Type 0
BufferPassed c e entries w = max_buffered < (outcome_of c e entries w).buffered_proposals

-- 6: the queue would pass 64 messages or 4,096 entries
abbrev pub QueueOver : Configuration → Event → List ℕ → World → Type 0
QueueOver c e entries w = QueuePassed (would_wait (outcome_of c e entries w)) (would_carry (outcome_of c e entries w))

-- none of the rows 1 to 4, and none of 1 to 4, 7, 5 and 8
pub record PastFour (c : Configuration) (e : Event) (entries : List ℕ) (w : World) : Type 0 where
  pub not-1 : WrongCall c w → ⊥
  pub not-2 : RecordBroken c w → ⊥
  pub not-3 : Stranger c e → ⊥
  pub not-4 : IsUnfit c e entries w → ⊥

pub record PastEight (c : Configuration) (e : Event) (entries : List ℕ) (w : World) : Type 0 where
  pub past-four : PastFour c e entries w
  pub not-7 : TopReached c e entries w → ⊥
  pub not-5 : LogPassed c e entries w → ⊥
  pub not-8 : BufferPassed c e entries w → ⊥

-- the row that is given: tested in this order, the first that applies
pub data Row (c : Configuration) (e : Event) (entries : List ℕ) (w : World) : ℕ → Type 0 where
  row-1 : WrongCall c w → Row c e entries w 1
  row-2 : (WrongCall c w → ⊥) → RecordBroken c w → Row c e entries w 2
  row-3 : (WrongCall c w → ⊥) → (RecordBroken c w → ⊥) → Stranger c e → Row c e entries w 3
  row-4 : (WrongCall c w → ⊥) → (RecordBroken c w → ⊥) → (Stranger c e → ⊥) → IsUnfit c e entries w → Row c e entries w 4
  row-7 : PastFour c e entries w → TopReached c e entries w → Row c e entries w 7
  row-5 : PastFour c e entries w → (TopReached c e entries w → ⊥) → LogPassed c e entries w → Row c e entries w 5
  row-8 : PastFour c e entries w → (TopReached c e entries w → ⊥) → (LogPassed c e entries w → ⊥) → BufferPassed c e entries w → Row c e entries w 8
  row-6 : PastEight c e entries w → QueueOver c e entries w → Row c e entries w 6
  row-0 : PastEight c e entries w → (QueueOver c e entries w → ⊥) → Row c e entries w 0
