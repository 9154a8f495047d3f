-- The worked numbers (docs/RULES.md, R18): a row for each of R18.1 to R18.13, p1 to p13, each said of the definition that the code's promise cites.
use Rattle.std.specs.Prelude.{ℕ, ◌≡◌, true, false, List, [], ◌∷◌, None}
use Rattle.ballot.specs.declared.Ballot.{Ballot}
use Rattle.sequence.specs.declared.SequenceNumber.{SequenceNumber}
use Rattle.sequence.specs.declared.MessageStatus.TheVariants.{Expected, DroppedPreceding, Outdated}
use Rattle.sequence.specs.Sequence.{status_of}
use Rattle.quorum.specs.declared.Configuration.{Configuration}
use Rattle.quorum.specs.declared.Quorum.TheVariants.{Majority, Flexible}
use Rattle.quorum.specs.Quorum.{with_of, read_size, write_size, stands_of}
use Rattle.leader_state.specs.declared.LeaderState.{LeaderState}
use Rattle.leader_state.specs.declared.PromiseMetaData.{PromiseMetaData}
use Rattle.leader_state.specs.declared.Depot.{Depot}
use Rattle.leader_state.specs.State.{fresh, set_accepted, no_best}
use Rattle.leader_state.specs.Places.{chosen}
use Rattle.leader_state.specs.Promises.{sync_start}
use Rattle.messages.specs.declared.Event.{Event}
use Rattle.step.specs.Step.{World, step_of}
use Rattle.hire_book.specs.Hire.{total, days_of, charges_of}
use Rattle.hire_book.specs.Book.{book_of, charged, stored_days}

-- n depots, the own pid 1
abbrev pub five_with : ℕ → ℕ → Configuration
five_with read write = record { depots = 5; pid = 1; quorum = Flexible (record { read_quorum_size = read; write_quorum_size = write }) }

abbrev pub seq : ℕ → ℕ → SequenceNumber
seq session counter = record { session = session; counter = counter }

-- three depots with a majority, whose reported accepted indexes are 4, 4 and 0
abbrev pub three : Configuration
three = record { depots = 3; pid = 1; quorum = with_of None 3 }

abbrev pub at : ℕ → Depot
at idx = set_accepted idx fresh

abbrev pub round : ℕ → Ballot
round n = record { n = n; priority = 0; pid = 1 }

abbrev pub reported : LeaderState
reported = record { n_leader = round 3; depots = at 4 ∷ at 4 ∷ at 0 ∷ fresh ∷ fresh ∷ fresh ∷ fresh ∷ []; max_promise = no_best }

-- a promise's report: accepted round, accepted and decided index
abbrev pub report : ℕ → ℕ → ℕ → PromiseMetaData
report n accepted decided = record { n_accepted = round n; accepted_idx = accepted; decided_idx = decided; pid = 2 }

abbrev pub once : List ℕ
once = 5127 ∷ 7431 ∷ []

abbrev pub again : List ℕ
again = 5127 ∷ 7431 ∷ 7431 ∷ []

pub record Desk : Type 0 where
  -- majority of 5 is 3, of 2 is 2
  pub p1 : (with_of None 5 ≡ Majority 3) × (with_of None 2 ≡ Majority 2)
  -- five depots, read 4 and write 2 stand; read 3 and write 2 get 1, whatever the event and whatever is lent
  pub p2 : stands_of (five_with 4 2) ≡ true
  pub p3 : (e : Event) (entries : List ℕ) (w : World) → (step_of (five_with 3 2) e entries w).answer.no ≡ 1
  -- at (2, 5)
  pub p4 : status_of (seq 2 5) (seq 2 6) ≡ Expected
  pub p5 : status_of (seq 2 5) (seq 2 5) ≡ Outdated
  pub p6 : (status_of (seq 2 5) (seq 2 7) ≡ DroppedPreceding) × (status_of (seq 2 5) (seq 3 1) ≡ DroppedPreceding)
  pub p7 : status_of (seq 2 5) (seq 1 9) ≡ Outdated
  -- three depots at 4, 4, 0, majority: 4 is chosen, 5 is not
  pub p8 : (chosen 4 three reported ≡ true) × (chosen 5 three reported ≡ false)
  -- the current round, accepted 9: from 9; the best's round, best 6, own 8: from 6; another round, decided 3: from 3
  pub p9 : sync_start (round 7) (report 5 6 2) (report 7 9 3) ≡ 9
  pub p10 : sync_start (round 7) (report 5 6 2) (report 5 8 3) ≡ 6
  pub p11 : sync_start (round 7) (report 5 6 2) (report 4 8 3) ≡ 3
  -- 5127, 7431 (pump 7, days 10 and 14) charge 4; with 7431 again, still 4: by the history, and in the book
  pub p12 : (total once ≡ 4) × (days_of 7 (charges_of once) ≡ 4) × (charged (book_of once) 7 ≡ 4) × (stored_days (book_of once) ≡ 4)
  pub p13 : (total again ≡ 4) × (days_of 7 (charges_of again) ≡ 4) × (charged (book_of again) 7 ≡ 4) × (stored_days (book_of again) ≡ 4)
