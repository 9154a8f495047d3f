-- Two clusters, their start, and what is seen of each depot: its decided index, its decided entries and its book.
use Rattle.std.specs.Prelude.{ℕ, ◌<◌, ◌≡◌, List, [], replicate, get_or}
use Rattle.base.specs.Limits.{max_log, max_store, max_messages}
use Rattle.base.specs.Lists.{tabulate}
use Rattle.quorum.specs.declared.Quorum.TheVariants.{Majority}
use Rattle.quorum.specs.Quorum.{majority_of}
use Rattle.messages.specs.Messages.{no_head}
use Rattle.record.specs.Record.{fresh_record}
use Rattle.hire_book.specs.Book.{fresh_book, book_of}
use Rattle.broken.specs.Lent.{lent}
use Rattle.step.specs.Step.{World, world}
use Rattle.runs.specs.Runs.{Setup, State}
use Rattle.runs.specs.Claim.{decided, history, book}

-- so many depots, with a majority
abbrev pub majority : ℕ → Setup
majority n = record { depots = n; quorum = Majority (majority_of n) }

abbrev pub two : Setup
two = majority 2

abbrev pub three : Setup
three = majority 3

-- a depot that never ran, every cell 0; all are so at the start, and no message is on its way
abbrev pub fresh_depot : World
fresh_depot =
    world fresh_record (record { heads = replicate max_messages no_head })
    (lent (replicate max_log 0) (replicate max_log 0) (replicate max_log 0) (replicate max_store 0) fresh_book)

abbrev pub start : State
start = record { depot = λ i. fresh_depot; link = λ i j. []; proposed = [] }

-- what is seen of a depot, and of all
pub record Seen : Type 0 where
  pub decided : ℕ
  pub history : List ℕ
  pub book : List ℕ

abbrev pub seen : State → ℕ → Seen
seen σ i = record { decided = decided σ i; history = history σ i; book = book σ i }

abbrev pub all : Setup → State → List Seen
all z σ = tabulate z.depots (seen σ)

-- a depot that has decided these entries, with the book that they make
abbrev pub having : ℕ → List ℕ → Seen
having n entries = record { decided = n; history = entries; book = book_of entries }

-- no two depots differ at a place below both decided indexes: (a) of the claim on runs
abbrev pub Agree : Setup → State → Type 0
Agree z σ =
    (i j k : ℕ) → i < z.depots → j < z.depots → k < decided σ i → k < decided σ j → get_or (history σ i) k 0 ≡ get_or (history σ j) k 0
