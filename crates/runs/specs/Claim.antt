-- The claim of demand 3, of every run: the depots agree, what is decided stays and was proposed, the books are those of the decided entries, and no pump is charged twice for one day.
use Rattle.std.specs.Prelude.{ℕ, ◌≤◌, ◌<◌, ◌≡◌, List, ◌∷◌, ◌++◌, get_or, take}
use Rattle.hire_book.specs.Hire.{charges_of, times, total}
use Rattle.hire_book.specs.Book.{book_of, stored_days}
use Rattle.runs.specs.Runs.{Setup, State, Start, Move, after}

-- an entry is one of a list
pub data Among (e : ℕ) : List ℕ → Type 0 where
  first : {l : List ℕ} → Among e (e ∷ l)
  later : {x : ℕ} {l : List ℕ} → Among e l → Among e (x ∷ l)

-- a depot's decided index, its decided entries and its book
abbrev pub decided : State → ℕ → ℕ
decided σ i = (σ.depot i).node.internal_storage.decided_idx

abbrev pub history : State → ℕ → List ℕ
history σ i = take (decided σ i) (σ.depot i).lists.log

abbrev pub book : State → ℕ → List ℕ
book σ i = (σ.depot i).lists.book

pub record Claim (z : Setup) (σ : State) (ms ns : List Move) : Type 0 where
  -- (a) no two depots differ at a place below both decided indexes
  pub agree : (i j k : ℕ) → i < z.depots → j < z.depots → k < decided (after z ms σ) i → k < decided (after z ms σ) j → get_or (history (after z ms σ) i) k 0 ≡ get_or (history (after z ms σ) j) k 0
  -- (b) later on, a depot's decided index has not fallen, and its decided entries are the same
  pub rises : (i : ℕ) → i < z.depots → decided (after z ms σ) i ≤ decided (after z (ms ++ ns) σ) i
  pub stays : (i : ℕ) → i < z.depots → take (decided (after z ms σ) i) (history (after z (ms ++ ns) σ) i) ≡ history (after z ms σ) i
  -- (c) each decided entry was given in a proposal before
  pub given : (i k : ℕ) → i < z.depots → k < decided (after z ms σ) i → Among (get_or (history (after z ms σ) i) k 0) (after z ms σ).proposed
  -- (d) a book is what its rules make of the decided entries, so equal decided indexes give equal books
  pub kept : (i : ℕ) → i < z.depots → book (after z ms σ) i ≡ book_of (history (after z ms σ) i)
  pub equal : (i j : ℕ) → i < z.depots → j < z.depots → decided (after z ms σ) i ≡ decided (after z ms σ) j → book (after z ms σ) i ≡ book (after z ms σ) j
  -- (e) no pair of a pump and a day is charged twice, and the total in a book is the number of pairs that its history charges
  pub once : (i pump day : ℕ) → times pump day (charges_of (history (after z ms σ) i)) ≤ 1
  pub counted : (i : ℕ) → i < z.depots → stored_days (book (after z ms σ) i) ≡ total (history (after z ms σ) i)

-- of every run: a fresh start, and any moves, then any more
abbrev pub Demand : Type 0
Demand = (z : Setup) (σ : State) → Start z σ → (ms ns : List Move) → Claim z σ ms ns
