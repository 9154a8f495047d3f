-- Words in blocks of sixteen (docs/LAYOUT.md).
use Rattle.std.specs.Prelude.{ℕ, ◌*◌, ◌≤◌, Bool, false, cond, List, [], ◌∷◌, ◌++◌, ◌≡◌, ltb, leb, eqb, length, get_or, take, drop, replicate}
use Rattle.base.specs.Lists.{over}
use Rattle.ballot.specs.declared.Ballot.{Ballot}
use Rattle.hire_book.specs.Below.{any_below}

abbrev pub block_words : ℕ
block_words = 16

-- block i of the words; words past their end are 0
unfoldable pub block_at : ℕ → List ℕ → List ℕ
block_at i w = over (take block_words (drop (i * block_words) w)) (replicate block_words 0)

-- word k of a block
abbrev pub word : List ℕ → ℕ → ℕ
word b k = get_or b k 0

-- a word is above its most; a most of 0 stands for none
unfoldable pub over_most : ℕ → ℕ → Bool
over_most most w = cond (eqb most 0) false (ltb most w)

-- some word is above its most
unfoldable pub above_most : List ℕ → List ℕ → Bool
above_most most b = any_below (λ k. over_most (word most k) (word b k)) block_words

-- blocks one after another
unfoldable pub joined : List (List ℕ) → List ℕ
joined [] = []
joined (b ∷ bs) = b ++ joined bs

-- every one of them has sixteen words
abbrev pub Whole : List (List ℕ) → Type 0
Whole [] = Unit {0}
Whole (b ∷ bs) = (length b ≡ block_words) × Whole bs

-- the largest round, and the largest priority, of a ballot
abbrev pub most32 : ℕ
most32 = 4294967295

unfoldable pub small : ℕ → ℕ
small w = cond (leb w most32) w 0

-- a ballot as three words, and the ballot that three words are
abbrev pub ballot_words : Ballot → List ℕ
ballot_words b = b.n ∷ b.priority ∷ b.pid ∷ []

abbrev pub ballot_of : ℕ → ℕ → ℕ → Ballot
ballot_of round priority pid = record { n = small round; priority = small priority; pid = pid }

-- a ballot of 32, 32 and 64 bits, as every one in a machine is
abbrev pub Narrow : Ballot → Type 0
Narrow b = (b.n ≤ most32) × (b.priority ≤ most32)
