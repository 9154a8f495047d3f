-- A row of heads as words, one block a head; the row that words mean, and when they mean none.
use Rattle.std.specs.Prelude.{ℕ, ◌*◌, ◌<◌, Bool, List, [], ◌∷◌, map, ◌≡◌, length, get_or}
use Rattle.base.specs.Limits.{max_messages}
use Rattle.base.specs.Lists.{tabulate}
use Rattle.hire_book.specs.Below.{any_below}
use Rattle.ballot.specs.Ballot.{default}
use Rattle.messages.specs.declared.PaxosMsg.TheVariants.{PrepareReq}
use Rattle.messages.specs.declared.Head.{Head}
use Rattle.messages.specs.declared.Row.{Row}
use Rattle.blocks.specs.Blocks.{block_words, block_at, word, above_most, joined, most32, Narrow}
use Rattle.layout_row.specs.declared.Fields.{Fields}
use Rattle.layout_row.specs.Fields.{fields_of, message_of, fields_in}

abbrev pub row_length : ℕ
row_length = max_messages * block_words

-- the words of a receiver, fields, and where entries lie
abbrev pub block_of : ℕ → Fields → ℕ → ℕ → List ℕ
block_of to f start count =
    to ∷ f.kind
    ∷ f.n.n ∷ f.n.priority ∷ f.n.pid
    ∷ f.n_accepted.n ∷ f.n_accepted.priority ∷ f.n_accepted.pid
    ∷ f.seq_num.session ∷ f.seq_num.counter
    ∷ f.decided_idx ∷ f.accepted_idx
    ∷ f.with_sync ∷ f.sync_idx
    ∷ start ∷ count ∷ []

abbrev pub head_words : Head → List ℕ
head_words h = block_of h.to (fields_of h.msg) h.start h.count

unfoldable pub row_blocks : Row → List (List ℕ)
row_blocks row = map head_words row.heads

abbrev pub row_words : Row → List ℕ
row_words row = joined (row_blocks row)

-- the head of a block of zeros
abbrev pub zero_head : Head
zero_head = record { to = 0; msg = PrepareReq (record { n = default }); start = 0; count = 0 }

-- as every head, and every row, of a machine is
abbrev pub NarrowHead : Head → Type 0
NarrowHead h = Narrow (fields_of h.msg).n × Narrow (fields_of h.msg).n_accepted

abbrev pub KeptRow : Row → Type 0
KeptRow row =
    (length row.heads ≡ max_messages) × ((i : ℕ) → i < max_messages → NarrowHead (get_or row.heads i zero_head))

abbrev pub head_in : List ℕ → Head
head_in b = record { to = word b 0; msg = message_of (fields_in b); start = word b 14; count = word b 15 }

-- the most of each word; 0 where it has none
abbrev pub head_most : List ℕ
head_most = 0 ∷ 8 ∷ most32 ∷ most32 ∷ 0 ∷ most32 ∷ most32 ∷ 0 ∷ 0 ∷ 0 ∷ 0 ∷ 0 ∷ 1 ∷ 0 ∷ 0 ∷ 0 ∷ []

unfoldable pub no_row : List ℕ → Bool
no_row w = any_below (λ i. above_most head_most (block_at i w)) max_messages

unfoldable pub row_in : List ℕ → Row
row_in w = record { heads = tabulate max_messages (λ i. head_in (block_at i w)) }
