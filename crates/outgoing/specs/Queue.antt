-- The outgoing queue: messages with their entries, and how they lie in the row of heads and in the store.
use Rattle.std.specs.Prelude.{ℕ, ◌+◌, List, [], ◌∷◌, ◌++◌, map, take, drop, length}
use Rattle.base.specs.Lists.{over}
use Rattle.messages.specs.declared.PaxosMsg.{PaxosMsg}
use Rattle.messages.specs.declared.Head.{Head}
use Rattle.messages.specs.declared.Row.{Row}

-- a message that waits, with its entries
pub record Msg : Type 0 where
  pub to : ℕ
  pub msg : PaxosMsg
  pub entries : List ℕ

-- the row of heads, and the store beside it
pub record Lent : Type 0 where
  pub row : Row
  pub store : List ℕ

abbrev pub lent : Row → List ℕ → Lent
lent row store = record { row = row; store = store }

-- the message that a head stands for: its entries lie in the store
abbrev pub entries_at : List ℕ → Head → List ℕ
entries_at store h = take h.count (drop h.start store)

abbrev pub msg_of : List ℕ → Head → Msg
msg_of store h = record { to = h.to; msg = h.msg; entries = entries_at store h }

-- the queue: the first len heads
unfoldable pub queue_of : ℕ → Lent → List Msg
queue_of len w = map (msg_of w.store) (take len w.row.heads)

-- the head of a message whose entries lie from a place on
abbrev pub head_of : ℕ → Msg → Head
head_of at m = record { to = m.to; msg = m.msg; start = at; count = length m.entries }

-- packed: the entries of each message follow those of the one before it
unfoldable pub heads_from : ℕ → List Msg → List Head
heads_from at [] = []
heads_from at (m ∷ q) = head_of at m ∷ heads_from (at + length m.entries) q

unfoldable pub entries_in : List Msg → List ℕ
entries_in [] = []
entries_in (m ∷ q) = m.entries ++ entries_in q

-- a queue laid down packed, from place 0: the heads past it, and the cells past its entries, are as found
unfoldable pub laid : List Msg → Lent → Lent
laid q w = lent (record { heads = over (heads_from 0 q) w.row.heads }) (over (entries_in q) w.store)

-- the queue changed, and laid down again
abbrev pub relaid : ℕ → (List Msg → List Msg) → Lent → Lent
relaid len f w = laid (f (queue_of len w)) w
