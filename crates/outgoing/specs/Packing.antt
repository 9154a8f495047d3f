-- The steps of packing, pushing and joining, each on the heads or on the cells alone.
use Rattle.std.specs.Prelude.{ℕ, zero, suc, ◌+◌, ◌-◌, ◌≤◌, ◌≡◌, Bool, true, false, cond, List, [], ◌∷◌, ◌++◌, eqb, leb, take, drop, length, get_or, set}
use Rattle.messages.specs.declared.Head.{Head}
use Rattle.messages.specs.declared.Row.{Row}
use Rattle.messages.specs.Messages.{with_decided, with_accepted, no_head}
use Rattle.base.specs.Limits.{max_messages, max_store}
use Rattle.paxos_box.specs.declared.Send.{Send}
use Rattle.paxos_box.specs.declared.Join.{Join}
use Rattle.paxos_box.specs.declared.Raise.{Raise}
use Rattle.outgoing.specs.Queue.{entries_at}
use Rattle.outgoing.specs.Perform.{carried, new_in, count_in}

-- whether the entries of each head follow those of the one before it, from a place on
unfoldable pub packed_from : ℕ → List Head → Bool
packed_from at [] = true
packed_from at (h ∷ hs) = cond (eqb h.start at) (packed_from (at + h.count) hs) false

-- heads with the starts that packing gives them
abbrev pub start_at : ℕ → Head → Head
start_at at h = record { to = h.to; msg = h.msg; start = at; count = h.count }

unfoldable pub starts_from : ℕ → List Head → List Head
starts_from at [] = []
starts_from at (h ∷ hs) = start_at at h ∷ starts_from (at + h.count) hs

-- new starts for the heads from one position up to another
unfoldable pub restarted : ℕ → ℕ → ℕ → List Head → List Head
restarted from to at hs = take from hs ++ (starts_from at (take (to - from) (drop from hs)) ++ drop to hs)

-- where the entries of the first k packed heads end
abbrev pub end_of : ℕ → List Head → ℕ
end_of zero hs = 0
end_of (suc k) hs = (get_or hs k no_head).start + (get_or hs k no_head).count

-- a head with more entries, or with another index
abbrev pub joined_head : ℕ → ℕ → Head → Head
joined_head d n h = record { to = h.to; msg = with_decided d h.msg; start = h.start; count = h.count + n }

abbrev pub raised_head : ℕ → Head → Head
raised_head a h = record { to = h.to; msg = with_accepted a h.msg; start = h.start; count = h.count }

abbrev pub row_of : List Head → Row
row_of hs = record { heads = hs }

-- where the entries of all messages end after entries joined the one at a position
abbrev pub join_end : ℕ → Join → ℕ → Row → ℕ
join_end len j n row =
    (get_or row.heads j.at no_head).start + (get_or row.heads j.at no_head).count + n + carried (take (len - (j.at + 1)) (drop (j.at + 1) row.heads))

-- the row after entries joined the message at a position, and after it got another index; a position past the queue is none
unfoldable pub joined_row : ℕ → Join → ℕ → Row → Row
joined_row len j n row =
    row_of (restarted (j.at + 1) len ((get_or row.heads j.at no_head).start + (get_or row.heads j.at no_head).count + n) (set row.heads j.at (joined_head j.decided_idx n (get_or row.heads j.at no_head))))

unfoldable pub raised_row : ℕ → Raise → Row → Row
raised_row len r row = cond (leb len r.at) row (row_of (set row.heads r.at (raised_head r.accepted_idx (get_or row.heads r.at no_head))))

-- every head shows as many entries as it counts
pub data Whole (s : List ℕ) : List Head → Type 0 where
  none : Whole s []
  more : {h : Head} {hs : List Head} → length (entries_at s h) ≡ h.count → Whole s hs → Whole s (h ∷ hs)

-- the first len heads are packed, and their entries lie within the store
pub record Packed (len : ℕ) (hs : List Head) (store : List ℕ) : Type 0 where
  pub below : len ≤ length hs
  pub starts : starts_from 0 (take len hs) ≡ take len hs
  pub within : carried (take len hs) ≤ length store

-- a packed queue has room for planned things
pub record Ready (len : ℕ) (ms : List Send) (hs : List Head) (store : List ℕ) : Type 0 where
  pub packed : Packed len hs store
  pub size : length store ≤ max_store
  pub messages : len + new_in ms ≤ max_messages
  pub entries : carried (take len hs) + count_in ms ≤ length store
