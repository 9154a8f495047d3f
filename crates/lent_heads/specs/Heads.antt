-- A lent row of heads: one head edited, the row by value, and the row by value written back.
use Rattle.std.specs.Prelude.{ℕ, List, length, take, set, get_or, replicate}
use Rattle.base.specs.Limits.{max_messages}
use Rattle.base.specs.Lists.{over}
use Rattle.messages.specs.declared.Head.{Head}
use Rattle.messages.specs.declared.Row.{Row}
use Rattle.messages.specs.Messages.{with_decided, no_head}

-- a remembered AcceptDecide with another decided index and another count of entries
abbrev pub edited_head : ℕ → ℕ → Head → Head
edited_head d n h = record { to = h.to; msg = with_decided d h.msg; start = h.start; count = n }

abbrev pub edited : List Head → ℕ → ℕ → ℕ → List Head
edited hs at d n = set hs at (edited_head d n (get_or hs at no_head))

abbrev pub blank_row : Row
blank_row = record { heads = replicate max_messages no_head }

-- the first heads of the lent row, over a blank row
unfoldable pub snapshot_of : List Head → Row
snapshot_of hs = record { heads = over (take max_messages hs) (replicate max_messages no_head) }

-- the first heads of the row by value, over the lent row
unfoldable pub written_to : List Head → Row → List Head
written_to hs row = over (take (length hs) row.heads) hs
