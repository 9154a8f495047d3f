-- What each operation of a plan makes of the lists. Cells that nothing uses keep what they held.
use Rattle.std.specs.Prelude.{ℕ, ◌+◌, List, ◌++◌, take, drop, Option, None, Some}
use Rattle.base.specs.Lists.{over}
use Rattle.leader_state.specs.declared.LogSync.{LogSync}
use Rattle.paxos_box.specs.declared.LogOp.{LogOp}
use Rattle.paxos_box.specs.declared.LogOp.TheVariants as log

-- xs written from place i on: nothing before i is touched, and what lies past xs is as found
unfoldable pub put_at : ℕ → List ℕ → List ℕ → List ℕ
put_at i xs l = take i l ++ over xs (drop i l)

-- where the log ends after an operation on a log of that length
abbrev pub end_after : LogOp → ℕ → ℕ
end_after log.Keep len = len
end_after (log.Append n) len = len + n
end_after (log.PutGiven x) len = x.sync_idx + x.len
end_after (log.PutHeld x) len = x.sync_idx + x.len

-- the operation: the given entries appended, or the given ones or the held sync's from the sync index on
abbrev pub op_on : LogOp → ℕ → List ℕ → List ℕ → List ℕ → List ℕ
op_on log.Keep len given held l = l
op_on (log.Append n) len given held l = put_at len (take n given) l
op_on (log.PutGiven x) len given held l = put_at x.sync_idx (take x.len given) l
op_on (log.PutHeld x) len given held l = put_at x.sync_idx (take x.len held) l

-- the log as the step leaves it: the first kept of the buffered proposals stand at the end that the operation leaves
unfoldable pub log_after : LogOp → ℕ → List ℕ → List ℕ → List ℕ → ℕ → List ℕ → List ℕ
log_after op len given held buffered kept l = put_at (end_after op len) (take kept buffered) (op_on op len given held l)

-- the cached promise's buffer, from the log as the step leaves it
abbrev pub cached_after : Option LogSync → List ℕ → List ℕ → List ℕ
cached_after None l buffer = buffer
cached_after (Some x) l buffer = over (take x.len (drop x.sync_idx l)) buffer

-- the held sync's buffer, and how many entries are written to it
abbrev pub best_after : Option ℕ → List ℕ → List ℕ → List ℕ
best_after None given buffer = buffer
best_after (Some n) given buffer = over (take n given) buffer

abbrev pub best_count : Option ℕ → ℕ
best_count None = 0
best_count (Some n) = n

-- the buffered proposals, of which the first len wait, and how many join them
abbrev pub buffer_after : Option ℕ → ℕ → List ℕ → List ℕ → List ℕ
buffer_after None len given buffered = buffered
buffer_after (Some n) len given buffered = put_at len (take n given) buffered

abbrev pub buffer_count : Option ℕ → ℕ
buffer_count None = 0
buffer_count (Some n) = n
