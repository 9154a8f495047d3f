-- `write_row` meets its contract: so far the first heads are written.
use Rattle.layout_row.specs.Row.{head_words, NarrowHead, zero_head}
use Rattle.blocks.specs.Blocks.{joined}
use Rattle.storage.specs.Storage.{put_at}
use lib.ListN.{take, get_or}
use mathlib.Core.List.{map}
use mathlib.Core.Path.{◌≡◌}
use Prim.Native.Nat.{ℕ, ◌<◌}
use Rattle.layout_row.proofs.write_row.Given as goal

abbrev pub invariant-loop-i : goal.invariant-loop-i
invariant-loop-i l = record {
  written : l.words ≡ put_at 0 (joined (take l.i (map head_words l.row.heads))) l.initial.words;
  narrow : (j : ℕ) → j < l.i → NarrowHead (get_or l.row.heads j zero_head);
}
