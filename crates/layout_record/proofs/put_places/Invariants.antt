-- `put_places` meets its contract: so far the first places are written.
use Rattle.layout_record.specs.Kept.{NarrowPlace}
use Rattle.layout_record.specs.Words.{places_at, place_words}
use Rattle.blocks.specs.Blocks.{joined}
use Rattle.storage.specs.Storage.{put_at}
use Rattle.leader_state.specs.State.{fresh}
use lib.ListN.{take, get_or}
use mathlib.Core.List.{map}
use mathlib.Core.Path.{◌≡◌}
use Prim.Native.Nat.{ℕ, ◌<◌}
use Rattle.layout_record.proofs.put_places.Given as goal

abbrev pub invariant-loop-k : goal.invariant-loop-k
invariant-loop-k l = record {
  written : l.words ≡ put_at places_at (joined (take l.k (map place_words l.l.depots))) l.initial.words;
  narrow : (j : ℕ) → j < l.k → NarrowPlace (get_or l.l.depots j fresh);
}
