-- One turn more of the loop over marked depots.
use Prim.Native.Nat.{ℕ, ◌+◌}
use mathlib.Core.Path.{◌≡◌, refl}
use mathlib.Core.Bool.{Bool, false}
use mathlib.Core.List.{List}
use native.Mathlib.Numerals.{add-one}
use lib.ListN.{get_or}
use Rattle.paxos_box.specs.declared.SequencePaxos.{SequencePaxos}
use Rattle.sends.specs.declared.Each.{Each}
use Rattle.sends.specs.Sends.{turn_of, for_marked}

pub marked_turn : (marked : List Bool) (what : Each) (i : ℕ) (s : SequencePaxos) → for_marked marked what (i + 1) s ≡ turn_of what (get_or marked i false) (i + 1) (for_marked marked what i s)
unfolding for_marked
marked_turn marked what i s = rw (add-one) refl
