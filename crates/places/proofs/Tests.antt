-- What a record whose places pass no test says of each depot's place.
use Prim.Native.Nat.{ℕ, ◌+◌, ◌-◌, ◌≤◌, ◌<◌}
use mathlib.Core.Path.{◌≡◌}
use mathlib.Core.Bool.{Bool, false}
use native.Mathlib.Omega.{arith}
use Rattle.leader_state.specs.State.{depot_of}
use Rattle.leader_state.specs.declared.Depot.{Depot}
use Rattle.leader_state.specs.declared.LeaderState.{LeaderState}
use Rattle.hire_book.proofs.Below.{none-at}
use Rattle.places.specs.Places.{any_place}

pub no_place : (f : ℕ → Depot → Bool) (depots : ℕ) (l : LeaderState) → any_place f depots l ≡ false → (pid : ℕ) → 0 < pid → pid ≤ depots → f pid (depot_of pid l) ≡ false
unfolding any_place
no_place f depots l e pid h k =
    let s : (pid - 1) + 1 ≡ pid = omega arith in
    rw s at (none-at (λ i. f (i + 1) (depot_of (i + 1) l)) depots e (pid - 1) (omega arith))
