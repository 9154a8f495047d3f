-- What a test that was passed in answered at the places says whether some place passes it.
use Prim.Native.Nat.{ℕ, ◌+◌, ◌-◌, ◌≤◌, ◌<◌}
use mathlib.Core.Path.{◌≡◌, sym}
use mathlib.Core.Bool.{Bool, true, false}
use native.Mathlib.Omega.{arith}
use Rattle.leader_state.specs.State.{depot_of}
use Rattle.leader_state.specs.declared.Depot.{Depot}
use Rattle.leader_state.specs.declared.LeaderState.{LeaderState}
use Rattle.hire_book.proofs.Below.{found, none}
use Rattle.places.specs.Places.{Tells, any_place}

module _ (answers : ℕ → Depot → Bool → Type 0) (f : ℕ → Depot → Bool) (depots : ℕ) (l : LeaderState) (t : Tells answers f depots l) where
  pub some_place : (pid : ℕ) → 0 < pid → pid ≤ depots → answers pid (depot_of pid l) true → true ≡ any_place f depots l
  unfolding any_place
  some_place pid h k a =
      let s : (pid - 1) + 1 ≡ pid = omega arith in
      sym (found (λ i. f (i + 1) (depot_of (i + 1) l)) depots (pid - 1) (omega arith) (rw s (sym (t.at pid h k true a))))

  pub no_place_passed : ((pid : ℕ) → 0 < pid → pid ≤ depots → answers pid (depot_of pid l) false) → false ≡ any_place f depots l
  unfolding any_place
  no_place_passed a = sym (none (λ i. f (i + 1) (depot_of (i + 1) l)) depots (λ i h. sym (t.at (i + 1) (omega arith) (omega arith) false (a (i + 1) (omega arith) (omega arith)))))
