-- Depots 0 and 2 that are seen to differ at the first place do not agree.
use Prim.Native.Nat.{ℕ, ◌<◌}
use mathlib.Core.Path.{◌≡◌}
use mathlib.Core.List.{List, [], ◌∷◌}
use native.Mathlib.Omega.{arith}
use Rattle.runs.specs.Runs.{Setup, State}
use Rattle.run_cases.specs.Seen.{Seen, all, having, Agree}
use Rattle.run_cases.specs.Moves.{out, other}
use Rattle.run_cases.proofs.Seen.{seen_at, differ}

-- depots 0 and 2 are seen to differ at the first place
pub parted-differ : (z : Setup) (σ : State) (d : Seen) (l : List Seen) → 2 < z.depots → all z σ ≡ having 1 (out ∷ []) ∷ d ∷ having 1 (other ∷ []) ∷ l → ¬ Agree z σ
parted-differ z σ d l h e =
    differ z σ 0 2 0 (having 1 (out ∷ [])) (having 1 (other ∷ []))
    (seen_at z σ (having 1 (out ∷ []) ∷ d ∷ having 1 (other ∷ []) ∷ l) e 0 (omega (arith, h)))
    (seen_at z σ (having 1 (out ∷ []) ∷ d ∷ having 1 (other ∷ []) ∷ l) e 2 (omega (arith, h)))
    (omega (arith, h)) (omega (arith, h)) (omega arith) (omega arith) (λ p. omega (arith, p))
