-- What the runs break, from what is seen of the depots.
use Prim.Native.Nat.{◌≤◌}
use mathlib.Core.Path.{◌≡◌, refl, ap}
use mathlib.Core.List.{List, [], ◌∷◌, map}
use native.Mathlib.Omega.{arith}
use Rattle.runs.specs.Runs.{Setup, State, Move, moved, after}
use Rattle.runs.specs.Claim.{decided}
use Rattle.run_cases.specs.Seen.{two, three, Seen, all, having}
use Rattle.run_cases.specs.Moves.{out}
use Rattle.run_cases.proofs.Seen.{seen_at}
use Rattle.run_cases.proofs.Parted.{parted-differ}
use Rattle.run_restarts.specs.Forgetful.{keeps, moved_forgetful, after_forgetful}
use Rattle.run_restarts.specs.Restarts.{Restarts, no_promise, no_round, no_log, decided_once, no_decided}
use Rattle.run_restarts.proofs.Runs.{promise-parts, round-parts, log-parts, decided-before, decided-after}

keeping : (z : Setup) (ms : List Move) (σ : State) → after_forgetful z (map keeps ms) σ ≡ after z ms σ
unfolding after_forgetful moved_forgetful after
keeping z [] σ = refl
keeping z (m ∷ ms) σ = keeping z ms (moved z m σ)

falls : (σ τ : State) (l m : List Seen) → all two σ ≡ having 1 (out ∷ []) ∷ l → all two τ ≡ having 0 [] ∷ m → ¬ (decided σ 0 ≤ decided τ 0)
falls σ τ l m e f h =
    let p : decided σ 0 ≡ 1 = ap (λ x. x.decided) (seen_at two σ (having 1 (out ∷ []) ∷ l) e 0 (omega arith)) in
    let q : decided τ 0 ≡ 0 = ap (λ x. x.decided) (seen_at two τ (having 0 [] ∷ m) f 0 (omega arith)) in
    omega (arith, h, p, q)

pub restarts : Restarts
restarts =
    record {
      keeping = keeping;
      promise-parts = promise-parts;
      promise-breaks = parted-differ three no_promise (having 0 []) [] (omega arith) promise-parts;
      round-parts = round-parts;
      round-breaks = parted-differ three no_round (having 0 []) [] (omega arith) round-parts;
      log-parts = log-parts;
      log-breaks = parted-differ three no_log (having 0 []) [] (omega arith) log-parts;
      decided-before = decided-before;
      decided-after = decided-after;
      decided-falls = falls decided_once no_decided (having 0 [] ∷ []) (having 0 [] ∷ []) decided-before decided-after;
    }
