-- The cases hold: the runs by computing, agreement and its failure from what is seen of the depots.
use Prim.Native.Nat.{ℕ, ◌<◌}
use mathlib.Core.Path.{◌≡◌, refl, ap}
use mathlib.Core.Bool.{true}
use mathlib.Core.List.{[], ◌∷◌}
use native.Mathlib.Omega.{arith}
use Rattle.quorum.specs.Quorum.{stands_of, sizes_stand, is_depot}
use Rattle.hire_book.specs.Book.{apply_all, entered, fresh_book}
use Rattle.runs.specs.Runs.{config_of}
use Rattle.run_cases.specs.Seen.{two, three, seen, having, Agree}
use Rattle.run_cases.specs.Moves.{out, back, other}
use Rattle.run_cases.specs.Cases.{Cases, right, wrong, stale_old, stale_ours, disordered}
use Rattle.run_cases.proofs.Seen.{seen_at, differ, alike, below_two, below-three, starts}
use Rattle.run_cases.proofs.Runs.{three-decide, stale-old, stale-ours, overtaken}

two-stands : (i : ℕ) → i < 2 → stands_of (config_of two i) ≡ true
unfolding stands_of sizes_stand is_depot
two-stands = below_two (λ i. stands_of (config_of two i) ≡ true) refl refl

three-stands : (i : ℕ) → i < 3 → stands_of (config_of three i) ≡ true
unfolding stands_of sizes_stand is_depot
three-stands = below-three (λ i. stands_of (config_of three i) ≡ true) refl refl refl

-- depot 1 has the later back where depot 0 has the first
stale-breaks : ¬ Agree two stale_old
stale-breaks =
    differ two stale_old 0 1 1 right wrong
    (seen_at two stale_old (right ∷ wrong ∷ []) stale-old 0 (omega arith))
    (seen_at two stale_old (right ∷ wrong ∷ []) stale-old 1 (omega arith))
    (omega arith) (omega arith) (omega arith) (omega arith) (λ e. omega (arith, e))

both_right : (i : ℕ) → i < 2 → seen stale_ours i ≡ right
both_right =
    below_two (λ i. seen stale_ours i ≡ right)
    (seen_at two stale_ours (right ∷ right ∷ []) stale-ours 0 (omega arith))
    (seen_at two stale_ours (right ∷ right ∷ []) stale-ours 1 (omega arith))

stale-agrees : Agree two stale_ours
stale-agrees = alike two stale_ours (out ∷ back ∷ []) (λ i h. ap (λ x. x.history) (both_right i h))

-- depots 0 and 2 have different entries at the first place
overtaken-breaks : ¬ Agree three disordered
overtaken-breaks =
    differ three disordered 0 2 0 (having 1 (out ∷ [])) (having 1 (other ∷ []))
    (seen_at three disordered (having 1 (out ∷ []) ∷ having 0 [] ∷ having 1 (other ∷ []) ∷ []) overtaken 0 (omega arith))
    (seen_at three disordered (having 1 (out ∷ []) ∷ having 0 [] ∷ having 1 (other ∷ []) ∷ []) overtaken 2 (omega arith))
    (omega arith) (omega arith) (omega arith) (omega arith) (λ e. omega (arith, e))

pub cases : Cases
unfolding apply_all entered fresh_book
cases =
    record {
      two-start = starts two two-stands;
      three-start = starts three three-stands;
      three-decide = three-decide;
      four-days = refl;
      stale-old = stale-old;
      nineteen-days = refl;
      stale-breaks = stale-breaks;
      stale-ours = stale-ours;
      stale-agrees = stale-agrees;
      overtaken = overtaken;
      overtaken-breaks = overtaken-breaks;
    }
