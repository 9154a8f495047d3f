-- What is seen of the depots tells whether they agree; and the start is one that the claim on runs asks for.
use Prim.Native.Nat.{ℕ, zero, suc, ◌<◌}
use mathlib.Core.Path.{◌≡◌, refl, ap, sym, ◌∙◌}
use mathlib.Core.Bool.{true}
use mathlib.Core.List.{List, []}
use native.Mathlib.Omega.{arith}
use lib.ListN.{get_or, length-replicate}
use Rattle.base.specs.Limits.{max_log, max_store}
use Rattle.base.proofs.Lists.{get_d_tabulate}
use Rattle.quorum.specs.Quorum.{stands_of}
use Rattle.runs.specs.Runs.{Setup, State, Start, Move, config_of, after}
use Rattle.runs.specs.Claim.{Claim}
use Rattle.run_cases.specs.Seen.{start, Seen, seen, all, having, Agree}

-- (a) of the claim on runs
pub claim-agree : (z : Setup) (σ : State) (ms ns : List Move) → Claim z σ ms ns → Agree z (after z ms σ)
claim-agree z σ ms ns c = c.agree

-- one depot, where all are seen
pub seen_at : (z : Setup) (σ : State) (l : List Seen) → all z σ ≡ l → (i : ℕ) → i < z.depots → seen σ i ≡ get_or l i (having 0 [])
seen_at z σ l e i h = sym (get_d_tabulate z.depots (seen σ) i (having 0 []) h) ∙ ap (λ x. get_or x i (having 0 [])) e

-- a place below both decided indexes at which two depots are seen to differ
pub differ : (z : Setup) (σ : State) (i j k : ℕ) (d e : Seen) → seen σ i ≡ d → seen σ j ≡ e → i < z.depots → j < z.depots → k < d.decided → k < e.decided → ¬ (get_or d.history k 0 ≡ get_or e.history k 0) → ¬ Agree z σ
differ z σ i j k d e p q hi hj kd ke ne agree =
    ne (sym (ap (λ x. get_or x.history k 0) p) ∙ agree i j k hi hj (rw (ap (λ x. x.decided) p) kd) (rw (ap (λ x. x.decided) q) ke) ∙ ap (λ x. get_or x.history k 0) q)

-- depots that are all seen with the same decided entries
pub alike : (z : Setup) (σ : State) (h : List ℕ) → ((i : ℕ) → i < z.depots → (seen σ i).history ≡ h) → Agree z σ
alike z σ h e i j k p q r s = ap (λ x. get_or x k 0) (e i p ∙ sym (e j q))

-- what holds of each place below a small number
pub below_two : (P : ℕ → Type 0) → P 0 → P 1 → (i : ℕ) → i < 2 → P i
below_two P a b zero h = a
below_two P a b (suc zero) h = b
below_two P a b (suc (suc i)) h = absurd (omega arith)

pub below-three : (P : ℕ → Type 0) → P 0 → P 1 → P 2 → (i : ℕ) → i < 3 → P i
below-three P a b c zero h = a
below-three P a b c (suc i) h = below_two (λ k. P (suc k)) b c i (omega arith)

-- the start, of a configuration that stands
pub starts : (z : Setup) → ((i : ℕ) → i < z.depots → stands_of (config_of z i) ≡ true) → Start z start
starts z h =
    record {
      stands = h;
      fresh = λ i. record { node = refl; log = length-replicate {A = ℕ} max_log 0; cached = length-replicate {A = ℕ} max_log 0; best = length-replicate {A = ℕ} max_log 0; store = length-replicate {A = ℕ} max_store 0; book = refl };
      links = λ i j. refl;
      nothing = refl;
    }
