-- A step, a move and a run by our rule are the step, the move and the run; by any rule a move is the rule's step at the depot that moves; by the old rule a record that
-- no step changed stays. Over links of any order, moves with nothing overtaken are a run.
use Prim.Native.Nat.{ℕ}
use mathlib.Core.Path.{◌≡◌, refl, ap}
use mathlib.Core.Bool.{Bool, true, false, cond}
use mathlib.Core.List.{List, [], ◌∷◌, map}
use native.Mathlib.Omega.{arith}
use lib.Dec.{eqb}
use borrow.Author.Tests.{eqb-true, eq-eqb, le-ltb}
use Rattle.quorum.specs.declared.Configuration.{Configuration}
use Rattle.leader_state.specs.declared.Depot.{Depot}
use Rattle.messages.specs.declared.Event.{Event}
use Rattle.record.specs.declared.Record.{Record}
use Rattle.step.specs.Step.{World, step_of}
use Rattle.runs.specs.Runs.{Setup, State, Move, put_at, config_of, moved, after}
use Rattle.run_cases.specs.Old.{Rule, ours, old, kept_places, ruled, step_by, mover, moved_by, after_by}
use Rattle.run_cases.specs.Loose.{keeps, moved_loose, after_loose}

pub step-ours : (c : Configuration) (e : Event) (entries : List ℕ) (w : World) → step_by ours c e entries w ≡ step_of c e entries w
step-ours c e entries w = refl

-- a function with its own value put at a place
put-own : {A : Type 0} (i : ℕ) (f : ℕ → A) (k : ℕ) → put_at i (f i) f k ≡ f k
put-own i f k = go (eqb k i) refl
  where
    go : (t : Bool) → eqb k i ≡ t → cond t (f i) (f k) ≡ f k
    go true e = ap f (let p = eqb-true k i e in omega (arith, p))
    go false e = refl

put_same : {A : Type 0} (i : ℕ) (x : A) (f : ℕ → A) → put_at i x f i ≡ x
put_same i x f = rw (eq-eqb i i refl)

pub moved-ours : (z : Setup) (m : Move) (σ : State) → moved_by ours z m σ ≡ moved z m σ
unfolding moved_by
moved-ours z m σ = λ t. record { depot = λ k. put-own (mover m) (moved z m σ).depot k t; link = (moved z m σ).link; proposed = (moved z m σ).proposed }

pub after-ours : (z : Setup) (ms : List Move) (σ : State) → after_by ours z ms σ ≡ after z ms σ
unfolding after_by after
after-ours z [] σ = refl
after-ours z (m ∷ ms) σ = rw (moved-ours z m σ) (after-ours z ms (moved z m σ))

-- where a move is a step of its depot, the move by a rule is the step by the rule
pub moved-steps : (rule : Rule) (z : Setup) (m : Move) (e : Event) (entries : List ℕ) (σ : State) → (moved z m σ).depot (mover m) ≡ (step_of (config_of z (mover m)) e entries (σ.depot (mover m))).after → (moved_by rule z m σ).depot (mover m) ≡ (step_by rule (config_of z (mover m)) e entries (σ.depot (mover m))).after
unfolding moved_by
moved-steps rule z m e entries σ h =
    rw (put_same (mover m) (ruled rule (σ.depot (mover m)) ((moved z m σ).depot (mover m))) (moved z m σ).depot) (ap (ruled rule (σ.depot (mover m))) h)

-- the old rule leaves a record alone that no step changed
kept_same : (ds : List Depot) → kept_places ds ds ≡ ds
unfolding kept_places
kept_same [] = refl
kept_same (d ∷ ds) = rw (le-ltb d.seq_num.session d.seq_num.session (omega arith), kept_same ds)

pub old-still : (r : Record) → old r r ≡ r
old-still r = rw (kept_same r.leader_state.depots)

pub loose-keeps : (z : Setup) (ms : List Move) (σ : State) → after_loose z (map keeps ms) σ ≡ after z ms σ
unfolding after_loose moved_loose after
loose-keeps z [] σ = refl
loose-keeps z (m ∷ ms) σ = loose-keeps z ms (moved z m σ)
