-- Moves and runs by the step are the moves and the runs.
use Prim.Native.Nat.{ℕ}
use mathlib.Core.Path.{◌≡◌, refl}
use mathlib.Core.List.{List, [], ◌∷◌}
use Rattle.outgoing.specs.Queue.{Msg}
use Rattle.step.specs.Step.{step_of}
use Rattle.runs.specs.Runs.{Setup, State, Move, deliver, lose, drain, propose, leader, reconnect, resend, restart, arrives, moved, after}
use Rattle.run_cases.specs.Stepping.{arrives_by, moved_by, after_by}

arrives-ours : (z : Setup) (i j : ℕ) (q : List Msg) (σ : State) → arrives_by step_of z i j q σ ≡ arrives z i j q σ
arrives-ours z i j [] σ = refl
arrives-ours z i j (m ∷ q) σ = refl

pub moved-ours : (z : Setup) (m : Move) (σ : State) → moved_by step_of z m σ ≡ moved z m σ
unfolding moved_by moved
moved-ours z (deliver i j) σ = arrives-ours z i j (σ.link i j) σ
moved-ours z (lose i j) σ = refl
moved-ours z (drain i) σ = refl
moved-ours z (propose i entries) σ = refl
moved-ours z (leader i n) σ = refl
moved-ours z (reconnect i pid) σ = refl
moved-ours z (resend i) σ = refl
moved-ours z (restart i) σ = refl

pub after-ours : (z : Setup) (ms : List Move) (σ : State) → after_by step_of z ms σ ≡ after z ms σ
unfolding after_by after
after-ours z [] σ = refl
after-ours z (m ∷ ms) σ = rw (moved-ours z m σ) (after-ours z ms (moved z m σ))
