-- The invariant of a run: the faces of the depots, and what is under way, are as `Total` says, for some ghost data.
use Prim.Native.Nat.{ℕ, ◌+◌}
use mathlib.Core.Path.{◌≡◌, refl, sym, ap, subst, fun_ext}
use mathlib.Core.Bool.{Bool, true, false, cond}
use mathlib.Core.List.{List, [], ◌∷◌, ◌++◌}
use lib.Dec.{eqb}
use borrow.Author.Tests.{eqb-true}
use Rattle.base.proofs.Tests.{not-both}
use Rattle.quorum.specs.Quorum.{read_size, write_size}
use Rattle.quorum.proofs.Laws.{Stands}
use Rattle.outgoing.specs.Queue.{Msg}
use Rattle.step.specs.Step.{World}
use Rattle.views.specs.View.{View, view_of, fresh_view, Counted}
use Rattle.views.proofs.Step.{fresh-view, fresh-counted}
use Rattle.agreement.specs.Core.{Sizes, Ghost}
use Rattle.agreement.specs.Moves.{fresh}
use Rattle.agreement.specs.All.{All, nil, cons}
use Rattle.agreement.specs.Queue.{sel}
use Rattle.agreement.proofs.Hold.{holds-fresh}
use Rattle.travels.specs.Face.{Face}
use Rattle.travels.specs.Inv.{for_depot, Total, put_face}
use Rattle.travels.proofs.Cluster.{Idle, begins}
use Rattle.faces.specs.Mid.{face_of}
use Rattle.runs.specs.Runs.{Setup, config_of, State, Start, put_at, sent_to}
use Rattle.runs.specs.Claim.{Among, first, later}

-- the sizes of a cluster whose configuration stands
abbrev pub sizes_of : (z : Setup) → Stands (config_of z 0) → Sizes
sizes_of z s = record { depots = z.depots; read = read_size z.quorum; write = write_size z.quorum; over = s.over }

abbrev pub faces_of : (ℕ → World) → ℕ → Face
faces_of ws i = face_of (view_of (ws i))

abbrev pub Proposed : List ℕ → ℕ → Type 0
Proposed l e = Among e l

pub record Good (z : Setup) (s : Stands (config_of z 0)) (σ : State) : Type 0 where
  pub ghost : Ghost ℕ
  pub total : Total (sizes_of z s) (Proposed σ.proposed) ghost (faces_of σ.depot) σ.link
  pub counted : (i : ℕ) → Counted (view_of (σ.depot i))

-- ---- entries that were proposed
pub among-left : {e : ℕ} {l : List ℕ} (r : List ℕ) → Among e l → Among e (l ++ r)
among-left r first = first
among-left r (later p) = later (among-left r p)

among-right : {e : ℕ} (l : List ℕ) {r : List ℕ} → Among e r → Among e (l ++ r)
among-right [] p = p
among-right (x ∷ l) p = later (among-right l p)

all_among : (r : List ℕ) → All (Proposed r) r
all_among [] = nil
all_among (x ∷ r) = cons first (all-later (all_among r))
  where
    all-later : {l : List ℕ} → All (Proposed r) l → All (Proposed (x ∷ r)) l
    all-later nil = nil
    all-later (cons p ps) = cons (later p) (all-later ps)

pub all_new : (l r : List ℕ) → All (Proposed (l ++ r)) r
all_new l r = go (all_among r)
  where
    go : {k : List ℕ} → All (Proposed r) k → All (Proposed (l ++ r)) k
    go nil = nil
    go (cons p ps) = cons (among-right l p) (go ps)

-- ---- faces and links
pub sent_is : (j : ℕ) (q : List Msg) → sent_to j q ≡ for_depot j q
unfolding sent_to sel
sent_is j [] = refl
sent_is j (m ∷ q) = ap (λ l. cond (eqb m.to (j + 1)) (m ∷ l) l) (sent_is j q)

-- one depot's world changed is one depot's face changed
pub face-put : (i : ℕ) (w : World) (ws : ℕ → World) → faces_of (put_at i w ws) ≡ put_face i (face_of (view_of w)) (faces_of ws)
face-put i w ws = fun_ext (λ k. go (eqb k i) k)
  where
    go : (t : Bool) (k : ℕ) → face_of (view_of (cond t w (ws k))) ≡ cond t (face_of (view_of w)) (face_of (view_of (ws k)))
    go true k = refl
    go false k = refl

-- a depot left as it was
pub put_self : (i : ℕ) (ws : ℕ → World) → faces_of (put_at i (ws i) ws) ≡ faces_of ws
put_self i ws = fun_ext (λ k. go (eqb k i) k refl)
  where
    go : (t : Bool) (k : ℕ) → eqb k i ≡ t → face_of (view_of (cond t (ws i) (ws k))) ≡ face_of (view_of (ws k))
    go true k e = ap (λ j. face_of (view_of (ws j))) (sym (eqb-true k i e))
    go false k e = refl

-- the counts of one depot, and of the others
pub counted-put : (i : ℕ) (w : World) (ws : ℕ → World) → Counted (view_of w) → ((k : ℕ) → Counted (view_of (ws k))) → (k : ℕ) → Counted (view_of (put_at i w ws k))
counted-put i w ws p q k = go (eqb k i)
  where
    go : (t : Bool) → Counted (view_of (cond t w (ws k)))
    go true = p
    go false = q k

-- ---- a fresh start
idle-fresh : (z : Sizes) (P : ℕ → Type 0) (b : ℕ) → Idle z P b (face_of fresh_view)
idle-fresh z P b =
    record {
      node = record { own = record { holds = holds-fresh b; length = refl }; role = tt; cached = tt; buffered = nil; remembers = λ e. absurd (not-both e refl); meta = tt; row = refl };
      phase = refl;
      role = refl;
      log = refl;
      queue = refl;
    }

pub good_start : (z : Setup) (s : Stands (config_of z 0)) (σ : State) → Start z σ → Good z s σ
good_start z s σ o =
    record {
      ghost = fresh;
      total = begins (λ b. subst (λ (v : View). Idle (sizes_of z s) (Proposed σ.proposed) b (face_of v)) (sym (fresh-view (σ.depot b) (o.fresh b).node)) (idle-fresh (sizes_of z s) (Proposed σ.proposed) b)) o.links;
      counted = λ i. subst Counted (sym (fresh-view (σ.depot i) (o.fresh i).node)) fresh-counted;
    }
