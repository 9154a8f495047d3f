-- Parts (a) and (c) of the claim of demand 3: in every run no two depots differ at a place below both decided indexes, and each decided entry was given in a proposal before.
use Prim.Native.Nat.{ℕ, ◌<◌}
use mathlib.Core.Path.{◌≡◌, sym, ap, subst, ◌∙◌}
use mathlib.Core.List.{List, [], ◌∷◌}
use native.Mathlib.Omega.{arith}
use lib.ListN.{get_or, take}
use Rattle.quorum.proofs.Laws.{Stands, stands-says}
use Rattle.views.specs.View.{view_of}
use Rattle.views.proofs.Step.{history-view}
use Rattle.travels.proofs.Cluster.{decided-agree, decided-equal, decided-given}
use Rattle.runs.specs.Runs.{Setup, config_of, State, Start, Move, moved, after}
use Rattle.runs.specs.Claim.{Among, decided, history}
use Rattle.safety.proofs.Good.{faces_of, Good, good_start}
use Rattle.safety.proofs.Moved.{good-moved}

-- every state of a run is good
pub good : (z : Setup) (s : Stands (config_of z 0)) (ms : List Move) (σ : State) → Good z s σ → Good z s (after z ms σ)
unfolding after
good z s [] σ o = o
good z s (m ∷ ms) σ o = good z s ms (moved z m σ) (good-moved z s m σ o)

-- a depot's decided entries are those of its face
history-is : {z : Setup} {s : Stands (config_of z 0)} {σ : State} → Good z s σ → (i : ℕ) → i < z.depots → history σ i ≡ take (faces_of σ.depot i).storage.decided_idx (faces_of σ.depot i).log
unfolding view_of
history-is {z} {s} {σ} o i u =
    history-view (σ.depot i) (decided σ i) (omega (arith, (o.total.base.node i u).own.holds.fits, (o.total.base.node i u).own.length))

module _ (z : Setup) (σ : State) (o : Start z σ) (ms : List Move) where
  stands : (i : ℕ) → i < z.depots → Stands (config_of z 0)
  stands i l = stands-says (config_of z 0) (o.stands 0 (omega arith))

  reached : (i : ℕ) (l : i < z.depots) → Good z (stands i l) (after z ms σ)
  reached i l = good z (stands i l) ms σ (good_start z (stands i l) σ o)

  -- (a)
  pub agree : (i j k : ℕ) → i < z.depots → j < z.depots → k < decided (after z ms σ) i → k < decided (after z ms σ) j → get_or (history (after z ms σ) i) k 0 ≡ get_or (history (after z ms σ) j) k 0
  unfolding view_of
  agree i j k u w p q =
      let g : Good z (stands i u) (after z ms σ) = reached i u in
      ap (λ (l : List ℕ). get_or l k 0) (history-is g i u) ∙ decided-agree g.total i j k u w p q ∙ ap (λ (l : List ℕ). get_or l k 0) (sym (history-is g j w))

  -- (c)
  pub given : (i k : ℕ) → i < z.depots → k < decided (after z ms σ) i → Among (get_or (history (after z ms σ) i) k 0) (after z ms σ).proposed
  unfolding view_of
  given i k u p =
      let g : Good z (stands i u) (after z ms σ) = reached i u in
      subst (λ (l : List ℕ). Among (get_or l k 0) (after z ms σ).proposed) (sym (history-is g i u)) (decided-given g.total i k u p)

  -- equal decided indexes: the same decided entries
  pub histories : (i j : ℕ) → i < z.depots → j < z.depots → decided (after z ms σ) i ≡ decided (after z ms σ) j → history (after z ms σ) i ≡ history (after z ms σ) j
  unfolding view_of
  histories i j u w e =
      let g : Good z (stands i u) (after z ms σ) = reached i u in
      history-is g i u ∙ decided-equal g.total i j u w e ∙ sym (history-is g j w)
