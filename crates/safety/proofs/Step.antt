-- A depot's step keeps the invariant: refused it leaves all as found; taken it is an event of the protocol.
use Prim.Native.Nat.{ℕ, ◌<◌}
use mathlib.Core.Path.{◌≡◌, refl, sym, ap, subst, ◌∙◌}
use mathlib.Core.Bool.{Bool, true, false}
use mathlib.Core.List.{List}
use native.Mathlib.Omega.{arith}
use lib.Dec.{eqb}
use lib.ListN.{length}
use borrow.Author.Tests.{eqb-true, eqb-false}
use Rattle.quorum.proofs.Laws.{Stands}
use Rattle.messages.specs.declared.Event.{Event}
use Rattle.sequence_paxos.specs.Decide.{taken}
use Rattle.step.specs.Step.{World, step_of}
use Rattle.views.specs.View.{View, view_of, perform_view, box_view, Counted}
use Rattle.views.proofs.Step.{Seen, taken-view, refused-view, counted_step}
use Rattle.agreement.specs.Core.{Ghost}
use Rattle.travels.specs.Face.{Face}
use Rattle.travels.specs.Inv.{Links, Total, put_face}
use Rattle.travels.specs.Near.{Next}
use Rattle.travels.proofs.Commit.{scene_of, total_of}
use Rattle.faces.specs.Mid.{face_of}
use Rattle.runs.specs.Runs.{Setup, config_of, put_at}
use Rattle.safety.proofs.Good.{sizes_of, faces_of, Proposed, Good, face-put, put_self, counted-put}

module _ (z : Setup) (s : Stands (config_of z 0)) (i : ℕ) (e : Event) (entries : List ℕ) where
  -- what a depot has to show of a taken step
  abbrev pub Takes : (ℕ → World) → Links → List ℕ → Ghost ℕ → Type 0
  Takes ws link given g =
      (step_of (config_of z i) e entries (ws i)).answer.no ≡ 0 → Total (sizes_of z s) (Proposed given) g (faces_of ws) link → Counted (view_of (ws i)) → i < z.depots
      → Seen (config_of z i) e entries (ws i) (taken e (length entries) (box_view (config_of z i) e entries (view_of (ws i)))) (step_of (config_of z i) e entries (ws i))
      → Next (sizes_of z s) (Proposed given) i (scene_of i (faces_of ws) link) g (face_of (perform_view e entries (taken e (length entries) (box_view (config_of z i) e entries (view_of (ws i)))) (view_of (ws i))))

  pub good-step : (ws : ℕ → World) (link : Links) (given : List ℕ) (o : Good z s (record { depot = ws; link = link; proposed = given })) → Takes ws link given o.ghost
      → Good z s (record { depot = put_at i (step_of (config_of z i) e entries (ws i)).after ws; link = link; proposed = given })
  good-step ws link given o f = go (eqb (step_of (config_of z i) e entries (ws i)).answer.no 0) refl
    where
      w : World
      w = (step_of (config_of z i) e entries (ws i)).after

      counted : (k : ℕ) → Counted (view_of (put_at i w ws k))
      counted = counted-put i w ws (counted_step (config_of z i) e entries (ws i) (o.counted i)) o.counted

      go : (t : Bool) → eqb (step_of (config_of z i) e entries (ws i)).answer.no 0 ≡ t → Good z s (record { depot = put_at i w ws; link = link; proposed = given })
      go false q =
          record {
            ghost = o.ghost;
            total = subst (λ (xs : ℕ → Face). Total (sizes_of z s) (Proposed given) o.ghost xs link) (sym same) o.total;
            counted = counted;
          }
        where
          same : faces_of (put_at i w ws) ≡ faces_of ws
          same = ap (λ (k : World). faces_of (put_at i k ws)) (refused-view (config_of z i) e entries (ws i) (eqb-false _ 0 q)).after ∙ put_self i ws
      go true q =
          let a = taken-view (config_of z i) e entries (ws i) (o.counted i) (eqb-true _ 0 q) in
          let n = f (eqb-true _ 0 q) o.total (o.counted i) (omega (arith, a.fit.stands.own.1)) a in
          record {
            ghost = n.ghost;
            total = subst (λ (xs : ℕ → Face). Total (sizes_of z s) (Proposed given) n.ghost xs link) (sym (face-put i w ws ∙ ap (λ (v : View). put_face i (face_of v) (faces_of ws)) a.view)) (total_of o.total _ n.moved n.well);
            counted = counted;
          }
