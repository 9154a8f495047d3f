-- From the invariant of the cluster to what one depot sees, and back after its step.
use Prim.Native.Nat.{ℕ, ◌<◌}
use mathlib.Core.Path.{◌≡◌, refl, sym, subst, ◌∙◌}
use mathlib.Core.Logic.{◌⊎◌, inl, inr, ◌≢◌}
use mathlib.Core.List.{◌++◌}
use borrow.Author.Tests.{eq-eqb, ne_eqb}
use Rattle.ballot.specs.declared.Ballot.{Ballot}
use Rattle.agreement.specs.Order.{leader_of}
use Rattle.agreement.specs.Core.{Sizes, Ghost}
use Rattle.agreement.specs.Growth.{Moved}
use Rattle.agreement.specs.All.{All}
use Rattle.agreement.proofs.Update.{depot-eq}
use Rattle.travels.specs.Face.{Face, feeds_in}
use Rattle.travels.specs.Facts.{Ok, NodeOk}
use Rattle.travels.specs.Inv.{Links, for_depot, chan, Base, FlowOf, Total, whole_now, fed_now, put_face}
use Rattle.travels.specs.Near.{Scene, Well}
use Rattle.travels.proofs.Up.{node-up, oks-up}

pub face-here : (b : ℕ) (x : Face) (xs : ℕ → Face) → put_face b x xs b ≡ x
face-here b x xs = rw (eq-eqb b b refl)

pub face-other : (b : ℕ) (x : Face) (xs : ℕ → Face) (c : ℕ) → c ≢ b → put_face b x xs c ≡ xs c
face-other b x xs c ne = rw (ne_eqb c b ne)

-- what holds of the new face and of every other depot's holds of all
pub face-each : (Q : ℕ → Face → Type 0) (b : ℕ) (x : Face) (xs : ℕ → Face) → Q b x → ((c : ℕ) → c ≢ b → Q c (xs c)) → (c : ℕ) → Q c (put_face b x xs c)
face-each Q b x xs p q c = go (depot-eq c b)
  where
    go : (c ≡ b) ⊎ (c ≢ b) → Q c (put_face b x xs c)
    go (inl e) = subst (λ k. Q k (put_face b x xs k)) (sym e) (subst (Q b) (sym (face-here b x xs)) p)
    go (inr ne) = subst (Q c) (sym (face-other b x xs c ne)) (q c ne)

abbrev pub scene_of : ℕ → (ℕ → Face) → Links → Scene
scene_of b xs link = record { others = xs; inn = λ f. chan xs link f b; out = link b }

module _ {z : Sizes} {P : ℕ → Type 0} {g : Ghost ℕ} {xs : ℕ → Face} {link : Links} (v : Total z P g xs link) where
  -- what depot b sees
  pub near_of : (b : ℕ) → b < z.depots → Well z P b (scene_of b xs link) g (xs b)
  near_of b u =
      record {
        core = v.base.core;
        only = v.base.only;
        node = v.base.node b u;
        msgs = λ t. v.base.msgs b t u;
        down = λ n w ne. v.flows.flow n b w u (λ e. ne (sym e));
        up = λ n t o w ne. up n t o w ne;
      }
    where
      up : (n : Ballot) (t : ℕ) → leader_of n ≡ b → t < z.depots → t ≢ b → FlowOf g (g.G n) (feeds_in n t (xs b)) n t (link b t ++ for_depot t (xs b).queue) (xs t) (xs b)
      up n t o w ne = subst (λ k. FlowOf g (g.G n) (feeds_in n t (xs k)) n t (chan xs link k t) (xs t) (xs k)) o (v.flows.flow n t (subst (λ k. k < z.depots) (sym o) u) w (λ e. ne (e ∙ o)))

  -- and after its step: the others, and what is under way between them, are as they were
  pub total_of : {b : ℕ} {h : Ghost ℕ} (x : Face) → Moved z b g h → Well z P b (scene_of b xs link) h x → Total z P h (put_face b x xs) link
  total_of {b} {h} x m w = record { base = base; flows = record { flow = λ n t u r ne. go n t u r ne (depot-eq (leader_of n) b) (depot-eq t b) } }
    where
      base : Base z P h (put_face b x xs) link
      base =
          record {
            core = m.core;
            only = w.only;
            node = face-each (λ c y. c < z.depots → NodeOk z P h c y) b x xs (λ u. w.node) (λ c ne u. node-up z m.ext c ne (xs c) (v.base.node c u));
            msgs = λ i j u.
                face-each (λ c y. c < z.depots → All (Ok z P h c j) (link c j ++ for_depot j y.queue)) b x xs (λ _. w.msgs j)
                (λ c ne r. oks-up z m.ext v.base.core P c j (v.base.msgs c j r)) i u;
          }

      go : (n : Ballot) (t : ℕ) → leader_of n < z.depots → t < z.depots → t ≢ leader_of n → (leader_of n ≡ b) ⊎ (leader_of n ≢ b) → (t ≡ b) ⊎ (t ≢ b)
          → FlowOf h (whole_now h n t) (fed_now (put_face b x xs) n t) n t (chan (put_face b x xs) link (leader_of n) t) (put_face b x xs t) (put_face b x xs (leader_of n))
      go n t u r ne (inl p) (inl q) = absurd (ne (q ∙ sym p))
      go n t u r ne (inl p) (inr q) = rw (p, face-here b x xs, face-other b x xs t q) (w.up n t p r q)
      go n t u r ne (inr p) (inl q) = rw (q, face-here b x xs, face-other b x xs (leader_of n) p) (w.down n u p)
      go n t u r ne (inr p) (inr q) =
          rw (face-other b x xs t q, face-other b x xs (leader_of n) p, (m.ext.rests n p).log, (m.ext.stays t q).A n) (v.flows.flow n t u r ne)
