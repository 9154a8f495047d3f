-- Every move keeps the invariant.
use Prim.Native.Nat.{ℕ, ◌+◌, ◌≤◌, ◌<◌}
use mathlib.Core.Path.{◌≡◌, refl, sym, ap, subst, ◌∙◌, fun_ext}
use mathlib.Core.Logic.{◌≢◌}
use mathlib.Core.Bool.{Bool, true, false, cond, ◌&&◌}
use mathlib.Core.List.{List, [], ◌∷◌, ◌++◌, append-nil}
use native.Mathlib.Omega.{arith}
use lib.Dec.{eqb}
use lib.ListN.{length}
use borrow.Author.Tests.{eqb-true, eqb-false, eq-eqb}
use Rattle.base.proofs.Tests.{not-both}
use Rattle.base.specs.Limits.{max_depots}
use Rattle.ballot.specs.declared.Ballot.{Ballot}
use Rattle.quorum.proofs.Laws.{Stands}
use Rattle.leader_state.specs.declared.Depot.{Depot}
use Rattle.leader_state.specs.State.{forget_all}
use Rattle.messages.specs.declared.Event.{Event}
use Rattle.messages.specs.declared.Event.TheVariants as event
use Rattle.outgoing.specs.Queue.{Msg, lent, queue_of}
use Rattle.paxos_box.specs.declared.SequencePaxos.{SequencePaxos}
use Rattle.sequence_paxos.specs.Decide.{taken}
use Rattle.step.specs.Step.{World, step_of}
use Rattle.views.specs.View.{View, view_of, new_log, new_buffered, cached_list, new_cached, new_best, new_queue, perform_view, sight_view, box_view, Counted}
use Rattle.views.proofs.Step.{Seen, taken-view, refused-view, counted_step, handed-view}
use Rattle.agreement.specs.Order.{Below, leader_of}
use Rattle.agreement.specs.Core.{Ghost}
use Rattle.agreement.specs.All.{All, cons, Sub, leave}
use Rattle.agreement.specs.Queue.{sel}
use Rattle.agreement.proofs.Growth.{ext_refl}
use Rattle.agreement.proofs.Report.{not-started}
use Rattle.agreement.proofs.All.{sub_refl}
use Rattle.travels.specs.Face.{Face, place, with_leader, takes_in, feeds_in}
use Rattle.travels.specs.Facts.{Ok}
use Rattle.travels.specs.Inv.{Links, chan, FlowOf, Total, put_face}
use Rattle.travels.specs.Near.{Well, Next}
use Rattle.travels.proofs.Commit.{face-here, scene_of, near_of, total_of}
use Rattle.travels.proofs.Reply.{t-restarted}
use Rattle.travels.proofs.Books.{leader-is}
use Rattle.travels.proofs.Cluster.{loses, proposes, none-takes, t-forgets, handed_to, emptied, empties}
use Rattle.faces.specs.Mid.{face_of, mid_face, Clean}
use Rattle.faces.proofs.Resend.{row_fresh, face-restarted, face-drained, forgets, forgot}
use Rattle.faces.proofs.Taken.{clean_of, took-message, took-proposal, took-leader, took-reconnect, took-resend}
use Rattle.runs.specs.Runs.{Setup, config_of, State, Move, deliver, lose, drain, propose, leader, reconnect, resend, restart, put_at, put_link, stepped, sent_to, handed, drained, without, arrives, lost, moved}
use Rattle.runs.specs.Runs as runs
use Rattle.safety.proofs.Good.{sizes_of, faces_of, Proposed, Good, among-left, all_new, sent_is, face-put, put_self, counted-put}
use Rattle.safety.proofs.Step.{Takes, good-step}

-- the events after which the queue is as it was, or longer
abbrev queued : Event → Bool
queued (event.Message m) = true
queued event.Propose = true
queued (event.Leader n) = true
queued (event.Reconnect pid) = true
queued event.Resend = true
queued event.Drain = false
queued event.Restart = false

face-mid : (e : Event) (es : List ℕ) (y : SequencePaxos) (v : View) → queued e ≡ true → face_of (perform_view e es y v) ≡ mid_face es v y
unfolding perform_view new_log new_buffered cached_list new_cached new_best new_queue
face-mid (event.Message m) es y v q = refl
face-mid event.Propose es y v q = refl
face-mid (event.Leader n) es y v q = refl
face-mid (event.Reconnect pid) es y v q = refl
face-mid event.Resend es y v q = refl
face-mid event.Drain es y v q = absurd (not-both q refl)
face-mid event.Restart es y v q = absurd (not-both q refl)

head_ok : {Q : Msg → Type 0} {m : Msg} {l : List Msg} → All Q (m ∷ l) → Q m
head_ok (cons p ps) = p

module _ (z : Setup) (s : Stands (config_of z 0)) where
  few : z.depots ≤ max_depots
  few = s.most

  -- ---- a link's first message goes
  first-gone : (i j : ℕ) (m : Msg) (q : List Msg) (link : Links) → link i j ≡ m ∷ q → (a b : ℕ) → Sub (put_link i j q link a b) (link a b)
  first-gone i j m q link e a b = go (eqb a i) (eqb b j) refl refl
    where
      go : (t u : Bool) → eqb a i ≡ t → eqb b j ≡ u → Sub (cond (t && u) q (link a b)) (link a b)
      go true true p r = subst (Sub q) (sym (ap (λ k. link k b) (eqb-true a i p) ∙ ap (link i) (eqb-true b j r) ∙ e)) (leave (sub_refl q))
      go true false p r = sub_refl (link a b)
      go false u p r = sub_refl (link a b)

  good-lost : (i j : ℕ) (m : Msg) (q : List Msg) (σ : State) → σ.link i j ≡ m ∷ q → Good z s σ → Good z s (without i j q σ)
  good-lost i j m q σ e o = record { ghost = o.ghost; total = loses (first-gone i j m q σ.link e) o.total; counted = o.counted }

  -- ---- it arrives
  good-arrives : (i j : ℕ) (m : Msg) (q : List Msg) (σ : State) → σ.link i j ≡ m ∷ q → Good z s σ → Good z s (stepped z j (event.Message (record { from = i + 1; msg = m.msg })) m.entries (without i j q σ))
  unfolding good-lost
  good-arrives i j m q σ e o = good-step z s j ev m.entries σ.depot link' σ.proposed (good-lost i j m q σ e o) took
    where
      ev : Event
      ev = event.Message (record { from = i + 1; msg = m.msg })

      link' : Links
      link' = put_link i j q σ.link

      xs : ℕ → Face
      xs = faces_of σ.depot

      here : chan xs σ.link i j ≡ m ∷ chan xs link' i j
      here = rw (e, eq-eqb i i refl, eq-eqb j j refl)

      -- the flow that it heads
      front : (n : Ballot) → leader_of n ≡ i → j < z.depots → i < z.depots → i ≢ j
          → FlowOf o.ghost (o.ghost.G n) (feeds_in n j (xs (leader_of n))) n j (m ∷ chan xs link' (leader_of n) j) (xs j) (xs (leader_of n))
      front n q lj li ne =
          subst (λ k. FlowOf o.ghost (o.ghost.G n) (feeds_in n j (xs (leader_of n))) n j k (xs j) (xs (leader_of n)))
          (subst (λ k. chan xs σ.link k j ≡ m ∷ chan xs link' k j) (sym q) here)
          (o.total.flows.flow n j (subst (λ k. k < z.depots) (sym q) li) lj (λ r. ne (sym (r ∙ q))))

      took : Takes z s j ev m.entries σ.depot link' σ.proposed o.ghost
      took _ t k lj a =
          subst (Next (sizes_of z s) (Proposed σ.proposed) j (scene_of j xs link') o.ghost) (sym (face-mid ev m.entries (taken ev (length m.entries) (box_view (config_of z j) ev m.entries (view_of (σ.depot j)))) (view_of (σ.depot j)) refl))
          (took-message z.quorum ev m.entries (view_of (σ.depot j)) k few lj refl refl (near_of t j lj) i a.fit.event.0 m.to m.msg a.fit.event.1 (head_ok (subst (All (Ok (sizes_of z s) (Proposed σ.proposed) o.ghost i j)) here (o.total.base.msgs i j (li a))))
          (λ n q. front n q lj (li a) (λ r. a.fit.event.0.other (ap (λ k. k + 1) r))) (clean_of _ a.passes))
        where
          li : Seen (config_of z j) ev m.entries (σ.depot j) (taken ev (length m.entries) (box_view (config_of z j) ev m.entries (view_of (σ.depot j)))) (step_of (config_of z j) ev m.entries (σ.depot j)) → i < z.depots
          li a = omega (arith, a.fit.event.0.depot.1)

  -- ---- events of one depot
  module _ (i : ℕ) (e : Event) (entries : List ℕ) where
    -- a step as the protocol's events show it
    shown : (σ : State) (g : Ghost ℕ) → queued e ≡ true
        → (Total (sizes_of z s) (Proposed σ.proposed) g (faces_of σ.depot) σ.link → Counted (view_of (σ.depot i)) → i < z.depots → Clean (taken e (length entries) (box_view (config_of z i) e entries (view_of (σ.depot i))))
        → Next (sizes_of z s) (Proposed σ.proposed) i (scene_of i (faces_of σ.depot) σ.link) g (mid_face entries (view_of (σ.depot i)) (taken e (length entries) (box_view (config_of z i) e entries (view_of (σ.depot i))))))
        → Takes z s i e entries σ.depot σ.link σ.proposed g
    shown σ g q f _ t k l a =
        subst (Next (sizes_of z s) (Proposed σ.proposed) i (scene_of i (faces_of σ.depot) σ.link) g) (sym (face-mid e entries (taken e (length entries) (box_view (config_of z i) e entries (view_of (σ.depot i)))) (view_of (σ.depot i)) q)) (f t k l (clean_of _ a.passes))

  good-leader : (i : ℕ) (n : Ballot) (σ : State) → Good z s σ → Good z s (stepped z i (event.Leader n) [] σ)
  good-leader i n σ o = good-step z s i (event.Leader n) [] σ.depot σ.link σ.proposed o (shown i (event.Leader n) [] σ o.ghost refl (λ t k l _. took-leader z.quorum (event.Leader n) [] (view_of (σ.depot i)) k few l refl refl (near_of t i l) n (idle t l)))
    where
      -- nobody follows a ballot above its depot's promise
      idle : Total (sizes_of z s) (Proposed σ.proposed) o.ghost (faces_of σ.depot) σ.link → i < z.depots → (t : ℕ) → Below (faces_of σ.depot i).storage.promise n → n.pid ≡ i + 1 → t < z.depots → t ≢ i → takes_in n (faces_of σ.depot t) ≡ false
      idle v l t b p u ne = none-takes v n (not-started v.base.core (subst (λ k. Below (o.ghost.promise k) n) (sym (leader-is n p)) (subst (λ k. Below k n) (sym (v.base.node i l).own.holds.promise) b))) b t u

  good-reconnect : (i pid : ℕ) (σ : State) → Good z s σ → Good z s (stepped z i (event.Reconnect pid) [] σ)
  good-reconnect i pid σ o = good-step z s i (event.Reconnect pid) [] σ.depot σ.link σ.proposed o (shown i (event.Reconnect pid) [] σ o.ghost refl (λ t k l _. took-reconnect z.quorum (event.Reconnect pid) [] (view_of (σ.depot i)) k few l refl refl (near_of t i l) pid))

  good-resend : (i : ℕ) (σ : State) → Good z s σ → Good z s (stepped z i event.Resend [] σ)
  good-resend i σ o = good-step z s i event.Resend [] σ.depot σ.link σ.proposed o (shown i event.Resend [] σ o.ghost refl (λ t k l _. took-resend z.quorum event.Resend [] (view_of (σ.depot i)) k few l refl refl (near_of t i l)))

  good-restart : (i : ℕ) (σ : State) → Good z s σ → Good z s (stepped z i event.Restart [] σ)
  unfolding box_view
  good-restart i σ o = good-step z s i event.Restart [] σ.depot σ.link σ.proposed o took
    where
      took : Takes z s i event.Restart [] σ.depot σ.link σ.proposed o.ghost
      took _ t k l a =
          subst (Next (sizes_of z s) (Proposed σ.proposed) i (scene_of i (faces_of σ.depot) σ.link) o.ghost) (sym (face-restarted (config_of z i) _ (sight_view (config_of z i) event.Restart [] (view_of (σ.depot i))) (view_of (σ.depot i))))
          (t-restarted _ (row_fresh z.depots (faces_of σ.depot i).leader (t.base.node i l).row) (near_of t i l))

  -- ---- a proposal
  good-proposed : (i : ℕ) (entries : List ℕ) (σ : State) → Good z s σ → (step_of (config_of z i) event.Propose entries (σ.depot i)).answer.no ≡ 0
      → Good z s (record { depot = put_at i (step_of (config_of z i) event.Propose entries (σ.depot i)).after σ.depot; link = σ.link; proposed = σ.proposed ++ entries })
  good-proposed i entries σ o e =
      good-step z s i event.Propose entries σ.depot σ.link (σ.proposed ++ entries) (record { ghost = o.ghost; total = proposes (sizes_of z s) (λ x p. among-left entries p) o.total; counted = o.counted })
      (shown i event.Propose entries (record { depot = σ.depot; link = σ.link; proposed = σ.proposed ++ entries }) o.ghost refl (λ t k l c. took-proposal z.quorum event.Propose entries (view_of (σ.depot i)) k few l refl refl (near_of t i l) (all_new σ.proposed entries) c))

  good-proposes : (i : ℕ) (entries : List ℕ) (σ : State) → Good z s σ → Good z s (runs.proposes z i entries σ)
  good-proposes i entries σ o = go (eqb (step_of (config_of z i) event.Propose entries (σ.depot i)).answer.no 0) refl
    where
      w : World
      w = (step_of (config_of z i) event.Propose entries (σ.depot i)).after

      go : (t : Bool) → eqb (step_of (config_of z i) event.Propose entries (σ.depot i)).answer.no 0 ≡ t → Good z s (record { depot = put_at i w σ.depot; link = σ.link; proposed = cond t (σ.proposed ++ entries) σ.proposed })
      go true q = good-proposed i entries σ o (eqb-true _ 0 q)
      go false q = good-step z s i event.Propose entries σ.depot σ.link σ.proposed o (λ r t k l a. absurd (eqb-false _ 0 q r))

  -- ---- a drain: the queue is handed to the links
  module _ (i : ℕ) (σ : State) (o : Good z s σ) where
    abbrev w : World
    w = (step_of (config_of z i) event.Drain [] (σ.depot i)).after

    abbrev out : ℕ
    out = (step_of (config_of z i) event.Drain [] (σ.depot i)).answer.handed_out

    abbrev link' : Links
    link' a b = cond (eqb a i) (σ.link a b ++ sent_to b (queue_of out (lent (σ.depot i).row (σ.depot i).lists.store))) (σ.link a b)

    -- what is handed out
    links : (q : List Msg) → queue_of out (lent (σ.depot i).row (σ.depot i).lists.store) ≡ q → link' ≡ handed_to i q σ.link
    links q e = fun_ext (λ a. fun_ext (λ b. ap (λ k. cond (eqb a i) (σ.link a b ++ k) (σ.link a b)) (ap (sent_to b) e ∙ sent_is b q)))

    none-handed : handed_to i [] σ.link ≡ σ.link
    unfolding sel
    none-handed = fun_ext (λ a. fun_ext (λ b. go a b (eqb a i)))
      where
        go : (a b : ℕ) (t : Bool) → cond t (σ.link a b ++ []) (σ.link a b) ≡ σ.link a b
        go a b true = append-nil (σ.link a b)
        go a b false = refl

    drained-refused : ((step_of (config_of z i) event.Drain [] (σ.depot i)).answer.no ≡ 0 → ⊥) → Total (sizes_of z s) (Proposed σ.proposed) o.ghost (faces_of (put_at i w σ.depot)) link'
    unfolding queue_of
    drained-refused q =
        let a = refused-view (config_of z i) event.Drain [] (σ.depot i) q in
        subst (λ (k : Links). Total (sizes_of z s) (Proposed σ.proposed) o.ghost (faces_of (put_at i w σ.depot)) k) (sym (links [] (ap (λ k. queue_of k (lent (σ.depot i).row (σ.depot i).lists.store)) a.handed) ∙ none-handed))
        (subst (λ (xs : ℕ → Face). Total (sizes_of z s) (Proposed σ.proposed) o.ghost xs σ.link) (sym (ap (λ (k : World). faces_of (put_at i k σ.depot)) a.after ∙ put_self i σ.depot)) o.total)

    abbrev xs : ℕ → Face
    xs = faces_of σ.depot

    abbrev x₁ : Face
    x₁ = with_leader (forget_all z.depots (xs i).leader) (xs i)

    twice : (y : Face) → put_face i y (put_face i x₁ xs) ≡ put_face i y xs
    twice y = fun_ext (λ k. go (eqb k i) k)
      where
        go : (t : Bool) (k : ℕ) → cond t y (cond t x₁ (xs k)) ≡ cond t y (xs k)
        go true k = refl
        go false k = refl

    handed-over : i < z.depots → Total (sizes_of z s) (Proposed σ.proposed) o.ghost (put_face i (emptied x₁) xs) (handed_to i (xs i).queue σ.link)
    handed-over l = subst (λ (ys : ℕ → Face). Total (sizes_of z s) (Proposed σ.proposed) o.ghost ys (handed_to i (xs i).queue σ.link)) (twice (emptied x₁)) t₃
      where
        near : Well (sizes_of z s) (Proposed σ.proposed) i (scene_of i xs σ.link) o.ghost (xs i)
        near = near_of o.total i l

        t₁ : Total (sizes_of z s) (Proposed σ.proposed) o.ghost (put_face i x₁ xs) σ.link
        t₁ =
            total_of o.total x₁ (record { ext = ext_refl i o.ghost; core = o.total.base.core })
            (t-forgets (forget_all z.depots (xs i).leader) (forgets (sizes_of z s) (xs i).leader near.node.row) (λ t u. ap (λ (d : Depot). d.promise) (forgot z.depots t (xs i).leader u)) (λ t u. ap (λ (d : Depot). d.accepted_idx) (forgot z.depots t (xs i).leader u)) near)

        t₂ : Total (sizes_of z s) (Proposed σ.proposed) o.ghost (put_face i (emptied (put_face i x₁ xs i)) (put_face i x₁ xs)) (handed_to i (put_face i x₁ xs i).queue σ.link)
        t₂ = empties t₁ i (λ t u. ap (λ (x : Face). (place t x.leader).latest) (face-here i x₁ xs) ∙ ap (λ (d : Depot). d.latest) (forgot z.depots t (xs i).leader u))

        t₃ : Total (sizes_of z s) (Proposed σ.proposed) o.ghost (put_face i (emptied x₁) (put_face i x₁ xs)) (handed_to i (xs i).queue σ.link)
        t₃ = subst (λ (x : Face). Total (sizes_of z s) (Proposed σ.proposed) o.ghost (put_face i (emptied x) (put_face i x₁ xs)) (handed_to i x.queue σ.link)) (face-here i x₁ xs) t₂

    drained-taken : (step_of (config_of z i) event.Drain [] (σ.depot i)).answer.no ≡ 0 → Total (sizes_of z s) (Proposed σ.proposed) o.ghost (faces_of (put_at i w σ.depot)) link'
    unfolding box_view
    drained-taken q =
        let a = taken-view (config_of z i) event.Drain [] (σ.depot i) (o.counted i) q in
        subst (λ (k : Links). Total (sizes_of z s) (Proposed σ.proposed) o.ghost (faces_of (put_at i w σ.depot)) k) (sym (links (xs i).queue (ap (λ k. queue_of k (lent (σ.depot i).row (σ.depot i).lists.store)) a.handed ∙ handed-view (σ.depot i))))
        (subst (λ (ys : ℕ → Face). Total (sizes_of z s) (Proposed σ.proposed) o.ghost ys (handed_to i (xs i).queue σ.link))
        (sym (face-put i w σ.depot ∙ ap (λ (v : View). put_face i (face_of v) xs) a.view ∙ ap (λ (x : Face). put_face i x xs) (face-drained (config_of z i) _ (sight_view (config_of z i) event.Drain [] (view_of (σ.depot i))) (view_of (σ.depot i)) (o.counted i))))
        (handed-over (omega (arith, a.fit.stands.own.1))))

    good-drained : Good z s (drained z i σ)
    good-drained =
        record {
          ghost = o.ghost;
          total = go (eqb (step_of (config_of z i) event.Drain [] (σ.depot i)).answer.no 0) refl;
          counted = counted-put i w σ.depot (counted_step (config_of z i) event.Drain [] (σ.depot i) (o.counted i)) o.counted;
        }
      where
        go : (t : Bool) → eqb (step_of (config_of z i) event.Drain [] (σ.depot i)).answer.no 0 ≡ t → Total (sizes_of z s) (Proposed σ.proposed) o.ghost (faces_of (put_at i w σ.depot)) link'
        go true q = drained-taken (eqb-true _ 0 q)
        go false q = drained-refused (eqb-false _ 0 q)

  -- ---- every move
  good-delivered : (i j : ℕ) (q : List Msg) (σ : State) → σ.link i j ≡ q → Good z s σ → Good z s (arrives z i j q σ)
  good-delivered i j [] σ e o = o
  good-delivered i j (m ∷ q) σ e o = good-arrives i j m q σ e o

  good-gone : (i j : ℕ) (q : List Msg) (σ : State) → σ.link i j ≡ q → Good z s σ → Good z s (lost i j q σ)
  good-gone i j [] σ e o = o
  good-gone i j (m ∷ q) σ e o = good-lost i j m q σ e o

  pub good-moved : (m : Move) (σ : State) → Good z s σ → Good z s (moved z m σ)
  unfolding moved
  good-moved (deliver i j) σ o = good-delivered i j (σ.link i j) σ refl o
  good-moved (lose i j) σ o = good-gone i j (σ.link i j) σ refl o
  good-moved (drain i) σ o = good-drained i σ o
  good-moved (propose i entries) σ o = good-proposes i entries σ o
  good-moved (leader i n) σ o = good-leader i n σ o
  good-moved (reconnect i pid) σ o = good-reconnect i pid σ o
  good-moved (resend i) σ o = good-resend i σ o
  good-moved (restart i) σ o = good-restart i σ o
