-- One thing more in the plan: what it does to the face. And the face of the box as it is found.
use Rattle.std.specs.Prelude.{Option, None, Some}
use Prim.Native.Nat.{ℕ, ◌+◌, ◌<◌}
use mathlib.Core.Path.{◌≡◌, refl, ap, ◌∙◌}
use mathlib.Core.Bool.{Bool, true, false, cond}
use mathlib.Core.List.{List, [], ◌∷◌, ◌++◌, append-nil}
use native.Mathlib.Omega.{arith}
use lib.Dec.{ltb}
use lib.ListN.{length, take, length-set}
use lib.Seq.{take_all}
use borrow.Author.Tests.{lt-ltb}
use Rattle.leader_state.specs.declared.LogSync.{LogSync}
use Rattle.quorum.specs.declared.Configuration.{Configuration}
use Rattle.messages.specs.declared.PaxosMsg.{PaxosMsg}
use Rattle.paxos_box.specs.declared.SequencePaxos.{SequencePaxos}
use Rattle.paxos_box.specs.declared.Plan.{Plan}
use Rattle.paxos_box.specs.declared.Sight.{Sight}
use Rattle.record.specs.Record.{load_of}
use Rattle.paxos_box.specs.declared.Send.{Send}
use Rattle.paxos_box.specs.declared.Source.{Source}
use Rattle.paxos_box.specs.Box.{with_plan, is_new, sending, planned, push_of, next_place}
use Rattle.paxos_box.proofs.Rooms.{items_more}
use Rattle.sends.specs.Sends.{send_new}
use Rattle.follower.specs.Follower.{count_of}
use Rattle.broken.specs.Broken.{cached_sync, best_sync}
use Rattle.outgoing.specs.Queue.{Msg}
use Rattle.outgoing.proofs.Steps.{step-longer}
use Rattle.outgoing.specs.Perform.{Sources, source_of, perform_one, perform_all, items_of}
use Rattle.views.specs.View.{View, held_entries, Counted}
use Rattle.travels.specs.Face.{Face, with_queue, push}
use Rattle.faces.specs.Mid.{face_of, mid_sources, mid_face, Clean, Ready}

-- the plan with one thing more
abbrev pub plan_on : Send → Plan → Plan
plan_on m p = record { sends = sending m p.sends; writes = p.writes; unfit = p.unfit; top = p.top; sight = p.sight }

planned-is : (m : Send) (p : Plan) → p.sends.count < 8 → planned m p ≡ plan_on m p
unfolding planned
planned-is m p h = rw (lt-ltb p.sends.count 8 h)

pub push-is : (m : Send) (s : SequencePaxos) → s.plan.sends.count < 8 → push_of m s ≡ with_plan (plan_on m s.plan) s
unfolding push_of
push-is m s h = ap (λ (p : Plan). with_plan p s) (planned-is m s.plan h)

pub clean-push : (m : Send) (s : SequencePaxos) → Clean (push_of m s) → Clean s
unfolding push_of planned
clean-push m s = go (ltb s.plan.sends.count 8)
  where
    go : (t : Bool) → Clean (with_plan (cond t (plan_on m s.plan) s.plan) s) → Clean s
    go true q = record { fit = q.fit; low = q.low }
    go false q = record { fit = q.fit; low = q.low }

perform-end : (f : Sources) (ms : List Send) (m : Send) (q : List Msg) → perform_all f (ms ++ (m ∷ [])) q ≡ perform_one f m (perform_all f ms q)
unfolding perform_all
perform-end f [] m q = refl
perform-end f (x ∷ ms) m q = perform-end f ms m (perform_one f x q)

-- a queue after one thing more: a new message, or as many as before
module _ (es : List ℕ) (v : View) where
  pub face-push : {k : ℕ} (m : Send) (s : SequencePaxos) → Ready k es v s → k < 8 → mid_face es v (push_of m s) ≡ with_queue (perform_one (mid_sources es v s.plan.writes) m (mid_face es v s).queue) (mid_face es v s)
  face-push m s r h =
      ap (mid_face es v) (push-is m s (omega (arith, r.things)))
      ∙ ap (λ q. with_queue q (mid_face es v s))
      (ap (λ l. perform_all (mid_sources es v s.plan.writes) l v.queue) (items_more s.plan.sends m (omega (arith, r.things, r.room))) ∙ perform-end (mid_sources es v s.plan.writes) (items_of s.plan.sends) m v.queue)

  pub ready-push : {k : ℕ} (m : Send) (s : SequencePaxos) → Ready k es v s → k < 8 → Ready (k + 1) es v (push_of m s)
  ready-push {k} m s r h =
      record {
        things = rw (push-is m s (omega (arith, r.things))) (omega (arith, r.things));
        room = rw (push-is m s (omega (arith, r.things))) (length-set s.plan.sends.items s.plan.sends.count m ∙ r.room);
        queue = ap (λ (x : Face). length x.queue) (face-push m s r h) ∙ step-longer (mid_sources es v s.plan.writes) m (mid_face es v s).queue ∙ count;
      }
    where
      count : length (mid_face es v s).queue + is_new m.what ≡ next_place (push_of m s)
      count = rw (push-is m s (omega (arith, r.things))) (omega (arith, r.queue))

  -- a new message
  abbrev pub new_msg : ℕ → PaxosMsg → Source → ℕ → SequencePaxos → Msg
  new_msg to m src count s = record { to = to; msg = m; entries = take count (source_of src (mid_sources es v s.plan.writes)) }

  pub face-new : {k : ℕ} (to : ℕ) (m : PaxosMsg) (src : Source) (count : ℕ) (s : SequencePaxos) → Ready k es v s → k < 8
      → mid_face es v (send_new to m src count s) ≡ push (new_msg to m src count s) (mid_face es v s)
  unfolding perform_one
  face-new to m src count s r h = face-push _ s r h

-- ---- the box as it is found

pub held_all : (x : Option LogSync) (l : List ℕ) → length l ≡ count_of x → held_entries x l ≡ l
held_all None l e = none l e
  where
    none : (l : List ℕ) → length l ≡ 0 → [] ≡ l
    none [] e = refl
    none (y ∷ l) e = absurd (omega arith)
held_all (Some x) l e = take_all x.len l (omega arith)

module _ (conf : Configuration) (n : ℕ) (sight : Sight) (es : List ℕ) (v : View) (k : Counted v) where
  pub found-ready : Ready 0 es v (load_of conf n sight v.node)
  unfolding perform_all
  found-ready = record { things = omega arith; room = refl; queue = k.queue ∙ omega arith }

  pub face-found : mid_face es v (load_of conf n sight v.node) ≡ face_of v
  unfolding perform_all
  face-found =
      rw (append-nil v.log, take_all v.node.buffered_proposals.len v.buffered (omega (arith, k.buffered)), held_all (cached_sync v.node) v.cached k.cached, held_all (best_sync v.node) v.best k.best)
