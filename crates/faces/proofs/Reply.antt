-- A follower's reply: a new Accepted, remembered by its place, or the remembered one with a new index.
use Rattle.std.specs.Prelude.{Option, None, Some}
use Prim.Native.Nat.{ℕ, zero, suc, ◌+◌, ◌<◌}
use mathlib.Core.Path.{◌≡◌, refl, sym, ap, ◌∙◌, subst}
use mathlib.Core.Bool.{Bool, true, false, cond}
use mathlib.Core.List.{List, [], ◌∷◌}
use native.Mathlib.Omega.{arith}
use lib.ListN.{length, get_or, set}
use Rattle.ballot.specs.Ballot.{compare_of, is_same, same}
use Rattle.ballot.specs.declared.Ballot.{Ballot}
use Rattle.std.specs.declared.cmp.Ordering.{Ordering}
use Rattle.std.specs.declared.cmp.Ordering.TheVariants.{Less, Equal, Greater}
use Rattle.ballot.proofs.Laws.{same-eq}
use Rattle.messages.specs.declared.PaxosMsg.TheVariants as msg
use Rattle.paxos_box.specs.declared.SequencePaxos.{SequencePaxos}
use Rattle.paxos_box.specs.declared.InternalStorage.{InternalStorage}
use Rattle.paxos_box.specs.declared.AcceptedAt.{AcceptedAt}
use Rattle.paxos_box.specs.declared.Sent.TheVariants.{Raise}
use Rattle.paxos_box.specs.declared.Source.TheVariants as source
use Rattle.paxos_box.specs.Box.{is_leader, next_place, set_meta}
use Rattle.outgoing.specs.Queue.{Msg}
use Rattle.outgoing.specs.Perform.{raised, on_place, perform_one}
use Rattle.reconnect.specs.Reconnect.{reconnected_of}
use Rattle.accepting.specs.Accepting.{not_accepted, by_ballot, if_valid_ballot, send_accepted, of_ballot, latest_accepted, raise_accepted, reply_by, reply_accepted}
use Rattle.views.specs.View.{View}
use Rattle.agreement.specs.Core.{Sizes, Ghost}
use Rattle.travels.specs.Face.{with_queue, with_meta, push}
use Rattle.travels.specs.Facts.{Own, Reached, MetaOk, no_msg}
use Rattle.travels.specs.Near.{Scene, Next}
use Rattle.travels.proofs.Reply.{accepted_msg, replied-new, replied-edit}
use Rattle.faces.specs.Mid.{mid_face, Ready}
use Rattle.faces.proofs.Push.{face-push, face-new}

-- ---- the ballot is looked at first

pub equal_is : (a b : Ballot) → compare_of a b ≡ Equal → a ≡ b
unfolding same
equal_is a b e = same-eq a b (ap is_same e)

pub by-ballot : (Q : SequencePaxos → Type 0) (n : Ballot) (taken s : SequencePaxos) → (s.internal_storage.promise ≡ n → Q taken) → Q (not_accepted n s) → Q (reconnected_of n.pid s) → Q (if_valid_ballot n taken s)
by-ballot Q n taken s f p q = go (compare_of s.internal_storage.promise n) refl
  where
    go : (o : Ordering) → compare_of s.internal_storage.promise n ≡ o → Q (by_ballot o n taken s)
    go Equal e = f (equal_is s.internal_storage.promise n e)
    go Greater e = p
    go Less e = q

-- ---- what a depot holds it has reached
pub reached-own : {z : Sizes} {g : Ghost ℕ} {b k : ℕ} {n : Ballot} {st : InternalStorage} {log : List ℕ} → Own z g b st log → st.accepted_round ≡ n → st.accepted_idx ≡ k → Reached g b n k
reached-own {g = g} {b = b} o e f = record { has = omega (arith, o.length, o.holds.here, ap (g.A b) e) }

-- one place changed
pub place_set : (k : ℕ) (f : Msg → Msg) (q : List Msg) (d : Msg) → k < length q → on_place k f q ≡ set q k (f (get_or q k d))
unfolding on_place
place_set k f [] d h = absurd (omega arith)
place_set zero f (x ∷ q) d h = refl
place_set (suc k) f (x ∷ q) d h = ap (λ l. x ∷ l) (place_set k f q d (omega arith))

module _ (es : List ℕ) (v : View) {z : Sizes} {P : ℕ → Type 0} {b : ℕ} {c : Scene} {g : Ghost ℕ} where
  pub replies-new : {k : ℕ} (n : Ballot) (idx to : ℕ) (s : SequencePaxos) → Ready k es v s → k < 8 → to ≡ n.pid → (w : Next z P b c g (mid_face es v s)) → Reached w.ghost b n idx
      → Next z P b c g (mid_face es v (send_accepted n idx to s))
  unfolding send_accepted
  replies-new n idx to s r h e w o =
      subst (Next z P b c g) (sym is) (record { ghost = w.ghost; moved = w.moved; well = replied-new w.well o })
    where
      s' : SequencePaxos
      s' = set_meta (Some (record { n = n; at = next_place s })) s

      is : mid_face es v (send_accepted n idx to s) ≡ with_meta (Some (record { n = n; at = length (mid_face es v s).queue })) (push (accepted_msg n idx) (mid_face es v s))
      is =
          face-new es v to (msg.Accepted (record { n = n; accepted_idx = idx })) source.Nothing 0 s' (record { things = r.things; room = r.room; queue = r.queue }) h
          ∙ ap (λ j. push (record { to = j; msg = msg.Accepted (record { n = n; accepted_idx = idx }); entries = [] }) (mid_face es v s')) e
          ∙ ap (λ j. with_meta (Some (record { n = n; at = j })) (push (accepted_msg n idx) (mid_face es v s))) (sym r.queue)

  -- the remembered one gets the index
  raises : {k : ℕ} (t : ℕ) (n : Ballot) (idx at : ℕ) (s : SequencePaxos) → Ready k es v s → k < 8 → n.pid ≡ t + 1 → is_leader s.state.role ≡ false → s.latest_accepted_meta ≡ Some (record { n = n; at = at })
      → (w : Next z P b c g (mid_face es v s)) → Reached w.ghost b n idx → Next z P b c g (mid_face es v (raise_accepted n at idx s))
  unfolding perform_one
  raises t n idx at s r h e l is w o =
      subst (Next z P b c g) (sym (face-push es v (record { to = n.pid; what = Raise (record { at = at; accepted_idx = idx }); source = source.Nothing; count = 0 }) s r h ∙ ap (λ q. with_queue q (mid_face es v s)) edit))
      (record { ghost = w.ghost; moved = w.moved; well = replied-edit w.well o t e l is })
    where
      m : MetaOk (Some (record { n = n; at = at })) (mid_face es v s).queue
      m = subst (λ a. MetaOk a (mid_face es v s).queue) is w.well.node.meta

      edit : on_place at (raised idx) (mid_face es v s).queue ≡ set (mid_face es v s).queue at (accepted_msg n idx)
      edit = place_set at (raised idx) (mid_face es v s).queue no_msg m.there.below ∙ ap (λ a. set (mid_face es v s).queue at (raised idx a)) m.there.is

  pub replies : {k : ℕ} (t : ℕ) (n : Ballot) (idx : ℕ) (s : SequencePaxos) → Ready k es v s → k < 8 → n.pid ≡ t + 1 → is_leader s.state.role ≡ false → (w : Next z P b c g (mid_face es v s)) → Reached w.ghost b n idx
      → Next z P b c g (mid_face es v (reply_accepted n idx s))
  unfolding reply_accepted latest_accepted
  replies t n idx s r h e l w o = go s.latest_accepted_meta refl
    where
      new : Next z P b c g (mid_face es v (send_accepted n idx n.pid s))
      new = replies-new n idx n.pid s r h refl w o

      at : (x : AcceptedAt) → s.latest_accepted_meta ≡ Some x → (on sm : Bool) → same x.n n ≡ sm → Next z P b c g (mid_face es v (reply_by (cond on (cond sm (Some x) None) None) n idx s))
      at x is false sm q = new
      at x is true false q = new
      at x is true true q = raises t n idx x.at s r h e l (is ∙ ap (λ k. Some (record { n = k; at = x.at })) (same-eq x.n n q)) w o

      go : (m : Option AcceptedAt) → s.latest_accepted_meta ≡ m → Next z P b c g (mid_face es v (reply_by (of_ballot n s.plan.sight.accepted m) n idx s))
      go None is = new
      go (Some x) is = at x is s.plan.sight.accepted (same x.n n) refl
