-- Entries that the log has gained, or a decided index, to each promised follower: in a message of their own, or in the one that is remembered.
use Rattle.std.specs.Prelude.{Option, None, Some}
use Prim.Native.Nat.{ℕ, suc, ◌+◌, ◌-◌, ◌≤◌, ◌<◌}
use mathlib.Core.Path.{◌≡◌, refl, sym, ap, ◌∙◌, subst}
use mathlib.Core.Logic.{◌⊎◌, ◌≢◌}
use mathlib.Core.Bool.{Bool, true, false}
use mathlib.Core.List.{List, [], ◌∷◌, ◌++◌}
use native.Mathlib.Omega.{arith}
use native.Mathlib.Numerals.{add-one}
use lib.ListN.{get_or, take, drop, set}
use Rattle.base.proofs.Tests.{not-both}
use Rattle.base.specs.Limits.{max_depots}
use Rattle.ballot.specs.declared.Ballot.{Ballot}
use Rattle.ballot.proofs.Laws.{same_refl as same_self}
use Rattle.sequence.specs.declared.SequenceNumber.{SequenceNumber}
use Rattle.leader_state.specs.declared.Depot.{Depot}
use Rattle.leader_state.specs.declared.LeaderState.{LeaderState}
use Rattle.leader_state.specs.declared.MaxPromise.{MaxPromise}
use Rattle.leader_state.specs.State.{fresh, with_depot, set_latest, next_counter}
use Rattle.leader_state.specs.Promises.{is_promised}
use Rattle.messages.specs.declared.PaxosMsg.{PaxosMsg}
use Rattle.messages.specs.declared.PaxosMsg.TheVariants as msg
use Rattle.paxos_box.specs.declared.SequencePaxos.{SequencePaxos}
use Rattle.paxos_box.specs.declared.State.{State}
use Rattle.paxos_box.specs.declared.Send.{Send}
use Rattle.paxos_box.specs.declared.Sent.TheVariants.{Join}
use Rattle.paxos_box.specs.declared.Source.{Source}
use Rattle.paxos_box.specs.declared.Source.TheVariants as source
use Rattle.paxos_box.specs.declared.Role.TheVariants.{Leader}
use Rattle.paxos_box.specs.declared.Phase.TheVariants as phase
use Rattle.paxos_box.specs.Box.{with_leader as withLeaderBox, push_of, next_place, is_leader, is_accept_phase}
use Rattle.sends.specs.Sends.{on_depot, set_latest_of, next_seq_num_of, send_new, stands, latest_accdec, join_to, push_accept_decide, new_accept_decide, accept_decide_by, accept_decide_to, push_decide, decide_by, decide_to}
use Rattle.outgoing.specs.Perform.{joined, on_place, perform_one}
use Rattle.views.specs.View.{View, held_entries, best_to}
use Rattle.agreement.specs.Core.{Sizes, Ghost}
use Rattle.agreement.specs.Stream.{plain, adds}
use Rattle.agreement.proofs.Queue.{there-new}
use Rattle.travels.specs.Face.{place, item, feeds_by, with_leader, with_best, with_queue, push}
use Rattle.travels.specs.Facts.{Ok, Leading, Remembers, Standing, no_msg}
use Rattle.travels.specs.Near.{Scene, Near}
use Rattle.travels.proofs.Queues.{to_of}
use Rattle.travels.proofs.Books.{leads-now, refed}
use Rattle.travels.proofs.Elect.{leads-in, not-of, no-latest}
use Rattle.travels.proofs.Note.{feeds-less-to}
use Rattle.travels.proofs.Open.{Puts, puts-part}
use Rattle.travels.proofs.Feed.{joining, led-now, t-adds, t-joins}
use Rattle.faces.specs.Mid.{mid_log, mid_face, Clean, Ready}
use Rattle.faces.proofs.Push.{new_msg, face-push, face-new, ready-push, clean-push}
use Rattle.faces.proofs.Reply.{place_set}
use Rattle.faces.proofs.Places.{pid-place, puts_of, puts_then, puts-is}
use Rattle.faces.proofs.Each.{Stays, stays_then, stays_on, stays-push, counter-clean}

feeds-now : (n : Ballot) (t : ℕ) (s : State) (l : LeaderState) → s ≡ record { role = Leader; phase = phase.Accept } → l.n_leader ≡ n → is_promised (place t l).promise ≡ true → feeds_by n t s l ≡ true
unfolding feeds_by
feeds-now n t s l e p q = rw (leads-now n s l (ap (λ (k : State). is_leader k.role) e) p, ap (λ (k : State). is_accept_phase k.phase) e, q)

-- one of them has been told
pub record Told (es : List ℕ) (v : View) (z : Sizes) (P : ℕ → Type 0) (b : ℕ) (c : Scene) (g : Ghost ℕ) (t k : ℕ) (whole : Ballot → ℕ → List ℕ) (s s' : SequencePaxos) : Type 0 where
  pub ready : Ready k es v s'
  pub stays : Stays s s'
  pub near : Near z P b c g whole (λ m u. feeds_by m u s'.state s'.leader_state) (mid_face es v s')
  pub latest : (u : ℕ) → u ≢ t → (place u s'.leader_state).latest ≡ (place u s.leader_state).latest

at-is : {i j : ℕ} {l : Option ℕ} → l ≡ Some i → l ≡ Some j → i ≡ j
at-is p q = cc

module _ (es : List ℕ) (v : View) {z : Sizes} {P : ℕ → Type 0} {b : ℕ} {c : Scene} {g : Ghost ℕ} (few : z.depots ≤ max_depots) {whole : Ballot → ℕ → List ℕ} {k : ℕ} (h : k < 8) (s : SequencePaxos)
    (st : s.state ≡ record { role = Leader; phase = phase.Accept }) (r : Ready k es v s) (w : Near z P b c g whole (λ m u. feeds_by m u s.state s.leader_state) (mid_face es v s))
    (t : ℕ) (lt : t < z.depots) (pr : is_promised (place t s.leader_state).promise ≡ true) (whole' : Ballot → ℕ → List ℕ) (xs : List ℕ)
    (was : whole s.internal_storage.promise t ++ xs ≡ g.G s.internal_storage.promise) (now : whole' s.internal_storage.promise t ≡ g.G s.internal_storage.promise)
    (else : (n : Ballot) (u : ℕ) → (n ≢ s.internal_storage.promise) ⊎ (u ≢ t) → whole' n u ≡ whole n u) where
  lead : Leading z g b s.internal_storage (mid_face es v s).log s.leader_state
  lead = leads-in w.node st

  fd : feeds_by s.internal_storage.promise t s.state s.leader_state ≡ true
  fd = feeds-now s.internal_storage.promise t s.state s.leader_state st lead.now pr

  -- ---- a message of its own

  -- the place of t is changed to d, and the message is sent
  news : (d : Depot) (l : LeaderState) → Puts t d s.leader_state l → d.promise ≡ (place t s.leader_state).promise → d.accepted_idx ≡ (place t s.leader_state).accepted_idx
      → d.seq_num.session ≡ (place t s.leader_state).seq_num.session → d.seq_num.counter ≡ suc (place t s.leader_state).seq_num.counter
      → (m : PaxosMsg) (src : Source) (count : ℕ) → Ok z P g b t (new_msg es v (t + 1) m src count s) → item s.internal_storage.promise (new_msg es v (t + 1) m src count s) ≡ adds d.seq_num.session d.seq_num.counter xs
      → ((j : Ballot) → j ≢ s.internal_storage.promise → item j (new_msg es v (t + 1) m src count s) ≡ plain)
      → Remembers s.leader_state.n_leader t d ((mid_face es v s).queue ++ (new_msg es v (t + 1) m src count s ∷ []))
      → Told es v z P b c g t (suc k) whole' s (send_new (t + 1) m src count (withLeaderBox l s))
  unfolding push_of
  news d l p ep ea e1 e2 m src count ok im ik rm =
      record {
        ready = subst (λ j. Ready j es v (send_new (t + 1) m src count (withLeaderBox l s))) (add-one k) (ready-push es v _ (withLeaderBox l s) y-ready h);
        stays = stays_then (stays_on l s p ep) (stays-push _ (withLeaderBox l s) y-ready h);
        near = subst (Near z P b c g whole' (λ n u. feeds_by n u s.state l)) (sym is)
            (refed (t-adds w st t lt fd whole' xs was now else (new_msg es v (t + 1) m src count s) refl ok im ik ep ea e1 e2 rm p) (λ n u. feeds_by n u s.state l)
            (λ n u _ _ _ e. feeds-less-to n u s.state s.leader_state l p.ballot (λ q. sym (ap is_promised (puts-part (λ (d : Depot). d.promise) p ep u)) ∙ q) e));
        latest = λ u ne. ap (λ (d : Depot). d.latest) (p.else u ne);
      }
    where
      y-ready : Ready k es v (withLeaderBox l s)
      y-ready = record { things = r.things; room = r.room; queue = r.queue }

      is : mid_face es v (send_new (t + 1) m src count (withLeaderBox l s)) ≡ push (new_msg es v (t + 1) m src count s) (with_leader l (mid_face es v s))
      is = face-new es v (t + 1) m src count (withLeaderBox l s) y-ready h ∙ ap (λ (x : MaxPromise). push (new_msg es v (t + 1) m src count s) (with_best (held_entries x.sync (best_to s.plan.writes.best es v.best)) (with_leader l (mid_face es v s)))) p.best

  -- entries
  new-entries : (from count : ℕ) → take count (drop from (mid_log es v s.plan.writes)) ≡ xs → Clean (new_accept_decide from count (t + 1) s) → Told es v z P b c g t (suc k) whole' s (new_accept_decide from count (t + 1) s) × Clean s
  unfolding new_accept_decide push_accept_decide
  new-entries from count ex q = (subst (Told es v z P b c g t (suc k) whole' s) (sym is) told, clean)
    where
      l₁ : LeaderState
      l₁ = with_depot (t + 1) (set_latest (Some (next_place s))) s.leader_state

      y : SequencePaxos
      y = set_latest_of (t + 1) (Some (next_place s)) s

      q₁ : Clean (next_seq_num_of (t + 1) y)
      q₁ = clean-push _ (next_seq_num_of (t + 1) y) q

      e₁ : next_seq_num_of (t + 1) y ≡ on_depot (t + 1) next_counter y
      e₁ = counter-clean (t + 1) y q₁

      clean : Clean s
      clean = let a : Clean (on_depot (t + 1) next_counter y) = subst Clean e₁ q₁ in record { fit = a.fit; low = a.low }

      l : LeaderState
      l = with_depot (t + 1) next_counter l₁

      d : Depot
      d = next_counter (set_latest (Some (next_place s)) (place t s.leader_state))

      p : Puts t d s.leader_state l
      p =
          let a : Puts t (set_latest (Some (next_place s)) (place t s.leader_state)) s.leader_state l₁ = puts_of t s.leader_state w.node.row (omega arith) (set_latest (Some (next_place s))) in
          puts_then a (puts-is (ap next_counter a.here) (puts_of t l₁ a.row (omega arith) next_counter))

      m : PaxosMsg
      m = msg.AcceptDecide (record { n = s.leader_state.n_leader; seq_num = d.seq_num; decided_idx = s.internal_storage.decided_idx })

      is : new_accept_decide from count (t + 1) s ≡ send_new (t + 1) m (source.Log from) count (withLeaderBox l s)
      is =
          ap (λ (a : SequencePaxos). push_accept_decide from count (t + 1) a) e₁
          ∙ ap (λ (a : SequenceNumber). send_new (t + 1) (msg.AcceptDecide (record { n = s.leader_state.n_leader; seq_num = a; decided_idx = s.internal_storage.decided_idx })) (source.Log from) count (withLeaderBox l s))
          (ap (λ (d : Depot). d.seq_num) (pid-place t l ∙ p.here))

      told : Told es v z P b c g t (suc k) whole' s (send_new (t + 1) m (source.Log from) count (withLeaderBox l s))
      told =
          news d l p refl refl refl (add-one (place t s.leader_state).seq_num.counter) m (source.Log from) count (led-now w st t lt fd whole' xs was now else) (rw (lead.now, same_self s.internal_storage.promise, ex))
          (λ j ne. not-of _ (λ a. ne (sym a ∙ lead.now)))
          (record {
            stands = λ at a. subst (λ i. Standing s.leader_state.n_leader t d i ((mid_face es v s).queue ++ (new_msg es v (t + 1) m (source.Log from) count s ∷ []))) (r.queue ∙ at-is refl a)
                (record { what = record { n = s.leader_state.n_leader; seq_num = d.seq_num; decided_idx = s.internal_storage.decided_idx }; entries = take count (drop from (mid_log es v s.plan.writes)); there = there-new to_of (mid_face es v s).queue _ refl; ballot = refl; number = refl });
          })

  -- a decided index
  new-decide : xs ≡ [] → (place t s.leader_state).latest ≡ None → Clean (push_decide (t + 1) (next_seq_num_of (t + 1) s)) → Told es v z P b c g t (suc k) whole' s (push_decide (t + 1) (next_seq_num_of (t + 1) s)) × Clean s
  unfolding push_decide
  new-decide ex non q = (subst (Told es v z P b c g t (suc k) whole' s) (sym is) told, clean)
    where
      q₁ : Clean (next_seq_num_of (t + 1) s)
      q₁ = clean-push _ (next_seq_num_of (t + 1) s) q

      e₁ : next_seq_num_of (t + 1) s ≡ on_depot (t + 1) next_counter s
      e₁ = counter-clean (t + 1) s q₁

      clean : Clean s
      clean = let a : Clean (on_depot (t + 1) next_counter s) = subst Clean e₁ q₁ in record { fit = a.fit; low = a.low }

      l : LeaderState
      l = with_depot (t + 1) next_counter s.leader_state

      d : Depot
      d = next_counter (place t s.leader_state)

      p : Puts t d s.leader_state l
      p = puts_of t s.leader_state w.node.row (omega arith) next_counter

      m : PaxosMsg
      m = msg.Decide (record { n = s.leader_state.n_leader; seq_num = d.seq_num; decided_idx = s.internal_storage.decided_idx })

      is : push_decide (t + 1) (next_seq_num_of (t + 1) s) ≡ send_new (t + 1) m source.Nothing 0 (withLeaderBox l s)
      is =
          ap (λ (a : SequencePaxos). push_decide (t + 1) a) e₁
          ∙ ap (λ (a : SequenceNumber). send_new (t + 1) (msg.Decide (record { n = s.leader_state.n_leader; seq_num = a; decided_idx = s.internal_storage.decided_idx })) source.Nothing 0 (withLeaderBox l s))
          (ap (λ (d : Depot). d.seq_num) (pid-place t l ∙ p.here))

      told : Told es v z P b c g t (suc k) whole' s (send_new (t + 1) m source.Nothing 0 (withLeaderBox l s))
      told =
          news d l p refl refl refl (add-one (place t s.leader_state).seq_num.counter) m source.Nothing 0 (led-now w st t lt fd whole' xs was now else) (rw (lead.now, same_self s.internal_storage.promise, ex))
          (λ j ne. not-of _ (λ a. ne (sym a ∙ lead.now))) (record { stands = λ at a. no-latest non a })

  -- ---- in the one that is remembered
  join : (from count at : ℕ) → take count (drop from (mid_log es v s.plan.writes)) ≡ xs → (place t s.leader_state).latest ≡ Some at → Told es v z P b c g t (suc k) whole' s (join_to from count (t + 1) at s)
  unfolding join_to push_of perform_one
  join from count at ex e =
      record {
        ready = subst (λ j. Ready j es v (join_to from count (t + 1) at s)) (add-one k) (ready-push es v thing s r h);
        stays = stays-push thing s r h;
        near = subst (Near z P b c g whole' (λ n u. feeds_by n u s.state s.leader_state)) (sym (face-push es v thing s r h ∙ ap (λ q. with_queue q (mid_face es v s)) edit)) (t-joins w st t lt fd whole' xs was now else a);
        latest = λ u ne. refl;
      }
    where
      thing : Send
      thing = record { to = t + 1; what = Join (record { at = at; decided_idx = s.internal_storage.decided_idx }); source = source.Log from; count = count }

      a : Standing s.leader_state.n_leader t (place t s.leader_state) at (mid_face es v s).queue
      a = (w.node.remembers (ap (λ (k : State). is_leader k.role) st) t lt).stands at e

      edit : on_place at (joined s.internal_storage.decided_idx (take count (drop from (mid_log es v s.plan.writes)))) (mid_face es v s).queue ≡ set (mid_face es v s).queue at (joining t s.internal_storage.decided_idx xs a.what a.entries)
      edit =
          place_set at _ (mid_face es v s).queue no_msg a.there.below
          ∙ ap (λ m. set (mid_face es v s).queue at (joined s.internal_storage.decided_idx (take count (drop from (mid_log es v s.plan.writes))) m)) a.there.is
          ∙ ap (λ l. set (mid_face es v s).queue at (joining t s.internal_storage.decided_idx l a.what a.entries)) ex

  -- ---- the one or the other
  module _ (on : (at : ℕ) → (place t s.leader_state).latest ≡ Some at → get_or s.plan.sight.accdec t false ≡ true) where
    latest-is : latest_accdec (t + 1) s ≡ (place t s.leader_state).latest
    unfolding latest_accdec
    latest-is =
        let e : t + 1 - 1 ≡ t = omega arith in
        ap (λ i. stands (get_or s.plan.sight.accdec i false) (get_or s.leader_state.depots i fresh).latest) e ∙ go (get_or s.plan.sight.accdec t false) refl (place t s.leader_state).latest refl
      where
        go : (x : Bool) → get_or s.plan.sight.accdec t false ≡ x → (y : Option ℕ) → (place t s.leader_state).latest ≡ y → stands x y ≡ y
        go true p y q = refl
        go false p None q = refl
        go false p (Some i) q = absurd (not-both (on i q) p)

    pub told_entries : (from count : ℕ) → take count (drop from (mid_log es v s.plan.writes)) ≡ xs → Clean (accept_decide_to from count (t + 1) s) → Told es v z P b c g t (suc k) whole' s (accept_decide_to from count (t + 1) s) × Clean s
    unfolding accept_decide_to join_to
    told_entries from count ex q =
        subst (λ y. Clean (accept_decide_by from count (t + 1) y s) → Told es v z P b c g t (suc k) whole' s (accept_decide_by from count (t + 1) y s) × Clean s) (sym latest-is) (λ q. by (place t s.leader_state).latest refl q) q
      where
        by : (y : Option ℕ) → (place t s.leader_state).latest ≡ y → Clean (accept_decide_by from count (t + 1) y s) → Told es v z P b c g t (suc k) whole' s (accept_decide_by from count (t + 1) y s) × Clean s
        by None e q = new-entries from count ex q
        by (Some at) e q = (join from count at ex e, clean-push _ s q)

    pub told-decide : xs ≡ [] → Clean (decide_to (t + 1) s) → Told es v z P b c g t (suc k) whole' s (decide_to (t + 1) s) × Clean s
    unfolding decide_to join_to
    told-decide ex q =
        subst (λ y. Clean (decide_by (t + 1) y s) → Told es v z P b c g t (suc k) whole' s (decide_by (t + 1) y s) × Clean s) (sym latest-is) (λ q. by (place t s.leader_state).latest refl q) q
      where
        by : (y : Option ℕ) → (place t s.leader_state).latest ≡ y → Clean (decide_by (t + 1) y s) → Told es v z P b c g t (suc k) whole' s (decide_by (t + 1) y s) × Clean s
        by None e q = new-decide ex e q
        by (Some at) e q = (join 0 0 at (sym ex) e, clean-push _ s q)
