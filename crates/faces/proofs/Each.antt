-- What a leader sends to each promised follower, one after the other: what a send leaves as it was, and how far the loop has come.
use Rattle.std.specs.Prelude.{Option, None, Some}
use Prim.Native.Nat.{ℕ, ◌+◌, ◌≤◌, ◌<◌}
use mathlib.Core.Path.{◌≡◌, refl, sym, ap, ◌∙◌, subst}
use mathlib.Core.Bool.{Bool, true, false, cond}
use mathlib.Core.List.{List}
use native.Mathlib.Omega.{arith}
use lib.Dec.{ltb, leb}
use lib.ListN.{length, take, drop}
use borrow.Author.Tests.{ltb-false}
use Rattle.base.proofs.Tests.{not-both}
use Rattle.base.specs.Limits.{max_depots, largest}
use Rattle.sequence.specs.declared.SequenceNumber.{SequenceNumber}
use Rattle.leader_state.specs.declared.Depot.{Depot}
use Rattle.leader_state.specs.declared.LeaderState.{LeaderState}
use Rattle.leader_state.specs.declared.PromiseMetaData.{PromiseMetaData}
use Rattle.leader_state.specs.State.{with_depot, set_latest, next_session, next_counter}
use Rattle.messages.specs.declared.PaxosMsg.TheVariants as msg
use Rattle.paxos_box.specs.declared.SequencePaxos.{SequencePaxos}
use Rattle.paxos_box.specs.declared.Send.{Send}
use Rattle.paxos_box.specs.declared.Source.TheVariants as source
use Rattle.paxos_box.specs.Box.{with_leader as withLeaderBox, unfit, at_top, push_of, next_place}
use Rattle.sends.specs.Sends.{join_to, push_accept_decide, new_accept_decide, accept_decide_by, push_decide, decide_by, the_depot, on_depot, log_length, suffix_length, sync_fits, next_session_of, next_seq_num_of, set_latest_of, new_session, push_acc_sync, sync_start_of, send_acc_sync}
use Rattle.views.specs.View.{View}
use Rattle.travels.specs.Face.{place, with_leader, push}
use Rattle.travels.proofs.Open.{Puts, puts-part, opening, opened}
use Rattle.faces.specs.Mid.{mid_log, mid_face, Clean, Ready}
use Rattle.faces.proofs.Push.{push-is, face-new, clean-push}
use Rattle.faces.proofs.Prepare.{suffix-all}
use Rattle.faces.proofs.Places.{pid-place, puts_of, puts_then, puts-is}

-- ---- what a send to one depot leaves as it was
pub record Stays (s s' : SequencePaxos) : Type 0 where
  pub config : s'.config ≡ s.config
  pub storage : s'.internal_storage ≡ s.internal_storage
  pub state : s'.state ≡ s.state
  pub writes : s'.plan.writes ≡ s.plan.writes
  pub sight : s'.plan.sight ≡ s.plan.sight
  pub ballot : s'.leader_state.n_leader ≡ s.leader_state.n_leader
  pub best : s'.leader_state.max_promise ≡ s.leader_state.max_promise
  pub promise : (u : ℕ) → (place u s'.leader_state).promise ≡ (place u s.leader_state).promise

pub stays-refl : (s : SequencePaxos) → Stays s s
stays-refl s = record { config = refl; storage = refl; state = refl; writes = refl; sight = refl; ballot = refl; best = refl; promise = λ u. refl }

pub stays_then : {s s₁ s₂ : SequencePaxos} → Stays s s₁ → Stays s₁ s₂ → Stays s s₂
stays_then p q =
    record {
      config = q.config ∙ p.config;
      storage = q.storage ∙ p.storage;
      state = q.state ∙ p.state;
      writes = q.writes ∙ p.writes;
      sight = q.sight ∙ p.sight;
      ballot = q.ballot ∙ p.ballot;
      best = q.best ∙ p.best;
      promise = λ u. q.promise u ∙ p.promise u;
    }

-- a place changed, and a thing more planned
pub stays_on : {t : ℕ} {d : Depot} (l : LeaderState) (s : SequencePaxos) → Puts t d s.leader_state l → d.promise ≡ (place t s.leader_state).promise → Stays s (withLeaderBox l s)
stays_on l s p e = record { config = refl; storage = refl; state = refl; writes = refl; sight = refl; ballot = p.ballot; best = p.best; promise = puts-part (λ (d : Depot). d.promise) p e }

pub stays-push : {k : ℕ} {es : List ℕ} {v : View} (m : Send) (s : SequencePaxos) → Ready k es v s → k < 8 → Stays s (push_of m s)
stays-push m s r h =
    subst (Stays s) (sym (push-is m s (omega (arith, r.things)))) (record { config = refl; storage = refl; state = refl; writes = refl; sight = refl; ballot = refl; best = refl; promise = λ u. refl })

-- ---- flags: what is not refused was not met

fits-clean : (i : ℕ) (s : SequencePaxos) → Clean (sync_fits i s) → (sync_fits i s ≡ s) × (i ≤ log_length s)
unfolding sync_fits
fits-clean i s = go (ltb (log_length s) i) refl
  where
    go : (t : Bool) → ltb (log_length s) i ≡ t → Clean (cond t (unfit s) s) → (cond t (unfit s) s ≡ s) × (i ≤ log_length s)
    go true e k = absurd (not-both refl k.fit)
    go false e k = (refl, ltb-false (log_length s) i e)

session-clean : (to : ℕ) (s : SequencePaxos) → Clean (next_session_of to s) → next_session_of to s ≡ on_depot to next_session s
unfolding next_session_of
session-clean to s = go (leb largest (the_depot to s).seq_num.session)
  where
    go : (t : Bool) → Clean (cond t (at_top s) (on_depot to next_session s)) → cond t (at_top s) (on_depot to next_session s) ≡ on_depot to next_session s
    go true k = absurd (not-both refl k.low)
    go false k = refl

pub counter-clean : (to : ℕ) (s : SequencePaxos) → Clean (next_seq_num_of to s) → next_seq_num_of to s ≡ on_depot to next_counter s
unfolding next_seq_num_of
counter-clean to s = go (leb largest (the_depot to s).seq_num.counter)
  where
    go : (t : Bool) → Clean (cond t (at_top s) (on_depot to next_counter s)) → cond t (at_top s) (on_depot to next_counter s) ≡ on_depot to next_counter s
    go true k = absurd (not-both refl k.low)
    go false k = refl

clean-next : (to : ℕ) (s : SequencePaxos) → Clean (next_seq_num_of to s) → Clean s
clean-next to s k = let a : Clean (on_depot to next_counter s) = subst Clean (counter-clean to s k) k in record { fit = a.fit; low = a.low }

-- what came before a send with a number
pub clean-entries : (from count to : ℕ) (l : Option ℕ) (s : SequencePaxos) → Clean (accept_decide_by from count to l s) → Clean s
unfolding join_to new_accept_decide push_accept_decide
clean-entries from count to (Some at) s k = clean-push _ s k
clean-entries from count to None s k =
    let a : Clean (set_latest_of to (Some (next_place s)) s) = clean-next to (set_latest_of to (Some (next_place s)) s) (clean-push _ (next_seq_num_of to (set_latest_of to (Some (next_place s)) s)) k) in
    record { fit = a.fit; low = a.low }

pub clean-decide : (to : ℕ) (l : Option ℕ) (s : SequencePaxos) → Clean (decide_by to l s) → Clean s
unfolding join_to push_decide
clean-decide to (Some at) s k = clean-push _ s k
clean-decide to None s k = clean-next to s (clean-push _ (next_seq_num_of to s) k)

abbrev pub session-box : ℕ → SequencePaxos → SequencePaxos
session-box to s = on_depot to (set_latest None) (on_depot to next_counter (on_depot to next_session s))

session-is : (to : ℕ) (s : SequencePaxos) → Clean (new_session to s) → (new_session to s ≡ session-box to s) × Clean s
unfolding new_session
session-is to s k =
    let k₁ : Clean (next_seq_num_of to (next_session_of to s)) = record { fit = k.fit; low = k.low } in
    let e₂ : next_seq_num_of to (next_session_of to s) ≡ on_depot to next_counter (next_session_of to s) = counter-clean to (next_session_of to s) k₁ in
    let k₂ : Clean (on_depot to next_counter (next_session_of to s)) = subst Clean e₂ k₁ in
    let k₃ : Clean (next_session_of to s) = record { fit = k₂.fit; low = k₂.low } in
    let e₁ : next_session_of to s ≡ on_depot to next_session s = session-clean to s k₃ in
    let k₄ : Clean (on_depot to next_session s) = subst Clean e₁ k₃ in
    (ap (λ (y : SequencePaxos). on_depot to (set_latest None) y) (e₂ ∙ ap (λ (y : SequencePaxos). on_depot to next_counter y) e₁), record { fit = k₄.fit; low = k₄.low })

-- ---- an AcceptSync to t
module _ (es : List ℕ) (v : View) (t : ℕ) (m : PromiseMetaData) (s : SequencePaxos) where
  abbrev from : ℕ
  from = sync_start_of m s

  pub sync-is : Clean (send_acc_sync (t + 1) m s) → (send_acc_sync (t + 1) m s ≡ push_acc_sync from (t + 1) (session-box (t + 1) s)) × Clean s × (from ≤ log_length s)
  unfolding send_acc_sync push_acc_sync
  sync-is k =
      let k₁ : Clean (new_session (t + 1) (sync_fits from s)) = clean-push _ (new_session (t + 1) (sync_fits from s)) k in
      let a : (new_session (t + 1) (sync_fits from s) ≡ session-box (t + 1) (sync_fits from s)) × Clean (sync_fits from s) = session-is (t + 1) (sync_fits from s) k₁ in
      let c : (sync_fits from s ≡ s) × (from ≤ log_length s) = fits-clean from s a.1 in
      (ap (λ (y : SequencePaxos). push_acc_sync from (t + 1) y) (a.0 ∙ ap (λ (y : SequencePaxos). session-box (t + 1) y) c.0), subst Clean c.0 a.1, c.1)

  pub session-puts : length s.leader_state.depots ≡ max_depots → t < max_depots → Puts t (opened t (mid_face es v s)) s.leader_state (session-box (t + 1) s).leader_state
  session-puts row lt =
      let l : LeaderState = s.leader_state in
      let l₁ : LeaderState = with_depot (t + 1) next_session l in
      let l₂ : LeaderState = with_depot (t + 1) next_counter l₁ in
      let p₁ : Puts t (next_session (place t l)) l l₁ = puts_of t l row lt next_session in
      let p₂ : Puts t (next_counter (next_session (place t l))) l₁ l₂ = puts-is (ap next_counter p₁.here) (puts_of t l₁ p₁.row lt next_counter) in
      let p₃ : Puts t (set_latest None (next_counter (next_session (place t l)))) l₂ (session-box (t + 1) s).leader_state = puts-is (ap (set_latest None) p₂.here) (puts_of t l₂ p₂.row lt (set_latest None)) in
      puts_then (puts_then p₁ p₂) p₃

  pub face-sync : {k : ℕ} → Ready k es v s → k < 8 → s.internal_storage.accepted_idx ≡ length (mid_log es v s.plan.writes) → from ≤ log_length s → length s.leader_state.depots ≡ max_depots → t < max_depots
      → mid_face es v (push_acc_sync from (t + 1) (session-box (t + 1) s)) ≡ push (opening t from (mid_face es v s)) (with_leader (session-box (t + 1) s).leader_state (mid_face es v s))
  unfolding push_acc_sync
  face-sync r h len fits row lt =
      face-new es v (t + 1) _ (source.Log from) (suffix_length (log_length s) from) (session-box (t + 1) s) (record { things = r.things; room = r.room; queue = r.queue }) h
      ∙ ap (λ l. push (record { to = t + 1; msg = msg.AcceptSync (record { n = s.leader_state.n_leader; seq_num = (the_depot (t + 1) (session-box (t + 1) s)).seq_num; decided_idx = s.internal_storage.decided_idx; sync_idx = from }); entries = l }) (mid_face es v (session-box (t + 1) s)))
      (ap (λ n. take (suffix_length n from) (drop from (mid_log es v s.plan.writes))) len ∙ suffix-all (mid_log es v s.plan.writes) from (omega (arith, fits, len)))
      ∙ ap (λ (q : SequenceNumber). push (record { to = t + 1; msg = msg.AcceptSync (record { n = s.leader_state.n_leader; seq_num = q; decided_idx = s.internal_storage.decided_idx; sync_idx = from }); entries = drop from (mid_log es v s.plan.writes) }) (mid_face es v (session-box (t + 1) s)))
      (ap (λ (d : Depot). d.seq_num) (pid-place t (session-box (t + 1) s).leader_state ∙ (session-puts row lt).here))
