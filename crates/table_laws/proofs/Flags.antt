-- What a send to one depot does to the two flags of refusal, and that it changes no other depot's place; a flag of a loop over depots is set exactly when one marked turn sets it.
use Rattle.std.specs.Prelude.{Option, None, Some}
use Prim.Native.Nat.{ℕ, zero, suc, ◌-◌, ◌≤◌, ◌<◌}
use mathlib.Core.Path.{◌≡◌, refl, ap, sym, ◌∙◌}
use mathlib.Core.Logic.{◌⊎◌, inl, inr, ◌↔◌, ◌≢◌}
use mathlib.Core.Bool.{Bool, true, false, cond, ◌&&◌, ◌||◌, or-false, or-true, or_assoc, true≢false}
use mathlib.Core.List.{List, [], ◌∷◌}
use native.Mathlib.Omega.{arith}
use lib.Dec.{ltb, leb, eqb}
use lib.ListN.{get_or, set}
use lib.Seq.{get_or-set_other}
use borrow.Author.Tests.{lt-leb, eqb-true, eqb-false}
use Rattle.base.specs.Limits.{largest}
use Rattle.base.proofs.Meet.{Shared}
use Rattle.ballot.specs.declared.Ballot.{Ballot}
use Rattle.leader_state.specs.declared.Depot.{Depot}
use Rattle.leader_state.specs.declared.LeaderState.{LeaderState}
use Rattle.leader_state.specs.declared.PromiseMetaData.{PromiseMetaData}
use Rattle.leader_state.specs.declared.PromiseState.{PromiseState}
use Rattle.leader_state.specs.declared.PromiseState.TheVariants.{NotPromised, Promised, PromisedHigher}
use Rattle.leader_state.specs.State.{fresh, set_latest, next_session, next_counter}
use Rattle.leader_state.specs.Promises.{is_promised, sync_start}
use Rattle.paxos_box.specs.declared.SequencePaxos.{SequencePaxos}
use Rattle.paxos_box.specs.declared.InternalStorage.{InternalStorage}
use Rattle.paxos_box.specs.declared.Sight.{Sight}
use Rattle.paxos_box.specs.declared.Plan.{Plan}
use Rattle.paxos_box.specs.declared.Send.{Send}
use Rattle.paxos_box.specs.Box.{unfit, at_top, push_of, next_place}
use Rattle.sends.specs.declared.Each.{Each}
use Rattle.sends.specs.declared.Each.TheVariants as each
use Rattle.sends.specs.Sends.{the_depot, on_depot, log_length, sync_fits, next_session_of, next_seq_num_of, set_latest_of, send_prepare, new_session, push_acc_sync, sync_start_of, send_acc_sync, by_promise, acc_sync_to, stands, latest_accdec, join_to, push_accept_decide, new_accept_decide, accept_decide_by, accept_decide_to, push_decide, decide_by, decide_to, send_prepare_req, send_one, turn_of, for_marked}
use Rattle.decide_laws.proofs.Grown.{either, planned-only, Sent, same-storage}
use Rattle.decide_laws.proofs.Marks.{marked}
use Rattle.decide_laws.proofs.Sends.{Few, up_to, sent-marked}

-- Places of a list

-- what a change of one place does not alter is the same at every place
pub kept_in : {A B : Type 0} (g : A → B) (f : A → A) → ((x : A) → g (f x) ≡ g x) → (l : List A) (i j : ℕ) (d : A) → g (get_or (set l i (f (get_or l i d))) j d) ≡ g (get_or l j d)
kept_in g f e [] i j d = refl
kept_in g f e (x ∷ l) zero zero d = e x
kept_in g f e (x ∷ l) zero (suc j) d = refl
kept_in g f e (x ∷ l) (suc i) zero d = refl
kept_in g f e (x ∷ l) (suc i) (suc j) d = kept_in g f e l i j d

-- at a place that is set stands what was set, or nothing
set-either : {A : Type 0} (P : A → Type 0) (l : List A) (i : ℕ) (x d : A) → P x → P d → P (get_or (set l i x) i d)
set-either P [] i x d p q = q
set-either P (y ∷ l) zero x d p q = p
set-either P (y ∷ l) (suc i) x d p q = set-either P l i x d p q

-- One send

-- of two boxes: the flags are those found or raised by u and t, and no depot's place but this one's has changed. Over the parts, so that a change of another part is none here
pub record Turned (u t : Bool) (to : ℕ) (a b a₁ b₁ : Bool) (l l₁ : List Depot) : Type 0 where
  pub unfit : a₁ ≡ (a || u)
  pub top : b₁ ≡ (b || t)
  pub others : (pid : ℕ) → 0 < pid → pid ≢ to → get_or l₁ (pid - 1) fresh ≡ get_or l (pid - 1) fresh

abbrev pub Turn : Bool → Bool → ℕ → SequencePaxos → SequencePaxos → Type 0
Turn u t to s r = Turned u t to s.plan.unfit s.plan.top r.plan.unfit r.plan.top s.leader_state.depots r.leader_state.depots

module _ {u t : Bool} {to : ℕ} {a b a₁ b₁ : Bool} {l l₁ : List Depot} where
  turn-then : {v w : Bool} {a₂ b₂ : Bool} {l₂ : List Depot} → Turned u t to a b a₁ b₁ l l₁ → Turned v w to a₁ b₁ a₂ b₂ l₁ l₂ → Turned (u || v) (t || w) to a b a₂ b₂ l l₂
  turn-then {v} {w} x y =
      record {
        unfit = rw (y.unfit, x.unfit) (or_assoc a u v);
        top = rw (y.top, x.top) (or_assoc b t w);
        others = λ pid h k. y.others pid h k ∙ x.others pid h k;
      }

  turn-as : {v w : Bool} → u ≡ v → t ≡ w → Turned u t to a b a₁ b₁ l l₁ → Turned v w to a b a₁ b₁ l l₁
  turn-as p q x = record { unfit = rw (← p) x.unfit; top = rw (← q) x.top; others = x.others }

turn-none : (to : ℕ) (s : SequencePaxos) → Turn false false to s s
turn-none to s = record { unfit = sym (or-false s.plan.unfit); top = sym (or-false s.plan.top); others = λ pid h k. refl }

turn-push : (m : Send) (to : ℕ) (s : SequencePaxos) → Turn false false to s (push_of m s)
unfolding push_of
turn-push m to s =
    record {
      unfit = ap (λ (p : Plan). p.unfit) (planned-only m s.plan) ∙ sym (or-false s.plan.unfit);
      top = ap (λ (p : Plan). p.top) (planned-only m s.plan) ∙ sym (or-false s.plan.top);
      others = λ pid h k. refl;
    }

turn-place : (to : ℕ) (f : Depot → Depot) (s : SequencePaxos) → 0 < to → Turn false false to s (on_depot to f s)
turn-place to f s h =
    record {
      unfit = sym (or-false s.plan.unfit);
      top = sym (or-false s.plan.top);
      others = λ pid p k. get_or-set_other s.leader_state.depots (to - 1) (pid - 1) (f (the_depot to s)) fresh (λ e. k (omega (arith, e)));
    }

-- a flag raised by a test
turn-unfit : (b : Bool) (to : ℕ) (s : SequencePaxos) → Turn b false to s (cond b (unfit s) s)
turn-unfit true to s = record { unfit = sym (or-true s.plan.unfit); top = sym (or-false s.plan.top); others = λ pid h k. refl }
turn-unfit false to s = turn-none to s

turn-top : (b : Bool) (to : ℕ) (f : Depot → Depot) (s : SequencePaxos) → 0 < to → Turn false b to s (cond b (at_top s) (on_depot to f s))
turn-top true to f s h = record { unfit = sym (or-false s.plan.unfit); top = sym (or-true s.plan.top); others = λ pid h k. refl }
turn-top false to f s h = turn-place to f s h

turn-fits : (from to : ℕ) (s : SequencePaxos) → Turn (ltb (log_length s) from) false to s (sync_fits from s)
unfolding sync_fits
turn-fits from to s = turn-unfit (ltb (log_length s) from) to s

fits-leader : (from : ℕ) (s : SequencePaxos) → (sync_fits from s).leader_state ≡ s.leader_state
unfolding sync_fits
fits-leader from s = either (λ (r : SequencePaxos). r.leader_state ≡ s.leader_state) (ltb (log_length s) from) (unfit s) s (λ e. refl) (λ e. refl)

-- the session, and the counter, of a place
abbrev pub session_of : ℕ → SequencePaxos → ℕ
session_of to s = (the_depot to s).seq_num.session

abbrev pub counter_of : ℕ → SequencePaxos → ℕ
counter_of to s = (the_depot to s).seq_num.counter

turn-counter : (to : ℕ) (s : SequencePaxos) → 0 < to → Turn false (leb largest (counter_of to s)) to s (next_seq_num_of to s)
unfolding next_seq_num_of
turn-counter to s h = turn-top (leb largest (counter_of to s)) to next_counter s h

turn-session : (to : ℕ) (s : SequencePaxos) → 0 < to → Turn false (leb largest (session_of to s)) to s (next_session_of to s)
unfolding next_session_of
turn-session to s h = turn-top (leb largest (session_of to s)) to next_session s h

-- the counter restarts with a session, so a new session asks for no more than that its own number is not at the top
restarts : (to : ℕ) (s : SequencePaxos) → (leb largest (session_of to s) || leb largest (counter_of to (next_session_of to s))) ≡ leb largest (session_of to s)
unfolding next_session_of
restarts to s = go (leb largest (session_of to s))
  where
    go : (x : Bool) → (x || leb largest (counter_of to (cond x (at_top s) (on_depot to next_session s)))) ≡ x
    go true = refl
    go false =
        set-either (λ (d : Depot). leb largest d.seq_num.counter ≡ false) s.leader_state.depots (to - 1) (next_session (the_depot to s)) fresh
        (lt-leb largest 0 (omega arith))
        (lt-leb largest 0 (omega arith))

turn-new-session : (to : ℕ) (s : SequencePaxos) → 0 < to → Turn false (leb largest (session_of to s)) to s (new_session to s)
unfolding new_session
turn-new-session to s h =
    let t = next_session_of to s in
    let x = turn-then (turn-session to s h) (turn-counter to t h) in
    turn-as refl (or-false (leb largest (session_of to s) || leb largest (counter_of to t)) ∙ restarts to s) (turn-then x (turn-place to (set_latest None) (next_seq_num_of to t) h))

turn-accsync : (from to : ℕ) (s : SequencePaxos) → Turn false false to s (push_acc_sync from to s)
unfolding push_acc_sync
turn-accsync from to s = turn-push _ to s

turn-synced : (to : ℕ) (m : PromiseMetaData) (s : SequencePaxos) → 0 < to → Turn (ltb (log_length s) (sync_start_of m s)) (leb largest (session_of to s)) to s (send_acc_sync to m s)
unfolding send_acc_sync
turn-synced to m s h =
    let from = sync_start_of m s in
    let t = sync_fits from s in
    let x = turn-then (turn-fits from to s) (turn-new-session to t h) in
    turn-as
    (or-false (ltb (log_length s) from || false) ∙ or-false (ltb (log_length s) from))
    (or-false (leb largest (session_of to t)) ∙ ap (λ (l : LeaderState). leb largest (get_or l.depots (to - 1) fresh).seq_num.session) (fits-leader from s))
    (turn-then x (turn-accsync from to (new_session to t)))

-- a sync to be built for a depot that has promised so starts past a log's end
abbrev pub starts_past : PromiseState → Ballot → PromiseMetaData → ℕ → Bool
starts_past (Promised m) n best len = ltb len (sync_start n best m)
starts_past NotPromised n best len = false
starts_past PromisedHigher n best len = false

turn-sync-to : (to : ℕ) (s : SequencePaxos) (p : PromiseState) → 0 < to → Turn (starts_past p s.leader_state.n_leader s.leader_state.max_promise.meta (log_length s)) (is_promised p && leb largest (session_of to s)) to s (by_promise to p s)
turn-sync-to to s (Promised m) h = turn-synced to m s h
turn-sync-to to s NotPromised h = turn-none to s
turn-sync-to to s PromisedHigher h = turn-none to s

-- no AcceptDecide is remembered
abbrev pub is_nothing : Option ℕ → Bool
is_nothing None = true
is_nothing (Some at) = false

turn-join : (from count to at : ℕ) (s : SequencePaxos) → Turn false false to s (join_to from count to at s)
unfolding join_to
turn-join from count to at s = turn-push _ to s

turn-entries : (from count to : ℕ) (s : SequencePaxos) → 0 < to → Turn false (leb largest (counter_of to s)) to s (new_accept_decide from count to s)
unfolding new_accept_decide push_accept_decide
turn-entries from count to s h =
    let t = set_latest_of to (Some (next_place s)) s in
    let x = turn-then (turn-place to (set_latest (Some (next_place s))) s h) (turn-counter to t h) in
    turn-as refl
    (or-false (leb largest (counter_of to t)) ∙ kept_in (λ (d : Depot). leb largest d.seq_num.counter) (set_latest (Some (next_place s))) (λ d. refl) s.leader_state.depots (to - 1) (to - 1) fresh)
    (turn-then x (turn-push _ to (next_seq_num_of to t)))

turn-accept-decide : (from count to : ℕ) (s : SequencePaxos) (x : Option ℕ) → 0 < to → Turn false (is_nothing x && leb largest (counter_of to s)) to s (accept_decide_by from count to x s)
turn-accept-decide from count to s (Some at) h = turn-join from count to at s
turn-accept-decide from count to s None h = turn-entries from count to s h

turn-told : (to : ℕ) (s : SequencePaxos) → 0 < to → Turn false (leb largest (counter_of to s)) to s (push_decide to (next_seq_num_of to s))
unfolding push_decide
turn-told to s h = turn-as refl (or-false (leb largest (counter_of to s))) (turn-then (turn-counter to s h) (turn-push _ to (next_seq_num_of to s)))

turn-decide : (to : ℕ) (s : SequencePaxos) (x : Option ℕ) → 0 < to → Turn false (is_nothing x && leb largest (counter_of to s)) to s (decide_by to x s)
turn-decide to s (Some at) h = turn-join 0 0 to at s
turn-decide to s None h = turn-told to s h

-- by what is sent, to a depot with such a place: the flags that it raises
abbrev pub unfit_by : Each → Depot → Ballot → PromiseMetaData → ℕ → Bool
unfit_by each.Prepare d n best len = false
unfit_by each.AcceptSync d n best len = starts_past d.promise n best len
unfit_by (each.AcceptDecide from count) d n best len = false
unfit_by each.Decide d n best len = false
unfit_by each.PrepareReq d n best len = false

abbrev pub top_by : Each → Depot → Bool → Bool
top_by each.Prepare d on = false
top_by each.AcceptSync d on = is_promised d.promise && leb largest d.seq_num.session
top_by (each.AcceptDecide from count) d on = is_nothing (stands on d.latest) && leb largest d.seq_num.counter
top_by each.Decide d on = is_nothing (stands on d.latest) && leb largest d.seq_num.counter
top_by each.PrepareReq d on = false

abbrev pub unfit_to : Each → ℕ → SequencePaxos → Bool
unfit_to what to s = unfit_by what (the_depot to s) s.leader_state.n_leader s.leader_state.max_promise.meta (log_length s)

abbrev pub top_to : Each → ℕ → SequencePaxos → Bool
top_to what to s = top_by what (the_depot to s) (get_or s.plan.sight.accdec (to - 1) false)

pub turn_one : (what : Each) (to : ℕ) (s : SequencePaxos) → 0 < to → Turn (unfit_to what to s) (top_to what to s) to s (send_one what to s)
unfolding send_prepare acc_sync_to accept_decide_to decide_to latest_accdec send_prepare_req
turn_one each.Prepare to s h = turn-push _ to s
turn_one each.AcceptSync to s h = turn-sync-to to s (the_depot to s).promise h
turn_one (each.AcceptDecide from count) to s h = turn-accept-decide from count to s (stands (get_or s.plan.sight.accdec (to - 1) false) (the_depot to s).latest) h
turn_one each.Decide to s h = turn-decide to s (stands (get_or s.plan.sight.accdec (to - 1) false) (the_depot to s).latest) h
turn_one each.PrepareReq to s h = turn-push _ to s

turn-marked : (what : Each) (on : Bool) (to : ℕ) (s : SequencePaxos) → 0 < to → Turn (on && unfit_to what to s) (on && top_to what to s) to s (turn_of what on to s)
turn-marked what true to s h = turn_one what to s h
turn-marked what false to s h = turn-none to s

-- The loop

-- a flag of a loop is set exactly when it was set before, or a turn that is marked sets it
abbrev pub Raised : Bool → Bool → (ℕ → Bool) → (ℕ → Bool) → ℕ → Type 0
Raised a a₁ f g n = (a₁ ≡ true) ↔ ((a ≡ true) ⊎ Shared f g n)

raised-none : (a : Bool) (f g : ℕ → Bool) → Raised a a f g 0
raised-none a f g = ((λ e. inl e), back)
  where
    back : (a ≡ true) ⊎ Shared f g 0 → a ≡ true
    back (inl e) = e
    back (inr x) = absurd (omega (arith, x.below))

raised-more : (a a₁ a₂ : Bool) (f g : ℕ → Bool) (n : ℕ) → Raised a a₁ f g n → a₂ ≡ (a₁ || (f n && g n)) → Raised a a₂ f g (suc n)
raised-more a a₁ a₂ f g n h e = ((λ k. there a₁ (f n) (g n) refl refl refl (sym e ∙ k)), back)
  where
    wider : (a ≡ true) ⊎ Shared f g n → (a ≡ true) ⊎ Shared f g (suc n)
    wider (inl k) = inl k
    wider (inr x) = inr (record { place = x.place; below = omega (arith, x.below); first = x.first; second = x.second })

    there : (x y z : Bool) → a₁ ≡ x → f n ≡ y → g n ≡ z → (x || (y && z)) ≡ true → (a ≡ true) ⊎ Shared f g (suc n)
    there true y z p q r k = wider (h.0 p)
    there false true true p q r k = inr (record { place = n; below = omega arith; first = q; second = r })
    there false true false p q r k = absurd (true≢false (sym k))
    there false false z p q r k = absurd (true≢false (sym k))

    earlier : a₁ ≡ true → a₂ ≡ true
    earlier k = rw (e, k)

    by_place : (x : Shared f g (suc n)) (t : Bool) → eqb x.place n ≡ t → a₂ ≡ true
    by_place x true p =
        let i = eqb-true x.place n p in
        let y : f n ≡ true = rw i at x.first in
        let z : g n ≡ true = rw i at x.second in
        rw (e, y, z) (or-true a₁)
    by_place x false p = earlier (h.1 (inr (record { place = x.place; below = omega (arith, x.below, eqb-false x.place n p); first = x.first; second = x.second })))

    back : (a ≡ true) ⊎ Shared f g (suc n) → a₂ ≡ true
    back (inl k) = earlier (h.1 (inl k))
    back (inr x) = by_place x (eqb x.place n) refl

-- what a turn raises depends on these parts alone
unfit-by : (what : Each) (d d₁ : Depot) (n n₁ : Ballot) (best best₁ : PromiseMetaData) (len len₁ : ℕ) → d₁ ≡ d → n₁ ≡ n → best₁ ≡ best → len₁ ≡ len → unfit_by what d₁ n₁ best₁ len₁ ≡ unfit_by what d n best len
unfit-by what d d₁ n n₁ best best₁ len len₁ p q r t = rw (p, q, r, t)

top-by : (what : Each) (d d₁ : Depot) (on on₁ : Bool) → d₁ ≡ d → on₁ ≡ on → top_by what d₁ on₁ ≡ top_by what d on
top-by what d d₁ on on₁ p q = rw (p, q)

-- to each marked depot: each turn finds the box, as far as it goes by it, as the loop found it
pub record Looped (l : List Bool) (what : Each) (n : ℕ) (s r : SequencePaxos) : Type 0 where
  pub unfit : Raised s.plan.unfit r.plan.unfit (λ i. get_or l i false) (λ i. unfit_to what (suc i) s) n
  pub top : Raised s.plan.top r.plan.top (λ i. get_or l i false) (λ i. top_to what (suc i) s) n
  pub later : (pid : ℕ) → n < pid → the_depot pid r ≡ the_depot pid s

module _ (l : List Bool) (what : Each) (n : ℕ) (s r : SequencePaxos) (x : Looped l what n s r) (y : Sent (up_to n) (marked l n) s r) where
  here : the_depot (suc n) r ≡ the_depot (suc n) s
  here = x.later (suc n) (omega arith)

  unfit-here : unfit_to what (suc n) r ≡ unfit_to what (suc n) s
  unfit-here =
      unfit-by what (the_depot (suc n) s) (the_depot (suc n) r) s.leader_state.n_leader r.leader_state.n_leader s.leader_state.max_promise.meta r.leader_state.max_promise.meta (log_length s) (log_length r)
      here
      (ap (λ (t : LeaderState). t.n_leader) y.leader)
      (ap (λ (t : LeaderState). t.max_promise.meta) y.leader)
      (ap (λ (t : InternalStorage). t.accepted_idx) (same-storage y))

  top-here : top_to what (suc n) r ≡ top_to what (suc n) s
  top-here =
      top-by what (the_depot (suc n) s) (the_depot (suc n) r) (get_or s.plan.sight.accdec (suc n - 1) false) (get_or r.plan.sight.accdec (suc n - 1) false)
      here
      (ap (λ (t : Sight). get_or t.accdec (suc n - 1) false) y.sight)

  looped-more : Looped l what (suc n) s (turn_of what (get_or l n false) (suc n) r)
  looped-more =
      let z = turn-marked what (get_or l n false) (suc n) r (omega arith) in
      let q = turn_of what (get_or l n false) (suc n) r in
      let u : q.plan.unfit ≡ (r.plan.unfit || (get_or l n false && unfit_to what (suc n) s)) = rw unfit-here at z.unfit in
      let t : q.plan.top ≡ (r.plan.top || (get_or l n false && top_to what (suc n) s)) = rw top-here at z.top in
      record {
        unfit = raised-more s.plan.unfit r.plan.unfit q.plan.unfit (λ i. get_or l i false) (λ i. unfit_to what (suc i) s) n x.unfit u;
        top = raised-more s.plan.top r.plan.top q.plan.top (λ i. get_or l i false) (λ i. top_to what (suc i) s) n x.top t;
        later = λ pid h. z.others pid (omega arith) (λ e. omega (arith, e)) ∙ x.later pid (omega arith);
      }

pub looped : (l : List Bool) (what : Each) (n : ℕ) (s : SequencePaxos) → n ≤ s.config.depots → Few what s → Looped l what n s (for_marked l what n s)
unfolding for_marked
looped l what zero s h f =
    record { unfit = raised-none s.plan.unfit (λ i. get_or l i false) (λ i. unfit_to what (suc i) s); top = raised-none s.plan.top (λ i. get_or l i false) (λ i. top_to what (suc i) s); later = λ pid k. refl }
looped l what (suc n) s h f = looped-more l what n s (for_marked l what n s) (looped l what n s (omega arith) f) (sent-marked l what n s (omega arith) f)
