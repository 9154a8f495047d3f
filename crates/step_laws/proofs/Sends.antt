-- A closed fact along what is sent to one depot, and to each of several.
use Rattle.std.specs.Prelude.{Option, None, Some}
use Prim.Native.Nat.{ℕ, zero, suc, ◌+◌, ◌≤◌, ◌<◌}
use mathlib.Core.Path.{◌≡◌, refl, ap}
use mathlib.Core.Logic.{inl, inr}
use mathlib.Core.Bool.{Bool, true, false}
use mathlib.Core.List.{List}
use native.Mathlib.Omega.{arith}
use lib.Dec.{ltb, leb}
use lib.ListN.{get_or}
use Rattle.base.specs.Limits.{largest}
use Rattle.quorum.specs.declared.Configuration.{Configuration}
use Rattle.leader_state.specs.declared.PromiseMetaData.{PromiseMetaData}
use Rattle.leader_state.specs.declared.PromiseState.{PromiseState}
use Rattle.leader_state.specs.declared.PromiseState.TheVariants.{NotPromised, Promised, PromisedHigher}
use Rattle.leader_state.specs.State.{set_latest, set_accepted, set_promise_state, next_session, next_counter}
use Rattle.leader_state.specs.Promises.{is_promised}
use Rattle.messages.specs.declared.Event.{Event}
use Rattle.paxos_box.specs.declared.SequencePaxos.{SequencePaxos}
use Rattle.paxos_box.specs.declared.InternalStorage.{InternalStorage}
use Rattle.paxos_box.specs.Box.{unfit, at_top, push_of, next_place}
use Rattle.sends.specs.declared.Each.{Each}
use Rattle.sends.specs.declared.Each.TheVariants as each
use Rattle.sends.specs.Sends.{the_depot, on_depot, log_length, sync_fits, next_session_of, next_seq_num_of, set_latest_of, new_session, sync_start_of, send_acc_sync, by_promise, acc_sync_to, latest_accdec, join_to, push_accept_decide, new_accept_decide, accept_decide_by, accept_decide_to, decide_by, decide_to, send_one, turn_of, for_marked}
use Rattle.refusals.proofs.Taken.{Depot}
use Rattle.decide_laws.proofs.Grown.{either}
use Rattle.step_laws.proofs.Moves.{Mild, Closed}

-- the changes of a place that are mild
pub mild-session : Mild next_session
mild-session = record { latest = λ d. inl refl; promise = λ d. inl refl }

pub mild-counter : Mild next_counter
mild-counter = record { latest = λ d. inl refl; promise = λ d. inl refl }

pub mild-forget : Mild (set_latest None)
mild-forget = record { latest = λ d. inr refl; promise = λ d. inl refl }

pub mild-accepted : (idx : ℕ) → Mild (set_accepted idx)
mild-accepted idx = record { latest = λ d. inl refl; promise = λ d. inl refl }

pub mild-promise : (p : PromiseState) → is_promised p ≡ false → Mild (set_promise_state p)
mild-promise p h = record { latest = λ d. inl refl; promise = λ d. inr h }

-- what is sent to several with entries of the log: these lie in it
abbrev pub InLog : Each → ℕ → Type 0
InLog each.Prepare len = Unit {0}
InLog each.AcceptSync len = Unit {0}
InLog (each.AcceptDecide from count) len = from + count ≤ len
InLog each.Decide len = Unit {0}
InLog each.PrepareReq len = Unit {0}

-- an AcceptDecide leaves the log
same_next : (to : ℕ) (s : SequencePaxos) → (next_seq_num_of to s).internal_storage ≡ s.internal_storage
unfolding next_seq_num_of
same_next to s =
    either (λ (r : SequencePaxos). r.internal_storage ≡ s.internal_storage) (leb largest (the_depot to s).seq_num.counter) (at_top s) (on_depot to next_counter s) (λ e. refl) (λ e. refl)

same-decided : (from count to : ℕ) (s : SequencePaxos) → (accept_decide_to from count to s).internal_storage ≡ s.internal_storage
unfolding accept_decide_to new_accept_decide push_accept_decide join_to push_of
same-decided from count to s = by (latest_accdec to s)
  where
    by : (x : Option ℕ) → (accept_decide_by from count to x s).internal_storage ≡ s.internal_storage
    by (Some at) = refl
    by None = same_next to (set_latest_of to (Some (next_place s)) s)

same_turn : (from count : ℕ) (on : Bool) (to : ℕ) (s : SequencePaxos) → log_length (turn_of (each.AcceptDecide from count) on to s) ≡ log_length s
same_turn from count true to s = ap (λ (x : InternalStorage). x.accepted_idx) (same-decided from count to s)
same_turn from count false to s = refl

module _ (c : Configuration) (e : Event) (entries : List ℕ) (found : SequencePaxos) (I : ℕ → SequencePaxos → Type 0) (o : Closed c e entries found I) where
  pub along-fits : (k from : ℕ) (s : SequencePaxos) → I k s → I k (sync_fits from s)
  unfolding sync_fits
  along-fits k from s i = either (I k) (ltb (log_length s) from) (unfit s) s (λ t. o.not-fit k s i) (λ t. i)

  pub along-counter : (k to : ℕ) (s : SequencePaxos) → Depot c to → I k s → I k (next_seq_num_of to s)
  unfolding next_seq_num_of
  along-counter k to s d i =
      either (I k) (leb largest (the_depot to s).seq_num.counter) (at_top s) (on_depot to next_counter s) (λ t. o.at_top k s i) (λ t. o.changes-place k to next_counter s d mild-counter i)

  along-raise : (k to : ℕ) (s : SequencePaxos) → Depot c to → I k s → I k (next_session_of to s)
  unfolding next_session_of
  along-raise k to s d i =
      either (I k) (leb largest (the_depot to s).seq_num.session) (at_top s) (on_depot to next_session s) (λ t. o.at_top k s i) (λ t. o.changes-place k to next_session s d mild-session i)

  along-session : (k to : ℕ) (s : SequencePaxos) → Depot c to → I k s → I k (new_session to s)
  unfolding new_session
  along-session k to s d i =
      o.changes-place k to (set_latest None) (next_seq_num_of to (next_session_of to s)) d mild-forget (along-counter k to (next_session_of to s) d (along-raise k to s d i))

  along-accsync : (k to : ℕ) (m : PromiseMetaData) (s : SequencePaxos) → k < 8 → Depot c to → I k s → I (k + 1) (send_acc_sync to m s)
  unfolding send_acc_sync
  along-accsync k to m s h d i =
      let start = sync_start_of m s in
      o.sends-sync k start to (new_session to (sync_fits start s)) h (along-session k to (sync_fits start s) d (along-fits k start s i))

  pub along-sync-to : (k to : ℕ) (s : SequencePaxos) → k < 8 → Depot c to → I k s → I (k + 1) (acc_sync_to to s)
  unfolding acc_sync_to
  along-sync-to k to s h d i = by (the_depot to s).promise
    where
      by : (p : PromiseState) → I (k + 1) (by_promise to p s)
      by (Promised m) = along-accsync k to m s h d i
      by NotPromised = o.more k (k + 1) s (omega arith) i
      by PromisedHigher = o.more k (k + 1) s (omega arith) i

  along-accept : (k from count to : ℕ) (s : SequencePaxos) → k < 8 → Depot c to → from + count ≤ log_length s → I k s → I (k + 1) (accept_decide_to from count to s)
  unfolding accept_decide_to
  along-accept k from count to s h d l i = by (latest_accdec to s)
    where
      by : (x : Option ℕ) → I (k + 1) (accept_decide_by from count to x s)
      by (Some at) = o.sends-join k from count to at s h l i
      by None = o.sends-entries k from count to s h d l i

  along-decide : (k to : ℕ) (s : SequencePaxos) → k < 8 → Depot c to → I k s → I (k + 1) (decide_to to s)
  unfolding decide_to
  along-decide k to s h d i = by (latest_accdec to s)
    where
      by : (x : Option ℕ) → I (k + 1) (decide_by to x s)
      by (Some at) = o.sends-join k 0 0 to at s h (omega arith) i
      by None = o.sends-decide k to (next_seq_num_of to s) h (along-counter k to s d i)

  along_one : (what : Each) (k to : ℕ) (s : SequencePaxos) → k < 8 → Depot c to → InLog what (log_length s) → I k s → I (k + 1) (send_one what to s)
  along_one each.Prepare k to s h d l i = o.sends-prepare k to s h i
  along_one each.AcceptSync k to s h d l i = along-sync-to k to s h d i
  along_one (each.AcceptDecide from count) k to s h d l i = along-accept k from count to s h d l i
  along_one each.Decide k to s h d l i = along-decide k to s h d i
  along_one each.PrepareReq k to s h d l i = o.sends-request k to s h i

  along-turn : (what : Each) (on : Bool) (k to : ℕ) (s : SequencePaxos) → k < 8 → Depot c to → InLog what (log_length s) → I k s → I (k + 1) (turn_of what on to s)
  along-turn what true k to s h d l i = along_one what k to s h d l i
  along-turn what false k to s h d l i = o.more k (k + 1) s (omega arith) i

  -- the entries still lie in the log
  still : (what : Each) (on : Bool) (to : ℕ) (s : SequencePaxos) → InLog what (log_length s) → InLog what (log_length (turn_of what on to s))
  still each.Prepare on to s l = tt
  still each.AcceptSync on to s l = tt
  still (each.AcceptDecide from count) on to s l = rw (same_turn from count on to s) l
  still each.Decide on to s l = tt
  still each.PrepareReq on to s l = tt

  -- to the first n depots of those marked, with nothing planned before
  each-marked : (l : List Bool) (what : Each) (n : ℕ) (s : SequencePaxos) → n ≤ c.depots → n ≤ 7 → InLog what (log_length s) → I 0 s → I n (for_marked l what n s) × InLog what (log_length (for_marked l what n s))
  unfolding for_marked
  each-marked l what zero s h d w i = (i, w)
  each-marked l what (suc n) s h d w i = one_more (each-marked l what n s (omega arith) (omega arith) w i)
    where
      one_more : I n (for_marked l what n s) × InLog what (log_length (for_marked l what n s)) → I (suc n) (turn_of what (get_or l n false) (suc n) (for_marked l what n s)) × InLog what (log_length (turn_of what (get_or l n false) (suc n) (for_marked l what n s)))
      one_more p =
          let r = for_marked l what n s in
          (o.more (n + 1) (suc n) (turn_of what (get_or l n false) (suc n) r) (omega arith) (along-turn what (get_or l n false) n (suc n) r (omega arith) (omega arith, h) p.1 p.0), still what (get_or l n false) (suc n) r p.1)

  -- to each marked depot
  pub along-marked : (l : List Bool) (what : Each) (s : SequencePaxos) → c.depots ≤ 7 → InLog what (log_length s) → I 0 s → I 7 (for_marked l what s.config.depots s)
  along-marked l what s h w i =
      let n = s.config.depots in
      let same : n ≡ c.depots = ap (λ (x : Configuration). x.depots) (o.config 0 s i) in
      o.more n 7 (for_marked l what n s) (omega arith) (each-marked l what n s (omega arith) (omega arith) w i).0
