-- What each send leaves, and that it is one thing more in the plan; to several depots, one for each that is marked.
use Rattle.std.specs.Prelude.{Option, None, Some}
use Prim.Native.Nat.{ℕ, zero, suc, ◌+◌, ◌-◌, ◌≤◌}
use mathlib.Core.Path.{◌≡◌, refl, ap}
use mathlib.Core.Bool.{Bool, true, false}
use mathlib.Core.List.{List}
use native.Mathlib.Omega.{arith}
use lib.Dec.{ltb, leb, eqb}
use lib.ListN.{get_or}
use borrow.Author.Tests.{leb-true, leb-false, eqb-true}
use Rattle.base.specs.Limits.{max_log, largest}
use Rattle.base.specs.Count.{one, count_below}
use Rattle.leader_state.specs.declared.Depot.{Depot}
use Rattle.leader_state.specs.declared.PromiseMetaData.{PromiseMetaData}
use Rattle.leader_state.specs.declared.PromiseState.{PromiseState}
use Rattle.leader_state.specs.declared.PromiseState.TheVariants.{NotPromised, Promised, PromisedHigher}
use Rattle.leader_state.specs.State.{set_latest, next_session, next_counter}
use Rattle.leader_state.proofs.Past.{one_place}
use Rattle.paxos_box.specs.declared.SequencePaxos.{SequencePaxos}
use Rattle.paxos_box.specs.declared.Plan.{Plan}
use Rattle.paxos_box.specs.declared.Send.{Send}
use Rattle.paxos_box.specs.Box.{unfit, at_top, push_of, next_place}
use Rattle.sends.specs.declared.Each.{Each}
use Rattle.sends.specs.declared.Each.TheVariants as each
use Rattle.sends.specs.Sends.{the_depot, on_depot, log_length, suffix_length, sync_fits, next_session_of, next_seq_num_of, set_latest_of, send_prepare, new_session, push_acc_sync, sync_start_of, send_acc_sync, by_promise, acc_sync_to, latest_accdec, join_to, push_accept_decide, new_accept_decide, accept_decide_by, accept_decide_to, push_decide, decide_by, decide_to, send_prepare_req, send_one, turn_of, for_marked}
use Rattle.decide_laws.proofs.Grown.{either, grown-none, grown-push, InPlace, goes-push, just_to, each-push, planned-only, Sent, Quiet, SentOne, same-config, same-storage, sent-more, sent-none, sent-then, sent-after}
use Rattle.decide_laws.proofs.Marks.{marked}

place-on : {w : ℕ → ℕ} {k : ℕ} {s r : SequencePaxos} (to : ℕ) → Sent w k s r → InPlace to s.config → InPlace to r.config
place-on to x h = rw (same-config x) h

log-on : {w : ℕ → ℕ} {k : ℕ} {s r : SequencePaxos} → Sent w k s r → log_length s ≤ max_log → log_length r ≤ max_log
log-on x h = rw (same-storage x) h

pub sent-push : (m : Send) (s : SequencePaxos) → InPlace m.to s.config → m.count ≤ max_log → SentOne m.to s (push_of m s)
unfolding push_of
sent-push m s p h =
    record { only = refl; leader = refl; writes = ap (λ (p : Plan). p.writes) (planned-only m s.plan); sight = ap (λ (p : Plan). p.sight) (planned-only m s.plan); grown = grown-push m s.plan h; goes = goes-push s.config m s.plan p; each = each-push m s.plan; past = λ i l. refl }

-- the flags
pub sent-unfit : (s : SequencePaxos) → Quiet s (unfit s)
sent-unfit s = record { only = refl; leader = refl; writes = refl; sight = refl; grown = grown-none s.plan.sends; goes = λ a. a; each = λ pid. omega arith; past = λ i h. refl }

pub sent-top : (s : SequencePaxos) → Quiet s (at_top s)
sent-top s = record { only = refl; leader = refl; writes = refl; sight = refl; grown = grown-none s.plan.sends; goes = λ a. a; each = λ pid. omega arith; past = λ i h. refl }

-- a depot's place changed
pub sent-depot : (pid : ℕ) (f : Depot → Depot) (s : SequencePaxos) → InPlace pid s.config → Quiet s (on_depot pid f s)
sent-depot pid f s h =
    record { only = refl; leader = refl; writes = refl; sight = refl; grown = grown-none s.plan.sends; goes = λ a. a; each = λ pid. omega arith; past = one_place s.config.depots pid f s.leader_state h.0 h.1 }

pub suffix-le : (len from : ℕ) → suffix_length len from ≤ len
unfolding suffix_length
suffix-le len from = either (λ (n : ℕ). n ≤ len) (ltb len from) 0 (len - from) (λ e. omega arith) (λ e. omega arith)

pub sent-fits : (from : ℕ) (s : SequencePaxos) → Quiet s (sync_fits from s)
unfolding sync_fits
sent-fits from s = either (Quiet s) (ltb (log_length s) from) (unfit s) s (λ e. sent-unfit s) (λ e. sent-none s)

module _ (to : ℕ) (s : SequencePaxos) (h : InPlace to s.config) where
  sent-next-session : Quiet s (next_session_of to s)
  unfolding next_session_of
  sent-next-session =
      either (Quiet s) (leb largest (the_depot to s).seq_num.session) (at_top s) (on_depot to next_session s) (λ e. sent-top s) (λ e. sent-depot to next_session s h)

  sent-next-counter : Quiet s (next_seq_num_of to s)
  unfolding next_seq_num_of
  sent-next-counter =
      either (Quiet s) (leb largest (the_depot to s).seq_num.counter) (at_top s) (on_depot to next_counter s) (λ e. sent-top s) (λ e. sent-depot to next_counter s h)

sent-new-session : (to : ℕ) (s : SequencePaxos) → InPlace to s.config → Quiet s (new_session to s)
unfolding new_session
sent-new-session to s h =
    let x = sent-next-session to s h in
    let y = sent-after x (sent-next-counter to (next_session_of to s) (place-on to x h)) in
    sent-after y (sent-depot to (set_latest None) (next_seq_num_of to (next_session_of to s)) (place-on to y h))

sent-accsync : (from to : ℕ) (s : SequencePaxos) → InPlace to s.config → log_length s ≤ max_log → SentOne to s (push_acc_sync from to s)
unfolding push_acc_sync
sent-accsync from to s h l = sent-push _ s h (omega (arith, suffix-le (log_length s) from))

sent-synced : (to : ℕ) (m : PromiseMetaData) (s : SequencePaxos) → InPlace to s.config → log_length s ≤ max_log → SentOne to s (send_acc_sync to m s)
unfolding send_acc_sync
sent-synced to m s h l =
    let x = sent-fits (sync_start_of m s) s in
    let y = sent-after x (sent-new-session to (sync_fits (sync_start_of m s) s) (place-on to x h)) in
    sent-after y (sent-accsync (sync_start_of m s) to (new_session to (sync_fits (sync_start_of m s) s)) (place-on to y h) (log-on y l))

-- AcceptSync, where the depot has promised
pub sent-sync-to : (to : ℕ) (s : SequencePaxos) → InPlace to s.config → log_length s ≤ max_log → SentOne to s (acc_sync_to to s)
unfolding acc_sync_to
sent-sync-to to s h l = by (the_depot to s).promise
  where
    by : (p : PromiseState) → SentOne to s (by_promise to p s)
    by (Promised m) = sent-synced to m s h l
    by NotPromised = sent-more (sent-none s) (just_to to) 1 (λ pid. omega arith) (omega arith)
    by PromisedHigher = sent-more (sent-none s) (just_to to) 1 (λ pid. omega arith) (omega arith)

pub sent-join : (from count to at : ℕ) (s : SequencePaxos) → InPlace to s.config → count ≤ max_log → SentOne to s (join_to from count to at s)
unfolding join_to
sent-join from count to at s p h = sent-push _ s p h

sent-decided-entries : (from count to : ℕ) (s : SequencePaxos) → InPlace to s.config → count ≤ max_log → SentOne to s (new_accept_decide from count to s)
unfolding new_accept_decide push_accept_decide
sent-decided-entries from count to s h l =
    let x = sent-depot to (set_latest (Some (next_place s))) s h in
    let y = sent-after x (sent-next-counter to (set_latest_of to (Some (next_place s)) s) (place-on to x h)) in
    sent-after y (sent-push _ (next_seq_num_of to (set_latest_of to (Some (next_place s)) s)) (place-on to y h) l)

-- AcceptDecide, new or joined to the remembered one
pub sent-accept-decide : (from count to : ℕ) (s : SequencePaxos) → InPlace to s.config → count ≤ max_log → SentOne to s (accept_decide_to from count to s)
unfolding accept_decide_to
sent-accept-decide from count to s h l = by (latest_accdec to s)
  where
    by : (x : Option ℕ) → SentOne to s (accept_decide_by from count to x s)
    by (Some at) = sent-join from count to at s h l
    by None = sent-decided-entries from count to s h l

sent-decide-new : (to : ℕ) (s : SequencePaxos) → InPlace to s.config → SentOne to s (push_decide to (next_seq_num_of to s))
unfolding push_decide
sent-decide-new to s h = let x = sent-next-counter to s h in sent-after x (sent-push _ (next_seq_num_of to s) (place-on to x h) (omega arith))

-- Decide, new or joined
pub sent-decide : (to : ℕ) (s : SequencePaxos) → InPlace to s.config → SentOne to s (decide_to to s)
unfolding decide_to
sent-decide to s h = by (latest_accdec to s)
  where
    by : (x : Option ℕ) → SentOne to s (decide_by to x s)
    by (Some at) = sent-join 0 0 to at s h (omega arith)
    by None = sent-decide-new to s h

pub sent-prepare : (to : ℕ) (s : SequencePaxos) → InPlace to s.config → SentOne to s (send_prepare to s)
unfolding send_prepare
sent-prepare to s h = sent-push _ s h (omega arith)

pub sent-request : (to : ℕ) (s : SequencePaxos) → InPlace to s.config → SentOne to s (send_prepare_req to s)
unfolding send_prepare_req
sent-request to s h = sent-push _ s h (omega arith)

-- what is sent to several has few entries
abbrev pub Few : Each → SequencePaxos → Type 0
Few each.Prepare s = Unit {0}
Few each.AcceptSync s = log_length s ≤ max_log
Few (each.AcceptDecide from count) s = count ≤ max_log
Few each.Decide s = Unit {0}
Few each.PrepareReq s = Unit {0}

few_on : {w : ℕ → ℕ} {k : ℕ} {s r : SequencePaxos} (what : Each) → Sent w k s r → Few what s → Few what r
few_on each.Prepare x h = h
few_on each.AcceptSync x h = log-on x h
few_on (each.AcceptDecide from count) x h = h
few_on each.Decide x h = h
few_on each.PrepareReq x h = h

sent-one : (what : Each) (to : ℕ) (s : SequencePaxos) → InPlace to s.config → Few what s → SentOne to s (send_one what to s)
sent-one each.Prepare to s h f = sent-prepare to s h
sent-one each.AcceptSync to s h f = sent-sync-to to s h f
sent-one (each.AcceptDecide from count) to s h f = sent-accept-decide from count to s h f
sent-one each.Decide to s h f = sent-decide to s h
sent-one each.PrepareReq to s h f = sent-request to s h

sent-turn : (what : Each) (on : Bool) (to : ℕ) (s : SequencePaxos) → InPlace to s.config → Few what s → Sent (just_to to) (one on) s (turn_of what on to s)
sent-turn what true to s h f = sent-one what to s h f
sent-turn what false to s h f = sent-more (sent-none s) (just_to to) 0 (λ pid. omega arith) (omega arith)

-- one to each of the first n depots
abbrev pub up_to : ℕ → ℕ → ℕ
up_to n pid = one (leb pid n)

-- the next depot is none of the first
next_one : (n pid : ℕ) → up_to n pid + just_to (suc n) pid ≤ up_to (suc n) pid
unfolding just_to
next_one n pid = go (leb pid n) (eqb pid (suc n)) (leb pid (suc n)) refl refl refl
  where
    go : (a b c : Bool) → leb pid n ≡ a → eqb pid (suc n) ≡ b → leb pid (suc n) ≡ c → one a + one b ≤ one c
    go true true c p q r = absurd (omega (arith, leb-true pid n p, eqb-true pid (suc n) q))
    go true false true p q r = omega arith
    go true false false p q r = absurd (omega (arith, leb-true pid n p, leb-false pid (suc n) r))
    go false true true p q r = omega arith
    go false true false p q r = absurd (omega (arith, eqb-true pid (suc n) q, leb-false pid (suc n) r))
    go false false c p q r = omega arith

-- to each marked depot: one for each mark
pub sent-marked : (l : List Bool) (what : Each) (n : ℕ) (s : SequencePaxos) → n ≤ s.config.depots → Few what s → Sent (up_to n) (marked l n) s (for_marked l what n s)
unfolding for_marked count_below
sent-marked l what zero s h f = sent-more (sent-none s) (up_to 0) 0 (λ pid. omega arith) (omega arith)
sent-marked l what (suc n) s h f = one_more (sent-marked l what n s (omega arith) f)
  where
    one_more : Sent (up_to n) (marked l n) s (for_marked l what n s) → Sent (up_to (suc n)) (one (get_or l n false) + marked l n) s (turn_of what (get_or l n false) (suc n) (for_marked l what n s))
    one_more x =
        sent-more (sent-then x (sent-turn what (get_or l n false) (suc n) (for_marked l what n s) (place-on (suc n) x (omega arith, h)) (few_on what x f))) (up_to (suc n)) (one (get_or l n false) + marked l n) (next_one n) (omega arith)
