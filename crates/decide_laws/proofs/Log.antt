-- What a step decides about the log and the buffered proposals: what it leaves, and that the log stays within its limit but for a leader's proposals.
use Prim.Native.Nat.{ℕ, ◌+◌, ◌-◌, ◌≤◌, ◌<◌, min, max}
use mathlib.Core.Path.{◌≡◌, refl}
use mathlib.Core.Logic.{inl}
use mathlib.Core.Bool.{Bool, true, false, cond, not}
use native.Mathlib.Omega.{arith}
use lib.Dec.{ltb, eqb}
use borrow.Author.Tests.{ltb-false, eqb-false}
use Rattle.base.specs.Limits.{max_log}
use Rattle.ballot.specs.declared.Ballot.{Ballot}
use Rattle.leader_state.specs.declared.LogSync.{LogSync}
use Rattle.paxos_box.specs.declared.SequencePaxos.{SequencePaxos}
use Rattle.paxos_box.specs.declared.LogOp.{LogOp}
use Rattle.paxos_box.specs.Box.{set_buffered}
use Rattle.log_plan.specs.Log.{sync_end, ends_past, put_unfit, sync_unfit, sync_log, append_given, kept_of, append_buffered, buffer_given, has_leader, push_forward, forward_proposals, forward_buffered}
use Rattle.log_plan.proofs.Ends.{fit-within}
use Rattle.paxos_box.specs.declared.Source.TheVariants.{Given, Buffered}
use Rattle.decide_laws.proofs.Grown.{either, InPlace, Step, Longer, step-none, step-more, step-stored, one-step}
use Rattle.decide_laws.proofs.Sends.{sent-push}

-- what a sync that may be put on says of the log of that length and decided index
pub record PutFits (x : LogSync) (change brings len decided : ℕ) : Type 0 where
  pub starts : x.sync_idx ≤ len
  pub changes : decided ≤ change
  pub own : decided ≤ sync_end x
  pub brought : brings ≤ sync_end x
  pub within : sync_end x ≤ max_log

pub put-fits : (x : LogSync) (change brings : ℕ) (s : SequencePaxos) → sync_unfit x change brings s ≡ false → PutFits x change brings s.internal_storage.accepted_idx s.internal_storage.decided_idx
unfolding sync_unfit put_unfit
put-fits x change brings s e =
    let len = s.internal_storage.accepted_idx in
    let decided = s.internal_storage.decided_idx in
    let a = rest (ends_past x) _ e in
    let b = rest (ltb len x.sync_idx) _ a.1 in
    let c = rest (ltb change decided) _ b.1 in
    let d = rest (ltb (sync_end x) decided) _ c.1 in
    record {
      starts = ltb-false len x.sync_idx b.0;
      changes = ltb-false change decided c.0;
      own = ltb-false (sync_end x) decided d.0;
      brought = ltb-false (sync_end x) brings d.1;
      within = fit-within x change brings s e;
    }
  where
    rest : (t r : Bool) → cond t true r ≡ false → (t ≡ false) × (r ≡ false)
    rest true r h = absurd (let w : ◌≡◌ {A = ℕ} 0 1 = cc in omega arith)
    rest false r h = (refl, h)

-- the decided index rises to the given one; both lie within the log's new end
pub step-synced : (n : Ballot) (decided end : ℕ) (op : LogOp) (s : SequencePaxos) → decided ≤ end → (s.internal_storage.decided_idx ≤ s.internal_storage.accepted_idx → s.internal_storage.decided_idx ≤ end) → end ≤ max max_log s.internal_storage.accepted_idx → Step 0 0 s (sync_log n decided end op s)
unfolding sync_log
step-synced n decided end op s h k e = step-stored (inl refl) (λ l. let m = k l in omega arith) (omega arith)

pub step-appended : (more count : ℕ) (s : SequencePaxos) → s.internal_storage.accepted_idx + count ≤ max max_log (s.internal_storage.accepted_idx + more) → Longer more 0 0 s (append_given count s)
unfolding append_given
step-appended more count s h = step-stored (inl refl) (λ l. omega arith) h

pub kept-within : (waiting len : ℕ) → len + kept_of waiting len ≤ max max_log len
unfolding kept_of
kept-within waiting len =
    either (λ (n : ℕ). len + n ≤ max max_log len) (ltb max_log len) 0 (min waiting (max_log - len)) (λ e. omega arith) (λ e. let h = ltb-false max_log len e in omega arith)

pub step-buffered-joined : (s : SequencePaxos) → Step 0 0 s (append_buffered s)
unfolding append_buffered
step-buffered-joined s =
    step-stored (inl refl) (λ l. omega arith) (let h = kept-within s.buffered_proposals s.internal_storage.accepted_idx in omega arith)

pub step-buffered : (count : ℕ) (s : SequencePaxos) → Step 0 0 s (buffer_given count s)
unfolding buffer_given
step-buffered count s = step-none s

-- the promise's pid is none above the depots (refusal 2), so a leader to forward to is a depot
abbrev pub PromisedWithin : SequencePaxos → Type 0
PromisedWithin s = s.internal_storage.promise.pid ≤ s.config.depots

leader-place : (s : SequencePaxos) → PromisedWithin s → has_leader s ≡ true → InPlace s.internal_storage.promise.pid s.config
unfolding has_leader
leader-place s h e = (some (eqb s.internal_storage.promise.pid 0) refl e, h)
  where
    some : (b : Bool) → eqb s.internal_storage.promise.pid 0 ≡ b → cond b false (not (eqb s.internal_storage.promise.pid s.config.pid)) ≡ true → 0 < s.internal_storage.promise.pid
    some true p q = absurd (let w : ◌≡◌ {A = ℕ} 0 1 = cc in omega arith)
    some false p q = let w = eqb-false s.internal_storage.promise.pid 0 p in omega arith

pub step-forward : (count : ℕ) (s : SequencePaxos) → PromisedWithin s → count ≤ max_log → Step 1 1 s (forward_proposals count s)
unfolding forward_proposals
step-forward count s p h =
    either (Step 1 1 s) (has_leader s) (push_forward Given count s) (buffer_given count s)
    (λ e. one-step s.internal_storage.promise.pid (sent-push _ s (leader-place s p e) h))
    (λ e. step-more (step-buffered count s) 1 (omega arith))

pub step-forward-buffered : (s : SequencePaxos) → PromisedWithin s → s.buffered_proposals ≤ max_log → Step 1 1 s (forward_buffered s)
unfolding forward_buffered
step-forward-buffered s p h =
    either (Step 1 1 s) (eqb s.buffered_proposals 0) s (cond (has_leader s) (push_forward Buffered s.buffered_proposals (set_buffered 0 s)) s)
    (λ e. step-more (step-none s) 1 (omega arith))
    (λ e. either (Step 1 1 s) (has_leader s) (push_forward Buffered s.buffered_proposals (set_buffered 0 s)) s
    (λ f. one-step s.internal_storage.promise.pid (sent-push _ (set_buffered 0 s) (leader-place s p f) h))
    (λ f. step-more (step-none s) 1 (omega arith)))
