-- What every step plans to write: where the log ends, what goes on it, how many entries go to the buffers, and the sums of what is sent.
use Rattle.std.specs.Prelude.{Option, None, Some}
use Prim.Native.Nat.{ℕ, ◌+◌, ◌-◌, ◌≤◌, ◌<◌, min, max}
use mathlib.Core.Path.{◌≡◌, refl, ap, subst}
use mathlib.Core.Logic.{◌⊎◌, inl, inr}
use mathlib.Core.Bool.{Bool, true, false}
use mathlib.Core.List.{List}
use native.Mathlib.Omega.{arith}
use lib.Dec.{ltb, leb}
use lib.ListN.{length}
use Rattle.base.specs.Limits.{max_log, largest}
use Rattle.leader_state.specs.declared.LogSync.{LogSync}
use Rattle.quorum.specs.declared.Configuration.{Configuration}
use Rattle.leader_state.specs.State.{next_counter}
use Rattle.leader_state.specs.Promises.{beats_best}
use Rattle.messages.specs.declared.Event.{Event}
use Rattle.paxos_box.specs.declared.SequencePaxos.{SequencePaxos}
use Rattle.paxos_box.specs.declared.Outgoing.{Outgoing}
use Rattle.paxos_box.specs.declared.Plan.{Plan}
use Rattle.paxos_box.specs.declared.Send.{Send}
use Rattle.paxos_box.specs.declared.Sends.{Sends}
use Rattle.paxos_box.specs.declared.Writes.{Writes}
use Rattle.paxos_box.specs.declared.LogOp.{LogOp}
use Rattle.paxos_box.specs.declared.LogOp.TheVariants.{Keep, Append, PutGiven, PutHeld}
use Rattle.paxos_box.specs.Box.{at_top, push_of, set_buffered, next_place, set_meta}
use Rattle.sends.specs.Sends.{log_length, the_depot, on_depot, next_seq_num_of, set_latest_of, send_prepare, push_acc_sync, join_to, push_accept_decide, new_accept_decide, push_decide, send_prepare_req}
use Rattle.log_plan.specs.Log.{sync_end, sync_log, append_given, kept_of, append_buffered, buffer_given}
use Rattle.leader.specs.Leader.{keep_promise, own_promise, keep_sync}
use Rattle.accepting.specs.Accepting.{send_accepted}
use Rattle.follower.specs.Follower.{cache_promise}
use Rattle.storage.specs.Storage.{end_after, best_count, buffer_count}
use Rattle.outgoing.specs.Perform.{Sums}
use Rattle.outgoing.proofs.Kept.{sums-planned}
use Rattle.refusals.proofs.Taken.{Fit}
use Rattle.decide_laws.proofs.Grown.{either}
use Rattle.step_laws.proofs.Moves.{Unwritten, Brought, Holds, Closed}
use Rattle.step_laws.proofs.Plan.{planned-is, pushed}

-- what goes on the log: the entries given, all of them and fit, or the held sync as found; nothing starts past the log or changes a decided place
abbrev pub OpFit : Event → List ℕ → SequencePaxos → LogOp → Type 0
OpFit e entries found Keep = Unit {0}
OpFit e entries found (Append n) = (n ≡ length entries) × Fit entries (length entries)
OpFit e entries found (PutGiven x) = Brought e entries x × (x.sync_idx ≤ log_length found) × (found.internal_storage.decided_idx ≤ found.plan.sight.brought_change)
OpFit e entries found (PutHeld x) = (found.leader_state.max_promise.sync ≡ Some x) × (x.sync_idx ≤ log_length found) × (found.internal_storage.decided_idx ≤ found.plan.sight.held_change)

-- of the found box and of the box that decides: its configuration and queue, what is sent and written, its decided index, log length and buffered proposals
pub record Plans (c : Configuration) (e : Event) (entries : List ℕ) (found : SequencePaxos) (k : ℕ) (cfg : Configuration) (o : Outgoing) (x : Sends) (w : Writes) (d a b : ℕ) : Type 0 where
  pub config : cfg ≡ c
  pub queue : o ≡ found.outgoing
  pub things : x.count ≤ k
  pub sums : Sums x
  pub ends : a ≡ end_after w.log (log_length found) + w.buffered
  pub op : OpFit e entries found w.log
  pub kept : w.buffered ≤ found.buffered_proposals
  pub rises : found.internal_storage.decided_idx ≤ d
  pub decided : d ≤ end_after w.log (log_length found)
  pub held : best_count w.best ≤ max_log
  pub buffered : b ≤ found.buffered_proposals + buffer_count w.buffer
  pub buffer : (buffer_count w.buffer ≡ 0) ⊎ (found.buffered_proposals + buffer_count w.buffer ≤ b)

abbrev pub Planned : Configuration → Event → List ℕ → SequencePaxos → ℕ → SequencePaxos → Type 0
Planned c e entries found k s =
    Plans c e entries found k s.config s.outgoing s.plan.sends s.plan.writes s.internal_storage.decided_idx (log_length s) s.buffered_proposals

pub kept-le : (waits len : ℕ) → kept_of waits len ≤ waits
unfolding kept_of
kept-le waits len = either (λ (n : ℕ). n ≤ waits) (ltb max_log len) 0 (min waits (max_log - len)) (λ e. omega arith) (λ e. omega arith)

module _ (c : Configuration) (e : Event) (entries : List ℕ) (found : SequencePaxos) where
  -- one thing more is sent
  push : (m : Send) (k : ℕ) (s : SequencePaxos) → k < 8 → Planned c e entries found k s → Planned c e entries found (k + 1) (push_of m s)
  push m k s h p =
      let few : s.plan.sends.count < 8 = omega (arith, p.things) in
      pushed (Planned c e entries found (k + 1)) m s few
      (record { config = p.config; queue = p.queue; things = omega (arith, p.things); sums = subst (λ (x : Plan). Sums x.sends) (planned-is m s.plan few) (sums-planned m s.plan p.sums); ends = p.ends; op = p.op; kept = p.kept; rises = p.rises; decided = p.decided; held = p.held; buffered = p.buffered; buffer = p.buffer })

  raise : (k n : ℕ) (s : SequencePaxos) → k ≤ n → Planned c e entries found k s → Planned c e entries found n s
  raise k n s h p = record { config = p.config; queue = p.queue; things = omega (arith, p.things); sums = p.sums; ends = p.ends; op = p.op; kept = p.kept; rises = p.rises; decided = p.decided; held = p.held; buffered = p.buffered; buffer = p.buffer }

  -- the decided index
  decide : (k idx : ℕ) (s : SequencePaxos) → s.plan.writes.buffered ≡ 0 → s.internal_storage.decided_idx ≤ idx → idx ≤ log_length s → Planned c e entries found k s → Plans c e entries found k s.config s.outgoing s.plan.sends s.plan.writes idx (log_length s) s.buffered_proposals
  decide k idx s z g h p = record { config = p.config; queue = p.queue; things = p.things; sums = p.sums; ends = p.ends; op = p.op; kept = p.kept; rises = omega (arith, p.rises); decided = omega (arith, z, p.ends); held = p.held; buffered = p.buffered; buffer = p.buffer }

  -- an operation on the log, where nothing is written yet
  put : (op : LogOp) (d a : ℕ) (s : SequencePaxos) → Unwritten s.plan.writes → OpFit e entries found op → a ≡ end_after op (log_length found) → s.internal_storage.decided_idx ≤ d → d ≤ end_after op (log_length found) → Planned c e entries found 0 s → Plans c e entries found 0 s.config s.outgoing s.plan.sends (record { log = op; buffered = s.plan.writes.buffered; dropped = s.plan.writes.dropped; cached = s.plan.writes.cached; best = s.plan.writes.best; buffer = s.plan.writes.buffer }) d a s.buffered_proposals
  put op d a s u f l g h p = record { config = p.config; queue = p.queue; things = p.things; sums = p.sums; ends = omega (arith, u.buffered, l); op = f; kept = p.kept; rises = omega (arith, p.rises); decided = h; held = p.held; buffered = p.buffered; buffer = p.buffer }

  -- nothing written: the log is as long as found
  long : (k : ℕ) (s : SequencePaxos) → Unwritten s.plan.writes → Planned c e entries found k s → log_length s ≡ log_length found
  long k s u p =
      let a : log_length s ≡ end_after Keep (log_length found) + s.plan.writes.buffered = rw u.log at p.ends in
      omega (arith, a, u.buffered)

  within : (k : ℕ) (s : SequencePaxos) → Unwritten s.plan.writes → Planned c e entries found k s → s.internal_storage.decided_idx ≤ log_length found
  within k s u p = rw u.log at p.decided

  append : (s : SequencePaxos) → Unwritten s.plan.writes → Fit entries (length entries) → Planned c e entries found 0 s → Planned c e entries found 0 (append_given (length entries) s)
  unfolding append_given
  append s u f p = put (Append (length entries)) s.internal_storage.decided_idx (log_length s + length entries) s u (refl, f) (omega (arith, long 0 s u p)) (omega arith) (omega (arith, within 0 s u p)) p

  join : (s : SequencePaxos) → s.plan.writes.buffered ≡ 0 → buffer_count s.plan.writes.buffer ≡ 0 → s.buffered_proposals ≡ found.buffered_proposals → Planned c e entries found 0 s → Planned c e entries found 0 (append_buffered s)
  unfolding append_buffered
  join s z n b p =
      let k = kept-le s.buffered_proposals (log_length s) in
      record { config = p.config; queue = p.queue; things = p.things; sums = p.sums; ends = omega (arith, z, p.ends); op = p.op; kept = omega (arith, k, b); rises = p.rises; decided = p.decided; held = p.held; buffered = omega arith; buffer = inl n }

  waiting : (s : SequencePaxos) → Unwritten s.plan.writes → s.buffered_proposals ≡ found.buffered_proposals → Planned c e entries found 0 s → Planned c e entries found 0 (buffer_given (length entries) s)
  unfolding buffer_given
  waiting s u b p =
      record { config = p.config; queue = p.queue; things = p.things; sums = p.sums; ends = p.ends; op = p.op; kept = p.kept; rises = p.rises; decided = p.decided; held = p.held; buffered = omega (arith, b); buffer = inr (omega (arith, b)) }

  empty : (k : ℕ) (s : SequencePaxos) → buffer_count s.plan.writes.buffer ≡ 0 → Planned c e entries found k s → Planned c e entries found k (set_buffered 0 s)
  empty k s n p =
      record { config = p.config; queue = p.queue; things = p.things; sums = p.sums; ends = p.ends; op = p.op; kept = p.kept; rises = p.rises; decided = p.decided; held = p.held; buffered = omega arith; buffer = inl n }

  hold : (x : Option LogSync) (b : Bool) (s : SequencePaxos) → Holds e entries x → Planned c e entries found 0 s → Planned c e entries found 0 (keep_sync b x s)
  hold (Some x) true s h p = record { config = p.config; queue = p.queue; things = p.things; sums = p.sums; ends = p.ends; op = p.op; kept = p.kept; rises = p.rises; decided = p.decided; held = omega (arith, h.1); buffered = p.buffered; buffer = p.buffer }
  hold None true s h p = record { config = p.config; queue = p.queue; things = p.things; sums = p.sums; ends = p.ends; op = p.op; kept = p.kept; rises = p.rises; decided = p.decided; held = omega arith; buffered = p.buffered; buffer = p.buffer }
  hold x false s h p = p

  cache : (k : ℕ) (x : Option LogSync) (s : SequencePaxos) → Planned c e entries found k s → Planned c e entries found k (cache_promise x s)
  unfolding cache_promise
  cache k x s p = record { config = p.config; queue = p.queue; things = p.things; sums = p.sums; ends = p.ends; op = p.op; kept = p.kept; rises = p.rises; decided = p.decided; held = p.held; buffered = p.buffered; buffer = p.buffer }

  -- the next counter, or the flag of one at its top
  next : (k to : ℕ) (s : SequencePaxos) → Planned c e entries found k s → Planned c e entries found k (next_seq_num_of to s)
  unfolding next_seq_num_of
  next k to s p = either (Planned c e entries found k) (leb largest (the_depot to s).seq_num.counter) (at_top s) (on_depot to next_counter s) (λ t. p) (λ t. p)

  accepts : (k from count to : ℕ) (s : SequencePaxos) → k < 8 → Planned c e entries found k s → Planned c e entries found (k + 1) (new_accept_decide from count to s)
  unfolding new_accept_decide push_accept_decide
  accepts k from count to s h p =
      let t = set_latest_of to (Some (next_place s)) s in
      push _ k (next_seq_num_of to t) h (next k to t p)

  pub planned-closed : Closed c e entries found (Planned c e entries found)
  unfolding own_promise sync_log cache_promise send_prepare send_prepare_req push_acc_sync join_to push_decide send_accepted
  planned-closed =
      record {
        more = raise;
        config = λ k s p. p.config;
        not-fit = λ k s p. p;
        at_top = λ k s p. p;
        follow = λ k f s p. p;
        lead = λ k s l p. p;
        lead-on = λ k s l p. p;
        number = λ k q s p. p;
        promises = λ k n s r p. p;
        decides = decide;
        leads-anew = λ n s r l p. p;
        promises-itself = λ s p. p;
        keeps = λ m s d r p. p;
        keeps-held = λ m x s d r h u p. hold x (beats_best m s.leader_state) (keep_promise m x true s) h p;
        keeps-put = λ m x s d r p. p;
        changes-place = λ k to f s d m p. p;
        puts_none = λ n d s u r h p. put Keep (max s.internal_storage.decided_idx d) (log_length s) s u tt (long 0 s u p) (omega arith) (omega (arith, within 0 s u p, long 0 s u p)) p;
        puts-given = λ n d b x s u r g f h p. put (PutGiven x) (max s.internal_storage.decided_idx d) (sync_end x) s u (g, omega (arith, f.starts, long 0 s u p), omega (arith, f.changes, p.rises)) refl (omega arith) (omega (arith, f.own)) p;
        puts-held = λ n d b x s u r g f h p. put (PutHeld x) (max s.internal_storage.decided_idx d) (sync_end x) s u (g, omega (arith, f.starts, long 0 s u p), omega (arith, f.changes, p.rises)) refl (omega arith) (omega (arith, f.own)) p;
        appends = append;
        joins-buffered = λ s z n b p. join s z (ap buffer_count n) b p;
        buffers = λ s u b f p. waiting s u b p;
        forgets-cached = λ s p. p;
        sends-prepare = λ k to s h p. push _ k s h p;
        sends-request = λ k to s h p. push _ k s h p;
        sends-sync = λ k from to s h p. push _ k s h p;
        sends-entries = λ k from count to s h d l p. accepts k from count to s h p;
        sends-join = λ k from count to at s h l p. push _ k s h p;
        sends-decide = λ k to s h p. push _ k s h p;
        tells-promise = λ to x s w d u p. push _ 0 (cache_promise x s) (omega arith) (cache 0 x s p);
        tells-again = λ to m s h u p. push _ 0 s (omega arith) p;
        tells-higher = λ k n s h p. push _ k s h p;
        sends-accepted = λ k n idx to s h r p. push _ k (set_meta (Some (record { n = n; at = next_place s })) s) h p;
        raises-accepted = λ k n at idx s h p. push _ k s h p;
        forwards = λ k s h f p. push _ k s h p;
        forwards-buffered = λ k s h n b p. push _ k (set_buffered 0 s) h (empty k s (ap buffer_count n) p);
      }
