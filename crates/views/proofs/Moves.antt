-- Each small move of a step keeps a plan that counts no more than there is.
use Rattle.std.specs.Prelude.{Option, None, Some}
use Prim.Native.Nat.{ℕ, ◌+◌, ◌-◌, ◌≤◌}
use mathlib.Core.Path.{◌≡◌, refl, sym, ap, ◌∙◌}
use mathlib.Core.Bool.{Bool, true, false, cond}
use mathlib.Core.List.{List}
use native.Mathlib.Omega.{arith}
use lib.Dec.{ltb, leb}
use lib.ListN.{length}
use Rattle.base.specs.Limits.{largest}
use Rattle.leader_state.specs.declared.LogSync.{LogSync}
use Rattle.ballot.specs.declared.Ballot.{Ballot}
use Rattle.quorum.specs.declared.Configuration.{Configuration}
use Rattle.leader_state.specs.declared.PromiseMetaData.{PromiseMetaData}
use Rattle.leader_state.specs.declared.PromiseState.TheVariants.{Promised}
use Rattle.leader_state.specs.State.{with_of, with_depot, with_best, set_promise_state, next_counter, forget_all}
use Rattle.leader_state.specs.Promises.{beats_best}
use Rattle.messages.specs.declared.Event.{Event}
use Rattle.paxos_box.specs.declared.LogOp.{LogOp}
use Rattle.paxos_box.specs.declared.LogOp.TheVariants as log
use Rattle.paxos_box.specs.declared.Source.TheVariants as source
use Rattle.paxos_box.specs.declared.CachedPromise.{CachedPromise}
use Rattle.paxos_box.specs.declared.Send.{Send}
use Rattle.paxos_box.specs.declared.Sends.{Sends}
use Rattle.paxos_box.specs.declared.Writes.{Writes}
use Rattle.paxos_box.specs.declared.SequencePaxos.{SequencePaxos}
use Rattle.paxos_box.specs.Box.{with_leader, at_top, set_cached, set_buffered, set_meta, push_of, next_place, log_op}
use Rattle.sends.specs.Sends.{log_length, suffix_length, the_depot, on_depot, set_latest_of, next_seq_num_of, send_prepare, push_acc_sync, join_to, push_accept_decide, new_accept_decide, push_decide, send_prepare_req}
use Rattle.log_plan.specs.Log.{sync_end, sync_log, append_given, kept_of, append_buffered, buffer_given, push_forward}
use Rattle.leader.specs.Leader.{keep_promise, own_meta, own_promise, keep_sync}
use Rattle.accepting.specs.Accepting.{send_accepted}
use Rattle.follower.specs.Follower.{count_of, log_source, cached_source, kept_sync, promise_of, send_promise, cache_promise}
use Rattle.outcome.specs.Outcome.{drained, restarted}
use Rattle.broken.specs.Broken.{sync_in}
use Rattle.storage.specs.Storage.{end_after}
use Rattle.decide_laws.proofs.Grown.{either}
use Rattle.step_laws.proofs.Written.{kept-le}
use Rattle.step_laws.proofs.Moves.{Unwritten, Holds, Tells, Closed}
use Rattle.step_laws.proofs.Plan.{items-none}
use Rattle.views.proofs.Fine.{Sizes, OpWithin, BufferWithin, cached_size, source_size, Within, Fine, FineBox, fine_more, fine-cached, fine-best, fine-push}

-- the suffix of a log from a place on
suffix_within : (len from : ℕ) → suffix_length len from ≤ len - from
unfolding suffix_length
suffix_within len from = either (λ (n : ℕ). n ≤ len - from) (ltb len from) 0 (len - from) (λ e. omega arith) (λ e. omega arith)

longer-cached : (op : Option LogSync) (z : Sizes) (a b : ℕ) → a ≤ b → cached_size op a z ≤ cached_size op b z
longer-cached None z a b h = omega arith
longer-cached (Some x) z a b h = omega arith

none_left : (op : Option ℕ) (z : Sizes) → op ≡ None → BufferWithin op 0 z
none_left op z e = rw e (omega arith)

from-cached : (x : Option LogSync) (op : Option LogSync) (len : ℕ) (z : Sizes) → count_of x ≤ cached_size op len z → count_of x ≤ source_size len op z (cached_source x)
from-cached None op len z h = omega arith
from-cached (Some x) op len z h = h

module _ (c : Configuration) (z : Sizes) where
  -- Of the parts of a box with nothing planned yet

  -- another log, where nothing of the cached promise was built from it
  fine-log : {o : Configuration} {len b : ℕ} {x y : Option LogSync} {p : Sends} {w : Writes} (op : LogOp) (n : ℕ) → OpWithin op z → n ≡ end_after op z.log → Unwritten w → Fine c z 0 o len b x y p w → Fine c z 0 o n b x y p (log_op op w)
  fine-log {o} {len} {b} {x} {y} {p} {w} op n h e u f =
      record {
        config = f.config;
        things = f.things;
        sums = f.sums;
        op = h;
        joins = f.joins;
        log = omega (arith, e, u.buffered);
        buffer = f.buffer;
        cached = cached-same w.cached u.cached f.cached;
        best = f.best;
        sends = items-none (Within len w.cached z) (Within n w.cached z) p f.things f.sends;
      }
    where
      cached-same : (op : Option LogSync) → op ≡ None → count_of x ≤ cached_size op len z → count_of x ≤ cached_size op n z
      cached-same op e h = rw e (rw e at h)

  -- the log is as found where nothing is written yet
  pub found-log : {k : ℕ} {o : Configuration} {len b : ℕ} {x y : Option LogSync} {p : Sends} {w : Writes} → Unwritten w → Fine c z k o len b x y p w → len ≡ z.log
  found-log {w = w} u f = omega (arith, f.log, u.buffered, ap (λ (op : LogOp). end_after op z.log) u.log)

  -- The moves, of boxes

  -- another best promise
  own-promise : (k : ℕ) (s : SequencePaxos) → FineBox c z k s → FineBox c z k (own_promise s)
  unfolding own_promise
  own-promise k s f = by (beats_best (own_meta s) s.leader_state)
    where
      by : (t : Bool) → FineBox c z k (with_leader (with_best (cond t (record { meta = own_meta s; sync = None }) s.leader_state.max_promise) (with_depot (own_meta s).pid (set_promise_state (Promised (own_meta s))) s.leader_state)) s)
      by true = fine-best c z None (omega arith) f
      by false = f

  new-leader : (k : ℕ) (n : Ballot) (s : SequencePaxos) → FineBox c z k s → FineBox c z k (with_leader (with_of n s.config.depots s.leader_state) s)
  unfolding with_of
  new-leader k n s f = fine-best c z None (omega arith) f

  held-promise : (m : PromiseMetaData) (x : Option LogSync) (s : SequencePaxos) → count_of x ≤ z.given → FineBox c z 0 s → FineBox c z 0 (keep_sync (beats_best m s.leader_state) x (keep_promise m x true s))
  held-promise m x s h f = by (beats_best m s.leader_state) x h
    where
      by : (t : Bool) (x : Option LogSync) → count_of x ≤ z.given → FineBox c z 0 (keep_sync t x (with_leader (with_best (cond t (record { meta = m; sync = x }) s.leader_state.max_promise) (with_depot m.pid (set_promise_state (Promised m)) s.leader_state)) s))
      by true None h = record { config = f.config; things = f.things; sums = f.sums; op = f.op; joins = f.joins; log = f.log; buffer = f.buffer; cached = f.cached; best = omega arith; sends = f.sends }
      by true (Some y) h = record { config = f.config; things = f.things; sums = f.sums; op = f.op; joins = f.joins; log = f.log; buffer = f.buffer; cached = f.cached; best = omega (arith, h); sends = f.sends }
      by false x h = f

  -- the log
  synced : (n : Ballot) (decided end : ℕ) (op : LogOp) (s : SequencePaxos) → OpWithin op z → end ≡ end_after op z.log → Unwritten s.plan.writes → FineBox c z 0 s → FineBox c z 0 (sync_log n decided end op s)
  unfolding sync_log
  synced n decided end op s h e u f = fine-log op end h e u f

  appended : (n : ℕ) (s : SequencePaxos) → n ≤ z.given → Unwritten s.plan.writes → FineBox c z 0 s → FineBox c z 0 (append_given n s)
  unfolding append_given
  appended n s h u f = fine-log (log.Append n) (s.internal_storage.accepted_idx + n) h (omega (arith, found-log u f)) u f

  -- the buffered proposals
  joined : (s : SequencePaxos) → s.plan.writes.buffered ≡ 0 → s.plan.writes.buffer ≡ None → s.buffered_proposals ≡ z.buffered → FineBox c z 0 s → FineBox c z 0 (append_buffered s)
  unfolding append_buffered
  joined s e b n f =
      let len = s.internal_storage.accepted_idx in
      let more = kept_of s.buffered_proposals len in
      record {
        config = f.config;
        things = f.things;
        sums = f.sums;
        op = f.op;
        joins = omega (arith, n, kept-le s.buffered_proposals len);
        log = omega (arith, e, f.log);
        buffer = none_left s.plan.writes.buffer z b;
        cached = omega (arith, f.cached, longer-cached s.plan.writes.cached z len (len + more) (omega arith));
        best = f.best;
        sends = items-none (Within len s.plan.writes.cached z) (Within (len + more) s.plan.writes.cached z) s.plan.sends f.things f.sends;
      }

  buffered : (n : ℕ) (s : SequencePaxos) → n ≤ z.given → s.buffered_proposals ≡ z.buffered → FineBox c z 0 s → FineBox c z 0 (buffer_given n s)
  unfolding buffer_given
  buffered n s h e f =
      record { config = f.config; things = f.things; sums = f.sums; op = f.op; joins = f.joins; log = f.log; buffer = (rw e, h); cached = f.cached; best = f.best; sends = f.sends }

  emptied : (k : ℕ) (s : SequencePaxos) → s.plan.writes.buffer ≡ None → FineBox c z k s → FineBox c z k (set_buffered 0 s)
  emptied k s b f =
      record { config = f.config; things = f.things; sums = f.sums; op = f.op; joins = f.joins; log = f.log; buffer = none_left s.plan.writes.buffer z b; cached = f.cached; best = f.best; sends = f.sends }

  -- the cached promise
  forgotten : (k : ℕ) (s : SequencePaxos) → FineBox c z k s → FineBox c z k (set_cached None s)
  forgotten k s f = fine-cached c z None (omega arith) f

  kept-promise : (x : Option LogSync) (s : SequencePaxos) → Tells (log_length s) x → FineBox c z 0 s → FineBox c z 0 (cache_promise x s)
  unfolding cache_promise
  kept-promise None s t f =
      record { config = f.config; things = f.things; sums = f.sums; op = f.op; joins = f.joins; log = f.log; buffer = f.buffer; cached = omega arith; best = f.best; sends = items-none (Within (log_length s) s.plan.writes.cached z) (Within (log_length s) None z) s.plan.sends f.things f.sends }
  kept-promise (Some y) s t f =
      record { config = f.config; things = f.things; sums = f.sums; op = f.op; joins = f.joins; log = f.log; buffer = f.buffer; cached = omega (arith, t.0, suffix_within (log_length s) y.sync_idx); best = f.best; sends = items-none (Within (log_length s) s.plan.writes.cached z) (Within (log_length s) (Some y) z) s.plan.sends f.things f.sends }

  -- what is sent
  from-log : (x : Option LogSync) (len : ℕ) (op : Option LogSync) → Tells len x → count_of x ≤ source_size len op z (log_source x)
  from-log None len op t = omega arith
  from-log (Some y) len op t = omega (arith, t.0, suffix_within len y.sync_idx)

  sent-empty : (k : ℕ) (m : Send) (s : SequencePaxos) → m.count ≡ 0 → FineBox c z k s → FineBox c z (k + 1) (push_of m s)
  sent-empty k m s e f = fine-push c z k m s (omega arith) f

  sent-prepare : (k to : ℕ) (s : SequencePaxos) → FineBox c z k s → FineBox c z (k + 1) (send_prepare to s)
  unfolding send_prepare
  sent-prepare k to s f = sent-empty k _ s refl f

  sent-request : (k to : ℕ) (s : SequencePaxos) → FineBox c z k s → FineBox c z (k + 1) (send_prepare_req to s)
  unfolding send_prepare_req
  sent-request k to s f = sent-empty k _ s refl f

  sent-sync : (k from to : ℕ) (s : SequencePaxos) → FineBox c z k s → FineBox c z (k + 1) (push_acc_sync from to s)
  unfolding push_acc_sync
  sent-sync k from to s f = fine-push c z k _ s (suffix_within (log_length s) from) f

  next-number : (k to : ℕ) (s : SequencePaxos) → FineBox c z k s → FineBox c z k (next_seq_num_of to s)
  unfolding next_seq_num_of
  next-number k to s f = either (FineBox c z k) (leb largest (the_depot to s).seq_num.counter) (at_top s) (on_depot to next_counter s) (λ e. f) (λ e. f)

  same_length : (to : ℕ) (s : SequencePaxos) → log_length (next_seq_num_of to s) ≡ log_length s
  unfolding next_seq_num_of
  same_length to s = either (λ (r : SequencePaxos). log_length r ≡ log_length s) (leb largest (the_depot to s).seq_num.counter) (at_top s) (on_depot to next_counter s) (λ e. refl) (λ e. refl)

  pushed-entries : (k from count to : ℕ) (s : SequencePaxos) → from + count ≤ log_length s → FineBox c z k s → FineBox c z (k + 1) (push_accept_decide from count to s)
  unfolding push_accept_decide
  pushed-entries k from count to s h f = fine-push c z k _ s (omega arith) f

  sent-entries : (k from count to : ℕ) (s : SequencePaxos) → from + count ≤ log_length s → FineBox c z k s → FineBox c z (k + 1) (new_accept_decide from count to s)
  unfolding new_accept_decide
  sent-entries k from count to s h f =
      let t = set_latest_of to (Some (next_place s)) s in
      pushed-entries k from count to (next_seq_num_of to t) (omega (arith, h, same_length to t)) (next-number k to t f)

  sent-join : (k from count to at : ℕ) (s : SequencePaxos) → from + count ≤ log_length s → FineBox c z k s → FineBox c z (k + 1) (join_to from count to at s)
  unfolding join_to
  sent-join k from count to at s h f = fine-push c z k _ s (omega arith) f

  sent-decide : (k to : ℕ) (s : SequencePaxos) → FineBox c z k s → FineBox c z (k + 1) (push_decide to s)
  unfolding push_decide
  sent-decide k to s f = sent-empty k _ s refl f

  told-promise : (to : ℕ) (x : Option LogSync) (s : SequencePaxos) → Tells (log_length s) x → FineBox c z 0 s → FineBox c z 1 (send_promise to (promise_of x s) (log_source x) (cache_promise x s))
  unfolding cache_promise
  told-promise to x s t f = fine-push c z 0 _ (cache_promise x s) (from-log x (log_length s) (kept_sync x) t) (kept-promise x s t f)

  told-again : (to : ℕ) (p : CachedPromise) (s : SequencePaxos) → s.cached_promise_message ≡ Some p → FineBox c z 0 s → FineBox c z 1 (send_promise to p (cached_source p.sync) s)
  told-again to p s e f =
      fine-push c z 0 _ s (from-cached p.sync s.plan.writes.cached (log_length s) z (omega (arith, f.cached, ap (λ (m : Option CachedPromise). count_of (sync_in m)) e))) f

  sent-accepted : (k : ℕ) (n : Ballot) (idx to : ℕ) (s : SequencePaxos) → FineBox c z k s → FineBox c z (k + 1) (send_accepted n idx to s)
  unfolding send_accepted
  sent-accepted k n idx to s f = sent-empty k _ (set_meta (Some (record { n = n; at = next_place s })) s) refl f

  forwarded-buffered : (k : ℕ) (s : SequencePaxos) → s.plan.writes.buffer ≡ None → s.buffered_proposals ≡ z.buffered → FineBox c z k s → FineBox c z (k + 1) (push_forward source.Buffered s.buffered_proposals (set_buffered 0 s))
  forwarded-buffered k s b e f = fine-push c z k _ (set_buffered 0 s) (omega (arith, e)) (emptied k s b f)

holds-given : (e : Event) (entries : List ℕ) (x : Option LogSync) → Holds e entries x → count_of x ≤ length entries
holds-given e entries None h = omega arith
holds-given e entries (Some x) h = omega (arith, h.0.count)

-- all of them
pub fine-closed : (c : Configuration) (e : Event) (entries : List ℕ) (found : SequencePaxos) (z : Sizes) → z.given ≡ length entries → z.buffered ≡ found.buffered_proposals → z.best ≡ count_of found.leader_state.max_promise.sync → Closed c e entries found (FineBox c z)
fine-closed c e entries found z g b h =
    record {
      more = λ k n s l i. fine_more c z n l i;
      config = λ k s i. i.config;
      not-fit = λ k s i. i;
      at_top = λ k s i. i;
      follow = λ k p s i. i;
      lead = λ k s o i. i;
      lead-on = λ k s o i. i;
      number = λ k q s i. i;
      promises = λ k n s r i. i;
      decides = λ k idx s w l o i. i;
      leads-anew = λ n s r o i. new-leader c z 0 n s i;
      promises-itself = λ s i. own-promise c z 0 s i;
      keeps = λ m s d k i. i;
      keeps-held = λ m x s d k o u i. held-promise c z m x s (omega (arith, g, holds-given e entries x o)) i;
      keeps-put = λ m x s d k i. fine-best c z None (omega arith) i;
      changes-place = λ k to f s d m i. i;
      puts_none = λ n d s u r l i. synced c z n d (log_length s) log.Keep s tt (found-log c z u i) u i;
      puts-given = λ n d br x s u r w p l i. synced c z n d (sync_end x) (log.PutGiven x) s (omega (arith, p.starts, found-log c z u i), omega (arith, g, w.count)) refl u i;
      puts-held = λ n d br x s u r w p l i. synced c z n d (sync_end x) (log.PutHeld x) s (omega (arith, p.starts, found-log c z u i), omega (arith, h, ap count_of w)) refl u i;
      appends = λ s u f i. appended c z (length entries) s (omega arith) u i;
      joins-buffered = λ s x y w i. joined c z s x y (w ∙ sym b) i;
      buffers = λ s u w f i. buffered c z (length entries) s (omega arith) (w ∙ sym b) i;
      forgets-cached = λ s i. forgotten c z 0 s i;
      sends-prepare = λ k to s l i. sent-prepare c z k to s i;
      sends-request = λ k to s l i. sent-request c z k to s i;
      sends-sync = λ k from to s l i. sent-sync c z k from to s i;
      sends-entries = λ k from count to s l d o i. sent-entries c z k from count to s o i;
      sends-join = λ k from count to at s l o i. sent-join c z k from count to at s o i;
      sends-decide = λ k to s l i. sent-decide c z k to s i;
      tells-promise = λ to x s t d u i. told-promise c z to x s t i;
      tells-again = λ to p s m u i. told-again c z to p s m i;
      tells-higher = λ k n s l i. sent-empty c z k _ s refl i;
      sends-accepted = λ k n idx to s l r i. sent-accepted c z k n idx to s i;
      raises-accepted = λ k n at idx s l i. sent-empty c z k _ s refl i;
      forwards = λ k s l f i. fine-push c z k _ s (omega (arith, g)) i;
      forwards-buffered = λ k s l x w i. forwarded-buffered c z k s x (w ∙ sym b) i;
    }

-- a drain and a restart write nothing and send nothing
pub drained-fine : (c : Configuration) (z : Sizes) (s : SequencePaxos) → FineBox c z 0 s → FineBox c z 0 (drained s)
unfolding drained forget_all
drained-fine c z s f = f

pub restarted-fine : (c : Configuration) (z : Sizes) (s : SequencePaxos) → s.plan.writes.buffer ≡ None → FineBox c z 0 s → FineBox c z 0 (restarted s)
unfolding restarted with_of
restarted-fine c z s b f = fine-cached c z None (omega arith) (fine-best c z None (omega arith) (emptied c z 0 s b f))
