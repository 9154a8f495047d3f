-- Counts that are no more than there is are the lengths of the lists that a plan makes.
use Rattle.std.specs.Prelude.{Option, None, Some}
use Prim.Native.Nat.{ℕ, ◌+◌, ◌≤◌}
use mathlib.Core.Path.{◌≡◌, refl, ap, ◌∙◌}
use mathlib.Core.List.{List, [], ◌∷◌, ◌++◌}
use native.Mathlib.Omega.{arith}
use lib.ListN.{length, take, drop, length-append, length-take, length-drop}
use Rattle.leader_state.specs.declared.LogSync.{LogSync}
use Rattle.quorum.specs.declared.Configuration.{Configuration}
use Rattle.messages.specs.declared.Event.{Event}
use Rattle.messages.specs.declared.Event.TheVariants as event
use Rattle.paxos_box.specs.declared.LogOp.{LogOp}
use Rattle.paxos_box.specs.declared.LogOp.TheVariants as log
use Rattle.paxos_box.specs.declared.Source.{Source}
use Rattle.paxos_box.specs.declared.Source.TheVariants as source
use Rattle.paxos_box.specs.declared.Send.{Send}
use Rattle.paxos_box.specs.declared.SequencePaxos.{SequencePaxos}
use Rattle.follower.specs.Follower.{count_of}
use Rattle.broken.specs.Broken.{sync_in}
use Rattle.storage.specs.Storage.{end_after}
use Rattle.outgoing.specs.Perform.{Sources, source_of, perform_all, items_of}
use Rattle.outgoing.proofs.Steps.{all-longer}
use Rattle.step.specs.Step.{waiting}
use Rattle.step_laws.proofs.Plan.{Each, none, more}
use Rattle.views.specs.View as view
use Rattle.views.specs.View.{View, held_entries, log_to, buffer_to, cached_to, best_to, OpFull, new_log, new_buffered, cached_list, new_cached, new_best, sources_of, queue_to, new_queue, perform_view, Counted, Covered, Plain}
use Rattle.views.proofs.Fine.{Sizes, OpWithin, BufferWithin, cached_size, best_size, source_size, FineBox}

abbrev pub sizes_of : List ℕ → View → Sizes
sizes_of entries v = record { log = length v.log; buffered = length v.buffered; cached = length v.cached; best = length v.best; given = length entries }

module _ (entries : List ℕ) (v : View) where
  op-full : (op : LogOp) → OpWithin op (sizes_of entries v) → OpFull op entries v.best v.log
  op-full log.Keep h = tt
  op-full (log.Append n) h = h
  op-full (log.PutGiven x) h = h
  op-full (log.PutHeld x) h = h

  length-put : (i n : ℕ) (l es : List ℕ) → i ≤ length l → n ≤ length es → length (take i l ++ take n es) ≡ i + n
  length-put i n l es h k = omega (arith, length-append (take i l) (take n es), length-take i l, length-take n es)

  length-log : (op : LogOp) → OpWithin op (sizes_of entries v) → length (log_to op entries v.best v.log) ≡ end_after op (length v.log)
  length-log log.Keep h = refl
  length-log (log.Append n) h = omega (arith, h, length-append v.log (take n entries), length-take n entries)
  length-log (log.PutGiven x) h = length-put x.sync_idx x.len v.log entries h.0 h.1
  length-log (log.PutHeld x) h = length-put x.sync_idx x.len v.log v.best h.0 h.1

  length-buffered : (op : Option ℕ) (n : ℕ) → BufferWithin op n (sizes_of entries v) → length (buffer_to op n entries v.buffered) ≡ n
  length-buffered None n h = omega (arith, h, length-take n v.buffered)
  length-buffered (Some k) n h = omega (arith, h.0, h.1, length-append v.buffered (take k entries), length-take k entries)

  length-cached : (op : Option LogSync) (l : List ℕ) → length (cached_to op l v.cached) ≡ cached_size op (length l) (sizes_of entries v)
  length-cached None l = refl
  length-cached (Some x) l = omega (arith, length-take x.len (drop x.sync_idx l), length-drop x.sync_idx l)

  length-best : (op : Option ℕ) → length (best_to op entries v.best) ≡ best_size op (sizes_of entries v)
  length-best None = refl
  length-best (Some n) = length-take n entries

length-held : (x : Option LogSync) (l : List ℕ) → count_of x ≤ length l → length (held_entries x l) ≡ count_of x
length-held None l h = refl
length-held (Some x) l h = omega (arith, h, length-take x.len l)

covered : (f : Sources) (g : Source → ℕ) → ((x : Source) → g x ≤ length (source_of x f)) → (ms : List Send) → Each (λ m. m.count ≤ g m.source) ms → Covered f ms
covered f g b [] none = view.none
covered f g b (m ∷ ms) (more h s) = view.more {m = m} (omega (arith, h, b m.source, length-take m.count (source_of m.source f))) (covered f g b ms s)

module _ (entries : List ℕ) (v : View) (s : SequencePaxos) (c : Configuration) (k : ℕ) (f : FineBox c (sizes_of entries v) k s) where
  new-length : length (new_log entries s v) ≡ s.internal_storage.accepted_idx
  unfolding new_log
  new-length =
      omega (arith, f.log, f.joins, length-append (log_to s.plan.writes.log entries v.best v.log) (take s.plan.writes.buffered v.buffered), length-log entries v s.plan.writes.log f.op, length-take s.plan.writes.buffered v.buffered)

  cached-length : length (cached_list entries s v) ≡ cached_size s.plan.writes.cached s.internal_storage.accepted_idx (sizes_of entries v)
  unfolding cached_list
  cached-length = length-cached entries v s.plan.writes.cached (new_log entries s v) ∙ ap (λ (n : ℕ). cached_size s.plan.writes.cached n (sizes_of entries v)) new-length

  enough : (x : Source) → source_size s.internal_storage.accepted_idx s.plan.writes.cached (sizes_of entries v) x ≤ length (source_of x (sources_of entries s v))
  enough source.Nothing = omega arith
  enough (source.Log i) = omega (arith, new-length, length-drop i (new_log entries s v))
  enough source.Given = omega arith
  enough source.Buffered = omega arith
  enough source.Cached = omega (arith, cached-length)

  pub plain-fine : Plain entries s v
  unfolding new_buffered new_cached new_best
  plain-fine =
      record {
        op = op-full entries v s.plan.writes.log f.op;
        kept = f.joins;
        log = new-length;
        buffer = length-buffered entries v s.plan.writes.buffer s.buffered_proposals f.buffer;
        cached = length-held (sync_in s.cached_promise_message) (cached_list entries s v) (omega (arith, f.cached, cached-length));
        best = length-held s.leader_state.max_promise.sync (best_to s.plan.writes.best entries v.best) (omega (arith, f.best, length-best entries v s.plan.writes.best));
        sends = covered (sources_of entries s v) (source_size s.internal_storage.accepted_idx s.plan.writes.cached (sizes_of entries v)) enough (items_of s.plan.sends) f.sends.each;
        messages = f.sums.messages;
      }

-- the counts are still the lengths after a step
module _ (entries : List ℕ) (s : SequencePaxos) (v : View) (c : Counted v) (p : Plain entries s v) where
  queue-counted : (e : Event) → length (new_queue e entries s v) ≡ waiting e (v.node.outgoing + s.plan.sends.messages)
  unfolding new_queue
  queue-counted e = by e (omega (arith, c.queue, p.messages, all-longer (sources_of entries s v) (items_of s.plan.sends) v.queue))
    where
      by : (e : Event) → length (perform_all (sources_of entries s v) (items_of s.plan.sends) v.queue) ≡ v.node.outgoing + s.plan.sends.messages → length (queue_to e (perform_all (sources_of entries s v) (items_of s.plan.sends) v.queue)) ≡ waiting e (v.node.outgoing + s.plan.sends.messages)
      by (event.Message m) h = h
      by event.Propose h = h
      by (event.Leader n) h = h
      by (event.Reconnect pid) h = h
      by event.Resend h = h
      by event.Drain h = refl
      by event.Restart h = refl

  pub counted-after : (e : Event) → Counted (perform_view e entries s v)
  unfolding perform_view
  counted-after e = record { log = p.log; buffered = p.buffer; cached = p.cached; best = p.best; queue = queue-counted e }
