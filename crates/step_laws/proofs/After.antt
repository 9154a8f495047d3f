-- What a step that is not refused leaves of the lists: their lengths, and that every entry kept is within its limit.
use Rattle.std.specs.Prelude.{Option, None, Some}
use Prim.Native.Nat.{ℕ, ◌+◌, ◌-◌, ◌≤◌, ◌<◌}
use mathlib.Core.Path.{◌≡◌, sym, subst, ◌∙◌}
use mathlib.Core.Logic.{◌⊎◌, inl, inr}
use mathlib.Core.List.{List, []}
use native.Mathlib.Omega.{arith}
use lib.ListN.{length, take, drop, length-take, length-drop}
use lib.Seq.{get_or-drop}
use Rattle.base.specs.Limits.{max_log, max_buffered, max_messages, max_store}
use Rattle.paxos_box.specs.declared.CachedPromise.{CachedPromise}
use Rattle.quorum.specs.declared.Configuration.{Configuration}
use Rattle.leader_state.specs.declared.LogSync.{LogSync}
use Rattle.messages.specs.declared.Event.{Event}
use Rattle.messages.specs.declared.Row.{Row}
use Rattle.paxos_box.specs.declared.SequencePaxos.{SequencePaxos}
use Rattle.paxos_box.specs.declared.Send.{Send}
use Rattle.paxos_box.specs.declared.Source.{Source}
use Rattle.paxos_box.specs.declared.Source.TheVariants as source
use Rattle.sends.specs.Sends.{log_length}
use Rattle.follower.specs.Follower.{count_of}
use Rattle.record.specs.declared.Record.{Record}
use Rattle.hire_book.specs.Book.{Sound, book_of, apply_all}
use Rattle.hire_book.proofs.Entries.{within-part, all_sound, book-sound}
use Rattle.sight.specs.Sight.{head_at}
use Rattle.broken.specs.Broken.{sync_in}
use Rattle.storage.specs.Storage.{end_after, op_on, log_after, put_at, cached_after, best_after, best_count, buffer_after, buffer_count}
use Rattle.storage.proofs.Laid.{length_over, length-put}
use Rattle.storage.proofs.Every.{Every, every-none, every_take}
use Rattle.outgoing.specs.Perform.{sources, source_of, entries_of, items_of, new_in}
use Rattle.refusals.proofs.Taken.{Fit, SyncFit, HeadFit, Taken}
use Rattle.step.specs.Step.{World, box_of, log_of, cached_of, best_of, buffer_of, queue_of, is_restart, newly_decided, book_after}
use Rattle.decide_laws.proofs.Grown.{either}
use Rattle.step_laws.proofs.Moves.{Tells}
use Rattle.step_laws.proofs.Queue.{Lies, found-lies, sizes-after, lies-after, head-after}
use Rattle.step_laws.proofs.Log.{fit-op, op-length, fit-whole, fit-less, fit_written}
use Rattle.step_laws.proofs.Written.{Planned}
use Rattle.step_laws.proofs.Ballots.{Named}
use Rattle.step_laws.proofs.Entries.{Best, Cache, none, kept, given, told, SourceOf, SourceFit, BufferFit, Stocked, suffix-in}
use Rattle.step_laws.proofs.Messages.{Small, all_fit}
use Rattle.decide_laws.proofs.Table.{Fits}
use Rattle.step_laws.proofs.Fits.{found, ends-within, fits, buffer-fits}

-- the arrays of record and row have their lengths (the code's types say so)
pub record Shape (r : Record) (row : Row) : Type 0 where
  pub buffered : length r.buffered_proposals.entries ≡ max_buffered
  pub heads : length row.heads ≡ max_messages

-- n entries written over the first cells of a buffer
fit-over : (n : ℕ) (xs l : List ℕ) → n ≤ length xs → Fit xs n → Fit (put_at 0 (take n xs) l) n
fit-over n xs l h f = fit-less (put_at 0 (take n xs) l) n (0 + n) (omega arith) (fit_written 0 n xs l (omega arith) h (λ i k. absurd (omega arith)) f)

-- the entries of a planned message
source-fit :
    (entries log buffered held : List ℕ) (found : SequencePaxos) (a : ℕ) (op : Option LogSync)
    → Fit log a
    → Fit buffered found.buffered_proposals
    → (op ≡ None → Fit held (count_of (sync_in found.cached_promise_message)))
    → (m : Send)
    → SourceFit entries found a op m
    → Every Small (entries_of (sources log entries buffered held) m)
source-fit entries log buffered held found a op f g h m w = by m.source m.count w
  where
    by : (x : Source) (n : ℕ) → SourceOf entries found a op x n → Every Small (take n (source_of x (sources log entries buffered held)))
    by source.Nothing n t = every_take Small n [] (every-none Small)
    by (source.Log from) n (inl t) = within-part log from n (λ i l. f i (omega arith))
    by (source.Log from) n (inr t) = rw t (λ i l. absurd (omega arith))
    by source.Given n t = every_take Small n entries t
    by source.Buffered n t = within-part buffered 0 n (λ i l. g i (omega arith))
    by source.Cached n t = within-part held 0 n (λ i l. h t.0 i (omega (arith, t.1)))

module _ (c : Configuration) (e : Event) (entries : List ℕ) (w : World) (t : Taken c w.node w.row w.lists e entries) (h : Shape w.node w.row) (s : SequencePaxos) (p : Planned c e entries (found c e entries w) 7 s) (o : Fits s) where
  -- the log
  cells : end_after s.plan.writes.log w.node.internal_storage.accepted_idx ≤ length w.lists.log
  cells = omega (arith, ends-within c e entries w t s p o, t.lengths.log)

  pub log-length : length (log_of entries s w) ≡ max_log
  unfolding log_of log_after
  log-length =
      let len = w.node.internal_storage.accepted_idx in
      let op = s.plan.writes.log in
      let l = op_on op len entries w.lists.best w.lists.log in
      let n : length l ≡ length w.lists.log = op-length op len entries w.lists.best w.lists.log cells in
      length-put (end_after op len) (take s.plan.writes.buffered w.node.buffered_proposals.entries) l (omega (arith, n, ends-within c e entries w t s p o, t.lengths.log, length-take s.plan.writes.buffered w.node.buffered_proposals.entries))
      ∙ (n ∙ t.lengths.log)

  pub log-fit : Fit (log_of entries s w) (log_length s)
  unfolding log_of box_of
  log-fit =
      let len = w.node.internal_storage.accepted_idx in
      let op = s.plan.writes.log in
      fit-less (log_after op len entries w.lists.best w.node.buffered_proposals.entries s.plan.writes.buffered w.lists.log) (log_length s) (end_after op len + s.plan.writes.buffered) (omega (arith, p.ends))
      (fit-whole op len entries w.lists.best w.node.buffered_proposals.entries s.plan.writes.buffered w.lists.log cells
      (omega (arith, p.kept, t.whole.buffer, h.buffered))
      (fit-less w.node.buffered_proposals.entries s.plan.writes.buffered w.node.buffered_proposals.len p.kept t.whole.buffered)
      (fit-op op e entries w.lists.best w.lists.log (found c e entries w) t.lengths.best (omega (arith, t.lengths.log, t.whole.ends)) t.whole.log t.whole.best p.op))

  -- the book
  pub book-stands : Sound (book_after e w.node.internal_storage.decided_idx s.internal_storage.decided_idx (log_of entries s w) w.lists.book)
  unfolding book_after box_of
  book-stands =
      let log = log_of entries s w in
      let old = w.node.internal_storage.decided_idx in
      let new = s.internal_storage.decided_idx in
      let within : new ≤ log_length s = omega (arith, p.decided, p.ends) in
      let r : old ≤ new = p.rises in
      either Sound (is_restart e) (book_of (take new log)) (apply_all (newly_decided old new log) w.lists.book)
      (λ q. book-sound (take new log) (within-part log 0 new (λ i l. log-fit i (omega arith))))
      (λ q. all_sound (newly_decided old new log) w.lists.book (within-part log old (new - old) (λ i l. log-fit i (omega arith))) t.whole.book)

  module _ (k : Stocked c e entries (found c e entries w) 7 s) where
    -- the buffered proposals
    pub buffer-length : length (buffer_of entries s w) ≡ max_buffered
    unfolding buffer_of
    buffer-length = by s.plan.writes.buffer (buffer-fits c e entries w t s p o)
      where
        by : (op : Option ℕ) → w.node.buffered_proposals.len + buffer_count op ≤ max_buffered → length (buffer_after op w.node.buffered_proposals.len entries w.node.buffered_proposals.entries) ≡ max_buffered
        by None l = h.buffered
        by (Some n) l = length-put w.node.buffered_proposals.len (take n entries) w.node.buffered_proposals.entries (omega (arith, h.buffered, length-take n entries)) ∙ h.buffered

    pub buffer-fit : Fit (buffer_of entries s w) s.buffered_proposals
    unfolding buffer_of box_of
    buffer-fit = by s.plan.writes.buffer p.buffered k.buffer
      where
        by : (op : Option ℕ) → s.buffered_proposals ≤ w.node.buffered_proposals.len + buffer_count op → BufferFit entries op → Fit (buffer_after op w.node.buffered_proposals.len entries w.node.buffered_proposals.entries) s.buffered_proposals
        by None l f = fit-less w.node.buffered_proposals.entries s.buffered_proposals w.node.buffered_proposals.len (omega arith) t.whole.buffered
        by (Some n) l f =
            fit-less (put_at w.node.buffered_proposals.len (take n entries) w.node.buffered_proposals.entries) s.buffered_proposals (w.node.buffered_proposals.len + n) l
            (fit_written w.node.buffered_proposals.len n entries w.node.buffered_proposals.entries (omega (arith, h.buffered, t.whole.buffer)) (omega (arith, f.0)) t.whole.buffered (fit-less entries n (length entries) (omega (arith, f.0)) f.1))

    -- the best promise's sync
    pub best-length : length (best_of entries s w) ≡ max_log
    unfolding best_of
    best-length = by s.plan.writes.best p.held
      where
        by : (op : Option ℕ) → best_count op ≤ max_log → length (best_after op entries w.lists.best) ≡ max_log
        by None l = t.lengths.best
        by (Some n) l = length_over (take n entries) w.lists.best (omega (arith, length-take n entries, t.lengths.best)) ∙ t.lengths.best

    pub best-fit : SyncFit s.leader_state.max_promise.sync (best_of entries s w)
    unfolding best_of box_of put_at
    best-fit = by s.leader_state.max_promise.sync s.plan.writes.best k.best
      where
        by : (y : Option LogSync) (op : Option ℕ) → Best e entries w.node.leader_state.max_promise.sync y op → SyncFit y (best_after op entries w.lists.best)
        by y op (none q) = subst (λ (z : Option LogSync). SyncFit z (best_after op entries w.lists.best)) (sym q) tt
        by y op (kept q r) = subst (λ (z : Option LogSync). SyncFit z (best_after op entries w.lists.best)) (sym q) (subst (λ (z : Option ℕ). SyncFit w.node.leader_state.max_promise.sync (best_after z entries w.lists.best)) (sym r) t.whole.best)
        by y op (given x q r b l) =
            subst (λ (z : Option LogSync). SyncFit z (best_after op entries w.lists.best)) (sym q)
            (subst (λ (z : Option ℕ). SyncFit (Some x) (best_after z entries w.lists.best)) (sym r)
            (l, fit-over x.len entries w.lists.best (omega (arith, b.count)) (fit-less entries x.len (length entries) (omega (arith, b.count)) b.fit)))

    -- the cached promise's sync
    pub cached-length : length (cached_of entries s w) ≡ max_log
    unfolding cached_of
    cached-length = by s.plan.writes.cached
      where
        by : (op : Option LogSync) → length (cached_after op (log_of entries s w) w.lists.cached) ≡ max_log
        by None = t.lengths.cached
        by (Some x) =
            let part = take x.len (drop x.sync_idx (log_of entries s w)) in
            length_over part w.lists.cached (omega (arith, length-take x.len (drop x.sync_idx (log_of entries s w)), length-drop x.sync_idx (log_of entries s w), log-length, t.lengths.cached)) ∙ t.lengths.cached

    pub cached-fit : SyncFit (sync_in s.cached_promise_message) (cached_of entries s w)
    unfolding cached_of box_of put_at
    cached-fit = by s.cached_promise_message s.plan.writes.cached k.cached
      where
        log : List ℕ
        log = log_of entries s w

        part : (x : LogSync) → Tells (log_length s) (Some x) → SyncFit (Some x) (cached_after (Some x) (log_of entries s w) w.lists.cached)
        part x f = from (rw (← f.0) at (suffix-in (log_length s) x.sync_idx))
          where
            from : (x.sync_idx + x.len ≤ log_length s) ⊎ (x.len ≡ 0) → SyncFit (Some x) (cached_after (Some x) (log_of entries s w) w.lists.cached)
            from (inl l) =
                (omega (arith, o.log), fit-over x.len (drop x.sync_idx (log_of entries s w)) w.lists.cached (omega (arith, length-drop x.sync_idx (log_of entries s w), log-length, o.log)) (λ i m. rw (get_or-drop x.sync_idx (log_of entries s w) i 0) (log-fit (x.sync_idx + i) (omega arith))))
            from (inr l) = (omega (arith, f.1), λ i m. absurd (omega arith))

        by : (m : Option CachedPromise) (op : Option LogSync) → Cache 7 (log_length s) w.node.cached_promise_message m op → SyncFit (sync_in m) (cached_after op (log_of entries s w) w.lists.cached)
        by m op (none q r) = subst (λ (z : Option LogSync). SyncFit z (cached_after op (log_of entries s w) w.lists.cached)) (sym q) tt
        by m op (kept q r) =
            subst (λ (z : Option CachedPromise). SyncFit (sync_in z) (cached_after op (log_of entries s w) w.lists.cached)) (sym q)
            (subst (λ (z : Option LogSync). SyncFit (sync_in w.node.cached_promise_message) (cached_after z (log_of entries s w) w.lists.cached)) (sym r) t.whole.cached)
        by m op (told x z q r f) =
            subst (λ (z : Option LogSync). SyncFit z (cached_after op (log_of entries s w) w.lists.cached)) (sym q)
            (subst (λ (z : Option LogSync). SyncFit (Some x) (cached_after z (log_of entries s w) w.lists.cached)) (sym r) (part x f))

    -- the cached promise's buffer, where nothing is written to it
    cached-kept : s.plan.writes.cached ≡ None → Fit (cached_of entries s w) (count_of (sync_in w.node.cached_promise_message))
    unfolding cached_of
    cached-kept q = subst (λ (z : Option LogSync). Fit (cached_after z (log_of entries s w) w.lists.cached) (count_of (sync_in w.node.cached_promise_message))) (sym q) (by (sync_in w.node.cached_promise_message) t.whole.cached)
      where
        by : (y : Option LogSync) → SyncFit y w.lists.cached → Fit w.lists.cached (count_of y)
        by None f = λ i l. absurd (omega arith)
        by (Some x) f = f.1

    -- every message that waits
    pub messages-fit : Named c 7 s → (j : ℕ) → j < w.node.outgoing + s.plan.sends.messages → HeadFit c (queue_of entries s w).store (head_at (queue_of entries s w).row j)
    unfolding queue_of box_of
    messages-fit n j l =
        let f = sources (log_of entries s w) entries w.node.buffered_proposals.entries (cached_of entries s w) in
        let x = s.plan.sends in
        let m : x.messages ≡ new_in (items_of x) = p.sums.messages in
        head-after c f x w.node.outgoing w.row w.lists.store (fits c e entries w t s p o) h.heads (found-lies c w.node w.row w.lists t.whole) t.whole.heads
        (all_fit c f (SourceFit entries (found c e entries w) (log_length s) s.plan.writes.cached) (items_of x)
        (source-fit entries (log_of entries s w) w.node.buffered_proposals.entries (cached_of entries s w) (found c e entries w) (log_length s) s.plan.writes.cached log-fit t.whole.buffered cached-kept)
        n.items.each k.items.each)
        j (omega (arith, m))

  -- where it lies
  pub queue-lies : Lies (w.node.outgoing + s.plan.sends.messages) (queue_of entries s w).row
  unfolding queue_of
  queue-lies =
      subst (λ (n : ℕ). Lies (w.node.outgoing + n) (queue_of entries s w).row) (sym p.sums.messages)
      (lies-after _ s.plan.sends w.node.outgoing w.row w.lists.store (fits c e entries w t s p o) h.heads (found-lies c w.node w.row w.lists t.whole))

  pub queue-sizes : (length (queue_of entries s w).row.heads ≡ max_messages) × (length (queue_of entries s w).store ≡ max_store)
  unfolding queue_of
  queue-sizes = sizes-after _ s.plan.sends w.node.outgoing w.row w.lists.store (fits c e entries w t s p o) h.heads
