-- Of every step, taken or refused: cells that nothing uses keep what they held, in the log, the two sync buffers and the buffered proposals.
use Rattle.std.specs.Prelude.{Option, None, Some}
use Prim.Native.Nat.{ℕ, ◌+◌, ◌≤◌}
use mathlib.Core.Path.{◌≡◌, refl, sym, ap, subst, ◌∙◌}
use mathlib.Core.Logic.{◌⊎◌, inl, inr}
use mathlib.Core.List.{List, ◌++◌}
use native.Mathlib.Omega.{arith}
use lib.ListN.{length, take, drop, take-append-drop}
use lib.Seq.{take_all, take-length}
use Rattle.base.specs.Lists.{over}
use Rattle.quorum.specs.declared.Configuration.{Configuration}
use Rattle.leader_state.specs.declared.LogSync.{LogSync}
use Rattle.messages.specs.declared.Event.{Event}
use Rattle.paxos_box.specs.declared.SequencePaxos.{SequencePaxos}
use Rattle.sends.specs.Sends.{log_length}
use Rattle.follower.specs.Follower.{count_of}
use Rattle.sight.specs.Sight.{brought}
use Rattle.broken.specs.Broken.{cached_sync}
use Rattle.refusals.proofs.Taken.{Taken}
use Rattle.storage.specs.Storage.{best_after, cached_after, buffer_after, buffer_count, end_after}
use Rattle.storage.proofs.Laws.{put-before, put-nothing}
use Rattle.step.specs.Step.{World, Outcome, box_of, log_of, best_of, cached_of, buffer_of, perform_of, step_of}
use Rattle.step_laws.proofs.Fits.{found, planned-taken}
use Rattle.step_laws.proofs.Entries.{Cache, none, kept, told}
use Rattle.step_laws.proofs.Outcome.{outcome_of, Ways, refused, took, ways}
use Rattle.step_laws.proofs.Whole.{leaves}
use Rattle.cell_laws.proofs.Cells.{further, log-past, over-past, put-taken}
use Rattle.cell_laws.proofs.Best.{Puts, nothing, brings, puts}

-- the sync of the best promise
abbrev pub held_sync : World → Option LogSync
held_sync w = w.node.leader_state.max_promise.sync

-- the held sync's buffer after a step: as found; or the entries given are laid over it, those of the sync that the event brings and the record now holds.
-- (A Promise may bring a sync of the same start and length as the one held, so an unchanged record does not say that the buffer is unchanged.)
pub data BestCells (e : Event) (entries : List ℕ) (w v : World) : Type 0 where
  best-as-found : v.lists.best ≡ w.lists.best → BestCells e entries w v
  best-brought : (x : LogSync) → brought e ≡ Some x.sync_idx → x.len ≡ length entries → held_sync v ≡ Some x → v.lists.best ≡ over entries w.lists.best → BestCells e entries w v

-- the cached promise's buffer: as found; or the part of the log that the promise now cached tells is laid over it
pub data CachedCells (w v : World) : Type 0 where
  cached-as-found : v.lists.cached ≡ w.lists.cached → CachedCells w v
  cached-told : (x : LogSync) → cached_sync v.node ≡ Some x → v.lists.cached ≡ over (take x.len (drop x.sync_idx v.lists.log)) w.lists.cached → CachedCells w v

-- the cells of the buffered proposals: those before the old count and those past the new one are as found
pub record BufferCells (w v : World) : Type 0 where
  pub first : w.node.buffered_proposals.len ≤ length w.node.buffered_proposals.entries → take w.node.buffered_proposals.len v.node.buffered_proposals.entries ≡ take w.node.buffered_proposals.len w.node.buffered_proposals.entries
  pub past : drop v.node.buffered_proposals.len v.node.buffered_proposals.entries ≡ drop v.node.buffered_proposals.len w.node.buffered_proposals.entries

pub record Cells (e : Event) (entries : List ℕ) (w v : World) : Type 0 where
  pub log : drop v.node.internal_storage.accepted_idx v.lists.log ≡ drop v.node.internal_storage.accepted_idx w.lists.log
  pub best : BestCells e entries w v
  pub cached : CachedCells w v
  pub buffer : BufferCells w v

refused-cells : (e : Event) (entries : List ℕ) (w : World) → Cells e entries w w
refused-cells e entries w = record { log = refl; best = best-as-found refl; cached = cached-as-found refl; buffer = record { first = λ l. refl; past = refl } }

module _ (c : Configuration) (e : Event) (entries : List ℕ) (w : World) (t : Taken c w.node w.row w.lists e entries) where
  log-cells : drop (outcome_of c e entries w).internal_storage.accepted_idx (log_of entries (outcome_of c e entries w) w) ≡ drop (outcome_of c e entries w).internal_storage.accepted_idx w.lists.log
  unfolding log_of box_of
  log-cells =
      let s = outcome_of c e entries w in
      let n : s.internal_storage.accepted_idx ≡ end_after s.plan.writes.log w.node.internal_storage.accepted_idx + s.plan.writes.buffered = (planned-taken c e entries w t).ends in
      rw n (log-past s.plan.writes.log w.node.internal_storage.accepted_idx entries w.lists.best w.node.buffered_proposals.entries s.plan.writes.buffered w.lists.log)

  best-cells : BestCells e entries w (perform_of e entries (outcome_of c e entries w) w)
  unfolding perform_of best_of
  best-cells = by (puts c entries w e t)
    where
      by : Puts e entries (outcome_of c e entries w).leader_state.max_promise.sync (outcome_of c e entries w).plan.writes.best → BestCells e entries w (perform_of e entries (outcome_of c e entries w) w)
      by (nothing q) = best-as-found (ap (λ (op : Option ℕ). best_after op entries w.lists.best) q)
      by (brings x b h q) =
          best-brought x b.start b.count h
          (ap (λ (op : Option ℕ). best_after op entries w.lists.best) q ∙ ap (λ (l : List ℕ). over l w.lists.best) (take_all x.len entries (omega (arith, b.count))))

  cached-cells : CachedCells w (perform_of e entries (outcome_of c e entries w) w)
  unfolding perform_of cached_of
  cached-cells = by (leaves c entries w e t).stocked.cached
    where
      v : World
      v = perform_of e entries (outcome_of c e entries w) w

      at : (op : Option LogSync) → (outcome_of c e entries w).plan.writes.cached ≡ op → v.lists.cached ≡ cached_after op (log_of entries (outcome_of c e entries w) w) w.lists.cached
      at op q = ap (λ (x : Option LogSync). cached_after x (log_of entries (outcome_of c e entries w) w) w.lists.cached) q

      by : Cache 7 (log_length (outcome_of c e entries w)) (found c e entries w).cached_promise_message (outcome_of c e entries w).cached_promise_message (outcome_of c e entries w).plan.writes.cached → CachedCells w v
      by (none h q) = cached-as-found (at None q)
      by (kept h q) = cached-as-found (at None q)
      by (told x z h q f) = cached-told x h (at (Some x) q)

  buffer-cells : BufferCells w (perform_of e entries (outcome_of c e entries w) w)
  unfolding perform_of buffer_of box_of
  buffer-cells = record { first = first s.plan.writes.buffer; past = past s.plan.writes.buffer (planned-taken c e entries w t).buffer }
    where
      s : SequencePaxos
      s = outcome_of c e entries w

      len : ℕ
      len = w.node.buffered_proposals.len

      cells : List ℕ
      cells = w.node.buffered_proposals.entries

      first : (op : Option ℕ) → len ≤ length cells → take len (buffer_after op len entries cells) ≡ take len cells
      first None l = refl
      first (Some n) l = put-before len len (take n entries) cells (omega arith) l

      past : (op : Option ℕ) → (buffer_count op ≡ 0) ⊎ (len + buffer_count op ≤ s.buffered_proposals) → drop s.buffered_proposals (buffer_after op len entries cells) ≡ drop s.buffered_proposals cells
      past None p = refl
      past (Some n) (inl z) = rw z (ap (drop s.buffered_proposals) (put-nothing len cells))
      past (Some n) (inr l) = put-taken s.buffered_proposals len n entries cells l

  taken-cells : Cells e entries w (perform_of e entries (outcome_of c e entries w) w)
  unfolding perform_of
  taken-cells = record { log = log-cells; best = best-cells; cached = cached-cells; buffer = buffer-cells }

-- of every step
pub cells : (c : Configuration) (e : Event) (entries : List ℕ) (w : World) → Cells e entries w (step_of c e entries w).after
cells c e entries w = by (ways c e entries w)
  where
    by : Ways c e entries w → Cells e entries w (step_of c e entries w).after
    by (refused n d g q) = subst (λ (x : Outcome). Cells e entries w x.after) (sym q) (refused-cells e entries w)
    by (took t r q) = subst (λ (x : Outcome). Cells e entries w x.after) (sym q) (taken-cells c e entries w t)

-- read off it: past the sync that is held, and past the one that is cached, a buffer is as found
module _ (c : Configuration) (e : Event) (entries : List ℕ) (w : World) where
  pub best-past : drop (count_of (held_sync (step_of c e entries w).after)) (step_of c e entries w).after.lists.best ≡ drop (count_of (held_sync (step_of c e entries w).after)) w.lists.best
  best-past = by (step_of c e entries w).after (cells c e entries w).best
    where
      by : (v : World) → BestCells e entries w v → drop (count_of (held_sync v)) v.lists.best ≡ drop (count_of (held_sync v)) w.lists.best
      by v (best-as-found q) = ap (drop (count_of (held_sync v))) q
      by v (best-brought x b n h q) =
          let k : count_of (held_sync v) ≡ length entries = ap count_of h ∙ n in
          rw (k, q) (ap (λ (l : List ℕ). drop (length entries) (over l w.lists.best)) (sym (take-length entries)) ∙ over-past (length entries) entries w.lists.best)

  pub cached-past : drop (count_of (cached_sync (step_of c e entries w).after.node)) (step_of c e entries w).after.lists.cached ≡ drop (count_of (cached_sync (step_of c e entries w).after.node)) w.lists.cached
  cached-past = by (step_of c e entries w).after (cells c e entries w).cached
    where
      by : (v : World) → CachedCells w v → drop (count_of (cached_sync v.node)) v.lists.cached ≡ drop (count_of (cached_sync v.node)) w.lists.cached
      by v (cached-as-found q) = ap (drop (count_of (cached_sync v.node))) q
      by v (cached-told x h q) = rw (ap count_of h, q) (over-past x.len (drop x.sync_idx v.lists.log) w.lists.cached)

  -- an event that brings no sync leaves the held sync's buffer alone
  pub best-unless-brought : brought e ≡ None → (step_of c e entries w).after.lists.best ≡ w.lists.best
  best-unless-brought n = by (step_of c e entries w).after (cells c e entries w).best
    where
      by : (v : World) → BestCells e entries w v → v.lists.best ≡ w.lists.best
      by v (best-as-found q) = q
      by v (best-brought x b k h q) = absurd (let z : ◌≡◌ {A = ℕ} 0 1 = cc in omega arith)

  -- and so does a step that leaves none held, or none cached
  pub best_none : held_sync (step_of c e entries w).after ≡ None → (step_of c e entries w).after.lists.best ≡ w.lists.best
  best_none n = by (step_of c e entries w).after n (cells c e entries w).best
    where
      by : (v : World) → held_sync v ≡ None → BestCells e entries w v → v.lists.best ≡ w.lists.best
      by v r (best-as-found q) = q
      by v r (best-brought x b k h q) = absurd (let z : ◌≡◌ {A = ℕ} 0 1 = cc in omega arith)

  pub cached-none : cached_sync (step_of c e entries w).after.node ≡ None → (step_of c e entries w).after.lists.cached ≡ w.lists.cached
  cached-none n = by (step_of c e entries w).after n (cells c e entries w).cached
    where
      by : (v : World) → cached_sync v.node ≡ None → CachedCells w v → v.lists.cached ≡ w.lists.cached
      by v r (cached-as-found q) = q
      by v r (cached-told x h q) = absurd (let z : ◌≡◌ {A = ℕ} 0 1 = cc in omega arith)

  -- where no more proposals wait than before, their cells are as found
  pub buffer-kept :
      (step_of c e entries w).after.node.buffered_proposals.len ≤ w.node.buffered_proposals.len
      → w.node.buffered_proposals.len ≤ length w.node.buffered_proposals.entries
      → (step_of c e entries w).after.node.buffered_proposals.entries ≡ w.node.buffered_proposals.entries
  buffer-kept h l =
      let k = (cells c e entries w).buffer in
      joined w.node.buffered_proposals.len _ _ (k.first l) (further w.node.buffered_proposals.len _ _ _ h k.past)
    where
      joined : (n : ℕ) (a b : List ℕ) → take n a ≡ take n b → drop n a ≡ drop n b → a ≡ b
      joined n a b f d = sym (take-append-drop n a) ∙ ap (λ (x : List ℕ). x ++ drop n a) f ∙ ap (λ (x : List ℕ). take n b ++ x) d ∙ take-append-drop n b
