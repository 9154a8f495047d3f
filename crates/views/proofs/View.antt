-- What a step leaves of a depot is what its plan makes of the view: `viewed`.
use Prim.Native.Nat.{ℕ, ◌+◌, ◌≤◌}
use mathlib.Core.Path.{◌≡◌, refl, ap, ◌∙◌}
use mathlib.Core.Bool.{Bool, true, false, cond}
use mathlib.Core.List.{List, [], ◌∷◌}
use native.Mathlib.Omega.{arith}
use lib.Dec.{eqb}
use lib.ListN.{length, take, length-take}
use borrow.Author.Tests.{eqb-true}
use Rattle.messages.specs.declared.Event.{Event}
use Rattle.messages.specs.declared.Event.TheVariants as event
use Rattle.paxos_box.specs.declared.Source.{Source}
use Rattle.paxos_box.specs.declared.Source.TheVariants as source
use Rattle.paxos_box.specs.declared.Send.{Send}
use Rattle.paxos_box.specs.declared.Sends.{Sends}
use Rattle.paxos_box.specs.declared.SequencePaxos.{SequencePaxos}
use Rattle.record.specs.declared.Record.{Record}
use Rattle.broken.specs.Broken.{sync_in, cached_sync, best_sync}
use Rattle.outgoing.specs.Queue as queue
use Rattle.outgoing.specs.Perform.{Sources, sources, source_of, entries_of, perform_one, perform_all, performed, items_of, new_in}
use Rattle.outgoing.proofs.Laid.{laid-queue}
use Rattle.outgoing.proofs.Steps.{all-longer}
use Rattle.step.specs.Step.{World, waiting, log_of, cached_of, best_of, buffer_of, queue_of, perform_of}
use Rattle.views.specs.View.{View, view_of, held_entries, best_to, cached_list, new_log, new_buffered, new_cached, new_best, sources_of, new_queue, perform_view, Counted, Covered, more, Plain}
use Rattle.views.proofs.Front.{Front, front_same, front_at, front-take, front-use, front-drop}
use Rattle.views.proofs.Lists.{log-front, buffer-front, held-front, cached-front, best-front, held_same}

-- sources that begin others give the same entries, where they have all that is counted
pub record Begins (f g : Sources) : Type 0 where
  pub log : Front f.log g.log
  pub given : Front f.given g.given
  pub buffered : Front f.buffered g.buffered
  pub cached : Front f.cached g.cached

source-front : (f g : Sources) → Begins f g → (x : Source) → Front (source_of x f) (source_of x g)
source-front f g b source.Nothing = refl
source-front f g b (source.Log i) = front-drop i f.log g.log b.log
source-front f g b source.Given = b.given
source-front f g b source.Buffered = b.buffered
source-front f g b source.Cached = b.cached

same_entries : (f g : Sources) → Begins f g → (m : Send) → length (entries_of f m) ≡ m.count → entries_of g m ≡ entries_of f m
same_entries f g b m e =
    front-use m.count (source_of m.source f) (source_of m.source g) (source-front f g b m.source) (omega (arith, e, length-take m.count (source_of m.source f)))

pub same-performed : (f g : Sources) → Begins f g → (ms : List Send) → Covered f ms → (q : List queue.Msg) → perform_all g ms q ≡ perform_all f ms q
unfolding perform_all perform_one
same-performed f g b [] c q = refl
same-performed f g b (m ∷ ms) (more e c) q =
    rw (same_entries f g b m e) (same-performed f g b ms c _)

-- the queue is read back, where its length is right
pub queue-back : (f : Sources) (s : Sends) (len : ℕ) (w : queue.Lent) → length (queue.queue_of len w) ≡ len → queue.queue_of (len + new_in (items_of s)) (performed f s len w) ≡ perform_all f (items_of s) (queue.queue_of len w)
unfolding performed perform_all new_in
queue-back f s len w h = go (eqb s.count 0) refl
  where
    after : len + new_in (items_of s) ≡ length (perform_all f (items_of s) (queue.queue_of len w))
    after = omega (arith, h, all-longer f (items_of s) (queue.queue_of len w))

    go : (t : Bool) → eqb s.count 0 ≡ t → queue.queue_of (len + new_in (items_of s)) (cond t w (queue.relaid len (perform_all f (items_of s)) w)) ≡ perform_all f (items_of s) (queue.queue_of len w)
    go true e = let z : len + 0 ≡ len = omega arith in rw (eqb-true s.count 0 e, z)
    go false e = rw after (laid-queue (perform_all f (items_of s) (queue.queue_of len w)) w)

-- views with equal lists are equal
same_view : {r : Record} {a b d f a' b' d' f' : List ℕ} {q q' : List queue.Msg} → a ≡ a' → b ≡ b' → d ≡ d' → f ≡ f' → q ≡ q' → ◌≡◌ {A = View} (record { node = r; log = a; buffered = b; cached = d; best = f; queue = q }) (record { node = r; log = a'; buffered = b'; cached = d'; best = f'; queue = q' })
same_view a b d f q = rw (a, b, d, f, q)

-- The lists of a step, one by one

within : (n : ℕ) (l : List ℕ) → length (take n l) ≡ n → n ≤ length l
within n l e = omega (arith, e, length-take n l)

module _ (entries : List ℕ) (s : SequencePaxos) (w : World) (c : Counted (view_of w)) (p : Plain entries s (view_of w)) where
  log-begins : Front (new_log entries s (view_of w)) (log_of entries s w)
  unfolding new_log log_of view_of
  log-begins =
      log-front entries (held_entries (best_sync w.node) w.lists.best) w.lists.best w.lists.log w.node.internal_storage.accepted_idx
      (within w.node.internal_storage.accepted_idx w.lists.log c.log)
      (held-front (best_sync w.node) w.lists.best)
      s.plan.writes.log s.plan.writes.buffered
      (take w.node.buffered_proposals.len w.node.buffered_proposals.entries) w.node.buffered_proposals.entries
      p.op
      (front-take w.node.buffered_proposals.len w.node.buffered_proposals.entries)
      p.kept

  pub log-viewed : take s.internal_storage.accepted_idx (log_of entries s w) ≡ new_log entries s (view_of w)
  log-viewed = front_at s.internal_storage.accepted_idx (new_log entries s (view_of w)) (log_of entries s w) log-begins p.log

  pub buffered-viewed : take s.buffered_proposals (buffer_of entries s w) ≡ new_buffered entries s (view_of w)
  unfolding new_buffered buffer_of view_of
  buffered-viewed =
      front_at s.buffered_proposals (new_buffered entries s (view_of w)) (buffer_of entries s w)
      (buffer-front s.plan.writes.buffer s.buffered_proposals w.node.buffered_proposals.len entries w.node.buffered_proposals.entries)
      p.buffer

  cached-begins : Front (cached_list entries s (view_of w)) (cached_of entries s w)
  unfolding cached_of view_of cached_list
  cached-begins =
      cached-front s.plan.writes.cached (new_log entries s (view_of w)) (log_of entries s w) (held_entries (cached_sync w.node) w.lists.cached) w.lists.cached log-begins
      (held-front (cached_sync w.node) w.lists.cached)

  pub cached-viewed : held_entries (sync_in s.cached_promise_message) (cached_of entries s w) ≡ new_cached entries s (view_of w)
  unfolding new_cached
  cached-viewed =
      held_same (sync_in s.cached_promise_message) (cached_list entries s (view_of w)) (cached_of entries s w) cached-begins p.cached

  pub best-viewed : held_entries s.leader_state.max_promise.sync (best_of entries s w) ≡ new_best entries s (view_of w)
  unfolding new_best best_of view_of
  best-viewed =
      held_same s.leader_state.max_promise.sync (best_to s.plan.writes.best entries (held_entries (best_sync w.node) w.lists.best)) (best_of entries s w)
      (best-front s.plan.writes.best entries (held_entries (best_sync w.node) w.lists.best) w.lists.best (held-front (best_sync w.node) w.lists.best))
      p.best

  begins : Begins (sources_of entries s (view_of w)) (sources (log_of entries s w) entries w.node.buffered_proposals.entries (cached_of entries s w))
  unfolding view_of
  begins =
      record {
        log = log-begins;
        given = front_same entries;
        buffered = front-take w.node.buffered_proposals.len w.node.buffered_proposals.entries;
        cached = cached-begins;
      }

  messages-viewed : queue.queue_of (w.node.outgoing + s.plan.sends.messages) (queue_of entries s w) ≡ perform_all (sources_of entries s (view_of w)) (items_of s.plan.sends) (view_of w).queue
  unfolding queue_of view_of
  messages-viewed =
      ap (λ (n : ℕ). queue.queue_of (w.node.outgoing + n) (queue_of entries s w)) p.messages
      ∙ queue-back (sources (log_of entries s w) entries w.node.buffered_proposals.entries (cached_of entries s w)) s.plan.sends w.node.outgoing (queue.lent w.row w.lists.store) c.queue
      ∙ same-performed (sources_of entries s (view_of w)) (sources (log_of entries s w) entries w.node.buffered_proposals.entries (cached_of entries s w)) begins (items_of s.plan.sends) p.sends (view_of w).queue

  pub queue-viewed : (e : Event) → queue.queue_of (waiting e (w.node.outgoing + s.plan.sends.messages)) (queue_of entries s w) ≡ new_queue e entries s (view_of w)
  unfolding new_queue queue.queue_of
  queue-viewed (event.Message m) = messages-viewed
  queue-viewed event.Propose = messages-viewed
  queue-viewed (event.Leader n) = messages-viewed
  queue-viewed (event.Reconnect pid) = messages-viewed
  queue-viewed event.Resend = messages-viewed
  queue-viewed event.Drain = refl
  queue-viewed event.Restart = refl

  -- all of it
  pub viewed : (e : Event) → view_of (perform_of e entries s w) ≡ perform_view e entries s (view_of w)
  unfolding perform_of perform_view view_of
  viewed e = same_view log-viewed buffered-viewed cached-viewed best-viewed (queue-viewed e)
