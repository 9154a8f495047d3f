-- What refusals 1 to 4 leave is what deciding asks of a box and an event; and what a step that is not refused decides can be written.
use Rattle.std.specs.Prelude.{Option, None, Some}
use Prim.Native.Nat.{ℕ, ◌+◌, ◌≤◌}
use mathlib.Core.Path.{◌≡◌, refl, ap}
use mathlib.Core.Logic.{◌⊎◌, inl, inr}
use mathlib.Core.Bool.{false}
use mathlib.Core.List.{List}
use native.Mathlib.Omega.{arith}
use lib.ListN.{length, take}
use Rattle.base.specs.Limits.{max_log, max_buffered}
use Rattle.paxos_box.specs.declared.CachedPromise.{CachedPromise}
use Rattle.leader_state.specs.declared.LogSync.{LogSync}
use Rattle.quorum.specs.declared.Configuration.{Configuration}
use Rattle.quorum.proofs.Laws.{Stands}
use Rattle.leader_state.specs.State.{own_place}
use Rattle.messages.specs.declared.Row.{Row}
use Rattle.messages.specs.declared.Event.{Event}
use Rattle.messages.specs.declared.Event.TheVariants as event
use Rattle.messages.specs.declared.PaxosMsg.{PaxosMsg}
use Rattle.messages.specs.declared.PaxosMsg.TheVariants as msg
use Rattle.paxos_box.specs.declared.SequencePaxos.{SequencePaxos}
use Rattle.paxos_box.specs.declared.Outgoing.{Outgoing}
use Rattle.follower.specs.Follower.{count_of, few_cached}
use Rattle.outcome.specs.Outcome.{drained, restarted, outcome_refusal}
use Rattle.sequence_paxos.specs.Decide.{taken}
use Rattle.sequence_paxos.specs.Fit.{Sound, few_in, fit_event}
use Rattle.record.specs.declared.Record.{Record}
use Rattle.hire_book.specs.Book.{any_above}
use Rattle.sight.specs.Sight.{queue_entries, sight_of}
use Rattle.broken.specs.Lent.{Lent}
use Rattle.broken.specs.Broken.{sync_in}
use Rattle.refusals.proofs.Taken.{Depot, SyncFit, MessageFit, EventFit, Taken}
use Rattle.refusals.proofs.Sound.{room}
use Rattle.storage.specs.Storage.{end_after, buffer_count}
use Rattle.outgoing.specs.Perform as perform
use Rattle.outgoing.proofs.Kept.{fits-sums}
use Rattle.step.specs.Step.{World, box_of, log_of}
use Rattle.step.specs.Writable.{Writable}
use Rattle.decide_laws.proofs.Table.{Fits, fits-if-taken, exactly}
use Rattle.step_laws.proofs.Moves.{Found}
use Rattle.step_laws.proofs.Events.{Queues, along-event}
use Rattle.step_laws.proofs.Written.{Planned, planned-closed}
use Rattle.step_laws.proofs.Queue.{carried-found}
use Rattle.step_laws.proofs.Log.{fit-op, fit-log, none_first}

few : (m : Option CachedPromise) (buffer : List ℕ) → SyncFit (sync_in m) buffer → few_cached m
few None buffer f = tt
few (Some p) buffer f = of p.sync f
  where
    of : (x : Option LogSync) → SyncFit x buffer → count_of x ≤ 1024
    of None g = omega arith
    of (Some x) g = omega (arith, g.0)

place : (c : Configuration) (pid : ℕ) → Stands c → Depot c pid → own_place pid
place c pid s d = (d.0, omega (arith, d.1, s.most))

message : (c : Configuration) (from : ℕ) (m : PaxosMsg) (entries : List ℕ) → MessageFit c from m entries → few_in m (length entries)
message c from (msg.PrepareReq m) entries f = tt
message c from (msg.Prepare m) entries f = tt
message c from (msg.Promise m) entries f = tt
message c from (msg.AcceptSync m) entries f = tt
message c from (msg.AcceptDecide m) entries f = tt
message c from (msg.Accepted m) entries f = tt
message c from (msg.NotAccepted m) entries f = tt
message c from (msg.Decide m) entries f = tt
message c from msg.ProposalForward entries f = f.few

fit-event : (c : Configuration) (e : Event) (entries : List ℕ) → Stands c → EventFit c e entries → fit_event e (length entries)
fit-event c (event.Message m) entries s f = (place c m.from s f.0.depot, message c m.from m.msg entries f.1)
fit-event c event.Propose entries s f = f.few
fit-event c (event.Leader n) entries s f = tt
fit-event c (event.Reconnect pid) entries s f = tt
fit-event c event.Resend entries s f = tt
fit-event c event.Drain entries s f = tt
fit-event c event.Restart entries s f = tt

pub sound : (c : Configuration) (r : Record) (row : Row) (l : Lent) (e : Event) (entries : List ℕ) → Taken c r row l e entries → Sound (box_of c e entries r row l.log l.best) × fit_event e (length entries)
unfolding box_of
sound c r row l e entries t = (
  record {
    room = room c r row l (sight_of c r row e l.log l.best entries) t.stands t.whole;
    log = t.whole.ends;
    buffer = t.whole.buffer;
    cached = few r.cached_promise_message l.cached t.whole.cached;
  },
  fit-event c e entries t.stands t.event,
)

-- refusals 4, 7, 5, 8 and 6 are not given
pub passes : (s : SequencePaxos) → outcome_refusal s ≡ 0 → Fits s
passes s z = fits-if-taken 0 s refl ((exactly 0 s).0 z)

-- the box that a step finds
abbrev pub found : Configuration → Event → List ℕ → World → SequencePaxos
found c e entries w = box_of c e entries w.node w.row w.lists.log w.lists.best

module _ (c : Configuration) (e : Event) (entries : List ℕ) (w : World) (t : Taken c w.node w.row w.lists e entries) where
  pub as-found : Found c (found c e entries w)
  unfolding box_of
  as-found =
      record {
        writes = record { log = refl; buffered = refl; cached = refl; best = refl; buffer = refl };
        decided = t.whole.decided;
        depots = t.stands.most;
        own = t.stands.own;
      }

  nothing-planned : Planned c e entries (found c e entries w) 0 (found c e entries w)
  unfolding box_of perform.new_in perform.count_in
  nothing-planned =
      record {
        config = refl;
        queue = refl;
        things = omega arith;
        sums = record { places = refl; things = omega arith; messages = refl; entries = refl };
        ends = omega arith;
        op = tt;
        kept = omega arith;
        rises = omega arith;
        decided = t.whole.decided;
        held = omega arith;
        buffered = omega arith;
        buffer = inl refl;
      }

drained-plans : (c : Configuration) (entries : List ℕ) (f s : SequencePaxos) → Planned c event.Drain entries f 0 s → Planned c event.Drain entries f 7 (drained s)
unfolding drained
drained-plans c entries f s p = (planned-closed c event.Drain entries f).more 0 7 s (omega arith) p

restarted-plans : (c : Configuration) (entries : List ℕ) (f s : SequencePaxos) → buffer_count s.plan.writes.buffer ≡ 0 → Planned c event.Restart entries f 0 s → Planned c event.Restart entries f 7 (restarted s)
unfolding restarted
restarted-plans c entries f s n p =
    record { config = p.config; queue = p.queue; things = omega (arith, p.things); sums = p.sums; ends = p.ends; op = p.op; kept = p.kept; rises = p.rises; decided = p.decided; held = p.held; buffered = omega arith; buffer = inl n }

-- what every step plans
pub planned-taken : (c : Configuration) (e : Event) (entries : List ℕ) (w : World) → Taken c w.node w.row w.lists e entries → Planned c e entries (found c e entries w) 7 (taken e (length entries) (found c e entries w))
planned-taken c e entries w t = by e t
  where
    queued : (e : Event) → Queues e → Taken c w.node w.row w.lists e entries → Planned c e entries (found c e entries w) 7 (taken e (length entries) (found c e entries w))
    queued e q t =
        along-event c entries (found c e entries w) (Planned c e entries (found c e entries w)) (as-found c e entries w t) (nothing-planned c e entries w t) e (planned-closed c e entries (found c e entries w)) q t.event

    by : (e : Event) → Taken c w.node w.row w.lists e entries → Planned c e entries (found c e entries w) 7 (taken e (length entries) (found c e entries w))
    by (event.Message m) t = queued (event.Message m) tt t
    by event.Propose t = queued event.Propose tt t
    by (event.Leader n) t = queued (event.Leader n) tt t
    by (event.Reconnect pid) t = queued (event.Reconnect pid) tt t
    by event.Resend t = queued event.Resend tt t
    by event.Drain t = drained-plans c entries (found c event.Drain entries w) (found c event.Drain entries w) (nothing-planned c event.Drain entries w t)
    by event.Restart t = restarted-plans c entries (found c event.Restart entries w) (found c event.Restart entries w) (ap buffer_count (as-found c event.Restart entries w t).writes.buffer) (nothing-planned c event.Restart entries w t)

-- what a step that is not refused writes fits
module _ (c : Configuration) (e : Event) (entries : List ℕ) (w : World) (t : Taken c w.node w.row w.lists e entries) (s : SequencePaxos) (p : Planned c e entries (found c e entries w) 7 s) (o : Fits s) where
  pub ends-within : end_after s.plan.writes.log w.node.internal_storage.accepted_idx + s.plan.writes.buffered ≤ max_log
  unfolding box_of
  ends-within = omega (arith, p.ends, o.log)

  decided-fit : any_above (take s.internal_storage.decided_idx (log_of entries s w)) ≡ false
  unfolding log_of box_of
  decided-fit =
      let len = w.node.internal_storage.accepted_idx in
      let op = s.plan.writes.log in
      let cells : end_after op len ≤ length w.lists.log = omega (arith, ends-within, t.lengths.log) in
      none_first _ s.internal_storage.decided_idx (end_after op len) p.decided
      (fit-log op len entries w.lists.best w.node.buffered_proposals.entries s.plan.writes.buffered w.lists.log cells
      (fit-op op e entries w.lists.best w.lists.log (found c e entries w) t.lengths.best (omega (arith, t.lengths.log, t.whole.ends)) t.whole.log t.whole.best p.op))

  pub fits : perform.Fits w.node.outgoing s.plan.sends w.row w.lists.store
  unfolding box_of
  fits =
      let n : s.outgoing.len ≡ w.node.outgoing = ap (λ (q : Outgoing). q.len) p.queue in
      let k : s.outgoing.entries ≡ queue_entries w.row w.node.outgoing = ap (λ (q : Outgoing). q.entries) p.queue in
      fits-sums w.node.outgoing s.plan.sends w.row w.lists.store p.sums t.lengths.store (λ k l. (t.whole.heads k l).inside) (omega (arith, n, o.messages)) (omega (arith, k, o.entries, carried-found w.row w.node.outgoing))

  pub buffer-fits : w.node.buffered_proposals.len + buffer_count s.plan.writes.buffer ≤ max_buffered
  unfolding box_of
  buffer-fits = by p.buffer
    where
      by : (buffer_count s.plan.writes.buffer ≡ 0) ⊎ (w.node.buffered_proposals.len + buffer_count s.plan.writes.buffer ≤ s.buffered_proposals) → w.node.buffered_proposals.len + buffer_count s.plan.writes.buffer ≤ max_buffered
      by (inl z) = omega (arith, z, t.whole.buffer)
      by (inr l) = omega (arith, l, o.buffer)

  writes-fit : Writable entries s w
  unfolding box_of
  writes-fit =
      let n : s.outgoing.len ≡ w.node.outgoing = ap (λ (q : Outgoing). q.len) p.queue in
      record {
        log-cells = t.lengths.log;
        cached-cells = t.lengths.cached;
        best-cells = t.lengths.best;
        log = ends-within;
        best = p.held;
        buffer = buffer-fits;
        queue = fits;
        waits = omega (arith, n, o.messages);
        book = t.whole.book;
        decided = decided-fit;
      }

pub writable : (c : Configuration) (e : Event) (entries : List ℕ) (w : World) → Taken c w.node w.row w.lists e entries → outcome_refusal (taken e (length entries) (found c e entries w)) ≡ 0 → Writable entries (taken e (length entries) (found c e entries w)) w
writable c e entries w t z =
    let s = taken e (length entries) (found c e entries w) in
    writes-fit c e entries w t s (planned-taken c e entries w t) (passes s z)
