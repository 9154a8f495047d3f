-- A depot seen as lists: no cell past a length, no head, no store. What a decided box makes of them, and the deciding box made of them.
use Rattle.std.specs.Prelude.{ℕ, ◌+◌, ◌≤◌, ◌≡◌, Bool, false, ◌&&◌, List, [], ◌∷◌, ◌++◌, ltb, length, take, drop, get_or, Option, None, Some}
use Rattle.paxos_box.specs.declared.AcceptedAt.{AcceptedAt}
use Rattle.leader_state.specs.declared.LogSync.{LogSync}
use Rattle.quorum.specs.declared.Configuration.{Configuration}
use Rattle.leader_state.specs.State.{depot_of}
use Rattle.leader_state.specs.Places.{marks}
use Rattle.messages.specs.declared.Event.{Event}
use Rattle.messages.specs.declared.Event.TheVariants as event
use Rattle.messages.specs.declared.PaxosMsg.{PaxosMsg}
use Rattle.messages.specs.declared.PaxosMsg.TheVariants.{ProposalForward}
use Rattle.messages.specs.Messages.{is_accept_decide, is_accepted}
use Rattle.paxos_box.specs.declared.SequencePaxos.{SequencePaxos}
use Rattle.paxos_box.specs.declared.LogOp.{LogOp}
use Rattle.paxos_box.specs.declared.LogOp.TheVariants as log
use Rattle.paxos_box.specs.declared.Sight.{Sight}
use Rattle.paxos_box.specs.declared.Send.{Send}
use Rattle.follower.specs.Follower.{count_of}
use Rattle.record.specs.declared.Record.{Record}
use Rattle.record.specs.Record.{fresh_record, load_of, store_of}
use Rattle.sight.specs.Sight.{first_change, brought, brought_change}
use Rattle.broken.specs.Broken.{sync_in, cached_sync, best_sync}
use Rattle.outgoing.specs.Queue.{Msg, lent, queue_of, entries_in}
use Rattle.outgoing.specs.Perform.{Sources, sources, entries_of, perform_all, items_of, new_in}
use Rattle.step.specs.Step.{World, waiting}

pub record View : Type 0 where
  -- the record's numbers
  pub node : Record
  -- the log, and the buffered proposals
  pub log : List ℕ
  pub buffered : List ℕ
  -- the entries of the cached promise's sync, and of the best promise's held sync
  pub cached : List ℕ
  pub best : List ℕ
  -- the messages that wait
  pub queue : List Msg

-- a record without its buffered entries
abbrev pub numbers_of : Record → Record
numbers_of r =
    record {
      internal_storage = r.internal_storage;
      state = r.state;
      buffered_proposals = record { entries = []; len = r.buffered_proposals.len };
      outgoing = r.outgoing;
      leader_state = r.leader_state;
      latest_accepted_meta = r.latest_accepted_meta;
      current_seq_num = r.current_seq_num;
      cached_promise_message = r.cached_promise_message;
    }

-- a sync's entries are the first of a list
abbrev pub held_entries : Option LogSync → List ℕ → List ℕ
held_entries None l = []
held_entries (Some x) l = take x.len l

unfoldable pub view_of : World → View
view_of w =
    record {
      node = numbers_of w.node;
      log = take w.node.internal_storage.accepted_idx w.lists.log;
      buffered = take w.node.buffered_proposals.len w.node.buffered_proposals.entries;
      cached = held_entries (cached_sync w.node) w.lists.cached;
      best = held_entries (best_sync w.node) w.lists.best;
      queue = queue_of w.node.outgoing (lent w.row w.lists.store);
    }

-- a depot that never ran
abbrev pub fresh_view : View
fresh_view = record { node = numbers_of fresh_record; log = []; buffered = []; cached = []; best = []; queue = [] }

-- the log after an operation, given entries, and the held sync's
abbrev pub log_to : LogOp → List ℕ → List ℕ → List ℕ → List ℕ
log_to log.Keep given held l = l
log_to (log.Append n) given held l = l ++ take n given
log_to (log.PutGiven x) given held l = take x.sync_idx l ++ take x.len given
log_to (log.PutHeld x) given held l = take x.sync_idx l ++ take x.len held

-- the buffered proposals, of which so many stay where none join them
abbrev pub buffer_to : Option ℕ → ℕ → List ℕ → List ℕ → List ℕ
buffer_to None n given l = take n l
buffer_to (Some k) n given l = l ++ take k given

-- where the cached sync's entries are, and the held one's
abbrev pub cached_to : Option LogSync → List ℕ → List ℕ → List ℕ
cached_to None l c = c
cached_to (Some x) l c = take x.len (drop x.sync_idx l)

abbrev pub best_to : Option ℕ → List ℕ → List ℕ → List ℕ
best_to None given b = b
best_to (Some n) given b = take n given

-- the lists that a decided box makes of a view: the kept proposals stand at the end of the log
unfoldable pub new_log : List ℕ → SequencePaxos → View → List ℕ
new_log entries s v = log_to s.plan.writes.log entries v.best v.log ++ take s.plan.writes.buffered v.buffered

unfoldable pub new_buffered : List ℕ → SequencePaxos → View → List ℕ
new_buffered entries s v = buffer_to s.plan.writes.buffer s.buffered_proposals entries v.buffered

-- the cached promise's buffer, and what its sync takes of it
unfoldable pub cached_list : List ℕ → SequencePaxos → View → List ℕ
cached_list entries s v = cached_to s.plan.writes.cached (new_log entries s v) v.cached

unfoldable pub new_cached : List ℕ → SequencePaxos → View → List ℕ
new_cached entries s v = held_entries (sync_in s.cached_promise_message) (cached_list entries s v)

unfoldable pub new_best : List ℕ → SequencePaxos → View → List ℕ
new_best entries s v = held_entries s.leader_state.max_promise.sync (best_to s.plan.writes.best entries v.best)

-- where the entries of planned messages come from: the log and the cached promise's buffer as the step leaves them, the buffered proposals as found
abbrev pub sources_of : List ℕ → SequencePaxos → View → Sources
sources_of entries s v = sources (new_log entries s v) entries v.buffered (cached_list entries s v)

-- a drain hands the queue out, and a restart empties it
abbrev pub queue_to : Event → List Msg → List Msg
queue_to (event.Message m) q = q
queue_to event.Propose q = q
queue_to (event.Leader n) q = q
queue_to (event.Reconnect pid) q = q
queue_to event.Resend q = q
queue_to event.Drain q = []
queue_to event.Restart q = []

unfoldable pub new_queue : Event → List ℕ → SequencePaxos → View → List Msg
new_queue e entries s v = queue_to e (perform_all (sources_of entries s v) (items_of s.plan.sends) v.queue)

-- what a plan does to a view
unfoldable pub perform_view : Event → List ℕ → SequencePaxos → View → View
perform_view e entries s v =
    record {
      node = store_of s [] (waiting e (v.node.outgoing + s.plan.sends.messages));
      log = new_log entries s v;
      buffered = new_buffered entries s v;
      cached = new_cached entries s v;
      best = new_best entries s v;
      queue = new_queue e entries s v;
    }

-- the counts of a record are the lengths of its lists
pub record Counted (v : View) : Type 0 where
  pub log : length v.log ≡ v.node.internal_storage.accepted_idx
  pub buffered : length v.buffered ≡ v.node.buffered_proposals.len
  pub cached : length v.cached ≡ count_of (cached_sync v.node)
  pub best : length v.best ≡ count_of (best_sync v.node)
  pub queue : length v.queue ≡ v.node.outgoing

-- what a plan must bring so that its counts are the lengths of lists: the operation on the log starts within it and has all that it counts
abbrev pub OpFull : LogOp → List ℕ → List ℕ → List ℕ → Type 0
OpFull log.Keep given held l = Unit {0}
OpFull (log.Append n) given held l = n ≤ length given
OpFull (log.PutGiven x) given held l = (x.sync_idx ≤ length l) × (x.len ≤ length given)
OpFull (log.PutHeld x) given held l = (x.sync_idx ≤ length l) × (x.len ≤ length held)

-- and so has every planned message
pub data Covered (f : Sources) : List Send → Type 0 where
  none : Covered f []
  more : {m : Send} {ms : List Send} → length (entries_of f m) ≡ m.count → Covered f ms → Covered f (m ∷ ms)

-- all of it, of a decided box and the view it was decided on
pub record Plain (entries : List ℕ) (s : SequencePaxos) (v : View) : Type 0 where
  pub op : OpFull s.plan.writes.log entries v.best v.log
  pub kept : s.plan.writes.buffered ≤ length v.buffered
  pub log : length (new_log entries s v) ≡ s.internal_storage.accepted_idx
  pub buffer : length (new_buffered entries s v) ≡ s.buffered_proposals
  pub cached : length (new_cached entries s v) ≡ count_of (sync_in s.cached_promise_message)
  pub best : length (new_best entries s v) ≡ count_of s.leader_state.max_promise.sync
  pub sends : Covered (sources_of entries s v) (items_of s.plan.sends)
  pub messages : s.plan.sends.messages ≡ new_in (items_of s.plan.sends)

-- The deciding box, made of a view

-- the message at a place of the queue
abbrev pub no_msg : Msg
no_msg = record { to = 0; msg = ProposalForward; entries = [] }

abbrev pub msg_at : List Msg → ℕ → PaxosMsg
msg_at q i = (get_or q i no_msg).msg

-- what stands where an AcceptDecide, an Accepted is remembered
abbrev pub accdec_there : List Msg → Option ℕ → Bool
accdec_there q None = false
accdec_there q (Some at) = ltb at (length q) && is_accept_decide (msg_at q at)

abbrev pub accepted_there : List Msg → Option AcceptedAt → Bool
accepted_there q None = false
accepted_there q (Some a) = ltb a.at (length q) && is_accepted (msg_at q a.at)

abbrev pub held_first : Option LogSync → List ℕ → List ℕ → ℕ
held_first None log best = length log
held_first (Some x) log best = first_change log (length log) x.sync_idx best

unfoldable pub sight_view : Configuration → Event → List ℕ → View → Sight
sight_view c e entries v =
    record {
      accdec = marks c.depots (λ pid. accdec_there v.queue (depot_of pid v.node.leader_state).latest);
      accepted = accepted_there v.queue v.node.latest_accepted_meta;
      held_change = held_first (best_sync v.node) v.log v.best;
      brought_change = brought_change (brought e) v.log (length v.log) entries;
    }

unfoldable pub box_view : Configuration → Event → List ℕ → View → SequencePaxos
box_view c e entries v = load_of c (length (entries_in v.queue)) (sight_view c e entries v) v.node
