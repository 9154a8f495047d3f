-- The face of a view, and that of a box in the midst of deciding: what its plan, as far as it goes, makes of the view that it was found with.
use Rattle.std.specs.Prelude.{ℕ, ◌≤◌, ◌≡◌, false, List, ◌++◌, length, take}
use Rattle.paxos_box.specs.declared.SequencePaxos.{SequencePaxos}
use Rattle.paxos_box.specs.declared.Writes.{Writes}
use Rattle.paxos_box.specs.Box.{next_place}
use Rattle.broken.specs.Broken.{sync_in}
use Rattle.outgoing.specs.Perform.{Sources, sources, perform_all, items_of}
use Rattle.views.specs.View.{View, held_entries, log_to, buffer_to, cached_to, best_to}
use Rattle.travels.specs.Face.{Face}

abbrev pub face_of : View → Face
face_of v =
    record {
      storage = v.node.internal_storage;
      log = v.log;
      state = v.node.state;
      seq = v.node.current_seq_num;
      leader = v.node.leader_state;
      best = v.best;
      message = v.node.cached_promise_message;
      cached = v.cached;
      buffered = v.buffered;
      meta = v.node.latest_accepted_meta;
      queue = v.queue;
    }

-- the log, and the cached promise's buffer, after what is to be written
abbrev pub mid_log : List ℕ → View → Writes → List ℕ
mid_log es v w = log_to w.log es v.best v.log ++ take w.buffered v.buffered

abbrev pub mid_cached : List ℕ → View → Writes → List ℕ
mid_cached es v w = cached_to w.cached (mid_log es v w) v.cached

abbrev pub mid_sources : List ℕ → View → Writes → Sources
mid_sources es v w = sources (mid_log es v w) es v.buffered (mid_cached es v w)

abbrev pub mid_face : List ℕ → View → SequencePaxos → Face
mid_face es v s =
    record {
      storage = s.internal_storage;
      log = mid_log es v s.plan.writes;
      state = s.state;
      seq = s.current_seq_num;
      leader = s.leader_state;
      best = held_entries s.leader_state.max_promise.sync (best_to s.plan.writes.best es v.best);
      message = s.cached_promise_message;
      cached = held_entries (sync_in s.cached_promise_message) (mid_cached es v s.plan.writes);
      buffered = buffer_to s.plan.writes.buffer s.buffered_proposals es v.buffered;
      meta = s.latest_accepted_meta;
      queue = perform_all (mid_sources es v s.plan.writes) (items_of s.plan.sends) v.queue;
    }

-- nothing met so far refuses the step with 4 or 7
pub record Clean (s : SequencePaxos) : Type 0 where
  pub fit : s.plan.unfit ≡ false
  pub low : s.plan.top ≡ false

-- so many things are planned at most, of eight, and the next new message has the place that is said
pub record Ready (k : ℕ) (es : List ℕ) (v : View) (s : SequencePaxos) : Type 0 where
  pub things : s.plan.sends.count ≤ k
  pub room : length s.plan.sends.items ≡ 8
  pub queue : length (mid_face es v s).queue ≡ next_place s
