-- What refusals 1 to 8 leave of a step that is taken, as far as writing needs it: everything that it writes fits.
use Rattle.std.specs.Prelude.{ℕ, ◌+◌, ◌≤◌, ◌≡◌, false, List, length, take}
use Rattle.base.specs.Limits.{max_log, max_buffered, max_messages}
use Rattle.paxos_box.specs.declared.SequencePaxos.{SequencePaxos}
use Rattle.hire_book.specs.Book.{Sound, any_above}
use Rattle.storage.specs.Storage.{end_after, best_count, buffer_count}
use Rattle.outgoing.specs.Perform.{Fits}
use Rattle.step.specs.Step.{World, log_of}

pub record Writable (entries : List ℕ) (s : SequencePaxos) (w : World) : Type 0 where
  pub log-cells : length w.lists.log ≡ max_log
  pub cached-cells : length w.lists.cached ≡ max_log
  pub best-cells : length w.lists.best ≡ max_log
  -- the log with what the step puts on it, the held sync's entries, the buffered proposals
  pub log : end_after s.plan.writes.log w.node.internal_storage.accepted_idx + s.plan.writes.buffered ≤ max_log
  pub best : best_count s.plan.writes.best ≤ max_log
  pub buffer : w.node.buffered_proposals.len + buffer_count s.plan.writes.buffer ≤ max_buffered
  -- the queue
  pub queue : Fits w.node.outgoing s.plan.sends w.row w.lists.store
  pub waits : w.node.outgoing + s.plan.sends.messages ≤ max_messages
  -- the book, and the entries that are decided
  pub book : Sound w.lists.book
  pub decided : any_above (take s.internal_storage.decided_idx (log_of entries s w)) ≡ false
