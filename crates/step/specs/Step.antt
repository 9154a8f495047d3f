-- The whole step: refused, everything is as found; taken, what was decided is written to the log, the two sync buffers, the buffered proposals, the queue and the book.
use Rattle.std.specs.Prelude.{ℕ, ◌+◌, ◌-◌, Bool, true, false, cond, List, eqb, length, take, drop}
use Rattle.quorum.specs.declared.Configuration.{Configuration}
use Rattle.messages.specs.declared.Event.{Event}
use Rattle.messages.specs.declared.Event.TheVariants as event
use Rattle.messages.specs.declared.Row.{Row}
use Rattle.paxos_box.specs.declared.SequencePaxos.{SequencePaxos}
use Rattle.outcome.specs.Outcome.{Decision}
use Rattle.sequence_paxos.specs.Decide.{decide_of}
use Rattle.record.specs.declared.Record.{Record}
use Rattle.record.specs.Record.{load_of, store_of}
use Rattle.hire_book.specs.Book.{apply_all, book_of}
use Rattle.sight.specs.Sight.{queue_entries, sight_of}
use Rattle.broken.specs.Lent.{Lent, lent}
use Rattle.refusals.specs.Refusals.{refusal_of}
use Rattle.storage.specs.Storage.{log_after, cached_after, best_after, buffer_after}
use Rattle.outgoing.specs.Queue as queue
use Rattle.outgoing.specs.Perform.{sources, performed}
use Rattle.step.specs.declared.Answer.{Answer}
use Rattle.step.specs.declared.Step.{Step}

-- all that a step is given of a depot: the record, the row of heads, and what is lent beside them
pub record World : Type 0 where
  pub node : Record
  pub row : Row
  pub lists : Lent

abbrev pub world : Record → Row → Lent → World
world r row l = record { node = r; row = row; lists = l }

-- what a step gives: the answer, and all of it as the step leaves it
pub record Outcome : Type 0 where
  pub answer : Answer
  pub after : World

-- what the caller of the code sees: the step handed back, and what was lent
abbrev pub seen : Step → Lent → Outcome
seen s l = record { answer = s.answer; after = world s.node s.row l }

-- the deciding box, made of the record as found and of what deciding needs of the lists
unfoldable pub box_of : Configuration → Event → List ℕ → Record → Row → List ℕ → List ℕ → SequencePaxos
box_of c e entries r row log best = load_of c (queue_entries row r.outgoing) (sight_of c r row e log best entries) r

unfoldable pub decision_of : Configuration → Event → List ℕ → World → Decision
decision_of c e entries w = decide_of e (length entries) (box_of c e entries w.node w.row w.lists.log w.lists.best)

-- the lists after a step that decided s
unfoldable pub log_of : List ℕ → SequencePaxos → World → List ℕ
log_of entries s w =
    log_after s.plan.writes.log w.node.internal_storage.accepted_idx entries w.lists.best w.node.buffered_proposals.entries s.plan.writes.buffered w.lists.log

unfoldable pub cached_of : List ℕ → SequencePaxos → World → List ℕ
cached_of entries s w = cached_after s.plan.writes.cached (log_of entries s w) w.lists.cached

unfoldable pub best_of : List ℕ → SequencePaxos → World → List ℕ
best_of entries s w = best_after s.plan.writes.best entries w.lists.best

unfoldable pub buffer_of : List ℕ → SequencePaxos → World → List ℕ
buffer_of entries s w = buffer_after s.plan.writes.buffer w.node.buffered_proposals.len entries w.node.buffered_proposals.entries

-- the queue: its entries come from the log and the cached buffer as the step leaves them, and from the buffered proposals as found
unfoldable pub queue_of : List ℕ → SequencePaxos → World → queue.Lent
queue_of entries s w =
    performed (sources (log_of entries s w) entries w.node.buffered_proposals.entries (cached_of entries s w)) s.plan.sends w.node.outgoing (queue.lent w.row w.lists.store)

-- how many messages wait (R11.1, R12.1): a drain hands them out, and a restart leaves the queue empty
abbrev pub waiting : Event → ℕ → ℕ
waiting (event.Message m) n = n
waiting event.Propose n = n
waiting (event.Leader b) n = n
waiting (event.Reconnect pid) n = n
waiting event.Resend n = n
waiting event.Drain n = 0
waiting event.Restart n = 0

abbrev pub handed_out : Event → ℕ → ℕ
handed_out (event.Message m) n = 0
handed_out event.Propose n = 0
handed_out (event.Leader b) n = 0
handed_out (event.Reconnect pid) n = 0
handed_out event.Resend n = 0
handed_out event.Drain n = n
handed_out event.Restart n = 0

-- the entries that a step newly decides
abbrev pub newly_decided : ℕ → ℕ → List ℕ → List ℕ
newly_decided old new log = take (new - old) (drop old log)

abbrev pub is_restart : Event → Bool
is_restart (event.Message m) = false
is_restart event.Propose = false
is_restart (event.Leader b) = false
is_restart (event.Reconnect pid) = false
is_restart event.Resend = false
is_restart event.Drain = false
is_restart event.Restart = true

-- the book takes the entries newly decided, in order (R13.9); a restart makes it again from the decided entries
unfoldable pub book_after : Event → ℕ → ℕ → List ℕ → List ℕ → List ℕ
book_after e old new log book = cond (is_restart e) (book_of (take new log)) (apply_all (newly_decided old new log) book)

-- what a plan does: everything that was lent, as the step leaves it
unfoldable pub perform_of : Event → List ℕ → SequencePaxos → World → World
perform_of e entries s w =
    world
    (store_of s (buffer_of entries s w) (waiting e (w.node.outgoing + s.plan.sends.messages)))
    (queue_of entries s w).row
    (lent (log_of entries s w) (cached_of entries s w) (best_of entries s w) (queue_of entries s w).store
    (book_after e w.node.internal_storage.decided_idx s.internal_storage.decided_idx (log_of entries s w) w.lists.book))

-- refused with a number: everything as found
abbrev pub refused_with : ℕ → World → Outcome
refused_with number w = record { answer = record { no = number; dropped = 0; handed_out = 0 }; after = w }

abbrev pub taken_to : Event → List ℕ → SequencePaxos → World → Outcome
taken_to e entries s w =
    record { answer = record { no = 0; dropped = s.plan.writes.dropped; handed_out = handed_out e w.node.outgoing }; after = perform_of e entries s w }

-- a step that was decided
unfoldable pub concluded : Event → List ℕ → Decision → World → Outcome
concluded e entries d w = cond (eqb d.no 0) (taken_to e entries d.node w) (refused_with d.no w)

-- the whole step: refusals 1, 2, 3 and the 4 of every state come first
unfoldable pub step_of : Configuration → Event → List ℕ → World → Outcome
step_of c e entries w =
    cond (eqb (refusal_of c w.node w.row w.lists e entries) 0)
    (concluded e entries (decision_of c e entries w) w)
    (refused_with (refusal_of c w.node w.row w.lists e entries) w)
