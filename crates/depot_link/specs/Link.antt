-- What the linked calls give, in words (docs/LAYOUT.md): they are read, the step is made, and what it leaves is written back where it is taken.
use Rattle.std.specs.Prelude.{ℕ, ◌≡◌, Bool, false, cond, not, ◌||◌, List, eqb, length}
use Rattle.record.specs.Record.{fresh_record}
use Rattle.record.specs.declared.Record.{Record}
use Rattle.quorum.specs.declared.Configuration.{Configuration}
use Rattle.messages.specs.declared.Event.{Event}
use Rattle.broken.specs.Lent.{Lent}
use Rattle.step.specs.declared.Answer.{Answer}
use Rattle.step.specs.Step.{World, world, Outcome, step_of}
use Rattle.blocks.specs.Blocks.{block_words, block_at}
use Rattle.layout_record.specs.Words.{record_length, record_words}
use Rattle.layout_record.specs.Reading.{broken_record, record_in}
use Rattle.layout_row.specs.Row.{row_length, row_words, no_row, row_in}
use Rattle.layout_row.specs.Event.{event_in, configuration_in}

-- what a caller keeps of a depot: the record's words, the row's, and the lists lent beside them
pub record Held : Type 0 where
  pub node : List ℕ
  pub row : List ℕ
  pub lists : Lent

abbrev pub held : List ℕ → List ℕ → Lent → Held
held node row lists = record { node = node; row = row; lists = lists }

-- what a call gives: the answer, and all of it as the call leaves it
pub record Linked : Type 0 where
  pub answer : Answer
  pub after : Held

abbrev pub told : Answer → Held → Linked
told answer after = record { answer = answer; after = after }

abbrev pub linked : ℕ → ℕ → ℕ → Held → Linked
linked number dropped handed after = told (record { no = number; dropped = dropped; handed_out = handed }) after

-- a configuration, a record, a row or an event of the wrong length
unfoldable pub words_off : ℕ → ℕ → ℕ → ℕ → Bool
words_off configuration node row event =
    not (eqb configuration block_words)
    || (not (eqb node record_length)
    || (not (eqb row row_length)
    || not (eqb event block_words)))

-- the record that the words mean; where they, or the row's, mean none, a broken one
unfoldable pub node_in : List ℕ → List ℕ → Record
node_in node row = cond (no_row row) broken_record (record_in node)

-- the depot that the words mean
abbrev pub world_in : Held → World
world_in h = world (node_in h.node h.row) (row_in h.row) h.lists

abbrev pub configuration_of : List ℕ → Configuration
configuration_of words = configuration_in (block_at 0 words)

abbrev pub event_of : List ℕ → Event
event_of words = event_in (block_at 0 words)

-- the step that the words mean
abbrev pub meant : List ℕ → List ℕ → List ℕ → Held → Outcome
meant configuration event entries h = step_of (configuration_of configuration) (event_of event) entries (world_in h)

-- the record and the row as words where the step is taken; refused, as found
abbrev pub written_back : Outcome → Held → Linked
written_back o h =
    told o.answer
    (held
    (cond (eqb o.answer.no 0) (record_words o.after.node) h.node)
    (cond (eqb o.answer.no 0) (row_words o.after.row) h.row)
    o.after.lists)

unfoldable pub linked_step : List ℕ → List ℕ → List ℕ → Held → Linked
linked_step configuration event entries h =
    cond (words_off (length configuration) (length h.node) (length h.row) (length event))
    (linked 1 0 0 h)
    (written_back (meant configuration event entries h) h)

-- what the words mean after a call is what the step leaves, so calls one after another are steps one after another
abbrev pub Follows : List ℕ → List ℕ → List ℕ → Held → Held → Type 0
Follows configuration event entries before after =
    words_off (length configuration) (length before.node) (length before.row) (length event) ≡ false
    → world_in after ≡ (meant configuration event entries before).after

-- a fresh record, into words of the right length
pub record Fresh : Type 0 where
  pub number : ℕ
  pub node : List ℕ

abbrev pub fresh : ℕ → List ℕ → Fresh
fresh number node = record { number = number; node = node }

unfoldable pub fresh_in : List ℕ → Fresh
fresh_in node = cond (eqb (length node) record_length) (fresh 0 (record_words fresh_record)) (fresh 1 node)
