-- What deciding needs of the lists, in numbers: what stands at a remembered position of the queue, the first place of the log that a sync
-- would change, and how many entries the queue carries.
use Rattle.std.specs.Prelude.{ℕ, zero, suc, ◌-◌, Bool, false, cond, not, ◌&&◌, ◌≡◌, List, leb, ltb, eqb, length, get_or, take, drop, Option, None, Some}
use Rattle.hire_book.specs.Below.{sum_below}
use Rattle.paxos_box.specs.declared.AcceptedAt.{AcceptedAt}
use Rattle.leader_state.specs.declared.LogSync.{LogSync}
use Rattle.quorum.specs.declared.Configuration.{Configuration}
use Rattle.leader_state.specs.State.{depot_of}
use Rattle.leader_state.specs.Places.{marks}
use Rattle.messages.specs.Messages.{is_accept_decide, is_accepted, no_head}
use Rattle.messages.specs.declared.Head.{Head}
use Rattle.messages.specs.declared.Row.{Row}
use Rattle.messages.specs.declared.PaxosMsg.{PaxosMsg}
use Rattle.messages.specs.declared.PaxosMsg.TheVariants.{PrepareReq, Prepare, Promise, AcceptSync, AcceptDecide, Accepted, NotAccepted, Decide, ProposalForward}
use Rattle.messages.specs.declared.Event.{Event}
use Rattle.messages.specs.declared.Event.TheVariants as event
use Rattle.paxos_box.specs.declared.Sight.{Sight}
use Rattle.record.specs.declared.Record.{Record}

-- n cells of a list from a place on, as many as there are
abbrev pub part_of : ℕ → ℕ → List ℕ → List ℕ
part_of start n l = take n (drop start l)

-- the first number from i on that passes a test, k numbers looked at: i + k where none of them does
unfoldable pub first_from : (ℕ → Bool) → ℕ → ℕ → ℕ
first_from f i zero = i
first_from f i (suc k) = cond (f i) i (first_from f (suc i) k)

-- putting a suffix from `start` on changes place i of the log
unfoldable pub changes_at : List ℕ → ℕ → List ℕ → ℕ → Bool
changes_at log start suffix i =
    leb start i && ltb (i - start) (length suffix) && not (eqb (get_or log i 0) (get_or suffix (i - start) 0))

-- the first place below `len` that it changes, `len` where it changes none: so, of a decided index that is at most `len`,
-- `change < decided` says exactly that it changes a place below the decided index
unfoldable pub first_change : List ℕ → ℕ → ℕ → List ℕ → ℕ
first_change log len start suffix = first_from (changes_at log start suffix) 0 len

-- the best promise's held sync; its entries are the first of its buffer
abbrev pub held_change : Option LogSync → List ℕ → ℕ → List ℕ → ℕ
held_change None log len best = len
held_change (Some x) log len best = first_change log len x.sync_idx (part_of 0 x.len best)

-- where the sync that a message brings starts
abbrev pub sync_in : PaxosMsg → Option ℕ
sync_in (PrepareReq m) = None
sync_in (Prepare m) = None
sync_in (Promise m) = m.log_sync
sync_in (AcceptSync m) = Some m.sync_idx
sync_in (AcceptDecide m) = None
sync_in (Accepted m) = None
sync_in (NotAccepted m) = None
sync_in (Decide m) = None
sync_in ProposalForward = None

abbrev pub brought : Event → Option ℕ
brought (event.Message m) = sync_in m.msg
brought event.Propose = None
brought (event.Leader n) = None
brought (event.Reconnect pid) = None
brought event.Resend = None
brought event.Drain = None
brought event.Restart = None

-- the sync brought; its entries are those given with the event
abbrev pub brought_change : Option ℕ → List ℕ → ℕ → List ℕ → ℕ
brought_change None log len entries = len
brought_change (Some start) log len entries = first_change log len start entries

-- the head at a place of the row
abbrev pub head_at : Row → ℕ → Head
head_at row i = get_or row.heads i no_head

-- what a test answers, passed in and asked of a message, is what f says
pub record TellsMessage (answers : PaxosMsg → Bool → Type 0) (f : PaxosMsg → Bool) : Type 0 where
  pub at : (m : PaxosMsg) (r : Bool) → answers m r → r ≡ f m

-- a remembered position lies in the queue, and an AcceptDecide (an Accepted) stands there
unfoldable pub accdec_at : Row → ℕ → ℕ → Bool
accdec_at row len at = ltb at len && is_accept_decide (head_at row at).msg

unfoldable pub accepted_at : Row → ℕ → ℕ → Bool
accepted_at row len at = ltb at len && is_accepted (head_at row at).msg

abbrev pub accdec_on : Row → ℕ → Option ℕ → Bool
accdec_on row len None = false
accdec_on row len (Some at) = accdec_at row len at

abbrev pub accepted_on : Row → ℕ → Option AcceptedAt → Bool
accepted_on row len None = false
accepted_on row len (Some a) = accepted_at row len a.at

-- a mark for each depot's place; false at the places past the depots
unfoldable pub accdec_marks : Configuration → Record → Row → List Bool
accdec_marks c r row = marks c.depots (λ pid. accdec_on row r.outgoing (depot_of pid r.leader_state).latest)

abbrev pub accepted_mark : Record → Row → Bool
accepted_mark r row = accepted_on row r.outgoing r.latest_accepted_meta

-- how many entries the first messages of the row carry
unfoldable pub queue_entries : Row → ℕ → ℕ
queue_entries row len = sum_below (λ i. (head_at row i).count) len

-- all that deciding needs of the lists, of the record as it is found
abbrev pub sight_of : Configuration → Record → Row → Event → List ℕ → List ℕ → List ℕ → Sight
sight_of c r row e log best entries =
    record {
      accdec = accdec_marks c r row;
      accepted = accepted_mark r row;
      held_change = held_change r.leader_state.max_promise.sync log r.internal_storage.accepted_idx best;
      brought_change = brought_change (brought e) log r.internal_storage.accepted_idx entries;
    }
