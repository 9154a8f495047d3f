-- What a plan does to the queue: first as a list of messages, then as it lies in the row and the store.
use Rattle.std.specs.Prelude.{ℕ, zero, suc, ◌+◌, ◌≤◌, ◌<◌, ◌≡◌, Bool, true, cond, List, [], ◌∷◌, ◌++◌, eqb, ltb, take, drop, length, get_or}
use Rattle.base.specs.Limits.{max_messages, max_store}
use Rattle.messages.specs.declared.Head.{Head}
use Rattle.messages.specs.declared.Row.{Row}
use Rattle.messages.specs.Messages.{with_decided, with_accepted, no_head}
use Rattle.paxos_box.specs.declared.Source.{Source}
use Rattle.paxos_box.specs.declared.Source.TheVariants as source
use Rattle.paxos_box.specs.declared.Sent.{Sent}
use Rattle.paxos_box.specs.declared.Sent.TheVariants.{New, Join, Raise}
use Rattle.paxos_box.specs.declared.Send.{Send}
use Rattle.paxos_box.specs.declared.Sends.{Sends}
use Rattle.paxos_box.specs.Box.{is_new}
use Rattle.outgoing.specs.Queue.{Msg, Lent, relaid}

-- where entries come from (R7.11): the log and the cached promise's buffer as the step leaves them, the entries given with the event, the buffered proposals as found
pub record Sources : Type 0 where
  pub log : List ℕ
  pub given : List ℕ
  pub buffered : List ℕ
  pub cached : List ℕ

abbrev pub sources : List ℕ → List ℕ → List ℕ → List ℕ → Sources
sources log given buffered cached = record { log = log; given = given; buffered = buffered; cached = cached }

abbrev pub source_of : Source → Sources → List ℕ
source_of source.Nothing f = []
source_of (source.Log from) f = drop from f.log
source_of source.Given f = f.given
source_of source.Buffered f = f.buffered
source_of source.Cached f = f.cached

-- the entries of a planned thing
abbrev pub entries_of : Sources → Send → List ℕ
entries_of f m = take m.count (source_of m.source f)

-- an AcceptDecide with a new decided index, and more entries at its end; an Accepted with a new index
abbrev pub joined : ℕ → List ℕ → Msg → Msg
joined d es m = record { to = m.to; msg = with_decided d m.msg; entries = m.entries ++ es }

abbrev pub raised : ℕ → Msg → Msg
raised a m = record { to = m.to; msg = with_accepted a m.msg; entries = m.entries }

-- f at one place
module _ {A : Type 0} where
  unfoldable pub on_place : ℕ → (A → A) → List A → List A
  on_place k f [] = []
  on_place zero f (x ∷ l) = f x ∷ l
  on_place (suc k) f (x ∷ l) = x ∷ on_place k f l

-- one planned thing is done to the queue
abbrev pub done_to : Sent → ℕ → List ℕ → List Msg → List Msg
done_to (New m) to es q = q ++ (record { to = to; msg = m; entries = es } ∷ [])
done_to (Join j) to es q = on_place j.at (joined j.decided_idx es) q
done_to (Raise r) to es q = on_place r.at (raised r.accepted_idx) q

unfoldable pub perform_one : Sources → Send → List Msg → List Msg
perform_one f m q = done_to m.what m.to (entries_of f m) q

-- all of them, in their order
unfoldable pub perform_all : Sources → List Send → List Msg → List Msg
perform_all f [] q = q
perform_all f (m ∷ ms) q = perform_all f ms (perform_one f m q)

abbrev pub items_of : Sends → List Send
items_of s = take s.count s.items

-- what comes out (R7.10): a plan of nothing leaves all as found, any other leaves the queue packed
unfoldable pub performed : Sources → Sends → ℕ → Lent → Lent
performed f s len w = cond (eqb s.count 0) w (relaid len (perform_all f (items_of s)) w)

-- how many new messages there are among planned things, and how many entries these count
unfoldable pub new_in : List Send → ℕ
new_in [] = 0
new_in (m ∷ ms) = is_new m.what + new_in ms

unfoldable pub count_in : List Send → ℕ
count_in [] = 0
count_in (m ∷ ms) = m.count + count_in ms

-- the sums that a plan keeps are those of its things, for which it has eight places
pub record Sums (s : Sends) : Type 0 where
  pub places : length s.items ≡ 8
  pub things : s.count ≤ 8
  pub messages : s.messages ≡ new_in (items_of s)
  pub entries : s.entries ≡ count_in (items_of s)

-- a thing brings all that it counts: its source is long enough, a join stands below the queue's length, and a new index counts none
abbrev pub placed : Sent → ℕ → ℕ → Bool
placed (New m) len n = true
placed (Join j) len n = ltb j.at len
placed (Raise r) len n = eqb n 0

pub data Full (f : Sources) : ℕ → List Send → Type 0 where
  none : {len : ℕ} → Full f len []
  more : {len : ℕ} {m : Send} {ms : List Send} → length (entries_of f m) ≡ m.count → placed m.what len m.count ≡ true → Full f (len + is_new m.what) ms → Full f len (m ∷ ms)

-- how many entries heads count
unfoldable pub carried : List Head → ℕ
carried [] = 0
carried (h ∷ hs) = h.count + carried hs

-- a head without entries may start anywhere
abbrev pub Inside : ℕ → Head → Type 0
Inside n h = 0 < h.count → h.start + h.count ≤ n

-- what refusals 1, 2 and 6 leave of a queue and a plan
pub record Fits (len : ℕ) (s : Sends) (row : Row) (store : List ℕ) : Type 0 where
  pub size : length store ≡ max_store
  pub inside : (k : ℕ) → k < len → Inside max_store (get_or row.heads k no_head)
  pub things : s.count ≤ 8
  pub messages : len + new_in (items_of s) ≤ max_messages
  pub entries : carried (take len row.heads) + count_in (items_of s) ≤ max_store
