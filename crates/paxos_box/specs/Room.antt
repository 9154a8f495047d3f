-- Bounds that keep every sum of a deciding box small, and a plan whose sums are right. They follow from refusals 1 and 2, and every step of deciding keeps them.
use Rattle.std.specs.Prelude.{ℕ, ◌+◌, ◌*◌, ◌≤◌, ◌≡◌, List, [], ◌∷◌, length, take}
use Rattle.leader_state.specs.State.{own_place}
use Rattle.paxos_box.specs.declared.Send.{Send}
use Rattle.paxos_box.specs.declared.Sends.{Sends}
use Rattle.paxos_box.specs.declared.SequencePaxos.{SequencePaxos}
use Rattle.paxos_box.specs.Box.{is_new}

-- how many of some planned things are new messages, and how many entries they bring
unfoldable pub new_in : List Send → ℕ
new_in [] = 0
new_in (m ∷ ms) = is_new m.what + new_in ms

unfoldable pub count_in : List Send → ℕ
count_in [] = 0
count_in (m ∷ ms) = m.count + count_in ms

-- the things that a plan has
abbrev pub items_of : Sends → List Send
items_of x = take x.count x.items

-- there is room for eight, and the sums kept are those of the things planned
pub record Summed (x : Sends) : Type 0 where
  pub room : length x.items ≡ 8
  pub messages : x.messages ≡ new_in (items_of x)
  pub entries : x.entries ≡ count_in (items_of x)

-- of the plan's things; the log's length; the queue's messages and entries; the buffered proposals; the depots and the own pid
pub record Numbers (x : Sends) (l q t b d o : ℕ) : Type 0 where
  pub count : x.count ≤ 8
  pub messages : x.messages ≤ x.count
  pub entries : x.entries ≤ 1024 * x.count
  pub sums : Summed x
  pub log : l ≤ 1024
  pub queue : q ≤ 64
  pub stored : t ≤ 4096
  pub buffer : b ≤ 64
  pub depots : d ≤ 7
  pub own : own_place o

abbrev pub Room : SequencePaxos → Type 0
Room s =
    Numbers s.plan.sends s.internal_storage.accepted_idx s.outgoing.len s.outgoing.entries s.buffered_proposals s.config.depots s.config.pid
