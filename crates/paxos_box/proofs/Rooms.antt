-- One thing more in the plan keeps the bounds and the sums.
use Prim.Native.Nat.{ℕ, ◌+◌, ◌≤◌, ◌<◌}
use mathlib.Core.Path.{◌≡◌, refl, ◌∙◌}
use mathlib.Core.Bool.{Bool, true, false, cond}
use mathlib.Core.List.{List, [], ◌∷◌, ◌++◌}
use native.Mathlib.Omega.{arith}
use native.Mathlib.Numerals.{add-one}
use lib.Dec.{ltb}
use lib.ListN.{length, length-set}
use lib.Seq.{take-suc-set}
use borrow.Author.Tests.{ltb-true}
use Rattle.paxos_box.specs.declared.Plan.{Plan}
use Rattle.paxos_box.specs.declared.Send.{Send}
use Rattle.paxos_box.specs.declared.Sends.{Sends}
use Rattle.paxos_box.specs.declared.Sent.{Sent}
use Rattle.paxos_box.specs.declared.Sent.TheVariants.{New, Join, Raise}
use Rattle.paxos_box.specs.declared.SequencePaxos.{SequencePaxos}
use Rattle.paxos_box.specs.Box.{is_new, sending, planned, push_of}
use Rattle.paxos_box.specs.Room.{new_in, count_in, items_of, Summed, Room, Numbers}

pub new-le : (m : Sent) → is_new m ≤ 1
new-le (New m) = omega arith
new-le (Join m) = omega arith
new-le (Raise m) = omega arith

pub new-more : (ms : List Send) (m : Send) → new_in (ms ++ (m ∷ [])) ≡ new_in ms + is_new m.what
unfolding new_in
new-more [] m = omega arith
new-more (x ∷ ms) m = rw (new-more ms m) (omega arith)

pub count-more : (ms : List Send) (m : Send) → count_in (ms ++ (m ∷ [])) ≡ count_in ms + m.count
unfolding count_in
count-more [] m = omega arith
count-more (x ∷ ms) m = rw (count-more ms m) (omega arith)

-- the things planned after one more
pub items_more : (x : Sends) (m : Send) → x.count < length x.items → items_of (sending m x) ≡ items_of x ++ (m ∷ [])
items_more x m h = rw (add-one) (take-suc-set x.items x.count m h)

summed-more : (x : Sends) (m : Send) → x.count < 8 → Summed x → Summed (sending m x)
summed-more x m h r =
    let l : x.count < length x.items = omega (arith, r.room) in
    record {
      room = length-set x.items x.count m ∙ r.room;
      messages = rw (items_more x m l, new-more (items_of x) m, r.messages);
      entries = rw (items_more x m l, count-more (items_of x) m, r.entries);
    }

room-planned : (p : Plan) (m : Send) (l q t b d o : ℕ) → m.count ≤ 1024 → Numbers p.sends l q t b d o → Numbers (planned m p).sends l q t b d o
unfolding planned
room-planned p m l q t b d o h r = go (ltb p.sends.count 8) refl
  where
    go : (x : Bool) → ltb p.sends.count 8 ≡ x → Numbers (cond x (record { sends = sending m p.sends; writes = p.writes; unfit = p.unfit; top = p.top; sight = p.sight }) p).sends l q t b d o
    go true e =
        record {
          count = omega (arith, ltb-true p.sends.count 8 e);
          messages = omega (arith, r.messages, new-le m.what);
          entries = omega (arith, r.entries);
          sums = summed-more p.sends m (ltb-true p.sends.count 8 e) r.sums;
          log = r.log;
          queue = r.queue;
          stored = r.stored;
          buffer = r.buffer;
          depots = r.depots;
          own = r.own;
        }
    go false e = r

pub room-push : (s : SequencePaxos) (m : Send) → m.count ≤ 1024 → Room s → Room (push_of m s)
unfolding push_of
room-push s m h r = room-planned s.plan m s.internal_storage.accepted_idx s.outgoing.len s.outgoing.entries s.buffered_proposals s.config.depots s.config.pid h r

-- another length of the log, another count of buffered proposals
pub log-set : {x : Sends} {l q t b d o : ℕ} (n : ℕ) → n ≤ 1024 → Numbers x l q t b d o → Numbers x n q t b d o
log-set n h r = record { count = r.count; messages = r.messages; entries = r.entries; sums = r.sums; log = h; queue = r.queue; stored = r.stored; buffer = r.buffer; depots = r.depots; own = r.own }

pub buffer-set : {x : Sends} {l q t b d o : ℕ} (n : ℕ) → n ≤ 64 → Numbers x l q t b d o → Numbers x l q t n d o
buffer-set n h r = record { count = r.count; messages = r.messages; entries = r.entries; sums = r.sums; log = r.log; queue = r.queue; stored = r.stored; buffer = h; depots = r.depots; own = r.own }
