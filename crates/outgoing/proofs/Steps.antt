-- Planned things done one after the other: what each adds, and that laying down in between shows in nothing.
use Prim.Native.Nat.{ℕ, zero, suc, ◌+◌, ◌≤◌, ◌<◌}
use mathlib.Core.Path.{◌≡◌, refl, ap, ◌∙◌}
use mathlib.Core.List.{List, [], ◌∷◌, ◌++◌, append-nil}
use native.Mathlib.Omega.{arith}
use lib.ListN.{length, take, length-append, length-take, length-map}
use lib.Seq.{length-take-le, get_or-take}
use Rattle.base.specs.Limits.{max_messages, max_store}
use Rattle.storage.proofs.Laid.{length_over, at_most}
use Rattle.messages.specs.declared.Head.{Head}
use Rattle.messages.specs.declared.Row.{Row}
use Rattle.messages.specs.declared.PaxosMsg.TheVariants.{PrepareReq}
use Rattle.paxos_box.specs.declared.Source.TheVariants as source
use Rattle.paxos_box.specs.declared.Sent.{Sent}
use Rattle.paxos_box.specs.declared.Sent.TheVariants.{New, Join, Raise}
use Rattle.paxos_box.specs.declared.Send.{Send}
use Rattle.paxos_box.specs.declared.Sends.{Sends}
use Rattle.messages.specs.Messages.{no_head}
use Rattle.paxos_box.specs.Box.{is_new}
use Rattle.outgoing.specs.Queue.{Msg, Lent, lent, entries_in, queue_of, laid, heads_from}
use Rattle.outgoing.specs.Perform.{Sources, source_of, entries_of, joined, raised, on_place, done_to, perform_one, perform_all, items_of, new_in, count_in, carried, Fits}
use Rattle.outgoing.specs.Packing.{Packed, Whole, Ready}
use Rattle.outgoing.proofs.Heads.{inside-whole, length-entries}
use Rattle.outgoing.proofs.Laid.{laid-queue, laid-packed, laid-again, length-heads, heads-carried, entries-append, take-over}
use Rattle.outgoing.proofs.Edits.{packed-length}

-- a thing done with the entries of its source
pub with-entries : (f : Sources) (m : Send) (es : List ℕ) (q : List Msg) (w v : Lent) → es ≡ entries_of f m → v ≡ laid (done_to m.what m.to es q) w → v ≡ laid (perform_one f m q) w
unfolding perform_one
with-entries f m es q w v p r = rw (← p) r

length-on-place : {A : Type 0} (f : A → A) (k : ℕ) (l : List A) → length (on_place k f l) ≡ length l
unfolding on_place
length-on-place f k [] = refl
length-on-place f zero (x ∷ l) = refl
length-on-place f (suc k) (x ∷ l) = ap suc (length-on-place f k l)

-- a change of one message that keeps its entries, and may put more behind them
entries-on-place : (f : Msg → Msg) (es : List ℕ) → ((m : Msg) → (length m.entries ≤ length (f m).entries) × (length (f m).entries ≤ length m.entries + length es)) → (k : ℕ) (q : List Msg) → (length (entries_in q) ≤ length (entries_in (on_place k f q))) × (length (entries_in (on_place k f q)) ≤ length (entries_in q) + length es)
unfolding on_place entries_in
entries-on-place f es h k [] = omega arith
entries-on-place f es h zero (m ∷ q) = omega (arith, h m, length-append m.entries (entries_in q), length-append (f m).entries (entries_in q))
entries-on-place f es h (suc k) (m ∷ q) =
    omega (arith, entries-on-place f es h k q, length-append m.entries (entries_in q), length-append m.entries (entries_in (on_place k f q)))

-- messages that a thing adds, and entries
pub one-longer : (x : Sent) (to : ℕ) (es : List ℕ) (q : List Msg) → length (done_to x to es q) ≡ length q + is_new x
one-longer (New m) to es q = length-append q _
one-longer (Join j) to es q = length-on-place (joined j.decided_idx es) j.at q ∙ omega arith
one-longer (Raise r) to es q = length-on-place (raised r.accepted_idx) r.at q ∙ omega arith

pub one_grows : (x : Sent) (to : ℕ) (es : List ℕ) (q : List Msg) → (length (entries_in q) ≤ length (entries_in (done_to x to es q))) × (length (entries_in (done_to x to es q)) ≤ length (entries_in q) + length es)
unfolding entries_in
one_grows (New m) to es q =
    rw (entries-append q (record { to = to; msg = m; entries = es } ∷ []), length-append (entries_in q) (es ++ []), append-nil es) (omega arith)
one_grows (Join j) to es q = entries-on-place (joined j.decided_idx es) es (λ m. omega (arith, length-append m.entries es)) j.at q
one_grows (Raise r) to es q = entries-on-place (raised r.accepted_idx) es (λ m. omega arith) r.at q

pub few : (f : Sources) (m : Send) → length (entries_of f m) ≤ m.count
few f m = at_most m.count (source_of m.source f) (entries_of f m) refl

pub step-longer : (f : Sources) (m : Send) (q : List Msg) → length (perform_one f m q) ≡ length q + is_new m.what
unfolding perform_one
step-longer f m q = one-longer m.what m.to (entries_of f m) q

pub step-grows : (f : Sources) (m : Send) (q : List Msg) → (length (entries_in q) ≤ length (entries_in (perform_one f m q))) × (length (entries_in (perform_one f m q)) ≤ length (entries_in q) + m.count)
unfolding perform_one
step-grows f m q = omega (arith, one_grows m.what m.to (entries_of f m) q, few f m)

pub all-longer : (f : Sources) (ms : List Send) (q : List Msg) → length (perform_all f ms q) ≡ length q + new_in ms
unfolding perform_all new_in
all-longer f [] q = omega arith
all-longer f (m ∷ ms) q = omega (arith, all-longer f ms (perform_one f m q), step-longer f m q)

pub all-grow : (f : Sources) (ms : List Send) (q : List Msg) → (length (entries_in q) ≤ length (entries_in (perform_all f ms q))) × (length (entries_in (perform_all f ms q)) ≤ length (entries_in q) + count_in ms)
unfolding perform_all count_in
all-grow f [] q = omega arith
all-grow f (m ∷ ms) q = omega (arith, all-grow f ms (perform_one f m q), step-grows f m q)

pub length-queue : (len : ℕ) (w : Lent) → len ≤ length w.row.heads → length (queue_of len w) ≡ len
unfolding queue_of
length-queue len w h = rw (length-map, length-take-le len w.row.heads h)

-- entries that a packed queue carries
pub queue-entries : (len : ℕ) (w : Lent) → Packed len w.row.heads w.store → length (entries_in (queue_of len w)) ≡ carried (take len w.row.heads)
unfolding queue_of
queue-entries len w p = packed-length len w.row.heads w.store p

-- the length of a queue laid down, and of its row and store
pub laid-sizes : (q : List Msg) (w : Lent) → length q ≤ length w.row.heads → length (entries_in q) ≤ length w.store → (length (laid q w).row.heads ≡ length w.row.heads) × (length (laid q w).store ≡ length w.store)
unfolding laid
laid-sizes q w h l = (length_over (heads_from 0 q) w.row.heads (rw (length-heads 0 q) h), length_over (entries_in q) w.store l)

-- entries that a queue laid down carries
pub laid-carried : (q : List Msg) (w : Lent) → carried (take (length q) (laid q w).row.heads) ≡ length (entries_in q)
unfolding laid
laid-carried q w = rw (take-over (heads_from 0 q) w.row.heads (length q) (length-heads 0 q)) (heads-carried 0 q)

-- laid down in between, or at the end alone
pub laid-between : (f : Sources) (ms : List Send) (q : List Msg) (w : Lent) → laid (perform_all f ms (queue_of (length q) (laid q w))) (laid q w) ≡ laid (perform_all f ms q) w
laid-between f ms q w =
    rw (laid-queue q w) (laid-again q (perform_all f ms q) w (omega (arith, all-longer f ms q)) (all-grow f ms q).0)

-- a queue that is laid down is ready for what is left
pub laid-ready : (ms : List Send) (q : List Msg) (w : Lent) → length w.row.heads ≡ max_messages → length w.store ≤ max_store → length q + new_in ms ≤ max_messages → length (entries_in q) + count_in ms ≤ length w.store → Ready (length q) ms (laid q w).row.heads (laid q w).store
laid-ready ms q w h n l e =
    let s = laid-sizes q w (omega arith) (omega arith) in
    record {
      packed = laid-packed q w (omega arith) (omega arith);
      size = rw s.1 n;
      messages = l;
      entries = rw (laid-carried q w, s.1) e;
    }

-- what the code's reading gives past the end of a plan
abbrev pub unplanned : Send
unplanned = record { to = 0; what = New (PrepareReq (record { n = record { n = 0; priority = 0; pid = 0 } })); source = source.Nothing; count = 0 }

-- what the next thing asks
pub ready-next : (m : Send) (ms : List Send) (len : ℕ) (hs : List Head) (s : List ℕ) → Ready len (m ∷ ms) hs s → Packed len hs s × ((len + is_new m.what ≤ max_messages) × ((length s ≤ max_store) × (carried (take len hs) + m.count ≤ length s)))
unfolding new_in count_in
ready-next m ms len hs s r = (r.packed, (omega (arith, r.messages), (r.size, omega (arith, r.entries))))

-- one turn of doing them all
pub record Turned (f : Sources) (m : Send) (ms : List Send) (len : ℕ) (w v : Lent) : Type 0 where
  pub ready : Ready (len + is_new m.what) ms v.row.heads v.store
  pub heads : length v.row.heads ≡ max_messages
  pub cells : length v.store ≡ length w.store
  pub same : laid (perform_all f ms (queue_of (len + is_new m.what) v)) v ≡ laid (perform_all f (m ∷ ms) (queue_of len w)) w

pub step-turn : (f : Sources) (m : Send) (ms : List Send) (len : ℕ) (w v : Lent) → Ready len (m ∷ ms) w.row.heads w.store → length w.row.heads ≡ max_messages → v ≡ laid (perform_one f m (queue_of len w)) w → Turned f m ms len w v
unfolding new_in count_in perform_all
step-turn f m ms len w v r h e =
    let q = queue_of len w in
    let a : length q ≡ len = length-queue len w (omega (arith, r.messages)) in
    let k : len + is_new m.what ≡ length (perform_one f m q) = omega (arith, a, step-longer f m q) in
    let n : length (entries_in q) ≡ carried (take len w.row.heads) = queue-entries len w r.packed in
    let g = step-grows f m q in
    let s = laid-sizes (perform_one f m q) w (omega (arith, r.messages, k)) (omega (arith, r.entries, g, n)) in
    rw e
    (record {
      ready = rw k (laid-ready ms (perform_one f m q) w h r.size (omega (arith, r.messages, k)) (omega (arith, r.entries, g, n)));
      heads = s.0 ∙ h;
      cells = s.1;
      same = rw k (laid-between f ms (perform_one f m q) w);
    })

-- what refusals 1, 2 and 6 leave: every head shows its entries, and the queue once packed is ready for the plan
module _ (len : ℕ) (s : Sends) (row : Row) (store : List ℕ) (p : Fits len s row store) (h : length row.heads ≡ max_messages) where
  pub fits_below : len ≤ length row.heads
  fits_below = omega (arith, p.messages)

  pub fits_whole : Whole store (take len row.heads)
  fits_whole =
      inside-whole store (take len row.heads)
      (λ k l.
      let j : k < len = omega (arith, length-take len row.heads) in
      rw (get_or-take len row.heads k no_head j, p.size) (p.inside k j))

  pub fits-entries : length (entries_in (queue_of len (lent row store))) ≡ carried (take len row.heads)
  unfolding queue_of
  fits-entries = length-entries fits_whole

  pub fits-ready : (v : Lent) → v ≡ laid (queue_of len (lent row store)) (lent row store) → Ready len (items_of s) v.row.heads v.store
  fits-ready v e =
      let q = queue_of len (lent row store) in
      let k : length q ≡ len = length-queue len (lent row store) fits_below in
      let r = laid-ready (items_of s) q (lent row store) h (omega (arith, p.size)) (omega (arith, k, p.messages)) (omega (arith, fits-entries, p.entries, p.size)) in
      rw e (rw k at r)

  pub fits-places : (v : Lent) → v ≡ laid (queue_of len (lent row store)) (lent row store) → length v.row.heads ≡ max_messages
  fits-places v e =
      let q = queue_of len (lent row store) in
      let k : length q ≡ len = length-queue len (lent row store) fits_below in
      rw e ((laid-sizes q (lent row store) (omega (arith, k, h, fits_below)) (omega (arith, fits-entries, p.entries, p.size))).0 ∙ h)

-- packed first, or laid down at the end alone
pub pack-then : (f : Sources) (ms : List Send) (len : ℕ) (w v : Lent) → len ≤ length w.row.heads → v ≡ laid (queue_of len w) w → laid (perform_all f ms (queue_of len v)) v ≡ laid (perform_all f ms (queue_of len w)) w
pack-then f ms len w v h e =
    let k : length (queue_of len w) ≡ len = length-queue len w h in
    rw e (rw k at (laid-between f ms (queue_of len w) w))
