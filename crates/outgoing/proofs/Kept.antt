-- What a plan leaves of the queue: its messages, what lies past them, that it is packed, how many entries it carries, and what holds of each.
use Prim.Native.Nat.{ℕ, zero, suc, ◌+◌, ◌≤◌, ◌<◌}
use mathlib.Core.Path.{◌≡◌, refl, sym, ap, ◌∙◌}
use mathlib.Core.Bool.{Bool, true, false, cond}
use mathlib.Core.List.{List, [], ◌∷◌, ◌++◌, append-nil}
use native.Mathlib.Omega.{arith}
use native.Mathlib.Numerals.{add-one}
use lib.Dec.{eqb, ltb}
use lib.ListN.{length, get_or, set, take, drop, take-append-drop, length-append, length-set, get_or-append}
use lib.Seq.{take-take, take-suc-set, get_or-append-add}
use borrow.Author.Tests.{eqb-true, ne_eqb, ltb-true}
use Rattle.base.specs.Limits.{max_messages, max_store}
use Rattle.storage.proofs.Every.{Every, every-none, every_take, every_drop, every_append}
use Rattle.messages.specs.declared.Head.{Head}
use Rattle.messages.specs.declared.Row.{Row}
use Rattle.messages.specs.Messages.{no_head}
use Rattle.paxos_box.specs.declared.Source.{Source}
use Rattle.paxos_box.specs.declared.Source.TheVariants as source
use Rattle.paxos_box.specs.declared.Sent.{Sent}
use Rattle.paxos_box.specs.declared.Sent.TheVariants.{New, Join, Raise}
use Rattle.paxos_box.specs.declared.Send.{Send}
use Rattle.paxos_box.specs.declared.Sends.{Sends}
use Rattle.paxos_box.specs.declared.Plan.{Plan}
use Rattle.paxos_box.specs.declared.SequencePaxos.{SequencePaxos}
use Rattle.paxos_box.specs.Box.{is_new, sending, planned, push_of}
use Rattle.outgoing.specs.Queue.{Msg, Lent, lent, heads_from, entries_in, queue_of, laid}
use Rattle.outgoing.specs.Perform.{Sources, source_of, entries_of, joined, raised, on_place, done_to, perform_one, perform_all, performed, items_of, new_in, count_in, carried, Sums, placed, Full, more, Fits, Inside}
use Rattle.outgoing.specs.Packing.{Packed}
use Rattle.outgoing.proofs.Laid.{laid-queue, laid-packed, past-over, length-heads, entries-append}
use Rattle.outgoing.proofs.Heads.{front-packed, carried-append}
use Rattle.outgoing.proofs.Edits.{start-there, end-there}
use Rattle.outgoing.proofs.Steps.{length-queue, step-longer, all-longer, all-grow, fits_below, fits-entries, laid-carried}

-- a plan of nothing leaves row and store alone; any other lays the queue down
pub performed-none : (f : Sources) (s : Sends) (len : ℕ) (w : Lent) → s.count ≡ 0 → performed f s len w ≡ w
unfolding performed
performed-none f s len w h = rw h

performed-is : (f : Sources) (s : Sends) (len : ℕ) (w : Lent) → (s.count ≡ 0 → ⊥) → performed f s len w ≡ laid (perform_all f (items_of s) (queue_of len w)) w
unfolding performed
performed-is f s len w h = rw (ne_eqb s.count 0 h)

by_count : (P : Lent → Type 0) (f : Sources) (s : Sends) (len : ℕ) (w : Lent) → (s.count ≡ 0 → P w) → P (laid (perform_all f (items_of s) (queue_of len w)) w) → P (performed f s len w)
unfolding performed
by_count P f s len w a b = go (eqb s.count 0) refl
  where
    go : (t : Bool) → eqb s.count 0 ≡ t → P (cond t w (laid (perform_all f (items_of s) (queue_of len w)) w))
    go true e = a (eqb-true s.count 0 e)
    go false e = b

no-things : (s : Sends) → s.count ≡ 0 → items_of s ≡ []
no-things s e = rw e

module _ (f : Sources) (s : Sends) (len : ℕ) (row : Row) (store : List ℕ) (p : Fits len s row store) (h : length row.heads ≡ max_messages) where
  -- the queue after the step, as a list of messages
  pub after-length : length (perform_all f (items_of s) (queue_of len (lent row store))) ≡ len + new_in (items_of s)
  after-length = rw (all-longer f (items_of s) (queue_of len (lent row store)), length-queue len (lent row store) (fits_below len s row store p h))

  pub queue-after : queue_of (len + new_in (items_of s)) (performed f s len (lent row store)) ≡ perform_all f (items_of s) (queue_of len (lent row store))
  unfolding new_in perform_all
  queue-after =
      by_count (λ (w : Lent). queue_of (len + new_in (items_of s)) w ≡ perform_all f (items_of s) (queue_of len (lent row store))) f s len (lent row store)
      (λ e. let z : len + 0 ≡ len = omega arith in rw (no-things s e, z))
      (rw (← after-length) (laid-queue (perform_all f (items_of s) (queue_of len (lent row store))) (lent row store)))

  -- the entries it carries fit the store
  pub entries-after : length (entries_in (perform_all f (items_of s) (queue_of len (lent row store)))) ≤ max_store
  entries-after = omega (arith, all-grow f (items_of s) (queue_of len (lent row store)), fits-entries len s row store p h, p.entries)

  -- it lies packed, and a packed one stays packed
  pub packed-after : (s.count ≡ 0 → ⊥) → Packed (len + new_in (items_of s)) (performed f s len (lent row store)).row.heads (performed f s len (lent row store)).store
  packed-after n =
      rw (performed-is f s len (lent row store) n, ← after-length)
      (laid-packed (perform_all f (items_of s) (queue_of len (lent row store))) (lent row store) (omega (arith, after-length, p.messages)) (omega (arith, entries-after, p.size)))

  pub packed-kept : Packed len row.heads store → Packed (len + new_in (items_of s)) (performed f s len (lent row store)).row.heads (performed f s len (lent row store)).store
  unfolding new_in
  packed-kept k =
      by_count (λ (w : Lent). Packed (len + new_in (items_of s)) w.row.heads w.store) f s len (lent row store)
      (λ e. let z : len + 0 ≡ len = omega arith in rw (no-things s e, z) k)
      (rw (← after-length) (laid-packed (perform_all f (items_of s) (queue_of len (lent row store))) (lent row store) (omega (arith, after-length, p.messages)) (omega (arith, entries-after, p.size))))

  -- heads past its length, and cells past its entries, are as found
  pub heads-past : drop (len + new_in (items_of s)) (performed f s len (lent row store)).row.heads ≡ drop (len + new_in (items_of s)) row.heads
  unfolding laid
  heads-past =
      let q = perform_all f (items_of s) (queue_of len (lent row store)) in
      let n : length (heads_from 0 q) ≡ len + new_in (items_of s) = length-heads 0 q ∙ after-length in
      by_count (λ (w : Lent). drop (len + new_in (items_of s)) w.row.heads ≡ drop (len + new_in (items_of s)) row.heads) f s len (lent row store)
      (λ _. refl)
      (rw (← n) (past-over (heads_from 0 q) (heads_from 0 q) row.heads (omega arith)))

  pub cells-past : drop (length (entries_in (perform_all f (items_of s) (queue_of len (lent row store))))) (performed f s len (lent row store)).store ≡ drop (length (entries_in (perform_all f (items_of s) (queue_of len (lent row store))))) store
  unfolding laid
  cells-past =
      let es = entries_in (perform_all f (items_of s) (queue_of len (lent row store))) in
      by_count (λ (w : Lent). drop (length es) w.store ≡ drop (length es) store) f s len (lent row store)
      (λ _. refl)
      (past-over es es store (omega arith))

-- how many entries it carries, where each thing brings all that it counts
join-adds : (d : ℕ) (es : List ℕ) (k : ℕ) (q : List Msg) → k < length q → length (entries_in (on_place k (joined d es) q)) ≡ length (entries_in q) + length es
unfolding on_place entries_in
join-adds d es k [] h = absurd (omega arith)
join-adds d es zero (m ∷ q) h = simp length-append (omega arith)
join-adds d es (suc k) (m ∷ q) h =
    rw (length-append m.entries (entries_in q), length-append m.entries (entries_in (on_place k (joined d es) q)), join-adds d es k q (omega arith)) (omega arith)

raise-adds : (a k : ℕ) (q : List Msg) → entries_in (on_place k (raised a) q) ≡ entries_in q
unfolding on_place entries_in
raise-adds a k [] = refl
raise-adds a zero (m ∷ q) = refl
raise-adds a (suc k) (m ∷ q) = rw (raise-adds a k q)

one-adds : (x : Sent) (to n : ℕ) (es : List ℕ) (q : List Msg) → length es ≡ n → placed x (length q) n ≡ true → length (entries_in (done_to x to es q)) ≡ length (entries_in q) + n
unfolding entries_in
one-adds (New m) to n es q e p =
    rw (entries-append q (record { to = to; msg = m; entries = es } ∷ []), length-append (entries_in q) (es ++ []), append-nil es, e)
one-adds (Join j) to n es q e p = rw (← e) (join-adds j.decided_idx es j.at q (ltb-true j.at (length q) p))
one-adds (Raise r) to n es q e p = rw (raise-adds r.accepted_idx r.at q, eqb-true n 0 p) (omega arith)

pub total-after : (f : Sources) (ms : List Send) (q : List Msg) → Full f (length q) ms → length (entries_in (perform_all f ms q)) ≡ length (entries_in q) + count_in ms
unfolding perform_all count_in perform_one
total-after f [] q w = omega arith
total-after f (m ∷ ms) q (more e p w) =
    let n : length q + is_new m.what ≡ length (perform_one f m q) = sym (step-longer f m q) in
    let a = total-after f ms (perform_one f m q) (rw n at w) in
    let b : length (entries_in (perform_one f m q)) ≡ length (entries_in q) + m.count = one-adds m.what m.to m.count (entries_of f m) q e p in
    rw (a, b) (omega arith)

module _ (f : Sources) (s : Sends) (len : ℕ) (row : Row) (store : List ℕ) (p : Fits len s row store) (h : length row.heads ≡ max_messages) (r : Sums s) (w : Full f len (items_of s)) where
  -- what the heads count after the step is what they counted before and what the plan counts
  pub carried-after : carried (take (len + s.messages) (performed f s len (lent row store)).row.heads) ≡ carried (take len row.heads) + s.entries
  unfolding new_in count_in performed
  carried-after =
      let q = queue_of len (lent row store) in
      let k : length q ≡ len = length-queue len (lent row store) (fits_below len s row store p h) in
      let full : Full f (length q) (items_of s) = rw k w in
      rw (r.messages, r.entries)
      (by_count (λ (v : Lent). carried (take (len + new_in (items_of s)) v.row.heads) ≡ carried (take len row.heads) + count_in (items_of s)) f s len (lent row store)
      (λ e. let z : len + 0 ≡ len = omega arith in rw (no-things s e, z) (omega arith))
      (rw (← after-length f s len row store p h, laid-carried (perform_all f (items_of s) q) (lent row store), total-after f (items_of s) q full, fits-entries len s row store p h)))

-- what holds of every entry of the queue and of the sources
pub record Holds (P : ℕ → Type 0) (f : Sources) : Type 0 where
  pub log : Every P f.log
  pub given : Every P f.given
  pub buffered : Every P f.buffered
  pub cached : Every P f.cached

module _ (P : ℕ → Type 0) where
  every-source : (f : Sources) → Holds P f → (x : Source) → Every P (source_of x f)
  every-source f h source.Nothing = every-none P
  every-source f h (source.Log i) = every_drop P i f.log h.log
  every-source f h source.Given = h.given
  every-source f h source.Buffered = h.buffered
  every-source f h source.Cached = h.cached

  front-every : (a b : List ℕ) → Every P (a ++ b) → Every P a
  front-every a b f i l = rw (← get_or-append a b 0 i l) (f i (omega (arith, length-append a b)))

  back-every : (a b : List ℕ) → Every P (a ++ b) → Every P b
  back-every a b f i l = rw (← get_or-append-add a b i 0) (f (length a + i) (omega (arith, length-append a b)))

  every-join : (d : ℕ) (es : List ℕ) (k : ℕ) (q : List Msg) → Every P es → Every P (entries_in q) → Every P (entries_in (on_place k (joined d es) q))
  unfolding on_place entries_in
  every-join d es k [] e h = h
  every-join d es zero (m ∷ q) e h =
      every_append P (m.entries ++ es) (entries_in q) (every_append P m.entries es (front-every m.entries (entries_in q) h) e) (back-every m.entries (entries_in q) h)
  every-join d es (suc k) (m ∷ q) e h =
      every_append P m.entries (entries_in (on_place k (joined d es) q)) (front-every m.entries (entries_in q) h) (every-join d es k q e (back-every m.entries (entries_in q) h))

  every_one : (x : Sent) (to : ℕ) (es : List ℕ) (q : List Msg) → Every P es → Every P (entries_in q) → Every P (entries_in (done_to x to es q))
  unfolding entries_in
  every_one (New m) to es q e h =
      rw (entries-append q (record { to = to; msg = m; entries = es } ∷ []), append-nil es) (every_append P (entries_in q) es h e)
  every_one (Join j) to es q e h = every-join j.decided_idx es j.at q e h
  every_one (Raise r) to es q e h = rw (raise-adds r.accepted_idx r.at q) h

  pub every-after : (f : Sources) → Holds P f → (ms : List Send) (q : List Msg) → Every P (entries_in q) → Every P (entries_in (perform_all f ms q))
  unfolding perform_all perform_one
  every-after f h [] q e = e
  every-after f h (m ∷ ms) q e =
      every-after f h ms (perform_one f m q) (every_one m.what m.to (entries_of f m) q (every_take P m.count (source_of m.source f) (every-source f h m.source)) e)

-- packed heads lie within the store and apart from each other
pub packed-inside : (len : ℕ) (row : Row) (s : List ℕ) → Packed len row.heads s → (k : ℕ) → k < len → Inside (length s) (get_or row.heads k no_head)
packed-inside len row s p k l h = omega (arith, end-there len row s p k no_head l, p.within)

packed-fewer : (len : ℕ) (hs : List Head) (s : List ℕ) → Packed len hs s → (k : ℕ) → k ≤ len → Packed k hs s
packed-fewer len hs s p k l =
    let e : take len hs ≡ take k hs ++ drop k (take len hs) = sym (ap (λ (x : List Head). x ++ drop k (take len hs)) (sym (take-take k len hs l)) ∙ take-append-drop k (take len hs)) in
    record {
      below = omega (arith, p.below);
      starts = front-packed 0 (take k hs) (drop k (take len hs)) (rw e at p.starts);
      within = omega (arith, p.within, ap carried e, carried-append (take k hs) (drop k (take len hs)));
    }

pub packed-apart : (len : ℕ) (row : Row) (s : List ℕ) → Packed len row.heads s → (j k : ℕ) → j < k → k < len → (get_or row.heads j no_head).start + (get_or row.heads j no_head).count ≤ (get_or row.heads k no_head).start
packed-apart len row s p j k l n =
    omega (arith, start-there len row s p k no_head n, end-there k row s (packed-fewer len row.heads s p k (omega arith)) j no_head l)

-- the sums of a plan: of none, and with one thing more
new-snoc : (ms : List Send) (m : Send) → new_in (ms ++ (m ∷ [])) ≡ new_in ms + is_new m.what
unfolding new_in
new-snoc [] m = omega arith
new-snoc (x ∷ ms) m = rw (new-snoc ms m) (omega arith)

count-snoc : (ms : List Send) (m : Send) → count_in (ms ++ (m ∷ [])) ≡ count_in ms + m.count
unfolding count_in
count-snoc [] m = omega arith
count-snoc (x ∷ ms) m = rw (count-snoc ms m) (omega arith)

pub sums_none : (s : Sends) → length s.items ≡ 8 → s.count ≡ 0 → s.messages ≡ 0 → s.entries ≡ 0 → Sums s
unfolding new_in count_in
sums_none s n c m e = record { places = n; things = omega arith; messages = rw c m; entries = rw c e }

sums-sending : (m : Send) (s : Sends) → s.count < 8 → Sums s → Sums (sending m s)
sums-sending m s h r =
    let e : take (s.count + 1) (set s.items s.count m) ≡ take s.count s.items ++ (m ∷ []) = rw add-one (take-suc-set s.items s.count m (omega (arith, r.places))) in
    record {
      places = length-set s.items s.count m ∙ r.places;
      things = omega arith;
      messages = rw (e, new-snoc (items_of s) m, r.messages);
      entries = rw (e, count-snoc (items_of s) m, r.entries);
    }

pub sums-planned : (m : Send) (p : Plan) → Sums p.sends → Sums (planned m p).sends
unfolding planned
sums-planned m p r = go (ltb p.sends.count 8) refl
  where
    go : (t : Bool) → ltb p.sends.count 8 ≡ t → Sums (cond t (record { sends = sending m p.sends; writes = p.writes; unfit = p.unfit; top = p.top; sight = p.sight }) p).sends
    go true e = sums-sending m p.sends (ltb-true p.sends.count 8 e) r
    go false e = r

pub sums-push : (m : Send) (b : SequencePaxos) → Sums b.plan.sends → Sums (push_of m b).plan.sends
unfolding push_of
sums-push m b r = sums-planned m b.plan r

-- refusals 1, 2 and 6 are enough for a plan whose sums are right
pub fits-sums : (len : ℕ) (s : Sends) (row : Row) (store : List ℕ) → Sums s → length store ≡ max_store → ((k : ℕ) → k < len → Inside max_store (get_or row.heads k no_head)) → len + s.messages ≤ max_messages → carried (take len row.heads) + s.entries ≤ max_store → Fits len s row store
fits-sums len s row store r n i m e =
    record { size = n; inside = i; things = r.things; messages = rw (← r.messages) m; entries = rw (← r.entries) e }
