-- What a new message, entries that join one, and a new index do to heads and cells of a packed queue, as laid down.
use Prim.Native.Nat.{ℕ, zero, suc, ◌+◌, ◌-◌, ◌≤◌, ◌<◌}
use mathlib.Core.Path.{◌≡◌, refl, sym, ap, ◌∙◌}
use mathlib.Core.Bool.{Bool, true, false, cond}
use mathlib.Core.List.{List, [], ◌∷◌, ◌++◌, map, map-append, append_assoc, append-nil}
use native.Mathlib.Omega.{arith}
use native.Mathlib.Numerals.{add-one}
use lib.ListN.{length, get_or, set, take, drop, length-append, length-take, length-drop, length-map, take-append-drop}
use lib.Seq.{set_split, drop-cons, length-take-le, take-add, drop-drop, take-suc-set, drop-set-lt}
use lib.Dec.{leb}
use borrow.Author.Tests.{leb-true, leb-false}
use Rattle.base.specs.Lists.{over}
use Rattle.paxos_box.specs.declared.Join.{Join}
use Rattle.paxos_box.specs.declared.Raise.{Raise}
use Rattle.storage.proofs.Laid.{length_over}
use Rattle.storage.specs.Storage.{put_at}
use Rattle.storage.proofs.Laws.{put-over}
use Rattle.messages.specs.declared.Head.{Head}
use Rattle.messages.specs.declared.Row.{Row}
use Rattle.messages.specs.Messages.{no_head}
use Rattle.outgoing.specs.Queue.{Msg, Lent, lent, msg_of, entries_at, head_of, heads_from, entries_in, queue_of, laid}
use Rattle.outgoing.specs.Perform.{carried, on_place, joined, raised}
use Rattle.outgoing.specs.Packing.{starts_from, restarted, end_of, joined_head, raised_head, joined_row, raised_row, row_of, Packed, Whole}
use Rattle.outgoing.proofs.Heads.{length-starts, carried-starts, starts-again, inside-shown, packed-whole, heads-queue, packed-entries, length-entries, carried-append, first-start, rest-packed, front-packed, back-packed}
use Rattle.outgoing.proofs.Laid.{heads-append, entries-append, over-take, take-over, laid_same}

-- the queue of packed heads, in heads and in cells
pub packed-heads : (len : ℕ) (hs : List Head) (s : List ℕ) → Packed len hs s → heads_from 0 (map (msg_of s) (take len hs)) ≡ take len hs
packed-heads len hs s p = heads-queue 0 (packed-whole s 0 (take len hs) p.starts (omega (arith, p.within))) ∙ p.starts

pub packed-cells : (len : ℕ) (hs : List Head) (s : List ℕ) → Packed len hs s → entries_in (map (msg_of s) (take len hs)) ≡ take (carried (take len hs)) s
packed-cells len hs s p = packed-entries s 0 (take len hs) p.starts

pub packed-length : (len : ℕ) (hs : List Head) (s : List ℕ) → Packed len hs s → length (entries_in (map (msg_of s) (take len hs))) ≡ carried (take len hs)
packed-length len hs s p = length-entries (packed-whole s 0 (take len hs) p.starts (omega (arith, p.within)))

-- a list laid over itself with one place changed
over-set : {A : Type 0} (l : List A) (k m : ℕ) (x : A) → k + suc m ≤ length l → over (take k l ++ x ∷ take m (drop (suc k) l)) l ≡ set l k x
unfolding over
over-set l k m x h =
    let n : length (take m (drop (suc k) l)) ≡ m = length-take-le m (drop (suc k) l) (rw length-drop (omega arith)) in
    let e : length (take k l ++ x ∷ take m (drop (suc k) l)) ≡ suc k + m = rw (length-append, length-take-le k l (omega arith)) (omega (arith, n)) in
    rw (e, append_assoc, ← drop-drop m (suc k) l, take-append-drop m (drop (suc k) l), set_split l k x (omega arith))

pub lent_same : {hs hs' : List Head} {s s' : List ℕ} → hs ≡ hs' → s ≡ s' → lent (row_of hs) s ≡ lent (row_of hs') s'
lent_same p q = rw (p, q)

-- a new message
push-heads : (len : ℕ) (hs : List Head) (s : List ℕ) (m : Msg) → Packed len hs s → len < length hs → over (heads_from 0 (map (msg_of s) (take len hs) ++ (m ∷ []))) hs ≡ set hs len (head_of (carried (take len hs)) m)
unfolding heads_from
push-heads len hs s m p h =
    let z : 0 + carried (take len hs) ≡ carried (take len hs) = omega arith in
    rw (heads-append 0 (map (msg_of s) (take len hs)) (m ∷ []), packed-heads len hs s p, packed-length len hs s p, z) (over-set hs len 0 (head_of (carried (take len hs)) m) (omega arith))

push-cells : (len : ℕ) (hs : List Head) (s : List ℕ) (m : Msg) → Packed len hs s → over (entries_in (map (msg_of s) (take len hs) ++ (m ∷ []))) s ≡ put_at (carried (take len hs)) m.entries s
unfolding entries_in
push-cells len hs s m p =
    rw (entries-append (map (msg_of s) (take len hs)) (m ∷ []), packed-cells len hs s p, append-nil) (put-over (carried (take len hs)) m.entries s p.within)

pub push-laid : (len : ℕ) (row : Row) (s : List ℕ) (m : Msg) → Packed len row.heads s → len < length row.heads → laid (queue_of len (lent row s) ++ (m ∷ [])) (lent row s) ≡ lent (row_of (set row.heads len (head_of (carried (take len row.heads)) m))) (put_at (carried (take len row.heads)) m.entries s)
unfolding laid queue_of
push-laid len row s m p h = lent_same (push-heads len row.heads s m p h) (push-cells len row.heads s m p)

-- one place of a list
module _ {A : Type 0} where
  on-place-at : (f : A → A) (a : List A) (x : A) (b : List A) (k : ℕ) → length a ≡ k → on_place k f (a ++ x ∷ b) ≡ a ++ f x ∷ b
  unfolding on_place
  on-place-at f [] x b zero e = refl
  on-place-at f [] x b (suc k) e = absurd (omega arith)
  on-place-at f (y ∷ a) x b zero e = absurd (omega arith)
  on-place-at f (y ∷ a) x b (suc k) e = ap (λ (r : List A). y ∷ r) (on-place-at f a x b k (omega arith))

  pub on-place-past : (f : A → A) (l : List A) (k : ℕ) → length l ≤ k → on_place k f l ≡ l
  unfolding on_place
  on-place-past f [] k h = refl
  on-place-past f (x ∷ l) zero h = absurd (omega arith)
  on-place-past f (x ∷ l) (suc k) h = ap (λ (r : List A). x ∷ r) (on-place-past f l k (omega arith))

  pub split-front : (l : List A) (k len : ℕ) (d : A) → k < len → len ≤ length l → take len l ≡ take k l ++ get_or l k d ∷ take (len - suc k) (drop (suc k) l)
  split-front l k len d h n =
      let e : len ≡ k + suc (len - suc k) = omega arith in
      ap (λ (j : ℕ). take j l) e ∙ (rw (take-add k (suc (len - suc k)) l, drop-cons l k d (omega arith)))

-- a packed queue, at one of its messages
module _ (s : List ℕ) (a : List Head) (h : Head) (b : List Head) (p : starts_from 0 (a ++ h ∷ b) ≡ a ++ h ∷ b) (w : carried (a ++ h ∷ b) ≤ length s) where
  sums : carried a + (h.count + carried b) ≤ length s
  unfolding carried
  sums = omega (arith, carried-append a (h ∷ b))

  front : starts_from 0 a ≡ a
  front = front-packed 0 a (h ∷ b) p

  from-here : starts_from (carried a) (h ∷ b) ≡ h ∷ b
  from-here =
      let z : 0 + carried a ≡ carried a = omega arith in
      rw z at (back-packed 0 a (h ∷ b) p)

  pub start-here : h.start ≡ carried a
  start-here = first-start (carried a) h b from-here

  back : starts_from (carried a + h.count) b ≡ b
  back = rest-packed (carried a) h b from-here

  front-whole : Whole s a
  front-whole = packed-whole s 0 a front (omega (arith, sums))

  back_whole : Whole s b
  back_whole = packed-whole s (carried a + h.count) b back (omega (arith, sums))

  here-shown : length (entries_at s h) ≡ h.count
  here-shown = inside-shown s h (λ _. omega (arith, sums, start-here))

  -- the heads and the entries where the message there is changed
  heads-changed : (m : Msg) → heads_from 0 (map (msg_of s) a ++ m ∷ map (msg_of s) b) ≡ a ++ head_of h.start m ∷ starts_from (h.start + length m.entries) b
  unfolding heads_from
  heads-changed m =
      let z : 0 + carried a ≡ h.start = omega (arith, start-here) in
      rw (heads-append 0 (map (msg_of s) a) (m ∷ map (msg_of s) b), heads-queue 0 front-whole, front, length-entries front-whole, z, heads-queue (h.start + length m.entries) back_whole)

  cells-changed : (m : Msg) → entries_in (map (msg_of s) a ++ m ∷ map (msg_of s) b) ≡ take h.start s ++ (m.entries ++ take (carried b) (drop (h.start + h.count) s))
  unfolding entries_in
  cells-changed m =
      rw (entries-append (map (msg_of s) a) (m ∷ map (msg_of s) b), packed-entries s 0 a front, packed-entries s (carried a + h.count) b back, start-here)

  -- entries that join the message there
  pub join-heads : (d : ℕ) (es : List ℕ) → heads_from 0 (map (msg_of s) a ++ joined d es (msg_of s h) ∷ map (msg_of s) b) ≡ a ++ joined_head d (length es) h ∷ starts_from (h.start + h.count + length es) b
  join-heads d es =
      let n : length (entries_at s h ++ es) ≡ h.count + length es = rw (length-append, here-shown) in
      let k : h.start + (h.count + length es) ≡ h.start + h.count + length es = omega arith in
      heads-changed (joined d es (msg_of s h)) ∙ (rw (n, k))

  pub join_cells : (d : ℕ) (es : List ℕ) → entries_in (map (msg_of s) a ++ joined d es (msg_of s h) ∷ map (msg_of s) b) ≡ take (h.start + h.count) s ++ (es ++ take (carried b) (drop (h.start + h.count) s))
  join_cells d es =
      cells-changed (joined d es (msg_of s h)) ∙ (rw (take-add h.start h.count s, append_assoc, append_assoc))

  -- another index
  pub raise-heads : (i : ℕ) → heads_from 0 (map (msg_of s) a ++ raised i (msg_of s h) ∷ map (msg_of s) b) ≡ a ++ raised_head i h ∷ b
  raise-heads i =
      heads-changed (raised i (msg_of s h)) ∙ (rw (here-shown, start-here, back, ← start-here))

  pub raise-cells : (i : ℕ) → entries_in (map (msg_of s) a ++ raised i (msg_of s h) ∷ map (msg_of s) b) ≡ take (carried (a ++ h ∷ b)) s
  unfolding carried
  raise-cells i =
      let n : carried (a ++ h ∷ b) ≡ h.start + (h.count + carried b) = omega (arith, start-here, carried-append a (h ∷ b)) in
      cells-changed (raised i (msg_of s h)) ∙ (rw (n, take-add h.start (h.count + carried b) s, take-add h.count (carried b) (drop h.start s), drop-drop h.count h.start s))

-- the row after a join is the old one with new starts behind the place
restarted-over : (hs : List Head) (k len x : ℕ) (h : Head) → k < len → len ≤ length hs → over (take k hs ++ h ∷ starts_from x (take (len - suc k) (drop (suc k) hs))) hs ≡ restarted (suc k) len x (set hs k h)
unfolding over restarted
restarted-over hs k len x h l n =
    let b = take (len - suc k) (drop (suc k) hs) in
    let m : length b ≡ len - suc k = length-take-le (len - suc k) (drop (suc k) hs) (rw length-drop (omega arith)) in
    let e : length (take k hs ++ h ∷ starts_from x b) ≡ len = rw (length-append, length-take-le k hs (omega arith)) (omega (arith, length-starts x b)) in
    rw (e, take-suc-set hs k h (omega arith), drop-set-lt (suc k) hs k h (omega arith), drop-set-lt len hs k h l, append_assoc, append_assoc)

changed-queue : (len : ℕ) (hs : List Head) (s : List ℕ) (k : ℕ) (d : Head) (f : Msg → Msg) → k < len → len ≤ length hs → on_place k f (map (msg_of s) (take len hs)) ≡ map (msg_of s) (take k hs) ++ f (msg_of s (get_or hs k d)) ∷ map (msg_of s) (take (len - suc k) (drop (suc k) hs))
changed-queue len hs s k d f l n =
    let e : length (map (msg_of s) (take k hs)) ≡ k = length-map (take k hs) (msg_of s) ∙ length-take-le k hs (omega arith) in
    rw (split-front hs k len d l n, map-append (msg_of s) (take k hs) (get_or hs k d ∷ take (len - suc k) (drop (suc k) hs)))
    (on-place-at f (map (msg_of s) (take k hs)) (msg_of s (get_or hs k d)) (map (msg_of s) (take (len - suc k) (drop (suc k) hs))) k e)

-- the position of a message in a packed queue, with the head there
module _ (len : ℕ) (row : Row) (s : List ℕ) (p : Packed len row.heads s) (k : ℕ) (d : Head) (l : k < len) where
  split : take len row.heads ≡ take k row.heads ++ get_or row.heads k d ∷ take (len - suc k) (drop (suc k) row.heads)
  split = split-front row.heads k len d l p.below

  starts-there : starts_from 0 (take k row.heads ++ get_or row.heads k d ∷ take (len - suc k) (drop (suc k) row.heads)) ≡ take k row.heads ++ get_or row.heads k d ∷ take (len - suc k) (drop (suc k) row.heads)
  starts-there = rw (← split) p.starts

  within-there : carried (take k row.heads ++ get_or row.heads k d ∷ take (len - suc k) (drop (suc k) row.heads)) ≤ length s
  within-there = rw (← split) p.within

  -- where its entries start and end, and what is behind them
  pub start-there : (get_or row.heads k d).start ≡ carried (take k row.heads)
  start-there = start-here s (take k row.heads) (get_or row.heads k d) (take (len - suc k) (drop (suc k) row.heads)) starts-there within-there

  pub end-there : carried (take len row.heads) ≡ (get_or row.heads k d).start + (get_or row.heads k d).count + carried (take (len - suc k) (drop (suc k) row.heads))
  unfolding carried
  end-there =
      rw split
      (omega (arith, carried-append (take k row.heads) (get_or row.heads k d ∷ take (len - suc k) (drop (suc k) row.heads)), start-there))

  -- entries join it
  pub join-laid : (i : ℕ) (es : List ℕ) → laid (on_place k (joined i es) (queue_of len (lent row s))) (lent row s) ≡ lent (row_of (restarted (suc k) len ((get_or row.heads k d).start + (get_or row.heads k d).count + length es) (set row.heads k (joined_head i (length es) (get_or row.heads k d))))) (put_at ((get_or row.heads k d).start + (get_or row.heads k d).count) (es ++ take (carried (take len row.heads) - ((get_or row.heads k d).start + (get_or row.heads k d).count)) (drop ((get_or row.heads k d).start + (get_or row.heads k d).count) s)) s)
  unfolding laid queue_of
  join-laid i es =
      let hs = row.heads in
      let h = get_or hs k d in
      let a = take k hs in
      let b = take (len - suc k) (drop (suc k) hs) in
      let e = h.start + h.count in
      let n : carried (take len hs) - e ≡ carried b = omega (arith, end-there) in
      let q = changed-queue len hs s k d (joined i es) l p.below in
      lent_same
      (rw (q, join-heads s a h b starts-there within-there i es) (restarted-over hs k len (e + length es) (joined_head i (length es) h) l p.below))
      (rw (q, join_cells s a h b starts-there within-there i es, n) (put-over e (es ++ take (carried b) (drop e s)) s (omega (arith, end-there, p.within))))

  -- it gets another index
  pub raise-laid : (i : ℕ) → laid (on_place k (raised i) (queue_of len (lent row s))) (lent row s) ≡ lent (row_of (set row.heads k (raised_head i (get_or row.heads k d)))) s
  unfolding laid queue_of
  raise-laid i =
      let hs = row.heads in
      let h = get_or hs k d in
      let a = take k hs in
      let b = take (len - suc k) (drop (suc k) hs) in
      let q = changed-queue len hs s k d (raised i) l p.below in
      lent_same
      (rw (q, raise-heads s a h b starts-there within-there i) (over-set hs k (len - suc k) (raised_head i h) (omega (arith, p.below))))
      (rw (q, raise-cells s a h b starts-there within-there i, ← split) (over-take (carried (take len hs)) s p.within))

-- the used cells end where the entries of the last head end
pub end-packed : (len : ℕ) (row : Row) (s : List ℕ) → Packed len row.heads s → end_of len row.heads ≡ carried (take len row.heads)
unfolding carried
end-packed zero row s p = refl
end-packed (suc k) row s p =
    let z : suc k - suc k ≡ 0 = omega arith in
    let e : carried (take (suc k) row.heads) ≡ (get_or row.heads k no_head).start + (get_or row.heads k no_head).count + carried (take (suc k - suc k) (drop (suc k) row.heads)) = end-there (suc k) row s p k no_head (omega arith) in
    let f : carried (take (suc k) row.heads) ≡ (get_or row.heads k no_head).start + (get_or row.heads k no_head).count + 0 = rw z at e in
    omega (arith, f)

-- what the code makes of the row and the store is what is laid down
pub join-lent : (len : ℕ) (row : Row) (s : List ℕ) (j : Join) (es : List ℕ) (e u : ℕ) → Packed len row.heads s → j.at < len → e ≡ end_of (j.at + 1) row.heads → u ≡ end_of len row.heads → lent (joined_row len j (length es) row) (put_at e (es ++ take (u - e) (drop e s)) s) ≡ laid (on_place j.at (joined j.decided_idx es) (queue_of len (lent row s))) (lent row s)
unfolding joined_row
join-lent len row s j es e u p l q r =
    let x : e ≡ (get_or row.heads j.at no_head).start + (get_or row.heads j.at no_head).count = rw add-one at q in
    rw (x, r, end-packed len row s p, add-one) (sym (join-laid len row s p j.at no_head l j.decided_idx es))

pub no_place : (len : ℕ) (w : Lent) (k : ℕ) (f : Msg → Msg) → Packed len w.row.heads w.store → len ≤ k → w ≡ laid (on_place k f (queue_of len w)) w
unfolding queue_of
no_place len w k f p l =
    let n : length (map (msg_of w.store) (take len w.row.heads)) ≤ k = rw (length-map, length-take) (omega arith) in
    rw (on-place-past f (map (msg_of w.store) (take len w.row.heads)) k n) (sym (laid_same len w p))

pub raise-lent : (len : ℕ) (row : Row) (s : List ℕ) (r : Raise) → Packed len row.heads s → lent (raised_row len r row) s ≡ laid (on_place r.at (raised r.accepted_idx) (queue_of len (lent row s))) (lent row s)
unfolding raised_row
raise-lent len row s r p = go (leb len r.at) refl
  where
    go : (t : Bool) → leb len r.at ≡ t → lent (cond t row (row_of (set row.heads r.at (raised_head r.accepted_idx (get_or row.heads r.at no_head))))) s ≡ laid (on_place r.at (raised r.accepted_idx) (queue_of len (lent row s))) (lent row s)
    go true e = no_place len (lent row s) r.at (raised r.accepted_idx) p (leb-true len r.at e)
    go false e = sym (raise-laid len row s p r.at no_head (leb-false len r.at e) r.accepted_idx)

-- packing
starts-over : (len : ℕ) (hs : List Head) → len ≤ length hs → restarted 0 len 0 hs ≡ over (starts_from 0 (take len hs)) hs
unfolding restarted over
starts-over len hs n =
    let z : len - 0 ≡ len = omega arith in
    rw (z, length-starts 0 (take len hs), length-take-le len hs n)

pub packed-restarted : (len : ℕ) (hs : List Head) (s : List ℕ) → len ≤ length hs → carried (take len hs) ≤ length s → Packed len (restarted 0 len 0 hs) s
packed-restarted len hs s n h =
    let x = starts_from 0 (take len hs) in
    let k : length x ≡ len = length-starts 0 (take len hs) ∙ length-take-le len hs n in
    let f : take len (over x hs) ≡ x = take-over x hs len k in
    rw (starts-over len hs n)
    (record {
      below = rw (length_over x hs (omega (arith, k))) n;
      starts = rw f (starts-again 0 (take len hs));
      within = rw (f, carried-starts 0 (take len hs)) h;
    })

pub restarted-end : (len : ℕ) (row r : Row) (s : List ℕ) → r ≡ row_of (restarted 0 len 0 row.heads) → len ≤ length row.heads → carried (take len row.heads) ≤ length s → end_of len r.heads ≡ carried (take len row.heads)
restarted-end len row r s e n h =
    let x = starts_from 0 (take len row.heads) in
    let k : length x ≡ len = length-starts 0 (take len row.heads) ∙ length-take-le len row.heads n in
    rw (e, end-packed len (row_of (restarted 0 len 0 row.heads)) s (packed-restarted len row.heads s n h), starts-over len row.heads n, take-over x row.heads len k) (carried-starts 0 (take len row.heads))

pub pack-lent : (len : ℕ) (row : Row) (s z : List ℕ) → len ≤ length row.heads → Whole s (take len row.heads) → lent (row_of (restarted 0 len 0 row.heads)) (over (take (carried (take len row.heads)) (over (entries_in (map (msg_of s) (take len row.heads))) z)) s) ≡ laid (queue_of len (lent row s)) (lent row s)
unfolding laid queue_of
pack-lent len row s z n w =
    lent_same
    (starts-over len row.heads n ∙ (rw (heads-queue 0 w)))
    (rw (take-over (entries_in (map (msg_of s) (take len row.heads))) z (carried (take len row.heads)) (length-entries w)))
