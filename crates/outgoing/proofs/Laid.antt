-- A queue laid down packed: it is read back as it was, it lies packed, a longer one laid over it hides it, and a packed one lies as it would be laid.
use Prim.Native.Nat.{ℕ, suc, ◌+◌, ◌-◌, ◌≤◌}
use mathlib.Core.Path.{◌≡◌, refl, sym, ap, subst, ◌∙◌}
use mathlib.Core.List.{List, [], ◌∷◌, ◌++◌, map, append_assoc}
use native.Mathlib.Omega.{arith}
use lib.ListN.{length, take, drop, length-append, take-append-drop}
use lib.Seq.{take_at, drop-append_seam, take-append_seam, drop-append-add, drop-drop, length-take-le}
use Rattle.base.specs.Lists.{over}
use Rattle.storage.proofs.Laid.{length_over}
use Rattle.outgoing.specs.Queue.{Msg, Lent, msg_of, head_of, heads_from, entries_in, queue_of, laid}
use Rattle.outgoing.specs.Perform.{carried}
use Rattle.outgoing.specs.Packing.{starts_from, Packed}
use Rattle.outgoing.proofs.Heads.{packed-whole, heads-queue, packed-entries}

module _ {A : Type 0} where
  -- what lies past a longer list is what lay past a shorter one that was laid before
  pub past-over : (a b l : List A) → length a ≤ length b → drop (length b) (over a l) ≡ drop (length b) l
  unfolding over
  past-over a b l h =
      let k : length b ≡ length a + (length b - length a) = omega arith in
      ap (λ (n : ℕ). drop n (a ++ drop (length a) l)) k
      ∙ drop-append-add a (drop (length a) l) (length b - length a)
      ∙ drop-drop (length b - length a) (length a) l
      ∙ sym (ap (λ (n : ℕ). drop n l) k)

  pub over-over : (a b l : List A) → length a ≤ length b → over b (over a l) ≡ over b l
  unfolding over
  over-over a b l h = ap (λ (r : List A). b ++ r) (past-over a b l h)

  pub take-over : (a l : List A) (n : ℕ) → length a ≡ n → take n (over a l) ≡ a
  unfolding over
  take-over a l n e = take_at a (drop (length a) l) n e

  pub over-take : (n : ℕ) (l : List A) → n ≤ length l → over (take n l) l ≡ l
  unfolding over
  over-take n l h = rw (length-take-le n l h) (take-append-drop n l)

pub length-heads : (at : ℕ) (q : List Msg) → length (heads_from at q) ≡ length q
unfolding heads_from
length-heads at [] = refl
length-heads at (m ∷ q) = ap suc (length-heads (at + length m.entries) q)

pub heads-append : (at : ℕ) (a b : List Msg) → heads_from at (a ++ b) ≡ heads_from at a ++ heads_from (at + length (entries_in a)) b
unfolding heads_from entries_in
heads-append at [] b = let z : at + 0 ≡ at = omega arith in rw z
heads-append at (m ∷ a) b =
    let z : at + length (m.entries ++ entries_in a) ≡ at + length m.entries + length (entries_in a) = rw length-append (omega arith) in
    rw (z, heads-append (at + length m.entries) a b)

pub entries-append : (a b : List Msg) → entries_in (a ++ b) ≡ entries_in a ++ entries_in b
unfolding entries_in
entries-append [] b = refl
entries-append (m ∷ a) b = rw (entries-append a b, append_assoc)

pub heads-packed : (at : ℕ) (q : List Msg) → starts_from at (heads_from at q) ≡ heads_from at q
unfolding heads_from starts_from
heads-packed at [] = refl
heads-packed at (m ∷ q) = rw (heads-packed (at + length m.entries) q)

pub heads-carried : (at : ℕ) (q : List Msg) → carried (heads_from at q) ≡ length (entries_in q)
unfolding heads_from entries_in carried
heads-carried at [] = refl
heads-carried at (m ∷ q) = rw (heads-carried (at + length m.entries) q, length-append)

-- the entries of a message that lies behind others and before others
entries-back : (p es r : List ℕ) → take (length es) (drop (length p) (p ++ (es ++ r))) ≡ es
entries-back p es r = rw (drop-append_seam p (es ++ r)) (take-append_seam es r)

read_back : (p r : List ℕ) (q : List Msg) → map (msg_of (p ++ (entries_in q ++ r))) (heads_from (length p) q) ≡ q
unfolding heads_from entries_in
read_back p r [] = refl
read_back p r (m ∷ q) =
    let one : p ++ ((m.entries ++ entries_in q) ++ r) ≡ p ++ (m.entries ++ (entries_in q ++ r)) = rw append_assoc in
    let two : p ++ (m.entries ++ (entries_in q ++ r)) ≡ (p ++ m.entries) ++ (entries_in q ++ r) = rw append_assoc in
    let n : length p + length m.entries ≡ length (p ++ m.entries) = sym (length-append p m.entries) in
    let again : map (msg_of (p ++ ((m.entries ++ entries_in q) ++ r))) (heads_from (length p + length m.entries) q) ≡ q =
    subst (λ (s : List ℕ). map (msg_of s) (heads_from (length p + length m.entries) q) ≡ q) (sym (one ∙ two)) (rw n (read_back (p ++ m.entries) r q)) in
    let first : msg_of (p ++ ((m.entries ++ entries_in q) ++ r)) (head_of (length p) m) ≡ m = rw (one, entries-back p m.entries (entries_in q ++ r)) in
    ap (λ (x : Msg). x ∷ map (msg_of (p ++ ((m.entries ++ entries_in q) ++ r))) (heads_from (length p + length m.entries) q)) first ∙ ap (λ (y : List Msg). m ∷ y) again

-- the queue is read back as it was laid down
pub laid-queue : (q : List Msg) (w : Lent) → queue_of (length q) (laid q w) ≡ q
unfolding queue_of laid over
laid-queue q w =
    rw (take_at (heads_from 0 q) _ (length q) (length-heads 0 q)) (read_back [] (drop (length (entries_in q)) w.store) q)

-- it lies packed
pub laid-packed : (q : List Msg) (w : Lent) → length q ≤ length w.row.heads → length (entries_in q) ≤ length w.store → Packed (length q) (laid q w).row.heads (laid q w).store
unfolding laid
laid-packed q w h l =
    let n = length-heads 0 q in
    let f : take (length q) (over (heads_from 0 q) w.row.heads) ≡ heads_from 0 q = take-over (heads_from 0 q) w.row.heads (length q) n in
    record {
      below = rw (length_over (heads_from 0 q) w.row.heads (omega (arith, n))) h;
      starts = rw f (heads-packed 0 q);
      within = rw (f, heads-carried 0 q, length_over (entries_in q) w.store l) l;
    }

-- a longer one laid over it hides it
pub laid-again : (a b : List Msg) (w : Lent) → length a ≤ length b → length (entries_in a) ≤ length (entries_in b) → laid b (laid a w) ≡ laid b w
unfolding laid
laid-again a b w h l =
    rw (over-over (heads_from 0 a) (heads_from 0 b) w.row.heads (omega (arith, length-heads 0 a, length-heads 0 b)), over-over (entries_in a) (entries_in b) w.store l)

-- a packed queue lies as it would be laid down
pub laid_same : (len : ℕ) (w : Lent) → Packed len w.row.heads w.store → laid (queue_of len w) w ≡ w
unfolding laid queue_of
laid_same len w p =
    let hs = take len w.row.heads in
    let whole = packed-whole w.store 0 hs p.starts (omega (arith, p.within)) in
    rw (heads-queue 0 whole, p.starts, packed-entries w.store 0 hs p.starts, over-take len w.row.heads p.below, over-take (carried hs) w.store p.within)
