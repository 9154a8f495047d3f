-- Cells of a list: one turn of moving them up, and entries put in before cells that moved up.
use Prim.Native.Nat.{ℕ, suc, ◌+◌, ◌-◌, ◌≤◌, ◌<◌}
use mathlib.Core.Path.{◌≡◌, sym, ap, ◌∙◌}
use mathlib.Core.List.{List, ◌∷◌, ◌++◌, append_assoc}
use native.Mathlib.Omega.{arith}
use native.Mathlib.Nat.{le_of_lt}
use lib.ListN.{length, get_or, set, take, drop, length-append, get_or-append}
use lib.Seq.{drop-cons, take-suc, append_snoc, length-take-le, drop-drop, set_at, get_or-take, drop_at}
use Rattle.base.specs.Lists.{over}
use Rattle.storage.specs.Storage.{put_at}
use Rattle.storage.proofs.Laws.{put-parts, put-before}

-- a write that begins one place earlier
pub put-more : (k : ℕ) (v : ℕ) (xs l : List ℕ) → k < length l → set (put_at (suc k) xs l) k v ≡ put_at k (v ∷ xs) l
put-more k v xs l h =
    let n : suc k + length xs ≡ k + length (v ∷ xs) = omega arith in
    rw (put-parts (suc k) xs l, put-parts k (v ∷ xs) l, take-suc l k 0 h, n, append_snoc, append_assoc)
    (set_at (take k l) (get_or l k 0) (xs ++ drop (k + suc (length xs)) l) v k (length-take-le k l (le_of_lt h)) ∙ sym (append_assoc (take k l) (v ∷ xs) (drop (k + suc (length xs)) l)))

-- cells before a write are as found
pub put-at-before : (j i : ℕ) (xs l : List ℕ) → j < i → i ≤ length l → get_or (put_at i xs l) j 0 ≡ get_or l j 0
unfolding put_at
put-at-before j i xs l h k =
    let n : j < length (take i l) = rw (length-take-le i l k) h in
    rw (get_or-append (take i l) (over xs (drop i l)) 0 j n, get_or-take i l j 0 h)

-- the cells from i up to an end
abbrev pub between : ℕ → ℕ → List ℕ → List ℕ
between i to l = take (to - i) (drop i l)

between_more : (i to : ℕ) (l : List ℕ) → i < to → to ≤ length l → between i to l ≡ get_or l i 0 ∷ between (suc i) to l
between_more i to l h k =
    let n : to - i ≡ suc (to - suc i) = omega arith in
    rw (n, drop-cons l i 0 (omega arith))

-- one turn of moving the cells up, from the last one down: cell i was the next
pub move-turn : (l s : List ℕ) (i to by : ℕ) → s ≡ put_at (suc i + by) (between (suc i) to l) l → i < to → to + by ≤ length l → set s (i + by) (get_or s i 0) ≡ put_at (i + by) (between i to l) l
move-turn l s i to by e h k =
    let n : suc i + by ≡ suc (i + by) = omega arith in
    let f : s ≡ put_at (suc (i + by)) (between (suc i) to l) l = rw n at e in
    let v : get_or s i 0 ≡ get_or l i 0 = rw f (put-at-before i (suc (i + by)) (between (suc i) to l) l (omega arith) (omega arith)) in
    rw (v, f, put-more (i + by) (get_or l i 0) (between (suc i) to l) l (omega arith), between_more i to l h (omega arith))

-- what a write leaves from its place on
drop-front : (i : ℕ) (xs l : List ℕ) → i ≤ length l → drop i (put_at i xs l) ≡ over xs (drop i l)
unfolding put_at
drop-front i xs l k = drop_at (take i l) (over xs (drop i l)) i (length-take-le i l k)

-- entries put in at a place, after the cells behind it have moved up
pub put_in : (at used : ℕ) (es l : List ℕ) → at ≤ used → used + length es ≤ length l → put_at at es (put_at (at + length es) (between at used l) l) ≡ put_at at (es ++ between at used l) l
unfolding over
put_in at used es l h k =
    let m = between at used l in
    let n : (at + length es) + length m ≡ at + length (es ++ m) = rw length-append (omega arith) in
    let e : drop (length m) (drop (at + length es) l) ≡ drop (at + length (es ++ m)) l = drop-drop (length m) (at + length es) l ∙ ap (λ (x : ℕ). drop x l) n in
    let j : at + length es ≤ length l = omega arith in
    rw (put-parts at es (put_at (at + length es) m l), put-before at (at + length es) m l (omega arith) j, drop-front (at + length es) m l j, put-parts at (es ++ m) l, e)
    (append_assoc (take at l) es (m ++ drop (at + length (es ++ m)) l) ∙ (rw (append_assoc (take at l) (es ++ m) (drop (at + length (es ++ m)) l), append_assoc es m (drop (at + length (es ++ m)) l))))
