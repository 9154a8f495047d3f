-- What a queue whose heads pass no test says: each head's entries lie within the store, apart from the others', all of them together fit it, and none is above its limit.
use Prim.Native.Nat.{ℕ, ◌+◌, ◌≤◌, ◌<◌}
use mathlib.Core.Path.{◌≡◌, refl}
use mathlib.Core.Bool.{Bool, true, false, ◌&&◌}
use native.Mathlib.Omega.{arith}
use lib.Dec.{leb, ltb}
use borrow.Author.Tests.{ltb-true, ltb-false, leb-true, lt-ltb}
use Rattle.base.specs.Limits.{max_store}
use Rattle.messages.specs.declared.Head.{Head}
use Rattle.messages.specs.declared.Row.{Row}
use Rattle.hire_book.proofs.Below.{none-at}
use Rattle.sight.specs.Sight.{head_at, queue_entries}
use Rattle.heads.specs.Heads.{any_head, outside, overlap, head_outside, heads_overlap, overlaps, any_overlap}
use Rattle.heads.proofs.Apart.{covers, apart_fits}

pub no-head : (f : Head → Bool) (row : Row) (len : ℕ) → any_head f row len ≡ false → (i : ℕ) → i < len → f (head_at row i) ≡ false
unfolding any_head
no-head f row len e i h = none-at (λ j. f (head_at row j)) len e i h

pub inside : (start count : ℕ) → outside start count ≡ false → 0 < count → start + count ≤ max_store
unfolding outside
inside start count e h = ltb-false max_store (start + count) (rw (lt-ltb 0 count h) at e)

-- stretches that share a cell overlap
shared : (a n b m p : ℕ) → overlap a n b m ≡ false → covers a n p ≡ true → covers b m p ≡ false
unfolding overlap
shared a n b m p e q = go (leb a p) (ltb p (a + n)) (leb b p) (ltb p (b + m)) refl refl refl refl q
  where
    go : (w x y z : Bool) → leb a p ≡ w → ltb p (a + n) ≡ x → leb b p ≡ y → ltb p (b + m) ≡ z → (w && x) ≡ true → (y && z) ≡ false
    go w x false z i j k l c = refl
    go w x true false i j k l c = refl
    go true true true true i j k l c =
        let i' = leb-true a p i in
        let j' = ltb-true p (a + n) j in
        let k' = leb-true b p k in
        let l' = ltb-true p (b + m) l in
        let z : true ≡ false = rw (lt-ltb 0 n (omega arith), lt-ltb 0 m (omega arith), lt-ltb a (b + m) (omega arith), lt-ltb b (a + n) (omega arith)) at e in
        absurd (let w : ◌≡◌ {A = ℕ} 0 1 = cc in omega arith)
    go true false true true i j k l c = absurd (let w : ◌≡◌ {A = ℕ} 0 1 = cc in omega arith)
    go false x true true i j k l c = absurd (let w : ◌≡◌ {A = ℕ} 0 1 = cc in omega arith)

pub no-overlap : (row : Row) (len : ℕ) → any_overlap row len ≡ false → (i j : ℕ) → i < j → j < len → heads_overlap (head_at row j) (head_at row i) ≡ false
unfolding any_overlap
no-overlap row len e i j h k = no-head (heads_overlap (head_at row j)) row j (none-at (overlaps row) len e j k) i h

-- entries that lie within the store and apart are no more than it holds
pub carried : (row : Row) (len : ℕ) → any_head head_outside row len ≡ false → any_overlap row len ≡ false → queue_entries row len ≤ max_store
unfolding queue_entries
carried row len e o =
    apart_fits max_store (λ i. (head_at row i).start) (λ i. (head_at row i).count) len
    (λ i l h. inside (head_at row i).start (head_at row i).count (no-head head_outside row len e i l) h)
    (λ i j p l k q. shared (head_at row j).start (head_at row j).count (head_at row i).start (head_at row i).count p (no-overlap row len o i j l k) q)
