-- Laws of `over` and `put_at`: lengths, one turn of a loop that writes, and a part lent and written at its start.
use Prim.Native.Nat.{ℕ, ◌+◌, ◌-◌, ◌≤◌, ◌<◌}
use mathlib.Core.Path.{◌≡◌}
use mathlib.Core.List.{List, [], ◌++◌, append-nil}
use native.Mathlib.Omega.{arith}
use native.Mathlib.Numerals.{add-one}
use native.Mathlib.Nat.{le_of_lt}
use lib.ListN.{length, get_or, set, take, drop, length-append, length-take, length-drop, drop_of_length-le}
use lib.Seq.{drop-cons, set_at, take-suc, append_snoc, length-take-le, drop-drop, take_all, take-nil}
use Rattle.base.specs.Lists.{over}
use Rattle.storage.specs.Storage.{put_at}

module _ {A : Type 0} where
  pub length_over : (xs l : List A) → length xs ≤ length l → length (over xs l) ≡ length l
  unfolding over
  length_over xs l h = simp (length-append, length-drop) (omega arith)

  -- one turn of a loop that writes xs over l
  pub over-turn : (z : A) (xs l : List A) (i : ℕ) → i < length xs → i < length l → set (over (take i xs) l) i (get_or xs i z) ≡ over (take (i + 1) xs) l
  unfolding over
  over-turn z xs l i hx hl =
      let e : length (take i xs) ≡ i = length-take-le i xs (le_of_lt hx) in
      let f : length (take (i + 1) xs) ≡ i + 1 = length-take-le (i + 1) xs (omega arith) in
      rw (e, f, add-one, take-suc xs i z hx, append_snoc, drop-cons l i z hl)
      (set_at (take i xs) _ _ _ i e)

  -- nothing lies past the end
  pub past : (l : List A) (i n : ℕ) → length l ≤ i → [] ≡ take n (drop i l)
  past l i n h = rw (drop_of_length-le l h, take-nil)

  -- no more than n are taken, and no more than there are
  pub at_most : (n : ℕ) (l r : List A) → r ≡ take n l → length r ≤ n
  at_most n l r e = rw (e, length-take) (omega arith)

  pub within : (n i : ℕ) (l r : List A) → r ≡ take n (drop i l) → length r ≤ length l
  within n i l r e = rw (e, length-take, length-drop) (omega arith)

  pub whole_part : (l : List A) (i : ℕ) → i ≤ length l → take (length l - i) (drop i l) ≡ drop i l
  whole_part l i h = take_all (length l - i) (drop i l) (rw length-drop (omega arith))

pub length-put : (i : ℕ) (xs l : List ℕ) → i + length xs ≤ length l → length (put_at i xs l) ≡ length l
unfolding put_at
length-put i xs l h =
    let e : length (drop i l) ≡ length l - i = length-drop i l in
    simp (length-append, length-take, length_over xs (drop i l) (omega arith), length-drop) (omega arith)

-- a part from i to the end that was lent and written at its start
pub put-part : (i : ℕ) (xs l : List ℕ) → i ≤ length l → take i l ++ (over xs (take (length l - i) (drop i l)) ++ drop (length l - i) (drop i l)) ≡ put_at i xs l
unfolding put_at
put-part i xs l h =
    let e : length l ≤ i + (length l - i) = omega arith in
    rw (whole_part l i h, drop-drop (length l - i) i l, drop_of_length-le l e, append-nil)
