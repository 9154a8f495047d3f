-- What a write leaves: before it, in it, past it; two writes in a row are one; and the log as the step leaves it.
use Prim.Native.Nat.{ℕ, ◌+◌, ◌≤◌}
use mathlib.Core.Path.{◌≡◌, refl, sym, ap, ◌∙◌}
use mathlib.Core.List.{List, [], ◌++◌, append_assoc}
use native.Mathlib.Omega.{arith}
use lib.ListN.{length, take, drop, length-append, take-append-drop}
use lib.Seq.{take-append-le, take-take, take_at, drop_at, length-take-le, drop-drop}
use Rattle.base.specs.Lists.{over}
use Rattle.paxos_box.specs.declared.LogOp.{LogOp}
use Rattle.paxos_box.specs.declared.LogOp.TheVariants as log
use Rattle.storage.specs.Storage.{put_at, end_after, op_on, log_after}

-- nothing before the place is touched
pub put-before : (j i : ℕ) (xs l : List ℕ) → j ≤ i → i ≤ length l → take j (put_at i xs l) ≡ take j l
unfolding put_at
put-before j i xs l h k =
    let e : j ≤ length (take i l) = rw (length-take-le i l k) h in
    rw (take-append-le j (take i l) (over xs (drop i l)) e, take-take j i l h)

-- the three parts of what a write leaves
pub put-parts : (i : ℕ) (xs l : List ℕ) → put_at i xs l ≡ (take i l ++ xs) ++ drop (i + length xs) l
unfolding put_at over
put-parts i xs l = rw (append_assoc, ← drop-drop (length xs) i l)

length_front : (i : ℕ) (xs l : List ℕ) → i ≤ length l → length (take i l ++ xs) ≡ i + length xs
length_front i xs l k = rw (length-append, length-take-le i l k)

-- what lies up to the end of the write
pub put-used : (i : ℕ) (xs l : List ℕ) → i ≤ length l → take (i + length xs) (put_at i xs l) ≡ take i l ++ xs
put-used i xs l k = rw (put-parts i xs l) (take_at (take i l ++ xs) _ (i + length xs) (length_front i xs l k))

-- what lies past it is as found
pub put-past : (i : ℕ) (xs l : List ℕ) → i ≤ length l → drop (i + length xs) (put_at i xs l) ≡ drop (i + length xs) l
put-past i xs l k = rw (put-parts i xs l) (drop_at (take i l ++ xs) _ (i + length xs) (length_front i xs l k))

-- so a write is a list that begins as the old one, laid over it
pub put-over : (i : ℕ) (xs l : List ℕ) → i ≤ length l → over (take i l ++ xs) l ≡ put_at i xs l
unfolding over
put-over i xs l k = rw (length_front i xs l k, put-parts i xs l)

pub put-nothing : (i : ℕ) (l : List ℕ) → put_at i [] l ≡ l
unfolding put_at over
put-nothing i l = take-append-drop i l

-- two writes, the second where the first ends, are one
pub put-again : (i : ℕ) (xs ys l : List ℕ) → i ≤ length l → put_at (i + length xs) ys (put_at i xs l) ≡ put_at i (xs ++ ys) l
put-again i xs ys l k =
    let ends : (i + length xs) + length ys ≡ i + length (xs ++ ys) = rw length-append (omega arith) in
    let more : drop (length ys) (drop (i + length xs) l) ≡ drop (i + length (xs ++ ys)) l = drop-drop (length ys) (i + length xs) l ∙ ap (λ (n : ℕ). drop n l) ends in
    rw (put-parts (i + length xs) ys (put_at i xs l), put-used i xs l k, ← drop-drop (length ys) (i + length xs) (put_at i xs l), put-past i xs l k, more, put-parts i (xs ++ ys) l, append_assoc (take i l) xs ys)

-- where an operation starts to write, and the entries that it brings
abbrev pub start_of : LogOp → ℕ → ℕ
start_of log.Keep len = len
start_of (log.Append n) len = len
start_of (log.PutGiven x) len = x.sync_idx
start_of (log.PutHeld x) len = x.sync_idx

abbrev pub brought_by : LogOp → List ℕ → List ℕ → List ℕ
brought_by log.Keep given held = []
brought_by (log.Append n) given held = take n given
brought_by (log.PutGiven x) given held = take x.len given
brought_by (log.PutHeld x) given held = take x.len held

-- an operation is one write
pub op-put : (op : LogOp) (len : ℕ) (given held l : List ℕ) → op_on op len given held l ≡ put_at (start_of op len) (brought_by op given held) l
op-put log.Keep len given held l = sym (put-nothing len l)
op-put (log.Append n) len given held l = refl
op-put (log.PutGiven x) len given held l = refl
op-put (log.PutHeld x) len given held l = refl

-- the log as the step leaves it is one write, of what the operation brings and the kept proposals, where all that it counts is there
pub log-put : (op : LogOp) (len : ℕ) (given held buffered : List ℕ) (kept : ℕ) (l : List ℕ) → start_of op len ≤ length l → start_of op len + length (brought_by op given held) ≡ end_after op len → log_after op len given held buffered kept l ≡ put_at (start_of op len) (brought_by op given held ++ take kept buffered) l
unfolding log_after
log-put op len given held buffered kept l k e =
    rw (op-put op len given held l, ← e) (put-again (start_of op len) (brought_by op given held) (take kept buffered) l k)
