-- What each write of a plan leaves past it: the operation on the log and the kept proposals, a sync buffer, the buffered proposals.
use Prim.Native.Nat.{ℕ, ◌+◌, ◌-◌, ◌≤◌}
use mathlib.Core.Path.{◌≡◌, refl, sym, ap, ◌∙◌}
use mathlib.Core.Bool.{Bool, true, false}
use mathlib.Core.List.{List}
use native.Mathlib.Omega.{arith}
use lib.Dec.{ltb}
use lib.ListN.{length, take, drop, length-take, length-append, length-drop, drop_of_length-le}
use lib.Seq.{drop-drop}
use borrow.Author.Tests.{ltb-true, ltb-false}
use Rattle.base.specs.Lists.{over}
use Rattle.paxos_box.specs.declared.LogOp.{LogOp}
use Rattle.paxos_box.specs.declared.LogOp.TheVariants as log
use Rattle.storage.specs.Storage.{put_at, end_after, op_on, log_after}
use Rattle.storage.proofs.Laws.{put-past}
use Rattle.storage.proofs.Laid.{at_most}
use Rattle.outgoing.proofs.Laid.{past-over}

-- past a place past the write, too
pub further : {A : Type 0} (n m : ℕ) (a b : List A) → m ≤ n → drop m a ≡ drop m b → drop n a ≡ drop n b
further n m a b h p =
    let k : m + (n - m) ≡ n = omega arith in
    ap (λ (i : ℕ). drop i a) (sym k) ∙ sym (drop-drop (n - m) m a) ∙ ap (drop (n - m)) p ∙ drop-drop (n - m) m b ∙ ap (λ (i : ℕ). drop i b) k

-- n entries at most laid over a list
pub over-past : (n : ℕ) (xs l : List ℕ) → drop n (over (take n xs) l) ≡ drop n l
over-past n xs l = further n (length (take n xs)) (over (take n xs) l) l (at_most n xs (take n xs) refl) (past-over (take n xs) (take n xs) l (omega arith))

-- n entries at most written from a place on, whether that lies in the list or not
put-further : (n i : ℕ) (xs l : List ℕ) → i ≤ length l → i + length xs ≤ n → drop n (put_at i xs l) ≡ drop n l
put-further n i xs l h k = further n (i + length xs) (put_at i xs l) l k (put-past i xs l h)

put-length : (n i : ℕ) (xs l : List ℕ) → length l ≤ i → i + length xs ≤ n → length (put_at i xs l) ≤ n
unfolding put_at over
put-length n i xs l h k = simp (length-append, length-take, length-drop) (omega arith)

pub put-taken : (n i k : ℕ) (xs l : List ℕ) → i + k ≤ n → drop n (put_at i (take k xs) l) ≡ drop n l
put-taken n i k xs l h = by (ltb (length l) i) refl
  where
    by : (t : Bool) → ltb (length l) i ≡ t → drop n (put_at i (take k xs) l) ≡ drop n l
    by true q =
        let b = ltb-true (length l) i q in
        let short : length l ≤ n = omega arith in
        drop_of_length-le (put_at i (take k xs) l) (put-length n i (take k xs) l (omega arith) (omega (arith, at_most k xs (take k xs) refl))) ∙ sym (drop_of_length-le l short)
    by false q = put-further n i (take k xs) l (ltb-false (length l) i q) (omega (arith, at_most k xs (take k xs) refl))

-- the operation on the log
op-past : (op : LogOp) (len n : ℕ) (given held l : List ℕ) → end_after op len ≤ n → drop n (op_on op len given held l) ≡ drop n l
op-past log.Keep len n given held l k = refl
op-past (log.Append m) len n given held l k = put-taken n len m given l k
op-past (log.PutGiven x) len n given held l k = put-taken n x.sync_idx x.len given l k
op-past (log.PutHeld x) len n given held l k = put-taken n x.sync_idx x.len held l k

pub log-past : (op : LogOp) (len : ℕ) (given held buffered : List ℕ) (kept : ℕ) (l : List ℕ) → drop (end_after op len + kept) (log_after op len given held buffered kept l) ≡ drop (end_after op len + kept) l
unfolding log_after
log-past op len given held buffered kept l =
    let n = end_after op len + kept in
    put-taken n (end_after op len) kept buffered (op_on op len given held l) (omega arith)
    ∙ op-past op len n given held l (omega arith)
