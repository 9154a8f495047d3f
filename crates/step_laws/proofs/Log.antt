-- The entries of the log as a step leaves it are within their limit.
use Rattle.std.specs.Prelude.{Some}
use Prim.Native.Nat.{ℕ, ◌+◌, ◌-◌, ◌≤◌, ◌<◌}
use mathlib.Core.Path.{◌≡◌, refl, ◌∙◌}
use mathlib.Core.Bool.{Bool, true, false}
use mathlib.Core.List.{List, ◌++◌}
use native.Mathlib.Omega.{arith}
use lib.Dec.{ltb}
use lib.ListN.{length, take, drop, get_or, length-take, get_or-append}
use lib.Seq.{length-take-le, get_or-take, get_or-append-add}
use borrow.Author.Tests.{ltb-true, ltb-false}
use Rattle.base.specs.Limits.{max_log, max_entry}
use Rattle.base.specs.Lists.{over}
use Rattle.messages.specs.declared.Event.{Event}
use Rattle.paxos_box.specs.declared.SequencePaxos.{SequencePaxos}
use Rattle.paxos_box.specs.declared.LogOp.{LogOp}
use Rattle.paxos_box.specs.declared.LogOp.TheVariants as log
use Rattle.hire_book.specs.Book.{any_above}
use Rattle.hire_book.proofs.Entries.{none_above}
use Rattle.sends.specs.Sends.{log_length}
use Rattle.storage.specs.Storage.{put_at, end_after, op_on, log_after}
use Rattle.storage.proofs.Laid.{length-put}
use Rattle.outgoing.proofs.Cells.{put-at-before}
use Rattle.refusals.proofs.Taken.{Fit, SyncFit}
use Rattle.step_laws.proofs.Written.{OpFit}

-- within a write stand the entries written
pub put-at-within : (i j : ℕ) (xs l : List ℕ) → i ≤ length l → j < length xs → get_or (put_at i xs l) (i + j) 0 ≡ get_or xs j 0
unfolding put_at over
put-at-within i j xs l k h =
    let n : length (take i l) ≡ i = length-take-le i l k in
    let a : get_or (take i l ++ (xs ++ drop (length xs) (drop i l))) (length (take i l) + j) 0 ≡ get_or (xs ++ drop (length xs) (drop i l)) j 0 = get_or-append-add (take i l) (xs ++ drop (length xs) (drop i l)) j 0 in
    rw n at a ∙ get_or-append xs (drop (length xs) (drop i l)) 0 j h

-- entries that fit, written behind entries that fit
pub fit-put : (i : ℕ) (xs l : List ℕ) → i ≤ length l → Fit l i → Fit xs (length xs) → Fit (put_at i xs l) (i + length xs)
fit-put i xs l k f g j h = go (ltb j i) refl
  where
    go : (t : Bool) → ltb j i ≡ t → get_or (put_at i xs l) j 0 ≤ max_entry
    go true e = rw (put-at-before j i xs l (ltb-true j i e) k) (f j (ltb-true j i e))
    go false e =
        let b = ltb-false j i e in
        let m : i + (j - i) ≡ j = omega arith in
        let w : get_or (put_at i xs l) (i + (j - i)) 0 ≤ max_entry = rw (put-at-within i (j - i) xs l k (omega arith)) (g (j - i) (omega arith)) in
        rw m at w

pub fit-take : (n : ℕ) (l : List ℕ) → n ≤ length l → Fit l n → Fit (take n l) (length (take n l))
fit-take n l k f i h = let m : length (take n l) ≡ n = length-take-le n l k in rw (get_or-take n l i 0 (omega arith)) (f i (omega arith))

pub fit-less : (l : List ℕ) (m n : ℕ) → m ≤ n → Fit l n → Fit l m
fit-less l m n h f i k = f i (omega arith)

pub fit_written : (i n : ℕ) (xs l : List ℕ) → i ≤ length l → n ≤ length xs → Fit l i → Fit xs n → Fit (put_at i (take n xs) l) (i + n)
fit_written i n xs l k h f g = let m : length (take n xs) ≡ n = length-take-le n xs h in rw m at (fit-put i (take n xs) l k f (fit-take n xs h g))

-- the operation
pub fit-op : (op : LogOp) (e : Event) (given held l : List ℕ) (found : SequencePaxos) → length held ≡ max_log → log_length found ≤ length l → Fit l (log_length found) → SyncFit found.leader_state.max_promise.sync held → OpFit e given found op → Fit (op_on op (log_length found) given held l) (end_after op (log_length found))
fit-op log.Keep e given held l found c k f s o = f
fit-op (log.Append n) e given held l found c k f s o = fit_written (log_length found) n given l k (omega (arith, o.0)) f (fit-less given n (length given) (omega (arith, o.0)) o.1)
fit-op (log.PutGiven x) e given held l found c k f s o =
    fit_written x.sync_idx x.len given l (omega (arith, o.1)) (omega (arith, o.0.count)) (fit-less l x.sync_idx (log_length found) o.1 f) (fit-less given x.len (length given) (omega (arith, o.0.count)) o.0.fit)
fit-op (log.PutHeld x) e given held l found c k f s o =
    let b : SyncFit (Some x) held = rw o.0 at s in
    fit_written x.sync_idx x.len held l (omega (arith, o.1)) (omega (arith, b.0)) (fit-less l x.sync_idx (log_length found) o.1 f) b.1

pub op-length : (op : LogOp) (len : ℕ) (given held l : List ℕ) → end_after op len ≤ length l → length (op_on op len given held l) ≡ length l
op-length log.Keep len given held l h = refl
op-length (log.Append n) len given held l h = length-put len (take n given) l (omega (arith, length-take n given))
op-length (log.PutGiven x) len given held l h = length-put x.sync_idx (take x.len given) l (omega (arith, length-take x.len given))
op-length (log.PutHeld x) len given held l h = length-put x.sync_idx (take x.len held) l (omega (arith, length-take x.len held))

-- the log up to where the operation leaves it
pub fit-log : (op : LogOp) (len : ℕ) (given held buffered : List ℕ) (kept : ℕ) (l : List ℕ) → end_after op len ≤ length l → Fit (op_on op len given held l) (end_after op len) → Fit (log_after op len given held buffered kept l) (end_after op len)
unfolding log_after
fit-log op len given held buffered kept l h f i k =
    rw (put-at-before i (end_after op len) (take kept buffered) (op_on op len given held l) k (omega (arith, op-length op len given held l h))) (f i k)

-- and with the kept proposals
pub fit-whole : (op : LogOp) (len : ℕ) (given held buffered : List ℕ) (kept : ℕ) (l : List ℕ) → end_after op len ≤ length l → kept ≤ length buffered → Fit buffered kept → Fit (op_on op len given held l) (end_after op len) → Fit (log_after op len given held buffered kept l) (end_after op len + kept)
unfolding log_after
fit-whole op len given held buffered kept l h k g f =
    fit_written (end_after op len) kept buffered (op_on op len given held l) (omega (arith, op-length op len given held l h)) k f g

-- none of the first is above its limit
pub none_first : (l : List ℕ) (d n : ℕ) → d ≤ n → Fit l n → any_above (take d l) ≡ false
none_first l d n h f = none_above (take d l) (λ i k. let m : i < d = omega (arith, length-take d l) in rw (get_or-take d l i 0 m) (f i (omega arith)))
