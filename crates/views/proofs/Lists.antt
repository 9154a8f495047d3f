-- The lists of a view begin the cells they are read from, before a step and after it.
use Rattle.std.specs.Prelude.{Option, None, Some}
use Prim.Native.Nat.{ℕ, ◌+◌, ◌≤◌}
use mathlib.Core.Path.{◌≡◌, refl, sym, ap, ◌∙◌}
use mathlib.Core.List.{List, ◌++◌, append_assoc, append-nil}
use native.Mathlib.Omega.{arith}
use lib.ListN.{length, take, drop, length-take}
use lib.Seq.{take-take, take-append_seam, length-take-le}
use Rattle.leader_state.specs.declared.LogSync.{LogSync}
use Rattle.paxos_box.specs.declared.LogOp.{LogOp}
use Rattle.paxos_box.specs.declared.LogOp.TheVariants as log
use Rattle.follower.specs.Follower.{count_of}
use Rattle.storage.specs.Storage.{put_at, end_after, log_after, cached_after, best_after, buffer_after}
use Rattle.storage.proofs.Laws.{put-parts, start_of, brought_by, log-put}
use Rattle.views.specs.View.{held_entries, log_to, buffer_to, cached_to, best_to, OpFull}
use Rattle.views.proofs.Front.{Front, front-take, front-use, front_same, front-trans, front-both, front-drop, front-over}

pub put_front : (i : ℕ) (xs l : List ℕ) → Front (take i l ++ xs) (put_at i xs l)
put_front i xs l = rw (put-parts i xs l) (take-append_seam (take i l ++ xs) (drop (i + length xs) l))

-- an operation on the log starts within it, and what it brings is all that it counts
module _ (given held cells l : List ℕ) (len : ℕ) (h : len ≤ length l) (f : Front held cells) where
  op-start : (op : LogOp) → OpFull op given held (take len l) → start_of op len ≤ len
  op-start log.Keep p = omega arith
  op-start (log.Append n) p = omega arith
  op-start (log.PutGiven x) p = omega (arith, p.0, length-take len l)
  op-start (log.PutHeld x) p = omega (arith, p.0, length-take len l)

  length-held : (n : ℕ) → n ≤ length held → length (take n cells) ≡ n
  length-held n k = rw (front-use n held cells f k) (length-take-le n held k)

  op-end : (op : LogOp) → OpFull op given held (take len l) → start_of op len + length (brought_by op given cells) ≡ end_after op len
  op-end log.Keep p = omega arith
  op-end (log.Append n) p = omega (arith, length-take-le n given p)
  op-end (log.PutGiven x) p = omega (arith, length-take-le x.len given p.1)
  op-end (log.PutHeld x) p = omega (arith, length-held x.len p.1)

  cut : (i : ℕ) → i ≤ length (take len l) → take i (take len l) ≡ take i l
  cut i k = take-take i len l (omega (arith, k, length-take len l))

  op-list : (op : LogOp) → OpFull op given held (take len l) → log_to op given held (take len l) ≡ take (start_of op len) l ++ brought_by op given cells
  op-list log.Keep p = sym (append-nil (take len l))
  op-list (log.Append n) p = refl
  op-list (log.PutGiven x) p = rw (cut x.sync_idx p.0)
  op-list (log.PutHeld x) p = rw (cut x.sync_idx p.0, front-use x.len held cells f p.1)

  -- the log as the step leaves it
  pub log-front : (op : LogOp) (kept : ℕ) (buffered cellsB : List ℕ) → OpFull op given held (take len l) → Front buffered cellsB → kept ≤ length buffered → Front (log_to op given held (take len l) ++ take kept buffered) (log_after op len given cells cellsB kept l)
  log-front op kept buffered cellsB p g k =
      let a : start_of op len ≤ length l = omega (arith, op-start op p) in
      let e : log_to op given held (take len l) ++ take kept buffered ≡ take (start_of op len) l ++ (brought_by op given cells ++ take kept cellsB) =
      ap (λ (x : List ℕ). x ++ take kept buffered) (op-list op p)
      ∙ append_assoc (take (start_of op len) l) (brought_by op given cells) (take kept buffered)
      ∙ ap (λ (x : List ℕ). take (start_of op len) l ++ (brought_by op given cells ++ x)) (sym (front-use kept buffered cellsB g k))
      in
      rw (e, log-put op len given cells cellsB kept l a (op-end op p)) (put_front (start_of op len) (brought_by op given cells ++ take kept cellsB) l)

-- the buffered proposals
pub buffer-front : (op : Option ℕ) (n len : ℕ) (given l : List ℕ) → Front (buffer_to op n given (take len l)) (buffer_after op len given l)
buffer-front None n len given l = front-trans (take n (take len l)) (take len l) l (front-take n (take len l)) (front-take len l)
buffer-front (Some k) n len given l = put_front len (take k given) l

-- the entries of a sync are the first of its buffer
pub held-front : (x : Option LogSync) (l : List ℕ) → Front (held_entries x l) l
held-front None l = refl
held-front (Some x) l = front-take x.len l

pub cached-front : (op : Option LogSync) (l cells c buffer : List ℕ) → Front l cells → Front c buffer → Front (cached_to op l c) (cached_after op cells buffer)
cached-front None l cells c buffer f g = g
cached-front (Some x) l cells c buffer f g =
    front-over (take x.len (drop x.sync_idx l)) (take x.len (drop x.sync_idx cells)) buffer
    (front-both x.len (drop x.sync_idx l) (drop x.sync_idx cells) (front-drop x.sync_idx l cells f))

pub best-front : (op : Option ℕ) (given b buffer : List ℕ) → Front b buffer → Front (best_to op given b) (best_after op given buffer)
best-front None given b buffer f = f
best-front (Some n) given b buffer f = front-over (take n given) (take n given) buffer (front_same (take n given))

-- so they are the first of a list that begins the buffer, where it has as many
pub held_same : (x : Option LogSync) (l cells : List ℕ) → Front l cells → length (held_entries x l) ≡ count_of x → held_entries x cells ≡ held_entries x l
held_same None l cells f e = refl
held_same (Some x) l cells f e = front-use x.len l cells f (omega (arith, e, length-take x.len l))
