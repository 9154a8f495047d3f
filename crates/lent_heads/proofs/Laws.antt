-- The row by value and the lent row: of 64 heads they are the same, and a row by value that was not changed is written back without a change.
use Prim.Native.Nat.{ℕ, ◌≤◌, ◌<◌}
use mathlib.Core.Path.{◌≡◌, ◌∙◌, ap}
use mathlib.Core.List.{List, append-nil}
use native.Mathlib.Omega.{arith}
use native.Mathlib.Decide.{dec_lt}
use lib.ListN.{length, take, drop, replicate, length-replicate, drop_of_length-le, take-append-drop}
use lib.Seq.{take_all, length-take-le, take-append_seam}
use Rattle.base.specs.Limits.{max_messages}
use Rattle.base.specs.Lists.{over}
use Rattle.messages.specs.declared.Head.{Head}
use Rattle.messages.specs.declared.Row.{Row}
use Rattle.messages.specs.Messages.{no_head}
use Rattle.lent_heads.specs.Heads.{snapshot_of, written_to}

-- a list laid over one that is no longer
over-all : (xs l : List Head) → length l ≤ length xs → over xs l ≡ xs
unfolding over
over-all xs l h = rw (drop_of_length-le l h) (append-nil xs)

pub snapshot-whole : (hs : List Head) → length hs ≡ max_messages → ◌≡◌ {A = Row} (snapshot_of hs) (record { heads = hs })
unfolding snapshot_of
snapshot-whole hs h =
    let n : length (replicate max_messages no_head) ≡ max_messages = length-replicate max_messages no_head in
    ap (λ (r : List Head). record { heads = r })
    (ap (λ (t : List Head). over t (replicate max_messages no_head)) (take_all max_messages hs (omega (arith, h))) ∙ over-all hs (replicate max_messages no_head) (omega (arith, h, n)))

pub written-whole : (hs : List Head) (row : Row) → length hs ≡ max_messages → length row.heads ≡ max_messages → written_to hs row ≡ row.heads
unfolding written_to
written-whole hs row h k =
    ap (λ (t : List Head). over t hs) (take_all (length hs) row.heads (omega (arith, h, k))) ∙ over-all row.heads hs (omega (arith, h, k))

-- the front of a list laid over the list itself changes nothing
over-front : (n : ℕ) (hs : List Head) → n ≤ length hs → over (take n hs) hs ≡ hs
unfolding over
over-front n hs h = rw (length-take-le n hs h) (take-append-drop n hs)

front-back : (xs l : List Head) → take (length xs) (over xs l) ≡ xs
unfolding over
front-back xs l = take-append_seam xs (drop (length xs) l)

pub written-back : (hs : List Head) → written_to hs (snapshot_of hs) ≡ hs
unfolding snapshot_of written_to
written-back hs = go (dec_lt (length hs) max_messages)
  where
    n : length (replicate max_messages no_head) ≡ max_messages
    n = length-replicate max_messages no_head

    go : Dec (length hs < max_messages) → over (take (length hs) (over (take max_messages hs) (replicate max_messages no_head))) hs ≡ hs
    go (yes l) =
        rw (take_all max_messages hs (omega (arith, l)), front-back hs (replicate max_messages no_head)) (over-all hs hs (omega arith))
    go (no l) =
        let m : length (take max_messages hs) ≡ max_messages = length-take-le max_messages hs (omega (arith, l)) in
        rw (over-all (take max_messages hs) (replicate max_messages no_head) (omega (arith, n, m)), take_all (length hs) (take max_messages hs) (omega (arith, l, m))) (over-front max_messages hs (omega (arith, l)))
