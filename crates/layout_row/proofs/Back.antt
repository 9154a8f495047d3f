-- Reading a head, and a row of them, gives back what was written.
use Prim.Native.Nat.{ℕ, ◌+◌, ◌*◌, ◌<◌}
use mathlib.Core.Path.{◌≡◌, refl, ap, ◌∙◌}
use mathlib.Core.Bool.{false}
use mathlib.Core.List.{List, [], map}
use native.Mathlib.Omega.{arith}
use lib.ListN.{length, get_or, take, length-map}
use Rattle.base.specs.Limits.{max_messages}
use Rattle.base.specs.Lists.{tabulate}
use Rattle.hire_book.proofs.Below.{none}
use Rattle.messages.specs.declared.Head.{Head}
use Rattle.messages.specs.declared.Row.{Row}
use Rattle.messages.specs.declared.PaxosMsg.{PaxosMsg}
use Rattle.messages.specs.declared.PaxosMsg.TheVariants.{PrepareReq, Prepare, Promise, AcceptSync, AcceptDecide, Accepted, NotAccepted, Decide, ProposalForward}
use Rattle.storage.specs.Storage.{put_at}
use Rattle.blocks.specs.Blocks.{block_words, block_at, above_most, joined, Narrow}
use Rattle.blocks.proofs.Blocks.{ballot-back, block-joined, length-joined, put_whole}
use Rattle.blocks.proofs.Mapped.{getD-mapped, whole-mapped, mapped-turn}
use Rattle.blocks.proofs.Filled.{tabulate-is}
use Rattle.tags.proofs.Back.{option-back}
use Rattle.layout_row.specs.declared.Fields.{Fields}
use Rattle.layout_row.specs.Fields.{fields_of, message_of, fields_in}
use Rattle.layout_row.specs.Row.{row_length, block_of, head_words, row_blocks, row_words, NarrowHead, KeptRow, zero_head, head_in, head_most, no_row, row_in}
use Rattle.layout_row.proofs.Fits.{kind-low, sync-low, head-fits}

pub message-back : (m : PaxosMsg) → message_of (fields_of m) ≡ m
unfolding message_of
message-back (PrepareReq m) = refl
message-back (Prepare m) = refl
message-back (Promise m) = rw (option-back m.log_sync 0)
message-back (AcceptSync m) = refl
message-back (AcceptDecide m) = refl
message-back (Accepted m) = refl
message-back (NotAccepted m) = refl
message-back (Decide m) = refl
message-back ProposalForward = refl

pub fields_back : (to : ℕ) (f : Fields) (start count : ℕ) → Narrow f.n → Narrow f.n_accepted → fields_in (block_of to f start count) ≡ f
fields_back to f start count h g = rw (ballot-back f.n h, ballot-back f.n_accepted g)

head-back : (h : Head) → NarrowHead h → head_in (head_words h) ≡ h
head-back h n =
    rw (fields_back h.to (fields_of h.msg) h.start h.count n.0 n.1, message-back h.msg)

-- a block of a row

at_head : (row : Row) (i : ℕ) → length row.heads ≡ max_messages → i < max_messages → block_at i (row_words row) ≡ head_words (get_or row.heads i zero_head)
unfolding row_blocks
at_head row i n h =
    block-joined (map head_words row.heads) i (whole-mapped head_words (λ x. refl) row.heads) (omega (arith, n, length-map row.heads head_words))
    ∙ getD-mapped head_words row.heads i [] zero_head (omega (arith, n))

pub row_back : (row : Row) → KeptRow row → row_in (row_words row) ≡ row
unfolding row_in
row_back row k =
    let e : tabulate max_messages (λ i. head_in (block_at i (row_words row))) ≡ row.heads = tabulate-is row.heads max_messages (λ i. head_in (block_at i (row_words row))) zero_head k.0 (λ i h. ap head_in (at_head row i k.0 h) ∙ head-back (get_or row.heads i zero_head) (k.1 i h)) in
    rw e

one-fits : (h : Head) → NarrowHead h → above_most head_most (head_words h) ≡ false
one-fits h n =
    head-fits h.to (fields_of h.msg) h.start h.count (kind-low h.msg) (sync-low h.msg) n.0 n.1

pub row-means : (row : Row) → KeptRow row → no_row (row_words row) ≡ false
unfolding no_row
row-means row k =
    none (λ i. above_most head_most (block_at i (row_words row))) max_messages (λ i h. ap (above_most head_most) (at_head row i k.0 h) ∙ one-fits (get_or row.heads i zero_head) (k.1 i h))

-- one turn of the loop that writes a row, and what is written in the end
pub head-turn : (l : List Head) (k : ℕ) (found words b : List ℕ) → k < length l → words ≡ put_at 0 (joined (take k (map head_words l))) found → b ≡ head_words (get_or l k zero_head) → put_at (k * block_words) b words ≡ put_at 0 (joined (take (k + 1) (map head_words l))) found
head-turn l k found words b h e q =
    mapped-turn head_words (λ x. refl) 0 (k * block_words) k l found words b zero_head (omega arith) h (omega arith) e q

pub row_written : (row : Row) (found words : List ℕ) → length row.heads ≡ max_messages → length found ≡ row_length → words ≡ put_at 0 (joined (map head_words row.heads)) found → words ≡ row_words row
unfolding row_blocks
row_written row found words n m e =
    let l = length-joined (map head_words row.heads) (whole-mapped head_words (λ x. refl) row.heads) in
    e ∙ put_whole (joined (map head_words row.heads)) found (omega (arith, l, n, m, length-map row.heads head_words))
