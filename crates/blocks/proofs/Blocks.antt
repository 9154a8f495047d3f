-- A ballot's words are read back as the ballot; a block of joined blocks is the block; one turn of a loop that writes blocks, and what is written in the end.
use Prim.Native.Nat.{ℕ, zero, suc, ◌+◌, ◌*◌, ◌≤◌, ◌<◌}
use mathlib.Core.Path.{◌≡◌, refl, sym}
use mathlib.Core.List.{List, [], ◌∷◌, ◌++◌, append_assoc, append-nil}
use native.Mathlib.Omega.{arith}
use native.Mathlib.Numerals.{add-one}
use lib.ListN.{length, get_or, take, drop, replicate, length-append, drop_of_length-le}
use lib.Seq.{take-suc, take_at, take_all, drop-append-add, length-take-le}
use Rattle.base.specs.Lists.{over}
use Rattle.storage.specs.Storage.{put_at}
use Rattle.storage.proofs.Laws.{put-again, put-nothing}
use borrow.Author.Tests.{le-leb}
use Rattle.ballot.specs.declared.Ballot.{Ballot}
use Rattle.blocks.specs.Blocks.{block_words, block_at, joined, Whole, most32, small, ballot_of, Narrow}

pub small-back : (w : ℕ) → w ≤ most32 → small w ≡ w
unfolding small
small-back w h = rw (le-leb w most32 h)

pub ballot-back : (b : Ballot) → Narrow b → ballot_of b.n b.priority b.pid ≡ b
ballot-back b h = rw (small-back b.n h.0, small-back b.priority h.1)

-- a block that stands whole at the start of the words
whole-block : (b rest : List ℕ) → length b ≡ block_words → over (take block_words (b ++ rest)) (replicate block_words 0) ≡ b
unfolding over
whole-block b rest h = rw (take_at b rest block_words h, h) (append-nil b)

past-block : (b rest : List ℕ) (k : ℕ) → length b ≡ block_words → drop (suc k * block_words) (b ++ rest) ≡ drop (k * block_words) rest
past-block b rest k h =
    let e : suc k * block_words ≡ length b + k * block_words = omega (arith, h) in
    rw e (drop-append-add b rest (k * block_words))

-- block k of joined blocks
pub block-joined : (bs : List (List ℕ)) (k : ℕ) → Whole bs → k < length bs → block_at k (joined bs) ≡ get_or bs k []
unfolding block_at joined
block-joined [] k w h = absurd (omega arith)
block-joined (b ∷ bs) zero w h = whole-block b (joined bs) w.0
block-joined (b ∷ bs) (suc k) w h = rw (past-block b (joined bs) k w.0) (block-joined bs k w.1 (omega arith))

pub length-joined : (bs : List (List ℕ)) → Whole bs → length (joined bs) ≡ length bs * block_words
unfolding joined
length-joined [] w = refl
length-joined (b ∷ bs) w = rw (length-append, w.0, length-joined bs w.1) (omega arith)

whole_take : (n : ℕ) (bs : List (List ℕ)) → Whole bs → Whole (take n bs)
whole_take zero bs w = tt
whole_take (suc n) [] w = tt
whole_take (suc n) (b ∷ bs) w = (w.0, whole_take n bs w.1)

whole-at : (bs : List (List ℕ)) (i : ℕ) → Whole bs → i < length bs → length (get_or bs i []) ≡ block_words
whole-at [] i w h = absurd (omega arith)
whole-at (b ∷ bs) zero w h = w.0
whole-at (b ∷ bs) (suc i) w h = whole-at bs i w.1 (omega arith)

joined_snoc : (bs : List (List ℕ)) (b : List ℕ) → joined (bs ++ (b ∷ [])) ≡ joined bs ++ b
unfolding joined
joined_snoc [] b = append-nil b
joined_snoc (c ∷ bs) b = rw (joined_snoc bs b, append_assoc)

length_front : (k : ℕ) (bs : List (List ℕ)) → Whole bs → k ≤ length bs → length (joined (take k bs)) ≡ k * block_words
length_front k bs w h = rw (length-joined (take k bs) (whole_take k bs w), length-take-le k bs h)

-- one turn of a loop that writes blocks from a place on
pub put_next : (i k : ℕ) (bs : List (List ℕ)) (found words b : List ℕ) → Whole bs → k < length bs → i ≤ length found → words ≡ put_at i (joined (take k bs)) found → b ≡ get_or bs k [] → put_at (i + k * block_words) b words ≡ put_at i (joined (take (k + 1) bs)) found
put_next i k bs found words b w h room e q =
    let front : k * block_words ≡ length (joined (take k bs)) = sym (length_front k bs w (omega arith)) in
    rw (q, e, front, put-again i (joined (take k bs)) (get_or bs k []) found room, add-one, take-suc bs k [] h, joined_snoc)

-- nothing is written yet, and all is written
pub put-none : (i : ℕ) (bs : List (List ℕ)) (found : List ℕ) → found ≡ put_at i (joined (take 0 bs)) found
unfolding joined
put-none i bs found = sym (put-nothing i found)

pub put-every : (i : ℕ) (bs : List (List ℕ)) (k : ℕ) (found words : List ℕ) → k ≡ length bs → words ≡ put_at i (joined (take k bs)) found → words ≡ put_at i (joined bs) found
put-every i bs k found words h e = rw (e, take_all k bs (omega (arith, h)))

-- written from the start over as many words: nothing of what was found is left
pub put_whole : (xs found : List ℕ) → length found ≡ length xs → put_at 0 xs found ≡ xs
unfolding put_at over
put_whole xs found h = rw (drop_of_length-le found {i = length xs} (omega (arith, h))) (append-nil xs)
