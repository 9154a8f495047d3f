-- What writing a record's blocks leaves: one turn of the loop over the places, and all blocks in a row.
use Prim.Native.Nat.{ℕ, ◌+◌, ◌*◌, ◌<◌}
use mathlib.Core.Path.{◌≡◌, refl, sym, ◌∙◌}
use mathlib.Core.List.{List, ◌++◌, map, append_assoc}
use native.Mathlib.Omega.{arith}
use lib.ListN.{length, get_or, take, length-map, length-append}
use Rattle.base.specs.Limits.{max_depots, max_buffered}
use Rattle.leader_state.specs.State.{fresh}
use Rattle.leader_state.specs.declared.Depot.{Depot}
use Rattle.record.specs.declared.Record.{Record}
use Rattle.storage.specs.Storage.{put_at}
use Rattle.storage.proofs.Laws.{put-again}
use Rattle.blocks.specs.Blocks.{block_words, joined}
use Rattle.blocks.proofs.Blocks.{put_whole, length-joined}
use Rattle.blocks.proofs.Mapped.{whole-mapped, mapped-turn}
use Rattle.layout_record.specs.Words.{places_at, record_length, standing_words, lead_words, best_words, cached_words, place_words, record_blocks, record_words}

pub length-places : (l : List Depot) → length l ≡ max_depots → length (map place_words l) ≡ max_depots
length-places l h = length-map l place_words ∙ h

-- one turn of the loop that writes the places
pub place-turn : (l : List Depot) (k : ℕ) (found words b : List ℕ) → length l ≡ max_depots → length found ≡ record_length → k < max_depots → words ≡ put_at places_at (joined (take k (map place_words l))) found → b ≡ place_words (get_or l k fresh) → put_at ((5 + k) * block_words) b words ≡ put_at places_at (joined (take (k + 1) (map place_words l))) found
place-turn l k found words b n m h e q =
    mapped-turn place_words (λ d. refl) places_at ((5 + k) * block_words) k l found words b fresh (omega arith) (omega (arith, n)) (omega (arith, m)) e q

put_two : (xs ys w : List ℕ) (n : ℕ) → length xs ≡ n → put_at n ys (put_at 0 xs w) ≡ put_at 0 (xs ++ ys) w
put_two xs ys w n h =
    let e : n ≡ 0 + length xs = omega (arith, h) in
    rw e (put-again 0 xs ys w (omega arith))

-- six writes in a row, over as many words as they bring
six : (a b c d e f w : List ℕ) → length a ≡ 16 → length b ≡ 16 → length c ≡ 16 → length d ≡ 16 → length e ≡ 16 → length f ≡ 112 → length w ≡ 192 → put_at 80 f (put_at 64 e (put_at 48 d (put_at 32 c (put_at 16 b (put_at 0 a w))))) ≡ a ++ (b ++ (c ++ (d ++ (e ++ f))))
six a b c d e f w la lb lc ld le lf lw =
    let t : length (a ++ b) ≡ 32 = length-append a b ∙ omega (arith, la, lb) in
    let u : length ((a ++ b) ++ c) ≡ 48 = length-append (a ++ b) c ∙ omega (arith, t, lc) in
    let v : length (((a ++ b) ++ c) ++ d) ≡ 64 = length-append ((a ++ b) ++ c) d ∙ omega (arith, u, ld) in
    let x : length ((((a ++ b) ++ c) ++ d) ++ e) ≡ 80 = length-append (((a ++ b) ++ c) ++ d) e ∙ omega (arith, v, le) in
    let y : length (((((a ++ b) ++ c) ++ d) ++ e) ++ f) ≡ 192 = length-append ((((a ++ b) ++ c) ++ d) ++ e) f ∙ omega (arith, x, lf) in
    rw (put_two a b w 16 la, put_two (a ++ b) c w 32 t, put_two ((a ++ b) ++ c) d w 48 u, put_two (((a ++ b) ++ c) ++ d) e w 64 v, put_two ((((a ++ b) ++ c) ++ d) ++ e) f w 80 x, put_whole (((((a ++ b) ++ c) ++ d) ++ e) ++ f) w (lw ∙ sym y), append_assoc (((a ++ b) ++ c) ++ d) e f, append_assoc ((a ++ b) ++ c) d (e ++ f), append_assoc (a ++ b) c (d ++ (e ++ f)), append_assoc a b (c ++ (d ++ (e ++ f))))

-- the record's blocks, each over its own
pub six-blocks : (r : Record) (w : List ℕ) → length r.buffered_proposals.entries ≡ max_buffered → length r.leader_state.depots ≡ max_depots → length w ≡ record_length → put_at places_at (joined (map place_words r.leader_state.depots)) (put_at (4 * block_words) (cached_words r.cached_promise_message) (put_at (3 * block_words) (best_words r.leader_state.max_promise) (put_at (2 * block_words) (lead_words r.leader_state.n_leader r.latest_accepted_meta) (put_at (1 * block_words) r.buffered_proposals.entries (put_at (0 * block_words) (standing_words r.internal_storage r.state r.outgoing r.current_seq_num r.buffered_proposals.len) w))))) ≡ record_words r
unfolding record_blocks joined
six-blocks r w n m h =
    let l = r.leader_state.depots in
    let f : length (joined (map place_words l)) ≡ 112 = length-joined (map place_words l) (whole-mapped place_words (λ d. refl) l) ∙ omega (arith, length-places l m) in
    six (standing_words r.internal_storage r.state r.outgoing r.current_seq_num r.buffered_proposals.len) r.buffered_proposals.entries (lead_words r.leader_state.n_leader r.latest_accepted_meta) (best_words r.leader_state.max_promise) (cached_words r.cached_promise_message) (joined (map place_words l)) w refl n refl refl refl f h

-- the writes one after another
pub six-writes : (r : Record) (w w1 w2 w3 w4 w5 w6 sb eb lb bb cb : List ℕ) → length r.buffered_proposals.entries ≡ max_buffered → length r.leader_state.depots ≡ max_depots → length w ≡ record_length → sb ≡ standing_words r.internal_storage r.state r.outgoing r.current_seq_num r.buffered_proposals.len → w1 ≡ put_at (0 * block_words) sb w → eb ≡ r.buffered_proposals.entries → w2 ≡ put_at (1 * block_words) eb w1 → lb ≡ lead_words r.leader_state.n_leader r.latest_accepted_meta → w3 ≡ put_at (2 * block_words) lb w2 → bb ≡ best_words r.leader_state.max_promise → w4 ≡ put_at (3 * block_words) bb w3 → cb ≡ cached_words r.cached_promise_message → w5 ≡ put_at (4 * block_words) cb w4 → w6 ≡ put_at places_at (joined (map place_words r.leader_state.depots)) w5 → w6 ≡ record_words r
six-writes r w w1 w2 w3 w4 w5 w6 sb eb lb bb cb n m h p1 q1 p2 q2 p3 q3 p4 q4 p5 q5 q6 =
    rw (q6, q5, p5, q4, p4, q3, p3, q2, p2, q1, p1) (six-blocks r w n m h)
