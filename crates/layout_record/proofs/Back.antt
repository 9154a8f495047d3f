-- Reading gives back what was written.
use Rattle.std.specs.Prelude.{Option}
use Prim.Native.Nat.{ℕ, suc, ◌+◌, ◌<◌}
use mathlib.Core.Path.{◌≡◌, refl, ap, ◌∙◌}
use mathlib.Core.Bool.{false}
use mathlib.Core.List.{List, []}
use native.Mathlib.Omega.{arith}
use lib.ListN.{length, get_or}
use Rattle.base.specs.Limits.{max_depots}
use Rattle.hire_book.proofs.Below.{none}
use Rattle.paxos_box.specs.declared.AcceptedAt.{AcceptedAt}
use Rattle.paxos_box.specs.declared.CachedPromise.{CachedPromise}
use Rattle.ballot.specs.declared.Ballot.{Ballot}
use Rattle.leader_state.specs.State.{fresh}
use Rattle.leader_state.specs.declared.Depot.{Depot}
use Rattle.leader_state.specs.declared.MaxPromise.{MaxPromise}
use Rattle.leader_state.specs.declared.LeaderState.{LeaderState}
use Rattle.record.specs.declared.Record.{Record}
use Rattle.tags.specs.Tags.{promise_meta}
use Rattle.tags.proofs.Back.{option-back, promise-back, role-back, phase-back}
use Rattle.blocks.specs.Blocks.{block_at, word, above_most, ballot_of, Whole}
use Rattle.blocks.proofs.Blocks.{ballot-back, block-joined}
use Rattle.blocks.proofs.Filled.{tabulate-is}
use Rattle.layout_record.specs.Words.{record_count, accepted_at, cached_promise, no_sync, no_accepted, no_promise, standing_words, lead_words, best_words, cached_words, place_words, record_blocks, record_words}
use Rattle.layout_record.specs.Kept.{NarrowStanding, NarrowLead, NarrowBest, NarrowCached, NarrowPlace, Kept}
use Rattle.layout_record.specs.Reading.{accepted_in, best_in, cached_in, place_in, places_in, leader_in, record_with, record_of, record_most, no_record, record_in}
use Rattle.blocks.proofs.Mapped.{getD-mapped, whole-mapped}
use Rattle.layout_record.proofs.Words.{length-places}
use Rattle.layout_record.proofs.Fits.{block-fits}

-- each block

lead-back : (n : Ballot) (m : Option AcceptedAt) → NarrowLead n m → accepted_in (lead_words n m) ≡ m
lead-back n m h = rw (ballot-back (accepted_at m).n h.1, option-back m no_accepted)

best-back : (b : MaxPromise) → NarrowBest b → best_in (best_words b) ≡ b
best-back b h = rw (ballot-back b.meta.n_accepted h, option-back b.sync no_sync)

message-back : (m : Option CachedPromise) → NarrowCached m → cached_in (cached_words m) ≡ m
message-back m h =
    rw (ballot-back (cached_promise m).n h.0, ballot-back (cached_promise m).n_accepted h.1, option-back (cached_promise m).sync no_sync, option-back m no_promise)

place-back : (d : Depot) → NarrowPlace d → place_in (place_words d) ≡ d
place-back d h =
    rw (ballot-back (promise_meta d.promise).n_accepted h, promise-back d.promise, option-back d.latest 0)

-- where they lie

whole-blocks : (r : Record) → Kept r → Whole (record_blocks r)
unfolding record_blocks
whole-blocks r h = (refl, (h.cells, (refl, (refl, (refl, whole-mapped place_words (λ d. refl) r.leader_state.depots)))))

length-blocks : (r : Record) → Kept r → length (record_blocks r) ≡ record_count
unfolding record_blocks
length-blocks r h = rw (length-places r.leader_state.depots h.places.0)

at_block : (r : Record) (i : ℕ) → Kept r → i < record_count → block_at i (record_words r) ≡ get_or (record_blocks r) i []
at_block r i h l = block-joined (record_blocks r) i (whole-blocks r h) (omega (arith, length-blocks r h))

in_row : (r : Record) (k : ℕ) → Kept r → k < max_depots → get_or (record_blocks r) (suc (suc (suc (suc (suc k))))) [] ≡ place_words (get_or r.leader_state.depots k fresh)
unfolding record_blocks
in_row r k h l = getD-mapped place_words r.leader_state.depots k [] fresh (omega (arith, h.places.0))

at_place : (r : Record) (k : ℕ) → Kept r → k < max_depots → place_in (block_at (5 + k) (record_words r)) ≡ get_or r.leader_state.depots k fresh
at_place r k h l =
    let e : 5 + k ≡ suc (suc (suc (suc (suc k)))) = omega arith in
    let b : block_at (5 + k) (record_words r) ≡ place_words (get_or r.leader_state.depots k fresh) = rw e (at_block r (suc (suc (suc (suc (suc k))))) h (omega arith) ∙ in_row r k h l) in
    ap place_in b ∙ place-back (get_or r.leader_state.depots k fresh) (h.places.1 k l)

places-back : (r : Record) → Kept r → places_in (record_words r) ≡ r.leader_state.depots
places-back r h =
    tabulate-is r.leader_state.depots max_depots (λ k. place_in (block_at (5 + k) (record_words r))) fresh h.places.0 (λ k l. at_place r k h l)

abbrev led : Ballot → List Depot → MaxPromise → LeaderState
led n depots best = record { n_leader = n; depots = depots; max_promise = best }

led-same : (n n' : Ballot) (d d' : List Depot) (m m' : MaxPromise) → n ≡ n' → d ≡ d' → m ≡ m' → led n d m ≡ led n' d' m'
led-same n n' d d' m m' e f g = rw (e, f, g)

abbrev led_by : List ℕ → Ballot
led_by b = ballot_of (word b 0) (word b 1) (word b 2)

leader-back : (r : Record) → Kept r → leader_in (record_words r) ≡ r.leader_state
unfolding leader_in record_blocks
leader-back r h =
    let l = r.leader_state in
    led-same (led_by (block_at 2 (record_words r))) l.n_leader (places_in (record_words r)) l.depots (best_in (block_at 3 (record_words r))) l.max_promise
    (ap led_by (at_block r 2 h (omega arith)) ∙ ballot-back l.n_leader h.lead.0)
    (places-back r h)
    (ap best_in (at_block r 3 h (omega arith)) ∙ best-back l.max_promise h.best)

with-same : (b b' e e' : List ℕ) (l l' : LeaderState) (a a' : Option AcceptedAt) (c c' : Option CachedPromise) → b ≡ b' → e ≡ e' → l ≡ l' → a ≡ a' → c ≡ c' → record_with b e l a c ≡ record_with b' e' l' a' c'
with-same b b' e e' l l' a a' c c' p q s t u = rw (p, q, s, t, u)

-- block 0 with the other parts is the record
with-back : (r : Record) → NarrowStanding r.internal_storage → record_with (standing_words r.internal_storage r.state r.outgoing r.current_seq_num r.buffered_proposals.len) r.buffered_proposals.entries r.leader_state r.latest_accepted_meta r.cached_promise_message ≡ r
unfolding record_with
with-back r h =
    rw (ballot-back r.internal_storage.promise h.0, ballot-back r.internal_storage.accepted_round h.1, role-back r.state.role, phase-back r.state.phase)

record-back : (r : Record) → Kept r → record_of (record_words r) ≡ r
unfolding record_of record_blocks
record-back r h =
    let w = record_words r in
    with-same (block_at 0 w) (standing_words r.internal_storage r.state r.outgoing r.current_seq_num r.buffered_proposals.len) (block_at 1 w) r.buffered_proposals.entries (leader_in w) r.leader_state (accepted_in (block_at 2 w)) r.latest_accepted_meta (cached_in (block_at 4 w)) r.cached_promise_message
    (at_block r 0 h (omega arith))
    (at_block r 1 h (omega arith))
    (leader-back r h)
    (ap accepted_in (at_block r 2 h (omega arith)) ∙ lead-back r.leader_state.n_leader r.latest_accepted_meta h.lead)
    (ap cached_in (at_block r 4 h (omega arith)) ∙ message-back r.cached_promise_message h.cached)
    ∙ with-back r h.standing

words-mean : (r : Record) → Kept r → no_record (record_words r) ≡ false
unfolding no_record
words-mean r h =
    none (λ i. above_most (record_most i) (block_at i (record_words r))) record_count (λ i l. ap (above_most (record_most i)) (at_block r i h l) ∙ block-fits r i h l)

-- the words of a record mean that record
pub back : (r : Record) → Kept r → record_in (record_words r) ≡ r
unfolding record_in
back r h = rw (words-mean r h) (record-back r h)
