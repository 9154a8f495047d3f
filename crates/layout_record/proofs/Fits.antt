-- No word of a machine's record is above its most.
use Rattle.std.specs.Prelude.{Option}
use Prim.Native.Nat.{ℕ, zero, suc, ◌≤◌, ◌<◌}
use mathlib.Core.Path.{◌≡◌, refl}
use mathlib.Core.Bool.{false}
use mathlib.Core.List.{List, [], map}
use native.Mathlib.Omega.{arith}
use lib.Dec.{ltb}
use lib.ListN.{get_or}
use borrow.Author.Tests.{le-ltb, ne_eqb}
use Rattle.hire_book.specs.Below.{any_below}
use Rattle.paxos_box.specs.declared.AcceptedAt.{AcceptedAt}
use Rattle.paxos_box.specs.declared.CachedPromise.{CachedPromise}
use Rattle.ballot.specs.declared.Ballot.{Ballot}
use Rattle.sequence.specs.declared.SequenceNumber.{SequenceNumber}
use Rattle.leader_state.specs.State.{fresh}
use Rattle.leader_state.specs.declared.Depot.{Depot}
use Rattle.leader_state.specs.declared.MaxPromise.{MaxPromise}
use Rattle.leader_state.specs.declared.PromiseState.{PromiseState}
use Rattle.leader_state.specs.declared.PromiseState.TheVariants.{NotPromised, Promised, PromisedHigher}
use Rattle.paxos_box.specs.declared.InternalStorage.{InternalStorage}
use Rattle.paxos_box.specs.declared.State.{State}
use Rattle.paxos_box.specs.declared.Role.{Role}
use Rattle.paxos_box.specs.declared.Role.TheVariants as role
use Rattle.paxos_box.specs.declared.Phase.{Phase}
use Rattle.paxos_box.specs.declared.Phase.TheVariants as phase
use Rattle.record.specs.declared.Record.{Record}
use Rattle.blocks.specs.Blocks.{over_most, above_most, most32}
use Rattle.tags.proofs.Back.{option-low}
use Rattle.tags.specs.Tags.{promise_tag, promise_meta, role_tag, phase_tag}
use Rattle.layout_record.specs.Words.{record_count, accepted_at, cached_promise, standing_words, lead_words, best_words, cached_words, place_words, record_blocks}
use Rattle.layout_record.specs.Kept.{NarrowStanding, NarrowLead, NarrowBest, NarrowCached, NarrowPlace, Kept}
use Rattle.layout_record.specs.Reading.{record_most, place_most}
use Rattle.blocks.proofs.Mapped.{getD-mapped}
use Rattle.base.specs.Limits.{max_depots}

-- tags are low

promise-low : (p : PromiseState) → ltb 2 (promise_tag p) ≡ false
promise-low NotPromised = refl
promise-low (Promised m) = refl
promise-low PromisedHigher = refl

role-low : (r : Role) → ltb 1 (role_tag r) ≡ false
role-low role.Follower = refl
role-low role.Leader = refl

phase-low : (p : Phase) → ltb 3 (phase_tag p) ≡ false
phase-low phase.Prepare = refl
phase-low phase.Accept = refl
phase-low phase.Recover = refl
phase-low phase.None = refl

-- each block

standing-fits : (s : InternalStorage) (state : State) (outgoing : ℕ) (q : SequenceNumber) (buffered : ℕ) → NarrowStanding s → above_most (record_most 0) (standing_words s state outgoing q buffered) ≡ false
unfolding above_most any_below over_most record_most
standing-fits s state outgoing q buffered h =
    rw (le-ltb most32 s.promise.n h.0.0, le-ltb most32 s.promise.priority h.0.1, le-ltb most32 s.accepted_round.n h.1.0, le-ltb most32 s.accepted_round.priority h.1.1, role-low state.role, phase-low state.phase)

lead-fits : (n : Ballot) (m : Option AcceptedAt) → NarrowLead n m → above_most (record_most 2) (lead_words n m) ≡ false
unfolding above_most any_below over_most record_most
lead-fits n m h =
    rw (le-ltb most32 n.n h.0.0, le-ltb most32 n.priority h.0.1, option-low m, le-ltb most32 (accepted_at m).n.n h.1.0, le-ltb most32 (accepted_at m).n.priority h.1.1)

best-fits : (b : MaxPromise) → NarrowBest b → above_most (record_most 3) (best_words b) ≡ false
unfolding above_most any_below over_most record_most
best-fits b h =
    rw (le-ltb most32 b.meta.n_accepted.n h.0, le-ltb most32 b.meta.n_accepted.priority h.1, option-low b.sync)

cached-fits : (m : Option CachedPromise) → NarrowCached m → above_most (record_most 4) (cached_words m) ≡ false
unfolding above_most any_below over_most record_most
cached-fits m h =
    rw (option-low m, le-ltb most32 (cached_promise m).n.n h.0.0, le-ltb most32 (cached_promise m).n.priority h.0.1, le-ltb most32 (cached_promise m).n_accepted.n h.1.0, le-ltb most32 (cached_promise m).n_accepted.priority h.1.1, option-low (cached_promise m).sync)

cells_fit : (b : List ℕ) → above_most (record_most 1) b ≡ false
unfolding above_most any_below over_most record_most
cells_fit b = refl

most-place : (i : ℕ) → 5 ≤ i → record_most i ≡ place_most
unfolding record_most
most-place i h =
    rw (ne_eqb i 0 (λ e. omega (arith, e)), ne_eqb i 1 (λ e. omega (arith, e)), ne_eqb i 2 (λ e. omega (arith, e)), ne_eqb i 3 (λ e. omega (arith, e)), ne_eqb i 4 (λ e. omega (arith, e)))

place-fits : (d : Depot) → NarrowPlace d → above_most place_most (place_words d) ≡ false
unfolding above_most any_below over_most
place-fits d h =
    rw (promise-low d.promise, le-ltb most32 (promise_meta d.promise).n_accepted.n h.0, le-ltb most32 (promise_meta d.promise).n_accepted.priority h.1, option-low d.latest)

place_at : (r : Record) (k : ℕ) → Kept r → k < max_depots → above_most (record_most (suc (suc (suc (suc (suc k)))))) (get_or (map place_words r.leader_state.depots) k []) ≡ false
place_at r k h l =
    rw (getD-mapped place_words r.leader_state.depots k [] fresh (omega (arith, h.places.0)), most-place (suc (suc (suc (suc (suc k))))) (omega arith))
    (place-fits (get_or r.leader_state.depots k fresh) (h.places.1 k l))

-- every block
pub block-fits : (r : Record) (i : ℕ) → Kept r → i < record_count → above_most (record_most i) (get_or (record_blocks r) i []) ≡ false
unfolding record_blocks
block-fits r zero h l =
    standing-fits r.internal_storage r.state r.outgoing r.current_seq_num r.buffered_proposals.len h.standing
block-fits r (suc zero) h l = cells_fit r.buffered_proposals.entries
block-fits r (suc (suc zero)) h l = lead-fits r.leader_state.n_leader r.latest_accepted_meta h.lead
block-fits r (suc (suc (suc zero))) h l = best-fits r.leader_state.max_promise h.best
block-fits r (suc (suc (suc (suc zero)))) h l = cached-fits r.cached_promise_message h.cached
block-fits r (suc (suc (suc (suc (suc k))))) h l = place_at r k h (omega arith)
