-- What the types of a machine say of a record: rounds and priorities are of 32 bits, there are sixteen cells for buffered proposals and seven places.
use Rattle.std.specs.Prelude.{ℕ, ◌<◌, ◌≡◌, length, get_or, Option}
use Rattle.base.specs.Limits.{max_depots, max_buffered}
use Rattle.paxos_box.specs.declared.AcceptedAt.{AcceptedAt}
use Rattle.paxos_box.specs.declared.CachedPromise.{CachedPromise}
use Rattle.ballot.specs.declared.Ballot.{Ballot}
use Rattle.leader_state.specs.State.{fresh}
use Rattle.leader_state.specs.declared.Depot.{Depot}
use Rattle.leader_state.specs.declared.LeaderState.{LeaderState}
use Rattle.leader_state.specs.declared.MaxPromise.{MaxPromise}
use Rattle.paxos_box.specs.declared.InternalStorage.{InternalStorage}
use Rattle.record.specs.declared.Record.{Record}
use Rattle.blocks.specs.Blocks.{Narrow}
use Rattle.tags.specs.Tags.{promise_meta}
use Rattle.layout_record.specs.Words.{accepted_at, cached_promise}

abbrev pub NarrowStanding : InternalStorage → Type 0
NarrowStanding s = Narrow s.promise × Narrow s.accepted_round

abbrev pub NarrowLead : Ballot → Option AcceptedAt → Type 0
NarrowLead n meta = Narrow n × Narrow (accepted_at meta).n

abbrev pub NarrowBest : MaxPromise → Type 0
NarrowBest best = Narrow best.meta.n_accepted

abbrev pub NarrowCached : Option CachedPromise → Type 0
NarrowCached m = Narrow (cached_promise m).n × Narrow (cached_promise m).n_accepted

abbrev pub NarrowPlace : Depot → Type 0
NarrowPlace d = Narrow (promise_meta d.promise).n_accepted

abbrev pub PlacesKept : LeaderState → Type 0
PlacesKept l =
    (length l.depots ≡ max_depots) × ((k : ℕ) → k < max_depots → NarrowPlace (get_or l.depots k fresh))

pub record Kept (r : Record) : Type 0 where
  pub cells : length r.buffered_proposals.entries ≡ max_buffered
  pub standing : NarrowStanding r.internal_storage
  pub lead : NarrowLead r.leader_state.n_leader r.latest_accepted_meta
  pub best : NarrowBest r.leader_state.max_promise
  pub cached : NarrowCached r.cached_promise_message
  pub places : PlacesKept r.leader_state
