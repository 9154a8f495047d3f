-- What a follower does with a Prepare, and its resend (follower.rs; docs/RULES.md, R8.1 to R8.4 and R8.12). Each definition takes the box last. Most are named like
-- the function that meets them (handle_prepare: handle_prepare); each contract in src/ cites its own.
use Rattle.std.specs.Prelude.{ℕ, ◌≤◌, cond, ltb, Option, None, Some}
use Rattle.ballot.specs.Ballot.{above, same}
use Rattle.leader_state.specs.declared.LogSync.{LogSync}
use Rattle.ballot.specs.declared.Ballot.{Ballot}
use Rattle.sequence.specs.Sequence.{first}
use Rattle.messages.specs.declared.Prepare.{Prepare}
use Rattle.messages.specs.declared.PaxosMsg.TheVariants as msg
use Rattle.paxos_box.specs.declared.SequencePaxos.{SequencePaxos}
use Rattle.paxos_box.specs.declared.CachedPromise.{CachedPromise}
use Rattle.paxos_box.specs.declared.Source.{Source}
use Rattle.paxos_box.specs.declared.Source.TheVariants as source
use Rattle.paxos_box.specs.declared.Role.TheVariants.{Follower}
use Rattle.paxos_box.specs.declared.Phase.{Phase}
use Rattle.paxos_box.specs.declared.Phase.TheVariants as phase
use Rattle.paxos_box.specs.Box.{with_state, with_writes, set_promised, set_seq, set_cached, cached_op, is_recover}
use Rattle.sends.specs.declared.Each.TheVariants as each
use Rattle.sends.specs.Sends.{log_length, send_new, suffix_length, sync_fits, for_marked, peers_of}
use Rattle.reconnect.specs.Reconnect.{recovering}

-- The log sync that a Promise brings (R8.3): with a higher accepted round all from the leader's decided index on; in the same round, with a longer log, all from
-- the leader's accepted index on; else none
abbrev pub log_from : ℕ → SequencePaxos → Option LogSync
log_from start s = Some (record { sync_idx = start; len = suffix_length (log_length s) start })

unfoldable pub promised_sync : Prepare → SequencePaxos → Option LogSync
promised_sync prep s =
    cond (above s.internal_storage.accepted_round prep.n_accepted) (log_from prep.decided_idx s)
    (cond (same s.internal_storage.accepted_round prep.n_accepted)
    (cond (ltb prep.accepted_idx (log_length s)) (log_from prep.accepted_idx s) None)
    None)

-- a sync's start, in a Promise; its entries, from the log or from the cached promise's buffer; and what is kept of them in that buffer
abbrev pub start_of : Option LogSync → Option ℕ
start_of (Some x) = Some x.sync_idx
start_of None = None

abbrev pub count_of : Option LogSync → ℕ
count_of (Some x) = x.len
count_of None = 0

abbrev pub log_source : Option LogSync → Source
log_source (Some x) = source.Log x.sync_idx
log_source None = source.Nothing

abbrev pub cached_source : Option LogSync → Source
cached_source (Some x) = source.Cached
cached_source None = source.Nothing

abbrev pub kept_sync : Option LogSync → Option LogSync
kept_sync (Some x) = Some x
kept_sync None = None

-- a log sync to be built from past the own log's end is unfit (R2.4.26)
abbrev pub build_fits : Option LogSync → SequencePaxos → SequencePaxos
build_fits (Some x) s = sync_fits x.sync_idx s
build_fits None s = s

-- the promise that is told: what is accepted and decided, with the sync
abbrev pub promise_of : Option LogSync → SequencePaxos → CachedPromise
promise_of x s = record { n = s.internal_storage.promise; n_accepted = s.internal_storage.accepted_round; decided_idx = s.internal_storage.decided_idx; accepted_idx = log_length s; sync = x }

abbrev pub send_promise : ℕ → CachedPromise → Source → SequencePaxos → SequencePaxos
send_promise to p src s =
    send_new to (msg.Promise (record { n = p.n; n_accepted = p.n_accepted; decided_idx = p.decided_idx; accepted_idx = p.accepted_idx; log_sync = start_of p.sync })) src (count_of p.sync) s

-- the promise is cached for a resend, its sync's entries in their buffer, and told
unfoldable pub cache_promise : Option LogSync → SequencePaxos → SequencePaxos
cache_promise x s = with_writes (cached_op (kept_sync x) s.plan.writes) (set_cached (Some (promise_of x s)) s)

unfoldable pub tell_promise : ℕ → Option LogSync → SequencePaxos → SequencePaxos
tell_promise from x s = send_promise from (promise_of x s) (log_source x) (cache_promise x (build_fits x s))

-- Prepare is taken on a higher ballot, or an equal one only in Phase::Recover (R8.1). The promise is raised, the state is (Follower, Prepare), the sequence starts anew
unfoldable pub promise_to : Ballot → SequencePaxos → SequencePaxos
promise_to n s = set_seq first (with_state (record { role = Follower; phase = phase.Prepare }) (set_promised n s))

unfoldable pub prepare_taken : Prepare → ℕ → SequencePaxos → SequencePaxos
prepare_taken prep from s = tell_promise from (promised_sync prep s) (promise_to prep.n s)

unfoldable pub handle_prepare : Prepare → ℕ → SequencePaxos → SequencePaxos
handle_prepare prep from s =
    cond (above prep.n s.internal_storage.promise) (prepare_taken prep from s)
    (cond (same prep.n s.internal_storage.promise) (cond (is_recover s.state.phase) (prepare_taken prep from s) s) s)

-- A Follower's resend (R8.12): in Prepare the cached promise, else PrepareReq to all peers in (Follower, Recover); in Recover PrepareReq to all peers
abbrev pub prepare_reqs : SequencePaxos → SequencePaxos
prepare_reqs s = for_marked (peers_of s.config) each.PrepareReq s.config.depots s

abbrev pub resend_promise : CachedPromise → SequencePaxos → SequencePaxos
resend_promise p s = send_promise p.n.pid p (cached_source p.sync) s

abbrev pub resend_cached : Option CachedPromise → SequencePaxos → SequencePaxos
resend_cached (Some p) s = resend_promise p s
resend_cached None s = prepare_reqs (recovering s)

-- the cached promise's sync has few entries: an unbroken record's has 512 at most
abbrev pub few_cached : Option CachedPromise → Type 0
few_cached (Some p) = count_of p.sync ≤ 1024
few_cached None = Unit {0}

abbrev pub resend_in : Phase → SequencePaxos → SequencePaxos
resend_in phase.Prepare s = resend_cached s.cached_promise_message s
resend_in phase.Recover s = prepare_reqs s
resend_in phase.Accept s = s
resend_in phase.None s = s

unfoldable pub resend_messages_follower : SequencePaxos → SequencePaxos
resend_messages_follower s = resend_in s.state.phase s
