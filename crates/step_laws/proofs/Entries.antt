-- Along every step the entries that are kept or sent come from where entries are fit: the log, the entries given, the buffered proposals, the two sync buffers.
use Rattle.std.specs.Prelude.{Option, None, Some}
use Prim.Native.Nat.{ℕ, ◌+◌, ◌-◌, ◌≤◌, ◌<◌}
use mathlib.Core.Path.{◌≡◌, refl, ap, sym, subst, ◌∙◌}
use mathlib.Core.Logic.{◌⊎◌, inl, inr}
use mathlib.Core.Bool.{Bool, true, false, cond}
use mathlib.Core.List.{List}
use native.Mathlib.Omega.{arith}
use lib.Dec.{leb, ltb}
use lib.ListN.{length}
use borrow.Author.Tests.{ltb-false}
use Rattle.base.specs.Limits.{max_log, largest}
use Rattle.ballot.specs.declared.Ballot.{Ballot}
use Rattle.quorum.specs.declared.Configuration.{Configuration}
use Rattle.leader_state.specs.declared.LogSync.{LogSync}
use Rattle.leader_state.specs.declared.Depot as place
use Rattle.leader_state.specs.declared.MaxPromise.{MaxPromise}
use Rattle.leader_state.specs.declared.PromiseMetaData.{PromiseMetaData}
use Rattle.leader_state.specs.State.{with_of, next_counter}
use Rattle.leader_state.specs.Promises.{beats_best}
use Rattle.messages.specs.declared.Event.{Event}
use Rattle.paxos_box.specs.declared.SequencePaxos.{SequencePaxos}
use Rattle.paxos_box.specs.declared.Send.{Send}
use Rattle.paxos_box.specs.declared.Sends.{Sends}
use Rattle.paxos_box.specs.declared.Source.{Source}
use Rattle.paxos_box.specs.declared.Source.TheVariants as source
use Rattle.paxos_box.specs.declared.Writes.{Writes}
use Rattle.paxos_box.specs.declared.LogOp.{LogOp}
use Rattle.paxos_box.specs.declared.CachedPromise.{CachedPromise}
use Rattle.paxos_box.specs.Box.{at_top, with_leader, push_of, set_buffered, set_cached, set_meta, next_place}
use Rattle.sends.specs.Sends.{the_depot, on_depot, log_length, suffix_length, next_seq_num_of, set_latest_of, send_prepare, push_acc_sync, join_to, push_accept_decide, new_accept_decide, push_decide, send_prepare_req}
use Rattle.log_plan.specs.Log.{sync_end, sync_log, append_given, kept_of, append_buffered, buffer_given}
use Rattle.leader.specs.Leader.{own_promise, own_meta, keep_sync}
use Rattle.accepting.specs.Accepting.{send_accepted}
use Rattle.follower.specs.Follower.{count_of, log_source, cached_source, kept_sync, promise_of, send_promise, cache_promise}
use Rattle.broken.specs.Broken.{sync_in}
use Rattle.refusals.proofs.Taken.{Depot, Fit}
use Rattle.decide_laws.proofs.Grown.{either}
use Rattle.step_laws.proofs.Moves.{Brought, Holds, Tells, Closed}
use Rattle.step_laws.proofs.Plan.{pushed, Items, items-pushed, items-none}

-- entries that join the buffered proposals are those given
abbrev pub BufferFit : List ℕ → Option ℕ → Type 0
BufferFit entries None = Unit {0}
BufferFit entries (Some n) = (n ≡ length entries) × Fit entries (length entries)

-- the best promise's sync: none, the one found, or the one given, whose entries are written
pub data Best (e : Event) (entries : List ℕ) (found sync : Option LogSync) (op : Option ℕ) : Type 0 where
  none : sync ≡ None → Best e entries found sync op
  kept : sync ≡ found → op ≡ None → Best e entries found sync op
  given : (x : LogSync) → sync ≡ Some x → op ≡ Some x.len → Brought e entries x → sync_end x ≤ max_log → Best e entries found sync op

-- the cached promise's sync: none, the one found, or a part of the log, which is as it stays, since something is sent; its entries are written then alone
pub data Cache (k a : ℕ) (found m : Option CachedPromise) (op : Option LogSync) : Type 0 where
  none : sync_in m ≡ None → op ≡ None → Cache k a found m op
  kept : m ≡ found → op ≡ None → Cache k a found m op
  told : (x : LogSync) → 0 < k → sync_in m ≡ Some x → op ≡ Some x → Tells a (Some x) → Cache k a found m op

-- where the entries of a planned message come from
abbrev pub SourceOf : List ℕ → SequencePaxos → ℕ → Option LogSync → Source → ℕ → Type 0
SourceOf entries found a op source.Nothing n = Unit {0}
SourceOf entries found a op (source.Log from) n = (from + n ≤ a) ⊎ (n ≡ 0)
SourceOf entries found a op source.Given n = Fit entries (length entries)
SourceOf entries found a op source.Buffered n = n ≤ found.buffered_proposals
SourceOf entries found a op source.Cached n = (op ≡ None) × (n ≤ count_of (sync_in found.cached_promise_message))

abbrev pub SourceFit : List ℕ → SequencePaxos → ℕ → Option LogSync → Send → Type 0
SourceFit entries found a op m = SourceOf entries found a op m.source m.count

pub record Stocks (c : Configuration) (e : Event) (entries : List ℕ) (found : SequencePaxos) (k : ℕ) (cfg : Configuration) (x : Sends) (w : Writes) (a : ℕ) (m : Option CachedPromise) (sync : Option LogSync) : Type 0 where
  pub config : cfg ≡ c
  pub things : x.count ≤ k
  pub buffer : BufferFit entries w.buffer
  pub best : Best e entries found.leader_state.max_promise.sync sync w.best
  pub cached : Cache k a found.cached_promise_message m w.cached
  pub items : Items (SourceFit entries found a w.cached) x

abbrev pub Stocked : Configuration → Event → List ℕ → SequencePaxos → ℕ → SequencePaxos → Type 0
Stocked c e entries found k s =
    Stocks c e entries found k s.config s.plan.sends s.plan.writes (log_length s) s.cached_promise_message s.leader_state.max_promise.sync

cache-more : (k n a : ℕ) (found m : Option CachedPromise) (op : Option LogSync) → k ≤ n → Cache k a found m op → Cache n a found m op
cache-more k n a found m op h (none q r) = none q r
cache-more k n a found m op h (kept q r) = kept q r
cache-more k n a found m op h (told x z q r t) = told x (omega arith) q r t

-- where nothing is sent yet, the log may still change
cache-any : (a b : ℕ) (found m : Option CachedPromise) (op : Option LogSync) → Cache 0 a found m op → Cache 0 b found m op
cache-any a b found m op (none q r) = none q r
cache-any a b found m op (kept q r) = kept q r
cache-any a b found m op (told x z q r t) = absurd (omega arith)

pub unsaid : (a : ℕ) (found m : Option CachedPromise) (op : Option LogSync) → Cache 0 a found m op → op ≡ None
unsaid a found m op (none q r) = r
unsaid a found m op (kept q r) = r
unsaid a found m op (told x z q r t) = absurd (omega arith)

-- the log from a place on
pub suffix-in : (len from : ℕ) → (from + suffix_length len from ≤ len) ⊎ (suffix_length len from ≡ 0)
unfolding suffix_length
suffix-in len from =
    either (λ (n : ℕ). (from + n ≤ len) ⊎ (n ≡ 0)) (ltb len from) 0 (len - from) (λ t. inr refl) (λ t. let b = ltb-false len from t in inl (omega arith))

module _ (c : Configuration) (e : Event) (entries : List ℕ) (found : SequencePaxos) where
  raise : (k n : ℕ) (s : SequencePaxos) → k ≤ n → Stocked c e entries found k s → Stocked c e entries found n s
  raise k n s h p = record { config = p.config; things = omega (arith, p.things); buffer = p.buffer; best = p.best; cached = cache-more k n _ _ _ _ h p.cached; items = p.items }

  push : (m : Send) (k : ℕ) (s : SequencePaxos) → k < 8 → SourceFit entries found (log_length s) s.plan.writes.cached m → Stocked c e entries found k s → Stocked c e entries found (k + 1) (push_of m s)
  push m k s h f p =
      pushed (Stocked c e entries found (k + 1)) m s (omega (arith, p.things))
      (record { config = p.config; things = omega (arith, p.things); buffer = p.buffer; best = p.best; cached = cache-more k (k + 1) _ _ _ _ (omega arith) p.cached; items = items-pushed (SourceFit entries found (log_length s) s.plan.writes.cached) m s.plan.sends (omega (arith, p.things)) f p.items })

  -- another log, where nothing is sent yet
  logged : (op : LogOp) (stays dropped a : ℕ) (s : SequencePaxos) → Stocked c e entries found 0 s → Stocks c e entries found 0 s.config s.plan.sends (record { log = op; buffered = stays; dropped = dropped; cached = s.plan.writes.cached; best = s.plan.writes.best; buffer = s.plan.writes.buffer }) a s.cached_promise_message s.leader_state.max_promise.sync
  logged op stays dropped a s p =
      record { config = p.config; things = p.things; buffer = p.buffer; best = p.best; cached = cache-any (log_length s) a _ _ _ p.cached; items = items-none _ _ s.plan.sends p.things p.items }

  waiting : (s : SequencePaxos) → Fit entries (length entries) → Stocked c e entries found 0 s → Stocked c e entries found 0 (buffer_given (length entries) s)
  unfolding buffer_given
  waiting s f p = record { config = p.config; things = p.things; buffer = (refl, f); best = p.best; cached = p.cached; items = p.items }

  -- the best promise's sync
  bested : (k : ℕ) (y : Option LogSync) (s : SequencePaxos) → Best e entries found.leader_state.max_promise.sync y s.plan.writes.best → Stocked c e entries found k s → Stocks c e entries found k s.config s.plan.sends s.plan.writes (log_length s) s.cached_promise_message y
  bested k y s b p = record { config = p.config; things = p.things; buffer = p.buffer; best = b; cached = p.cached; items = p.items }

  own-kept : (s : SequencePaxos) → Stocked c e entries found 0 s → Stocked c e entries found 0 (own_promise s)
  unfolding own_promise
  own-kept s p =
      bested 0 _ s
      (either (λ (y : MaxPromise). Best e entries found.leader_state.max_promise.sync y.sync s.plan.writes.best) (beats_best (own_meta s) s.leader_state) (record { meta = own_meta s; sync = None }) s.leader_state.max_promise (λ t. none refl) (λ t. p.best))
      p

  hold : (m : PromiseMetaData) (x : Option LogSync) (b : Bool) (l : List place.Depot) (s : SequencePaxos) → Holds e entries x → Stocked c e entries found 0 s → Stocked c e entries found 0 (keep_sync b x (with_leader (record { n_leader = s.leader_state.n_leader; depots = l; max_promise = cond b (record { meta = m; sync = x }) s.leader_state.max_promise }) s))
  hold m (Some x) true l s h p = record { config = p.config; things = p.things; buffer = p.buffer; best = given x refl refl h.0 h.1; cached = p.cached; items = p.items }
  hold m None true l s h p = record { config = p.config; things = p.things; buffer = p.buffer; best = none refl; cached = p.cached; items = p.items }
  hold m x false l s h p = p

  -- the cached promise: forgotten; or told, a part of the log
  forget : (s : SequencePaxos) → Stocked c e entries found 0 s → Stocked c e entries found 0 (set_cached None s)
  forget s p = record { config = p.config; things = p.things; buffer = p.buffer; best = p.best; cached = none refl (unsaid _ _ _ _ p.cached); items = p.items }

  tell : (to : ℕ) (x : Option LogSync) (s : SequencePaxos) → Tells (log_length s) x → Stocked c e entries found 0 s → Stocked c e entries found 1 (send_promise to (promise_of x s) (log_source x) (cache_promise x s))
  unfolding cache_promise
  tell to x s t p =
      pushed (Stocked c e entries found 1) _ (cache_promise x s) (omega (arith, p.things))
      (record { config = p.config; things = omega (arith, p.things); buffer = p.buffer; best = p.best; cached = by x t; items = items-pushed (SourceFit entries found (log_length s) (kept_sync x)) _ s.plan.sends (omega (arith, p.things)) (from x t) (items-none _ _ s.plan.sends p.things p.items) })
    where
      by : (x : Option LogSync) → Tells (log_length s) x → Cache 1 (log_length s) found.cached_promise_message (Some (promise_of x s)) (kept_sync x)
      by (Some y) t = told y (omega arith) refl refl t
      by None t = none refl refl

      from : (x : Option LogSync) → Tells (log_length s) x → SourceOf entries found (log_length s) (kept_sync x) (log_source x) (count_of x)
      from (Some y) t = rw t.0 (suffix-in (log_length s) y.sync_idx)
      from None t = tt

  again : (p : CachedPromise) (m : Option CachedPromise) (a : ℕ) (op : Option LogSync) → m ≡ Some p → op ≡ None → Cache 0 a found.cached_promise_message m op → SourceOf entries found a op (cached_source p.sync) (count_of p.sync)
  again p m a op h o (none q r) = by p.sync (ap sync_in (sym h) ∙ q)
    where
      by : (y : Option LogSync) → y ≡ None → SourceOf entries found a op (cached_source y) (count_of y)
      by y r = subst (λ (z : Option LogSync). SourceOf entries found a op (cached_source z) (count_of z)) (sym r) tt
  again p m a op h o (kept q r) = by p.sync (ap (λ (z : Option CachedPromise). count_of (sync_in z)) (sym h ∙ q))
    where
      by : (y : Option LogSync) → count_of y ≡ count_of (sync_in found.cached_promise_message) → SourceOf entries found a op (cached_source y) (count_of y)
      by (Some y) n = (o, omega (arith, n))
      by None n = tt
  again p m a op h o (told x z q r t) = absurd (omega arith)

  accepts : (k from count to : ℕ) (s : SequencePaxos) → k < 8 → from + count ≤ log_length s → Stocked c e entries found k s → Stocked c e entries found (k + 1) (new_accept_decide from count to s)
  unfolding new_accept_decide push_accept_decide next_seq_num_of
  accepts k from count to s h l p =
      let t = set_latest_of to (Some (next_place s)) s in
      either (λ (r : SequencePaxos). Stocked c e entries found (k + 1) (push_accept_decide from count to r)) (leb largest (the_depot to t).seq_num.counter) (at_top t) (on_depot to next_counter t)
      (λ a. push _ k (at_top t) h (inl l) p)
      (λ a. push _ k (on_depot to next_counter t) h (inl l) p)

  anew : (n : Ballot) (s : SequencePaxos) → Stocked c e entries found 0 s → Stocked c e entries found 0 (with_leader (with_of n s.config.depots s.leader_state) s)
  unfolding with_of
  anew n s p = bested 0 None s (none refl) p

  pub entries-closed : Closed c e entries found (Stocked c e entries found)
  unfolding sync_log append_given append_buffered send_prepare send_prepare_req push_acc_sync join_to push_decide send_accepted
  entries-closed =
      record {
        more = raise;
        config = λ k s p. p.config;
        not-fit = λ k s p. p;
        at_top = λ k s p. p;
        follow = λ k f s p. p;
        lead = λ k s l p. p;
        lead-on = λ k s l p. p;
        number = λ k q s p. p;
        promises = λ k n s r p. p;
        decides = λ k idx s z l h p. p;
        leads-anew = λ n s r l p. anew n s p;
        promises-itself = own-kept;
        keeps = λ m s d r p. p;
        keeps-held = λ m x s d r h u p. hold m x (beats_best m s.leader_state) _ s h p;
        keeps-put = λ m x s d r p. bested 0 None s (none refl) p;
        changes-place = λ k to f s d m p. p;
        puts_none = λ n d s u r h p. logged _ _ _ (log_length s) s p;
        puts-given = λ n d b x s u r g f h p. logged _ _ _ (sync_end x) s p;
        puts-held = λ n d b x s u r g f h p. logged _ _ _ (sync_end x) s p;
        appends = λ s u f p. logged _ _ _ (log_length s + length entries) s p;
        joins-buffered = λ s z n b p. logged _ _ _ (log_length s + kept_of s.buffered_proposals (log_length s)) s p;
        buffers = λ s u b f p. waiting s f p;
        forgets-cached = forget;
        sends-prepare = λ k to s h p. push _ k s h tt p;
        sends-request = λ k to s h p. push _ k s h tt p;
        sends-sync = λ k from to s h p. push _ k s h (suffix-in (log_length s) from) p;
        sends-entries = λ k from count to s h d l p. accepts k from count to s h l p;
        sends-join = λ k from count to at s h l p. push _ k s h (inl l) p;
        sends-decide = λ k to s h p. push _ k s h tt p;
        tells-promise = λ to x s w d u p. tell to x s w p;
        tells-again = λ to m s h u p. push _ 0 s (omega arith) (again m s.cached_promise_message (log_length s) s.plan.writes.cached h u.cached p.cached) p;
        tells-higher = λ k n s h p. push _ k s h tt p;
        sends-accepted = λ k n idx to s h r p. push _ k (set_meta (Some (record { n = n; at = next_place s })) s) h tt p;
        raises-accepted = λ k n at idx s h p. push _ k s h tt p;
        forwards = λ k s h f p. push _ k s h f p;
        forwards-buffered = λ k s h n b p. push _ k (set_buffered 0 s) h (omega (arith, b)) p;
      }
