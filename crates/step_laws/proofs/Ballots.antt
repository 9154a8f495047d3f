-- Along every step each ballot that is kept or sent is the default or a depot's, a Leader's is its own, and each promise is kept at its pid's place.
use Rattle.std.specs.Prelude.{Option, None, Some}
use Prim.Native.Nat.{ℕ, ◌+◌, ◌-◌, ◌≤◌, ◌<◌}
use mathlib.Core.Path.{◌≡◌, refl, ap, sym, subst}
use mathlib.Core.Logic.{◌⊎◌, inl, inr}
use mathlib.Core.Bool.{Bool, true, false, cond}
use mathlib.Core.List.{List}
use native.Mathlib.Omega.{arith}
use lib.Dec.{leb}
use lib.ListN.{get_or, set}
use Rattle.base.specs.Limits.{largest}
use Rattle.ballot.specs.Ballot.{default, is_default}
use Rattle.paxos_box.specs.declared.AcceptedAt.{AcceptedAt}
use Rattle.leader_state.specs.declared.LogSync.{LogSync}
use Rattle.ballot.specs.declared.Ballot.{Ballot}
use Rattle.quorum.specs.declared.Configuration.{Configuration}
use Rattle.leader_state.specs.declared.Depot as place
use Rattle.leader_state.specs.declared.MaxPromise.{MaxPromise}
use Rattle.leader_state.specs.declared.PromiseMetaData.{PromiseMetaData}
use Rattle.leader_state.specs.declared.PromiseState.{PromiseState}
use Rattle.leader_state.specs.declared.PromiseState.TheVariants.{NotPromised, Promised, PromisedHigher}
use Rattle.leader_state.specs.State.{fresh, depot_of, with_of, next_counter}
use Rattle.leader_state.specs.Promises.{is_promised, beats_best}
use Rattle.messages.specs.declared.Event.{Event}
use Rattle.paxos_box.specs.declared.SequencePaxos.{SequencePaxos}
use Rattle.paxos_box.specs.declared.Role.{Role}
use Rattle.paxos_box.specs.declared.Role.TheVariants as role
use Rattle.paxos_box.specs.declared.Send.{Send}
use Rattle.paxos_box.specs.declared.Sends.{Sends}
use Rattle.paxos_box.specs.declared.Sent.{Sent}
use Rattle.paxos_box.specs.declared.Sent.TheVariants.{New, Join, Raise}
use Rattle.paxos_box.specs.declared.CachedPromise.{CachedPromise}
use Rattle.paxos_box.specs.Box.{at_top, with_leader, push_of, set_buffered, set_meta, next_place, is_leader}
use Rattle.sends.specs.Sends.{the_depot, on_depot, next_seq_num_of, set_latest_of, send_prepare, push_acc_sync, join_to, push_accept_decide, new_accept_decide, push_decide, send_prepare_req}
use Rattle.log_plan.specs.Log.{sync_log, append_given, append_buffered, buffer_given}
use Rattle.leader.specs.Leader.{keep_promise, own_promise, keep_sync, own_meta}
use Rattle.accepting.specs.Accepting.{send_accepted}
use Rattle.follower.specs.Follower.{promise_of, cache_promise}
use Rattle.refusals.proofs.Taken.{Depot, Known, Real, PromiseFit, CachedFit, BallotsKnown}
use Rattle.decide_laws.proofs.Grown.{either}
use Rattle.step_laws.proofs.Moves.{Mild, Closed}
use Rattle.step_laws.proofs.Sends.{mild-counter}
use Rattle.step_laws.proofs.Plan.{pushed, Items, items-pushed, set-place, first-place}

-- the ballots of a new message, and that of the remembered Accepted
abbrev pub WhatKnown : Configuration → Sent → Type 0
WhatKnown c (New x) = BallotsKnown c x
WhatKnown c (Join j) = Unit {0}
WhatKnown c (Raise r) = Unit {0}

abbrev pub SentKnown : Configuration → Send → Type 0
SentKnown c m = WhatKnown c m.what

abbrev pub MetaKnown : Configuration → Option AcceptedAt → Type 0
MetaKnown c None = Unit {0}
MetaKnown c (Some a) = Known c a.n

pub record Names (c : Configuration) (k : ℕ) (cfg : Configuration) (r : Role) (promise round leads : Ballot) (best : PromiseMetaData) (l : List place.Depot) (m : Option CachedPromise) (a : Option AcceptedAt) (x : Sends) : Type 0 where
  pub config : cfg ≡ c
  pub things : x.count ≤ k
  pub promise-known : Known c promise
  pub round-known : Known c round
  pub leads-known : Known c leads
  pub best-known : Known c best.n_accepted
  pub own : is_leader r ≡ true → leads.pid ≡ c.pid
  pub places : (pid : ℕ) → Depot c pid → PromiseFit c pid (get_or l (pid - 1) fresh).promise
  pub message : CachedFit c m
  pub accepted : MetaKnown c a
  pub items : Items (SentKnown c) x

abbrev pub Named : Configuration → ℕ → SequencePaxos → Type 0
Named c k s =
    Names c k s.config s.state.role s.internal_storage.promise s.internal_storage.accepted_round s.leader_state.n_leader s.leader_state.max_promise.meta s.leader_state.depots s.cached_promise_message s.latest_accepted_meta s.plan.sends

pub default-known : (c : Configuration) → Known c default
unfolding is_default
default-known c d = absurd (let w : ◌≡◌ {A = ℕ} 0 1 = cc in omega arith)

known-real : (c : Configuration) (n : Ballot) → Real c n → Known c n
known-real c n r d = r.1

-- one place written with a promise that is its pid's
places-set : (c : Configuration) (to : ℕ) (v : place.Depot) (l : List place.Depot) → Depot c to → PromiseFit c to v.promise → ((pid : ℕ) → Depot c pid → PromiseFit c pid (get_or l (pid - 1) fresh).promise) → (pid : ℕ) → Depot c pid → PromiseFit c pid (get_or (set l (to - 1) v) (pid - 1) fresh).promise
places-set c to v l h f g pid d =
    set-place (λ (x : place.Depot). PromiseFit c pid x.promise) l (to - 1) (pid - 1) v fresh (λ e. let q : to ≡ pid = omega (arith, h.0, d.0) in subst (λ (n : ℕ). PromiseFit c n v.promise) q f) (g pid d)

module _ (c : Configuration) (e : Event) (entries : List ℕ) (found : SequencePaxos) where
  raise : (k n : ℕ) (s : SequencePaxos) → k ≤ n → Named c k s → Named c n s
  raise k n s h p =
      record { config = p.config; things = omega (arith, p.things); promise-known = p.promise-known; round-known = p.round-known; leads-known = p.leads-known; best-known = p.best-known; own = p.own; places = p.places; message = p.message; accepted = p.accepted; items = p.items }

  push : (m : Send) (k : ℕ) (s : SequencePaxos) → k < 8 → SentKnown c m → Named c k s → Named c (k + 1) (push_of m s)
  push m k s h w p =
      pushed (Named c (k + 1)) m s (omega (arith, p.things))
      (record { config = p.config; things = omega (arith, p.things); promise-known = p.promise-known; round-known = p.round-known; leads-known = p.leads-known; best-known = p.best-known; own = p.own; places = p.places; message = p.message; accepted = p.accepted; items = items-pushed (SentKnown c) m s.plan.sends (omega (arith, p.things)) w p.items })

  -- another role; another promise; another accepted round
  as-role : (k : ℕ) (r : Role) (s : SequencePaxos) → (is_leader r ≡ true → s.leader_state.n_leader.pid ≡ c.pid) → Named c k s → Names c k s.config r s.internal_storage.promise s.internal_storage.accepted_round s.leader_state.n_leader s.leader_state.max_promise.meta s.leader_state.depots s.cached_promise_message s.latest_accepted_meta s.plan.sends
  as-role k r s h p =
      record { config = p.config; things = p.things; promise-known = p.promise-known; round-known = p.round-known; leads-known = p.leads-known; best-known = p.best-known; own = h; places = p.places; message = p.message; accepted = p.accepted; items = p.items }

  stored : (k : ℕ) (n round : Ballot) (s : SequencePaxos) → Known c n → Known c round → Named c k s → Names c k s.config s.state.role n round s.leader_state.n_leader s.leader_state.max_promise.meta s.leader_state.depots s.cached_promise_message s.latest_accepted_meta s.plan.sends
  stored k n round s h g p =
      record { config = p.config; things = p.things; promise-known = h; round-known = g; leads-known = p.leads-known; best-known = p.best-known; own = p.own; places = p.places; message = p.message; accepted = p.accepted; items = p.items }

  told : (k : ℕ) (m : Option CachedPromise) (a : Option AcceptedAt) (s : SequencePaxos) → CachedFit c m → MetaKnown c a → Named c k s → Names c k s.config s.state.role s.internal_storage.promise s.internal_storage.accepted_round s.leader_state.n_leader s.leader_state.max_promise.meta s.leader_state.depots m a s.plan.sends
  told k m a s h g p =
      record { config = p.config; things = p.things; promise-known = p.promise-known; round-known = p.round-known; leads-known = p.leads-known; best-known = p.best-known; own = p.own; places = p.places; message = h; accepted = g; items = p.items }

  -- another place, another best
  placed : (k : ℕ) (best : PromiseMetaData) (l : List place.Depot) (s : SequencePaxos) → Known c best.n_accepted → ((pid : ℕ) → Depot c pid → PromiseFit c pid (get_or l (pid - 1) fresh).promise) → Named c k s → Names c k s.config s.state.role s.internal_storage.promise s.internal_storage.accepted_round s.leader_state.n_leader best l s.cached_promise_message s.latest_accepted_meta s.plan.sends
  placed k best l s h g p =
      record { config = p.config; things = p.things; promise-known = p.promise-known; round-known = p.round-known; leads-known = p.leads-known; best-known = h; own = p.own; places = g; message = p.message; accepted = p.accepted; items = p.items }

  change : (k to : ℕ) (f : place.Depot → place.Depot) (s : SequencePaxos) → Depot c to → Mild f → Named c k s → Named c k (on_depot to f s)
  change k to f s d m p =
      placed k s.leader_state.max_promise.meta _ s p.best-known (places-set c to (f (depot_of to s.leader_state)) s.leader_state.depots d (by (f (depot_of to s.leader_state)).promise (m.promise (depot_of to s.leader_state))) p.places) p
    where
      by : (v : PromiseState) → (v ≡ (depot_of to s.leader_state).promise) ⊎ (is_promised v ≡ false) → PromiseFit c to v
      by v (inl q) = subst (PromiseFit c to) (sym q) (p.places to d)
      by NotPromised (inr q) = tt
      by PromisedHigher (inr q) = tt
      by (Promised x) (inr q) = absurd (let w : ◌≡◌ {A = ℕ} 0 1 = cc in omega arith)

  -- a promise kept, and the best after it
  keep : (k : ℕ) (m : PromiseMetaData) (x : Option LogSync) (b : Bool) (s : SequencePaxos) → Depot c m.pid → Known c m.n_accepted → Named c k s → Named c k (keep_promise m x b s)
  keep k m x b s d r p =
      placed k _ _ s (best b) (places-set c m.pid _ s.leader_state.depots d (refl, r) p.places) p
    where
      best : (b : Bool) → Known c (cond b (cond (beats_best m s.leader_state) (record { meta = m; sync = x }) s.leader_state.max_promise) s.leader_state.max_promise).meta.n_accepted
      best true = either (λ (y : MaxPromise). Known c y.meta.n_accepted) (beats_best m s.leader_state) (record { meta = m; sync = x }) s.leader_state.max_promise (λ a. r) (λ a. p.best-known)
      best false = p.best-known

  own-kept : (s : SequencePaxos) → Depot c c.pid → Named c 0 s → Named c 0 (own_promise s)
  unfolding own_promise
  own-kept s d p = keep 0 (own_meta s) None true s (subst (λ (x : Configuration). Depot c x.pid) (sym p.config) d) p.round-known p

  kept : (k : ℕ) (b : Bool) (x : Option LogSync) (s : SequencePaxos) → Named c k s → Named c k (keep_sync b x s)
  kept k true x s p = p
  kept k false x s p = p

  anew : (n : Ballot) (s : SequencePaxos) → Real c n → n.pid ≡ c.pid → Named c 0 s → Named c 0 (with_leader (with_of n s.config.depots s.leader_state) s)
  unfolding with_of
  anew n s r q p =
      record {
        config = p.config;
        things = p.things;
        promise-known = p.promise-known;
        round-known = p.round-known;
        leads-known = known-real c n r;
        best-known = default-known c;
        own = λ l. q;
        places = λ pid d. let g : s.config.depots ≡ c.depots = ap (λ (x : Configuration). x.depots) p.config in first-place (λ (x : place.Depot). PromiseFit c pid x.promise) s.config.depots (λ x. fresh) s.leader_state.depots (pid - 1) fresh (omega (arith, d.0, d.1)) tt tt;
        message = p.message;
        accepted = p.accepted;
        items = p.items;
      }

  accepts : (k from count to : ℕ) (s : SequencePaxos) → k < 8 → Depot c to → Named c k s → Named c (k + 1) (new_accept_decide from count to s)
  unfolding new_accept_decide push_accept_decide next_seq_num_of
  accepts k from count to s h d p =
      let t = set_latest_of to (Some (next_place s)) s in
      let q : Named c k t = placed k s.leader_state.max_promise.meta _ s p.best-known (places-set c to _ s.leader_state.depots d (p.places to d) p.places) p in
      either (λ (r : SequencePaxos). Named c (k + 1) (push_accept_decide from count to r)) (leb largest (the_depot to t).seq_num.counter) (at_top t) (on_depot to next_counter t)
      (λ a. push _ k (at_top t) h p.leads-known q)
      (λ a. push _ k (on_depot to next_counter t) h p.leads-known (change k to next_counter t d mild-counter q))

  tell : (to : ℕ) (x : Option LogSync) (s : SequencePaxos) → is_default s.internal_storage.promise ≡ false → Named c 0 s → Named c 0 (cache_promise x s)
  unfolding cache_promise
  tell to x s d p = told 0 (Some (promise_of x s)) s.latest_accepted_meta s ((d, p.promise-known d), p.round-known) p.accepted p

  held-known : (p : CachedPromise) (m : Option CachedPromise) → m ≡ Some p → CachedFit c m → Known c p.n × Known c p.n_accepted
  held-known p m h f = let g : CachedFit c (Some p) = subst (CachedFit c) h f in (known-real c p.n g.0, g.1)

  accepted-sent : (k : ℕ) (n : Ballot) (idx to : ℕ) (s : SequencePaxos) → k < 8 → Real c n → Named c k s → Named c (k + 1) (send_accepted n idx to s)
  unfolding send_accepted
  accepted-sent k n idx to s h r p =
      let a = Some (record { n = n; at = next_place s }) in
      push _ k (set_meta a s) h (known-real c n r) (told k s.cached_promise_message a s p.message (known-real c n r) p)

  pub ballots-closed : Depot c c.pid → Closed c e entries found (Named c)
  unfolding sync_log append_given append_buffered buffer_given send_prepare send_prepare_req push_acc_sync join_to push_decide cache_promise
  ballots-closed z =
      record {
        more = raise;
        config = λ k s p. p.config;
        not-fit = λ k s p. p;
        at_top = λ k s p. p;
        follow = λ k f s p. as-role k role.Follower s (λ l. absurd (let w : ◌≡◌ {A = ℕ} 0 1 = cc in omega arith)) p;
        lead = λ k s l p. as-role k role.Leader s (λ x. l) p;
        lead-on = λ k s l p. as-role k role.Leader s (λ x. p.own l) p;
        number = λ k q s p. p;
        promises = λ k n s r p. stored k n s.internal_storage.accepted_round s (known-real c n r) p.round-known p;
        decides = λ k idx s z l h p. p;
        leads-anew = λ n s r l p. anew n s r l p;
        promises-itself = λ s p. own-kept s z p;
        keeps = λ m s d r p. keep 0 m None false s d r p;
        keeps-held = λ m x s d r h u p. kept 0 (beats_best m s.leader_state) x (keep_promise m x true s) (keep 0 m x true s d r p);
        keeps-put = λ m x s d r p. keep 0 m x true s d r p;
        changes-place = change;
        puts_none = λ n d s u r h p. stored 0 s.internal_storage.promise n s p.promise-known (known-real c n r) p;
        puts-given = λ n d b x s u r g f h p. stored 0 s.internal_storage.promise n s p.promise-known (known-real c n r) p;
        puts-held = λ n d b x s u r g f h p. stored 0 s.internal_storage.promise n s p.promise-known (known-real c n r) p;
        appends = λ s u f p. p;
        joins-buffered = λ s z n b p. p;
        buffers = λ s u b f p. p;
        forgets-cached = λ s p. told 0 None s.latest_accepted_meta s tt p.accepted p;
        sends-prepare = λ k to s h p. push _ k s h (p.leads-known, p.round-known) p;
        sends-request = λ k to s h p. push _ k s h p.promise-known p;
        sends-sync = λ k from to s h p. push _ k s h p.leads-known p;
        sends-entries = λ k from count to s h d l p. accepts k from count to s h d p;
        sends-join = λ k from count to at s h l p. push _ k s h tt p;
        sends-decide = λ k to s h p. push _ k s h p.leads-known p;
        tells-promise = λ to x s w d u p. push _ 0 (cache_promise x s) (omega arith) (p.promise-known, p.round-known) (tell to x s d p);
        tells-again = λ to m s h u p. push _ 0 s (omega arith) (held-known m s.cached_promise_message h p.message) p;
        tells-higher = λ k n s h p. push _ k s h p.promise-known p;
        sends-accepted = accepted-sent;
        raises-accepted = λ k n at idx s h p. push _ k s h tt p;
        forwards = λ k s h f p. push _ k s h tt p;
        forwards-buffered = λ k s h n b p. push _ k (set_buffered 0 s) h tt p;
      }
