-- Along every step a remembered position lies below the queue's end, as the step leaves it.
use Rattle.std.specs.Prelude.{Option, None, Some}
use Prim.Native.Nat.{ℕ, ◌+◌, ◌-◌, ◌≤◌, ◌<◌}
use mathlib.Core.Path.{◌≡◌, ap, sym, subst}
use mathlib.Core.Logic.{◌⊎◌, inl, inr}
use mathlib.Core.Bool.{Bool, true, false}
use mathlib.Core.List.{List}
use native.Mathlib.Omega.{arith}
use lib.Dec.{leb}
use lib.ListN.{get_or, set}
use Rattle.base.specs.Limits.{largest}
use Rattle.paxos_box.specs.declared.AcceptedAt.{AcceptedAt}
use Rattle.leader_state.specs.declared.LogSync.{LogSync}
use Rattle.ballot.specs.declared.Ballot.{Ballot}
use Rattle.quorum.specs.declared.Configuration.{Configuration}
use Rattle.leader_state.specs.declared.Depot as place
use Rattle.leader_state.specs.declared.PromiseState.{PromiseState}
use Rattle.leader_state.specs.declared.PromiseState.TheVariants.{Promised}
use Rattle.leader_state.specs.State.{fresh, depot_of, with_of, set_promise_state, set_latest, next_counter}
use Rattle.leader_state.specs.Promises.{beats_best}
use Rattle.messages.specs.declared.Event.{Event}
use Rattle.paxos_box.specs.declared.SequencePaxos.{SequencePaxos}
use Rattle.paxos_box.specs.declared.Sends.{Sends}
use Rattle.paxos_box.specs.declared.Send.{Send}
use Rattle.paxos_box.specs.declared.Outgoing.{Outgoing}
use Rattle.paxos_box.specs.Box.{at_top, with_leader, push_of, set_buffered, set_meta, next_place, is_new}
use Rattle.sends.specs.Sends.{the_depot, on_depot, next_seq_num_of, set_latest_of, send_prepare, push_acc_sync, join_to, push_accept_decide, new_accept_decide, push_decide, send_prepare_req}
use Rattle.log_plan.specs.Log.{sync_log, append_given, append_buffered, buffer_given}
use Rattle.leader.specs.Leader.{keep_promise, own_promise, keep_sync}
use Rattle.accepting.specs.Accepting.{send_accepted}
use Rattle.follower.specs.Follower.{cache_promise}
use Rattle.refusals.proofs.Taken.{Depot, LatestBelow}
use Rattle.decide_laws.proofs.Grown.{either}
use Rattle.step_laws.proofs.Moves.{Mild, Closed}
use Rattle.step_laws.proofs.Plan.{pushed, set-place, first-place}

abbrev pub MetaBelow : ℕ → Option AcceptedAt → Type 0
MetaBelow n None = Unit {0}
MetaBelow n (Some a) = a.at < n

-- the positions remembered at the depots' places, and that of the Accepted, lie below n
pub record Below (c : Configuration) (n : ℕ) (l : List place.Depot) (m : Option AcceptedAt) : Type 0 where
  pub places : (pid : ℕ) → Depot c pid → LatestBelow n (get_or l (pid - 1) fresh).latest
  pub accepted : MetaBelow n m

pub record Positions (c : Configuration) (k : ℕ) (cfg : Configuration) (o : Outgoing) (x : Sends) (l : List place.Depot) (m : Option AcceptedAt) : Type 0 where
  pub config : cfg ≡ c
  pub things : x.count ≤ k
  pub below : Below c (o.len + x.messages) l m

abbrev pub Positioned : Configuration → ℕ → SequencePaxos → Type 0
Positioned c k s = Positions c k s.config s.outgoing s.plan.sends s.leader_state.depots s.latest_accepted_meta

latest-more : (m n : ℕ) (l : Option ℕ) → m ≤ n → LatestBelow m l → LatestBelow n l
latest-more m n None h b = tt
latest-more m n (Some at) h b = omega arith

meta-more : (m n : ℕ) (a : Option AcceptedAt) → m ≤ n → MetaBelow m a → MetaBelow n a
meta-more m n None h b = tt
meta-more m n (Some a) h b = omega arith

pub below_more : (c : Configuration) (m n : ℕ) (l : List place.Depot) (a : Option AcceptedAt) → m ≤ n → Below c m l a → Below c n l a
below_more c m n l a h b = record { places = λ pid d. latest-more m n (get_or l (pid - 1) fresh).latest h (b.places pid d); accepted = meta-more m n a h b.accepted }

-- one place written with a position that lies below
below_set : (c : Configuration) (n i : ℕ) (v : place.Depot) (l : List place.Depot) (a : Option AcceptedAt) → LatestBelow n v.latest → Below c n l a → Below c n (set l i v) a
below_set c n i v l a h b =
    record { places = λ pid d. set-place (λ (x : place.Depot). LatestBelow n x.latest) l i (pid - 1) v fresh (λ e. h) (b.places pid d); accepted = b.accepted }

module _ (c : Configuration) (e : Event) (entries : List ℕ) (found : SequencePaxos) where
  raise : (k n : ℕ) (s : SequencePaxos) → k ≤ n → Positioned c k s → Positioned c n s
  raise k n s h p = record { config = p.config; things = omega (arith, p.things); below = p.below }

  -- one thing more is sent: the queue's end rises where it is a new message
  send : (m : Send) (k : ℕ) (s : SequencePaxos) → k < 8 → s.config ≡ c → s.plan.sends.count ≤ k → Below c ((s.outgoing.len + s.plan.sends.messages) + is_new m.what) s.leader_state.depots s.latest_accepted_meta → Positioned c (k + 1) (push_of m s)
  send m k s h g t b =
      pushed (Positioned c (k + 1)) m s (omega arith)
      (record { config = g; things = omega arith; below = below_more c _ _ s.leader_state.depots s.latest_accepted_meta (omega arith) b })

  push : (m : Send) (k : ℕ) (s : SequencePaxos) → k < 8 → Positioned c k s → Positioned c (k + 1) (push_of m s)
  push m k s h p = send m k s h p.config p.things (below_more c _ _ s.leader_state.depots s.latest_accepted_meta (omega arith) p.below)

  -- a place's promise
  keep : (k pid : ℕ) (v : PromiseState) (s : SequencePaxos) → Depot c pid → Positioned c k s → Positions c k s.config s.outgoing s.plan.sends (set s.leader_state.depots (pid - 1) (set_promise_state v (depot_of pid s.leader_state))) s.latest_accepted_meta
  keep k pid v s d p = record { config = p.config; things = p.things; below = below_set c _ (pid - 1) _ s.leader_state.depots s.latest_accepted_meta (p.below.places pid d) p.below }

  kept : (k : ℕ) (b : Bool) (x : Option LogSync) (s : SequencePaxos) → Positioned c k s → Positioned c k (keep_sync b x s)
  kept k true x s p = p
  kept k false x s p = p

  change : (k to : ℕ) (f : place.Depot → place.Depot) (s : SequencePaxos) → Depot c to → Mild f → Positioned c k s → Positioned c k (on_depot to f s)
  change k to f s d m p =
      record { config = p.config; things = p.things; below = below_set c _ (to - 1) _ s.leader_state.depots s.latest_accepted_meta (by (m.latest (depot_of to s.leader_state))) p.below }
    where
      n : ℕ
      n = s.outgoing.len + s.plan.sends.messages

      by : ((f (depot_of to s.leader_state)).latest ≡ (depot_of to s.leader_state).latest) ⊎ ((f (depot_of to s.leader_state)).latest ≡ None) → LatestBelow n (f (depot_of to s.leader_state)).latest
      by (inl q) = subst (LatestBelow n) (sym q) (p.below.places to d)
      by (inr q) = subst (LatestBelow n) (sym q) tt

  -- a new leader's record remembers nothing
  anew : (n : Ballot) (s : SequencePaxos) → Positioned c 0 s → Positioned c 0 (with_leader (with_of n s.config.depots s.leader_state) s)
  unfolding with_of
  anew n s p =
      record {
        config = p.config;
        things = p.things;
        below = record {
          places = λ pid d. let g : s.config.depots ≡ c.depots = ap (λ (x : Configuration). x.depots) p.config in first-place (λ (x : place.Depot). LatestBelow (s.outgoing.len + s.plan.sends.messages) x.latest) s.config.depots (λ x. fresh) s.leader_state.depots (pid - 1) fresh (omega (arith, d.0, d.1)) tt tt;
          accepted = p.below.accepted;
        };
      }

  -- a new AcceptDecide, remembered where it will stand
  accepts : (k from count to : ℕ) (s : SequencePaxos) → k < 8 → Depot c to → Positioned c k s → Positioned c (k + 1) (new_accept_decide from count to s)
  unfolding new_accept_decide push_accept_decide next_seq_num_of
  accepts k from count to s h d p =
      let t = set_latest_of to (Some (next_place s)) s in
      let n = (s.outgoing.len + s.plan.sends.messages) + 1 in
      let b = below_set c n (to - 1) (set_latest (Some (next_place s)) (depot_of to s.leader_state)) s.leader_state.depots s.latest_accepted_meta (omega arith) (below_more c _ n s.leader_state.depots s.latest_accepted_meta (omega arith) p.below) in
      either (λ (r : SequencePaxos). Positioned c (k + 1) (push_accept_decide from count to r)) (leb largest (the_depot to t).seq_num.counter) (at_top t) (on_depot to next_counter t)
      (λ a. send _ k (at_top t) h p.config p.things b)
      (λ a. send _ k (on_depot to next_counter t) h p.config p.things (below_set c n (to - 1) _ t.leader_state.depots s.latest_accepted_meta (b.places to d) b))

  accepted : (k : ℕ) (n : Ballot) (idx to : ℕ) (s : SequencePaxos) → k < 8 → Positioned c k s → Positioned c (k + 1) (send_accepted n idx to s)
  unfolding send_accepted
  accepted k n idx to s h p =
      send _ k (set_meta (Some (record { n = n; at = next_place s })) s) h p.config p.things
      (record { places = λ pid d. latest-more _ _ (get_or s.leader_state.depots (pid - 1) fresh).latest (omega arith) (p.below.places pid d); accepted = omega arith })

  own : (s : SequencePaxos) → Depot c c.pid → Positioned c 0 s → Positioned c 0 (own_promise s)
  unfolding own_promise
  own s d p = keep 0 s.config.pid _ s (subst (λ (x : Configuration). Depot c x.pid) (sym p.config) d) p

  pub positions-closed : Depot c c.pid → Closed c e entries found (Positioned c)
  unfolding sync_log append_given append_buffered buffer_given cache_promise send_prepare send_prepare_req push_acc_sync join_to push_decide
  positions-closed z =
      record {
        more = raise;
        config = λ k s p. p.config;
        not-fit = λ k s p. p;
        at_top = λ k s p. p;
        follow = λ k f s p. p;
        lead = λ k s l p. p;
        lead-on = λ k s l p. p;
        number = λ k q s p. p;
        promises = λ k n s r p. p;
        decides = λ k idx s z l h p. p;
        leads-anew = λ n s r l p. anew n s p;
        promises-itself = λ s p. own s z p;
        keeps = λ m s d r p. keep 0 m.pid (Promised m) s d p;
        keeps-held = λ m x s d r h u p. kept 0 (beats_best m s.leader_state) x (keep_promise m x true s) (keep 0 m.pid (Promised m) s d p);
        keeps-put = λ m x s d r p. keep 0 m.pid (Promised m) s d p;
        changes-place = change;
        puts_none = λ n d s u r h p. p;
        puts-given = λ n d b x s u r g f h p. p;
        puts-held = λ n d b x s u r g f h p. p;
        appends = λ s u f p. p;
        joins-buffered = λ s z n b p. p;
        buffers = λ s u b f p. p;
        forgets-cached = λ s p. p;
        sends-prepare = λ k to s h p. push _ k s h p;
        sends-request = λ k to s h p. push _ k s h p;
        sends-sync = λ k from to s h p. push _ k s h p;
        sends-entries = λ k from count to s h d l p. accepts k from count to s h d p;
        sends-join = λ k from count to at s h l p. push _ k s h p;
        sends-decide = λ k to s h p. push _ k s h p;
        tells-promise = λ to x s w d u p. push _ 0 (cache_promise x s) (omega arith) p;
        tells-again = λ to m s h u p. push _ 0 s (omega arith) p;
        tells-higher = λ k n s h p. push _ k s h p;
        sends-accepted = λ k n idx to s h r p. accepted k n idx to s h p;
        raises-accepted = λ k n at idx s h p. push _ k s h p;
        forwards = λ k s h f p. push _ k s h p;
        forwards-buffered = λ k s h n b p. push _ k (set_buffered 0 s) h p;
      }
