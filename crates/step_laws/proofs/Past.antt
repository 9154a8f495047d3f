-- Along every step the places past the depots are as found.
use Rattle.std.specs.Prelude.{Option, Some}
use Prim.Native.Nat.{ℕ, ◌≤◌}
use mathlib.Core.Path.{◌≡◌, refl, ap, sym, subst, ◌∙◌}
use mathlib.Core.Bool.{Bool, true, false}
use mathlib.Core.List.{List}
use native.Mathlib.Omega.{arith}
use lib.Dec.{leb}
use lib.ListN.{length, get_or}
use Rattle.base.specs.Limits.{largest}
use Rattle.ballot.specs.Ballot.{default}
use Rattle.leader_state.specs.declared.LogSync.{LogSync}
use Rattle.ballot.specs.declared.Ballot.{Ballot}
use Rattle.quorum.specs.declared.Configuration.{Configuration}
use Rattle.leader_state.specs.declared.Depot as place
use Rattle.leader_state.specs.declared.PromiseState.TheVariants.{Promised}
use Rattle.leader_state.specs.State.{fresh, with_of, with_depot, set_promise_state, set_latest, next_counter}
use Rattle.leader_state.specs.Promises.{beats_best}
use Rattle.leader_state.proofs.Past.{one_place, new-leader, forgotten}
use Rattle.messages.specs.declared.Event.{Event}
use Rattle.messages.specs.declared.Event.TheVariants as event
use Rattle.paxos_box.specs.declared.SequencePaxos.{SequencePaxos}
use Rattle.paxos_box.specs.declared.Send.{Send}
use Rattle.paxos_box.specs.Box.{at_top, push_of, set_buffered, set_meta, next_place}
use Rattle.sends.specs.Sends.{the_depot, on_depot, next_seq_num_of, set_latest_of, send_prepare, push_acc_sync, join_to, push_accept_decide, new_accept_decide, push_decide, send_prepare_req}
use Rattle.log_plan.specs.Log.{sync_log, append_given, append_buffered, buffer_given}
use Rattle.leader.specs.Leader.{keep_promise, own_promise, own_meta, keep_sync}
use Rattle.accepting.specs.Accepting.{send_accepted}
use Rattle.follower.specs.Follower.{cache_promise}
use Rattle.outcome.specs.Outcome.{drained, restarted}
use Rattle.sequence_paxos.specs.Decide.{taken}
use Rattle.refusals.proofs.Taken.{Depot, Taken}
use Rattle.step.specs.Step.{World, box_of}
use Rattle.decide_laws.proofs.Grown.{either}
use Rattle.step_laws.proofs.Moves.{Closed}
use Rattle.step_laws.proofs.Events.{Queues, along-event}
use Rattle.step_laws.proofs.Fits.{found, as-found}

-- what stands past the depots in both
abbrev pub AsFound : Configuration → List place.Depot → List place.Depot → Type 0
AsFound c l r = (i : ℕ) → c.depots ≤ i → get_or r i fresh ≡ get_or l i fresh

pub record PastOf (c : Configuration) (l : List place.Depot) (cfg : Configuration) (r : List place.Depot) : Type 0 where
  pub config : cfg ≡ c
  pub same : AsFound c l r

abbrev pub Past : Configuration → List place.Depot → ℕ → SequencePaxos → Type 0
Past c l k s = PastOf c l s.config s.leader_state.depots

module _ (c : Configuration) (e : Event) (entries : List ℕ) (f : SequencePaxos) (l : List place.Depot) where
  -- one depot's place changed
  change : (k to : ℕ) (g : place.Depot → place.Depot) (s : SequencePaxos) → Depot c to → Past c l k s → PastOf c l s.config (with_depot to g s.leader_state).depots
  change k to g s d p = record { config = p.config; same = λ i h. one_place c.depots to g s.leader_state d.0 d.1 i h ∙ p.same i h }

  anew : (k : ℕ) (n : Ballot) (s : SequencePaxos) → Past c l k s → PastOf c l s.config (with_of n s.config.depots s.leader_state).depots
  anew k n s p =
      record { config = p.config; same = λ i h. let q : s.config.depots ≡ c.depots = ap (λ (x : Configuration). x.depots) p.config in new-leader s.config.depots n s.leader_state i (omega arith) ∙ p.same i h }

  push : (m : Send) (s : SequencePaxos) → Past c l 0 s → Past c l 0 (push_of m s)
  unfolding push_of
  push m s p = p

  kept : (b : Bool) (x : Option LogSync) (s : SequencePaxos) → Past c l 0 s → Past c l 0 (keep_sync b x s)
  kept true x s p = p
  kept false x s p = p

  accepts : (from count to : ℕ) (s : SequencePaxos) → Depot c to → Past c l 0 s → Past c l 0 (new_accept_decide from count to s)
  unfolding new_accept_decide push_accept_decide next_seq_num_of push_of
  accepts from count to s d p =
      let t = set_latest_of to (Some (next_place s)) s in
      let q = change 0 to (set_latest (Some (next_place s))) s d p in
      either (λ (r : SequencePaxos). Past c l 0 (push_accept_decide from count to r)) (leb largest (the_depot to t).seq_num.counter) (at_top t) (on_depot to next_counter t)
      (λ a. q)
      (λ a. change 0 to next_counter t d q)

  own : (s : SequencePaxos) → Depot c c.pid → Past c l 0 s → Past c l 0 (own_promise s)
  unfolding own_promise
  own s d p = change 0 s.config.pid (set_promise_state (Promised (own_meta s))) s (subst (λ (x : Configuration). Depot c x.pid) (sym p.config) d) p

  pub past-closed : Depot c c.pid → Closed c e entries f (Past c l)
  unfolding sync_log append_given append_buffered buffer_given cache_promise send_prepare send_prepare_req push_acc_sync join_to push_decide send_accepted
  past-closed z =
      record {
        more = λ k n s h p. p;
        config = λ k s p. p.config;
        not-fit = λ k s p. p;
        at_top = λ k s p. p;
        follow = λ k f s p. p;
        lead = λ k s l p. p;
        lead-on = λ k s l p. p;
        number = λ k q s p. p;
        promises = λ k n s r p. p;
        decides = λ k idx s z l h p. p;
        leads-anew = λ n s r l p. anew 0 n s p;
        promises-itself = λ s p. own s z p;
        keeps = λ m s d r p. change 0 m.pid (set_promise_state (Promised m)) s d p;
        keeps-held = λ m x s d r h u p. kept (beats_best m s.leader_state) x (keep_promise m x true s) (change 0 m.pid (set_promise_state (Promised m)) s d p);
        keeps-put = λ m x s d r p. change 0 m.pid (set_promise_state (Promised m)) s d p;
        changes-place = λ k to g s d m p. change k to g s d p;
        puts_none = λ n d s u r h p. p;
        puts-given = λ n d b x s u r g f h p. p;
        puts-held = λ n d b x s u r g f h p. p;
        appends = λ s u f p. p;
        joins-buffered = λ s z n b p. p;
        buffers = λ s u b f p. p;
        forgets-cached = λ s p. p;
        sends-prepare = λ k to s h p. push _ s p;
        sends-request = λ k to s h p. push _ s p;
        sends-sync = λ k from to s h p. push _ s p;
        sends-entries = λ k from count to s h d l p. accepts from count to s d p;
        sends-join = λ k from count to at s h l p. push _ s p;
        sends-decide = λ k to s h p. push _ s p;
        tells-promise = λ to x s w d u p. push _ (cache_promise x s) p;
        tells-again = λ to m s h u p. push _ s p;
        tells-higher = λ k n s h p. push _ s p;
        sends-accepted = λ k n idx to s h r p. push _ (set_meta (Some (record { n = n; at = next_place s })) s) p;
        raises-accepted = λ k n at idx s h p. push _ s p;
        forwards = λ k s h f p. push _ s p;
        forwards-buffered = λ k s h n b p. push _ (set_buffered 0 s) p;
      }

past-drained : (c : Configuration) (s : SequencePaxos) → s.config ≡ c → AsFound c s.leader_state.depots (drained s).leader_state.depots
unfolding drained
past-drained c s p i h = let q : s.config.depots ≡ c.depots = ap (λ (x : Configuration). x.depots) p in forgotten s.config.depots s.leader_state i (omega arith)

past-restarted : (c : Configuration) (s : SequencePaxos) → s.config ≡ c → AsFound c s.leader_state.depots (restarted s).leader_state.depots
unfolding restarted
past-restarted c s p i h = let q : s.config.depots ≡ c.depots = ap (λ (x : Configuration). x.depots) p in new-leader s.config.depots default s.leader_state i (omega arith)

pub past-taken : (c : Configuration) (e : Event) (entries : List ℕ) (w : World) → Taken c w.node w.row w.lists e entries → AsFound c w.node.leader_state.depots (taken e (length entries) (found c e entries w)).leader_state.depots
unfolding box_of
past-taken c e entries w t = by e t
  where
    queued : (e : Event) → Queues e → Taken c w.node w.row w.lists e entries → AsFound c w.node.leader_state.depots (taken e (length entries) (found c e entries w)).leader_state.depots
    queued e q t =
        let a = as-found c e entries w t in
        (along-event c entries (found c e entries w) (Past c w.node.leader_state.depots) a (record { config = refl; same = λ i h. refl }) e (past-closed c e entries (found c e entries w) w.node.leader_state.depots a.own) q t.event).same

    by : (e : Event) → Taken c w.node w.row w.lists e entries → AsFound c w.node.leader_state.depots (taken e (length entries) (found c e entries w)).leader_state.depots
    by (event.Message m) t = queued (event.Message m) tt t
    by event.Propose t = queued event.Propose tt t
    by (event.Leader n) t = queued (event.Leader n) tt t
    by (event.Reconnect pid) t = queued (event.Reconnect pid) tt t
    by event.Resend t = queued event.Resend tt t
    by event.Drain t = past-drained c (found c event.Drain entries w) refl
    by event.Restart t = past-restarted c (found c event.Restart entries w) refl
