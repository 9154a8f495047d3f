-- Depots that differ in nothing that is in use are seen as the same lists, but for the places past the depots, and make deciding boxes that differ only there.
use Rattle.std.specs.Prelude.{Option, None, Some}
use Prim.Native.Nat.{ℕ, zero, suc, ◌+◌, ◌-◌, ◌<◌}
use mathlib.Core.Path.{◌≡◌, refl, sym, ap, ◌∙◌}
use mathlib.Core.Bool.{Bool, true, false, cond}
use mathlib.Core.List.{List}
use native.Mathlib.Omega.{arith}
use lib.Dec.{ltb}
use lib.ListN.{length, take, drop, length-map}
use lib.Seq.{length-take-le}
use borrow.Author.Tests.{ltb-true}
use Rattle.base.specs.Limits.{max_depots, max_log}
use Rattle.base.specs.Lists.{tabulate}
use Rattle.leader_state.specs.declared.LogSync.{LogSync}
use Rattle.ballot.specs.declared.Ballot.{Ballot}
use Rattle.sequence.specs.declared.SequenceNumber.{SequenceNumber}
use Rattle.quorum.specs.declared.Configuration.{Configuration}
use Rattle.leader_state.specs.declared.Depot as place
use Rattle.leader_state.specs.declared.LeaderState.{LeaderState}
use Rattle.leader_state.specs.declared.MaxPromise.{MaxPromise}
use Rattle.leader_state.specs.State.{fresh, depot_of}
use Rattle.leader_state.specs.Places.{marks}
use Rattle.messages.specs.declared.Event.{Event}
use Rattle.paxos_box.specs.declared.SequencePaxos.{SequencePaxos}
use Rattle.paxos_box.specs.declared.InternalStorage.{InternalStorage}
use Rattle.paxos_box.specs.declared.State.{State}
use Rattle.paxos_box.specs.declared.AcceptedAt.{AcceptedAt}
use Rattle.paxos_box.specs.declared.CachedPromise.{CachedPromise}
use Rattle.paxos_box.specs.declared.Sight.{Sight}
use Rattle.follower.specs.Follower.{count_of}
use Rattle.record.specs.declared.Record.{Record}
use Rattle.record.specs.declared.Buffered.{Buffered}
use Rattle.record.specs.Record.{load_of}
use Rattle.sight.specs.Sight.{brought, brought_change}
use Rattle.broken.specs.Broken.{cached_sync, best_sync}
use Rattle.outgoing.specs.Queue.{Msg, msg_of, queue_of, entries_in}
use Rattle.refusals.proofs.Taken.{SyncFit, Lengths, Whole}
use Rattle.step.specs.Step.{World}
use Rattle.step_laws.proofs.After.{Shape}
use Rattle.views.specs.View.{View, view_of, numbers_of, held_entries, Counted, accdec_there, accepted_there, held_first, sight_view, box_view, perform_view, new_log, new_buffered, cached_list, new_cached, new_best, new_queue}
use Rattle.unread_laws.specs.InUse.{past_in, past_box, used_node, InUse, in_use, Alike}
use Rattle.unread_laws.proofs.Mix.{mix-get, mix-same}

-- a view with other places past the depots
abbrev pub past_node : ℕ → List place.Depot → Record → Record
past_node n z r =
    record {
      internal_storage = r.internal_storage;
      state = r.state;
      buffered_proposals = r.buffered_proposals;
      outgoing = r.outgoing;
      leader_state = past_in n z r.leader_state;
      latest_accepted_meta = r.latest_accepted_meta;
      current_seq_num = r.current_seq_num;
      cached_promise_message = r.cached_promise_message;
    }

abbrev pub past_view : ℕ → List place.Depot → View → View
past_view n z x = record { node = past_node n z x.node; log = x.log; buffered = x.buffered; cached = x.cached; best = x.best; queue = x.queue }

same-leader : {n m : Ballot} {a b : List place.Depot} {x y : MaxPromise} → n ≡ m → a ≡ b → x ≡ y → ◌≡◌ {A = LeaderState} (record { n_leader = n; depots = a; max_promise = x }) (record { n_leader = m; depots = b; max_promise = y })
same-leader p q r = rw (p, q, r)

same-record :
    {s s' : InternalStorage} {a a' : State} {b b' : Buffered} {o o' : ℕ} {l l' : LeaderState} {m m' : Option AcceptedAt} {q q' : SequenceNumber} {h h' : Option CachedPromise}
    → s ≡ s' → a ≡ a' → b ≡ b' → o ≡ o' → l ≡ l' → m ≡ m' → q ≡ q' → h ≡ h'
    → ◌≡◌ {A = Record}
    (record { internal_storage = s; state = a; buffered_proposals = b; outgoing = o; leader_state = l; latest_accepted_meta = m; current_seq_num = q; cached_promise_message = h })
    (record { internal_storage = s'; state = a'; buffered_proposals = b'; outgoing = o'; leader_state = l'; latest_accepted_meta = m'; current_seq_num = q'; cached_promise_message = h' })
same-record s a b o l m q h = rw (s, a, b, o, l, m, q, h)

-- the places that a depot has past those of the configuration
abbrev pub past_of : Configuration → World → List place.Depot
past_of c v = drop c.depots v.node.leader_state.depots

module _ (c : Configuration) (w v : World) (a : Alike c w v) where
  node : used_node c w.node ≡ used_node c v.node
  unfolding in_use
  node = ap (λ (u : InUse). u.node) a

  leader-viewed : v.node.leader_state ≡ past_in c.depots (past_of c v) w.node.leader_state
  leader-viewed =
      same-leader
      (sym (ap (λ (r : Record). r.leader_state.n_leader) node))
      (mix-same c.depots w.node.leader_state.depots v.node.leader_state.depots (ap (λ (r : Record). r.leader_state.depots) node))
      (sym (ap (λ (r : Record). r.leader_state.max_promise) node))

  node-viewed : numbers_of v.node ≡ past_node c.depots (past_of c v) (numbers_of w.node)
  node-viewed =
      same-record
      (sym (ap (λ (r : Record). r.internal_storage) node))
      (sym (ap (λ (r : Record). r.state) node))
      (sym (ap (λ (r : Record). r.buffered_proposals) node))
      (sym (ap (λ (r : Record). r.outgoing) node))
      leader-viewed
      (sym (ap (λ (r : Record). r.latest_accepted_meta) node))
      (sym (ap (λ (r : Record). r.current_seq_num) node))
      (sym (ap (λ (r : Record). r.cached_promise_message) node))

  pub view-alike : view_of v ≡ past_view c.depots (past_of c v) (view_of w)
  unfolding view_of in_use
  view-alike =
      same_view node-viewed
      (sym (ap (λ (u : InUse). u.log) a))
      (sym (ap (λ (u : InUse). u.buffered) a))
      (sym (ap (λ (u : InUse). u.cached) a))
      (sym (ap (λ (u : InUse). u.best) a))
      (sym (ap (λ (u : InUse). u.queue) a))
    where
      same_view : {r r' : Record} {a b d f a' b' d' f' : List ℕ} {q q' : List Msg} → r ≡ r' → a ≡ a' → b ≡ b' → d ≡ d' → f ≡ f' → q ≡ q' → ◌≡◌ {A = View} (record { node = r; log = a; buffered = b; cached = d; best = f; queue = q }) (record { node = r'; log = a'; buffered = b'; cached = d'; best = f'; queue = q' })
      same_view r a b d f q = rw (r, a, b, d, f, q)

-- marks of tests that answer alike for the depots
tabulate-same : (n : ℕ) (f g : ℕ → Bool) → ((i : ℕ) → i < n → f i ≡ g i) → tabulate n f ≡ tabulate n g
unfolding tabulate
tabulate-same zero f g h = refl
tabulate-same (suc n) f g h = rw (tabulate-same n f g (λ i l. h i (omega arith)), h n (omega arith))

marks-same : (n : ℕ) (f g : ℕ → Bool) → ((i : ℕ) → i < n → f (i + 1) ≡ g (i + 1)) → marks n f ≡ marks n g
marks-same n f g h = tabulate-same max_depots _ _ (λ i l. by (ltb i n) i refl)
  where
    by : (t : Bool) (i : ℕ) → ltb i n ≡ t → cond t (f (i + 1)) false ≡ cond t (g (i + 1)) false
    by true i e = h i (ltb-true i n e)
    by false i e = refl

-- the deciding box
module _ (c : Configuration) (e : Event) (entries : List ℕ) (z : List place.Depot) (x : View) where
  sight-alike : sight_view c e entries (past_view c.depots z x) ≡ sight_view c e entries x
  unfolding sight_view
  sight-alike =
      ap sighted
      (marks-same c.depots (λ pid. accdec_there x.queue (depot_of pid (past_in c.depots z x.node.leader_state)).latest) (λ pid. accdec_there x.queue (depot_of pid x.node.leader_state).latest)
      (λ i l. let k : (i + 1) - 1 < c.depots = omega arith in ap (λ (d : place.Depot). accdec_there x.queue d.latest) (mix-get c.depots x.node.leader_state.depots z ((i + 1) - 1) fresh k)))
    where
      sighted : List Bool → Sight
      sighted m =
          record {
            accdec = m;
            accepted = accepted_there x.queue x.node.latest_accepted_meta;
            held_change = held_first (best_sync x.node) x.log x.best;
            brought_change = brought_change (brought e) x.log (length x.log) entries;
          }

  pub box-alike : box_view c e entries (past_view c.depots z x) ≡ past_box c.depots z (box_view c e entries x)
  unfolding box_view
  box-alike = ap (λ (y : Sight). load_of c (length (entries_in x.queue)) y (past_node c.depots z x.node)) sight-alike

-- what a plan does to views that differ only past the depots
pub performed-alike : (e : Event) (entries : List ℕ) (n : ℕ) (z : List place.Depot) (s : SequencePaxos) (x : View) → perform_view e entries (past_box n z s) (past_view n z x) ≡ past_view n z (perform_view e entries s x)
unfolding perform_view new_log new_buffered cached_list new_cached new_best new_queue
performed-alike e entries n z s x = refl

-- the lists of an unbroken record are as long as it counts
held-counted : (x : Option LogSync) (l : List ℕ) → length l ≡ max_log → SyncFit x l → length (held_entries x l) ≡ count_of x
held-counted None l e h = refl
held-counted (Some x) l e h = length-take-le x.len l (omega (arith, e, h.0))

pub counted-whole : (c : Configuration) (w : World) → Shape w.node w.row → Lengths w.lists → Whole c w.node w.row w.lists → Counted (view_of w)
unfolding view_of queue_of
counted-whole c w s l h =
    record {
      log = length-take-le w.node.internal_storage.accepted_idx w.lists.log (omega (arith, l.log, h.ends));
      buffered = length-take-le w.node.buffered_proposals.len w.node.buffered_proposals.entries (omega (arith, s.buffered, h.buffer));
      cached = held-counted (cached_sync w.node) w.lists.cached l.cached h.cached;
      best = held-counted (best_sync w.node) w.lists.best l.best h.best;
      queue = length-map (take w.node.outgoing w.row.heads) (msg_of w.lists.store) ∙ length-take-le w.node.outgoing w.row.heads (omega (arith, s.heads, h.queue));
    }
