-- A leader event: the own ballot, or another's.
use Rattle.std.specs.Prelude.{None}
use Prim.Native.Nat.{ℕ, ◌+◌, ◌≤◌, ◌<◌}
use mathlib.Core.Path.{◌≡◌, refl, sym, ap, ◌∙◌, subst}
use mathlib.Core.Logic.{◌⊎◌, inl, inr, ◌≢◌}
use mathlib.Core.Bool.{Bool, true, false, cond}
use mathlib.Core.List.{List}
use native.Mathlib.Omega.{arith}
use lib.Dec.{eqb}
use lib.ListN.{length}
use borrow.Author.Tests.{eqb-true}
use Rattle.base.specs.Limits.{max_depots}
use Rattle.base.proofs.Lists.{length-on-first}
use Rattle.ballot.specs.Ballot.{above, default}
use Rattle.ballot.specs.declared.Ballot.{Ballot}
use Rattle.quorum.specs.declared.Quorum.{Quorum}
use Rattle.leader_state.specs.declared.Depot.{Depot}
use Rattle.leader_state.specs.declared.LeaderState.{LeaderState}
use Rattle.leader_state.specs.declared.MaxPromise.{MaxPromise}
use Rattle.leader_state.specs.declared.PromiseMetaData.{PromiseMetaData}
use Rattle.leader_state.specs.declared.PromiseState.TheVariants.{Promised}
use Rattle.leader_state.specs.State.{fresh, no_best, with_depot, with_of, set_promise_state}
use Rattle.leader_state.specs.Promises.{beats, promise_kept}
use Rattle.paxos_box.specs.declared.SequencePaxos.{SequencePaxos}
use Rattle.paxos_box.specs.declared.Sight.{Sight}
use Rattle.paxos_box.specs.declared.Role.TheVariants.{Leader}
use Rattle.paxos_box.specs.declared.Phase.TheVariants as phase
use Rattle.paxos_box.specs.Box.{with_state}
use Rattle.record.specs.Record.{load_of}
use Rattle.sends.specs.Sends.{peers_of}
use Rattle.leader.specs.Leader.{new_leader, own_promise, become_leader, become_follower, handle_leader}
use Rattle.views.specs.View.{View, held_entries, Counted}
use Rattle.decide_laws.proofs.Grown.{either}
use Rattle.agreement.specs.Order.{Below}
use Rattle.agreement.specs.Core.{Sizes, Ghost}
use Rattle.agreement.proofs.Order.{within-nothing}
use Rattle.agreement.proofs.Update.{depot-eq}
use Rattle.travels.specs.Face.{place, takes_in}
use Rattle.travels.specs.Near.{Scene, Well, Next}
use Rattle.travels.proofs.Moves.{stay}
use Rattle.travels.proofs.Reply.{t-stands-down}
use Rattle.travels.proofs.Elect.{Elects, elected_to, t-elected}
use Rattle.travels.proofs.Note.{no-promise, promised-is}
use Rattle.travels.proofs.Open.{Puts}
use Rattle.faces.specs.Mid.{face_of, mid_face, Ready}
use Rattle.faces.proofs.Push.{found-ready, face-found}
use Rattle.faces.proofs.Sends.{each-prepare, found-well}
use Rattle.faces.proofs.Places.{puts_of, fresh-place, beats-not}

module _ (quo : Quorum) (q₀ : ℕ) (sight : Sight) (es : List ℕ) (v : View) (cnt : Counted v) {z : Sizes} {P : ℕ → Type 0} {b : ℕ} {c : Scene} {g : Ghost ℕ} (few : z.depots ≤ max_depots) (bl : b < z.depots) (w : Well z P b c g (face_of v)) where
  abbrev s : SequencePaxos
  s = load_of (record { depots = z.depots; pid = b + 1; quorum = quo }) q₀ sight v.node

  found : Well z P b c g (mid_face es v s)
  found = found-well (record { depots = z.depots; pid = b + 1; quorum = quo }) q₀ sight es v cnt w

  module _ (n : Ballot) (lt : Below v.node.internal_storage.promise n) (pid : n.pid ≡ b + 1) where
    abbrev own : PromiseMetaData
    own = record { n_accepted = v.node.internal_storage.accepted_round; accepted_idx = v.node.internal_storage.accepted_idx; decided_idx = v.node.internal_storage.decided_idx; pid = b + 1 }

    abbrev l₀ : LeaderState
    l₀ = with_of n z.depots v.node.leader_state

    abbrev l : LeaderState
    l = promise_kept own None true l₀

    abbrev y : SequencePaxos
    y = with_state (record { role = Leader; phase = phase.Prepare }) (own_promise (new_leader n s))

    row₀ : length l₀.depots ≡ max_depots
    unfolding with_of
    row₀ = length-on-first z.depots (λ d. fresh) v.node.leader_state.depots ∙ w.node.row

    at₀ : (t : ℕ) → t < z.depots → place t l₀ ≡ fresh
    unfolding with_of
    at₀ t h = fresh-place z.depots t v.node.leader_state.depots h

    p : Puts b (set_promise_state (Promised own) (place b l₀)) l₀ (with_depot (b + 1) (set_promise_state (Promised own)) l₀)
    p = puts_of b l₀ row₀ (omega arith) (set_promise_state (Promised own))

    -- the own promise is the best, or there was nothing to be better than
    best : (t : Bool) → beats own no_best.meta ≡ t → (x : MaxPromise) → x ≡ cond t (record { meta = own; sync = None }) no_best
        → (x.meta.n_accepted ≡ v.node.internal_storage.accepted_round) × (x.meta.accepted_idx ≡ length v.log) × (x.sync ≡ None)
    best true e x q = rw q (refl, sym cnt.log, refl)
    best false e x q =
        let k : (v.node.internal_storage.accepted_round ≡ default) × (v.node.internal_storage.accepted_idx ≡ 0) = within-nothing (beats-not own no_best.meta e) in
        rw q (sym k.0, omega (arith, k.1, cnt.log), refl)

    bests : (l.max_promise.meta.n_accepted ≡ v.node.internal_storage.accepted_round) × (l.max_promise.meta.accepted_idx ≡ length v.log) × (l.max_promise.sync ≡ None)
    unfolding with_of
    bests = best (beats own no_best.meta) refl l.max_promise refl

    -- of a place but its promise, all is fresh
    part : {A : Type 0} (f : Depot → A) → f (set_promise_state (Promised own) (place b l₀)) ≡ f (place b l₀) → (t : ℕ) → t < z.depots → f (place t l) ≡ f fresh
    part f e t h = go (depot-eq t b)
      where
        go : (t ≡ b) ⊎ (t ≢ b) → f (place t l) ≡ f fresh
        go (inl q) = rw q (ap f p.here ∙ e ∙ ap f (at₀ b bl))
        go (inr q) = ap f (p.else t q ∙ at₀ t h)

    alone : (t : ℕ) (m : PromiseMetaData) → t < z.depots → (t ≡ b) ⊎ (t ≢ b) → (place t l).promise ≡ Promised m → (t ≡ b) × (m ≡ own)
    alone t m h (inl q) e = (q, sym (promised-is refl (sym (ap (λ (d : Depot). d.promise) (subst (λ k. place k l ≡ set_promise_state (Promised own) (place b l₀)) (sym q) p.here)) ∙ e)))
    alone t m h (inr q) e = no-promise refl (sym (ap (λ (d : Depot). d.promise) (p.else t q ∙ at₀ t h)) ∙ e)

    elects : Elects z b n (face_of v) l
    unfolding with_of
    elects =
        record {
          row = p.row;
          ballot = refl;
          own = pid;
          round = bests.0;
          index = bests.1;
          none = bests.2;
          alone = λ t m h e. alone t m h (depot-eq t b) e;
          number = part (λ (d : Depot). d.seq_num) refl;
          noted = part (λ (d : Depot). d.accepted_idx) refl;
          latest = part (λ (d : Depot). d.latest) refl;
        }

    face-y : mid_face es v y ≡ elected_to n l (held_entries l.max_promise.sync v.best) (face_of v)
    unfolding new_leader own_promise
    face-y = ap (elected_to n l (held_entries l.max_promise.sync v.best)) (face-found (record { depots = z.depots; pid = b + 1; quorum = quo }) q₀ sight es v cnt)

    becomes : ((t : ℕ) → t < z.depots → t ≢ b → takes_in n (c.others t) ≡ false) → Next z P b c g (mid_face es v (become_leader n s))
    unfolding become_leader new_leader own_promise
    becomes idle =
        let o : Ready 0 es v s = found-ready (record { depots = z.depots; pid = b + 1; quorum = quo }) q₀ sight es v cnt in
        (each-prepare es v (peers_of (record { depots = z.depots; pid = b + 1; quorum = quo })) z.depots y (omega arith)
        (record { ready = record { things = o.things; room = o.room; queue = o.queue }; leads = refl; next = subst (Next z P b c g) (sym face-y) (t-elected w (held_entries l.max_promise.sync v.best) lt elects idle) })).next

  pub h-leader : (n : Ballot) → ((t : ℕ) → Below v.node.internal_storage.promise n → n.pid ≡ b + 1 → t < z.depots → t ≢ b → takes_in n (c.others t) ≡ false) → Next z P b c g (mid_face es v (handle_leader n s))
  unfolding handle_leader
  h-leader n idle =
      either (λ (k : SequencePaxos). Next z P b c g (mid_face es v k)) (above n v.node.leader_state.n_leader) (cond (above n v.node.internal_storage.promise) (cond (eqb n.pid (b + 1)) (become_leader n s) (become_follower s)) s) s
      (λ _. either (λ (k : SequencePaxos). Next z P b c g (mid_face es v k)) (above n v.node.internal_storage.promise) (cond (eqb n.pid (b + 1)) (become_leader n s) (become_follower s)) s
      (λ e. either (λ (k : SequencePaxos). Next z P b c g (mid_face es v k)) (eqb n.pid (b + 1)) (become_leader n s) (become_follower s)
      (λ q. becomes n (record { is = e }) (eqb-true n.pid (b + 1) q) (λ t. idle t (record { is = e }) (eqb-true n.pid (b + 1) q)))
      (λ _. t-stands-down found))
      (λ _. stay found))
      (λ _. stay found)
