-- An AcceptSync to each promised follower.
use Prim.Native.Nat.{ℕ, zero, suc, ◌+◌, ◌≤◌, ◌<◌}
use mathlib.Core.Path.{◌≡◌, refl, sym, ap, ◌∙◌, subst}
use mathlib.Core.Logic.{◌⊎◌, inl, inr, ◌≢◌}
use mathlib.Core.Bool.{Bool, true, false, ◌&&◌}
use mathlib.Core.List.{List}
use native.Mathlib.Omega.{arith}
use native.Mathlib.Numerals.{add-one}
use lib.Dec.{ltb}
use lib.ListN.{get_or}
use borrow.Author.Tests.{ltb-true, lt-ltb}
use Rattle.base.proofs.Tests.{not-both}
use Rattle.base.specs.Limits.{max_depots}
use Rattle.ballot.specs.declared.Ballot.{Ballot}
use Rattle.leader_state.specs.declared.Depot.{Depot}
use Rattle.leader_state.specs.declared.LeaderState.{LeaderState}
use Rattle.leader_state.specs.declared.PromiseMetaData.{PromiseMetaData}
use Rattle.leader_state.specs.declared.PromiseState.{PromiseState}
use Rattle.leader_state.specs.declared.PromiseState.TheVariants.{NotPromised, Promised, PromisedHigher}
use Rattle.leader_state.specs.Promises.{is_promised}
use Rattle.leader_state.specs.Places.{promised_followers}
use Rattle.paxos_box.specs.declared.SequencePaxos.{SequencePaxos}
use Rattle.paxos_box.specs.declared.State.{State}
use Rattle.paxos_box.specs.declared.Role.TheVariants.{Leader}
use Rattle.paxos_box.specs.declared.Phase.TheVariants as phase
use Rattle.paxos_box.specs.Box.{push_of, is_accept_phase}
use Rattle.sends.specs.declared.Each.TheVariants as each
use Rattle.sends.specs.Sends.{the_depot, log_length, sync_start_of, push_acc_sync, send_acc_sync, by_promise, acc_sync_to, turn_of, for_marked}
use Rattle.views.specs.View.{View}
use Rattle.agreement.specs.Order.{leader_of}
use Rattle.agreement.specs.Core.{Sizes, Ghost}
use Rattle.agreement.proofs.Update.{depot-eq}
use Rattle.travels.specs.Face.{place, leads_by, feeds_by}
use Rattle.travels.specs.Facts.{Leading}
use Rattle.travels.specs.Near.{Scene, Near, Well}
use Rattle.travels.proofs.Books.{leads-other, refed}
use Rattle.travels.proofs.Elect.{leads-in}
use Rattle.travels.proofs.Tests.{both_true}
use Rattle.travels.proofs.Note.{feeds-less-to}
use Rattle.travels.proofs.Start.{promised-meta, meta_of}
use Rattle.travels.proofs.Open.{Puts, puts-part, t-opens, opened}
use Rattle.faces.specs.Mid.{mid_face, Clean, Ready}
use Rattle.faces.proofs.Push.{ready-push}
use Rattle.faces.proofs.Places.{pid-place, marked-is, unmarked-is}
use Rattle.faces.proofs.Each.{Stays, stays-refl, stays_then, stays_on, stays-push, session-box, sync-is, session-puts, face-sync}

pub feeds-leads : (n : Ballot) (t : ℕ) (s : State) (l : LeaderState) → feeds_by n t s l ≡ true → leads_by n s l ≡ true
unfolding feeds_by
feeds-leads n t s l e = (both_true e).0

pub feeds-promised : (n : Ballot) (t : ℕ) (s : State) (l : LeaderState) → feeds_by n t s l ≡ true → is_promised (place t l).promise ≡ true
unfolding feeds_by
feeds-promised n t s l e =
    let k : (leads_by n s l ≡ true) × ((is_accept_phase s.phase && is_promised (place t l).promise) ≡ true) = both_true e in
    let j : (is_accept_phase s.phase ≡ true) × (is_promised (place t l).promise ≡ true) = both_true k.1 in
    j.1

-- a turn that sends was met by no refusal, and neither was what came before
clean-promise : (es : List ℕ) (v : View) (t : ℕ) (p : PromiseState) (s : SequencePaxos) → Clean (by_promise (t + 1) p s) → Clean s
clean-promise es v t NotPromised s k = k
clean-promise es v t (Promised m) s k = (sync-is es v t m s k).1
clean-promise es v t PromisedHigher s k = k

clean-turn : (es : List ℕ) (v : View) (t : ℕ) (on : Bool) (s : SequencePaxos) → Clean (turn_of each.AcceptSync on (t + 1) s) → Clean s
unfolding acc_sync_to
clean-turn es v t true s k = clean-promise es v t (the_depot (t + 1) s).promise s k
clean-turn es v t false s k = k

-- a mark for each promised follower
abbrev pub followers_of : Sizes → SequencePaxos → List Bool
followers_of z s = promised_followers z.depots s.leader_state

-- so with all of them
clean_step : (es : List ℕ) (v : View) (marked : List Bool) (s₀ : SequencePaxos) (i : ℕ) → Clean (turn_of each.AcceptSync (get_or marked i false) (suc i) (for_marked marked each.AcceptSync i s₀)) → Clean (for_marked marked each.AcceptSync i s₀)
clean_step es v marked s₀ i =
    subst (λ j. Clean (turn_of each.AcceptSync (get_or marked i false) j (for_marked marked each.AcceptSync i s₀)) → Clean (for_marked marked each.AcceptSync i s₀)) (add-one i)
    (clean-turn es v i (get_or marked i false) (for_marked marked each.AcceptSync i s₀))

pub clean_all : (es : List ℕ) (v : View) (marked : List Bool) (s₀ : SequencePaxos) (k : ℕ) → Clean (for_marked marked each.AcceptSync k s₀) → Clean s₀
unfolding for_marked
clean_all es v marked s₀ zero q = q
clean_all es v marked s₀ (suc i) q = clean_all es v marked s₀ i (clean_step es v marked s₀ i q)

-- the first k of them have been sent theirs
pub record Opening (es : List ℕ) (v : View) (z : Sizes) (P : ℕ → Type 0) (b : ℕ) (c : Scene) (g : Ghost ℕ) (s₀ : SequencePaxos) (k : ℕ) (s : SequencePaxos) : Type 0 where
  pub ready : Ready k es v s
  pub stays : Stays s₀ s
  pub near : Near z P b c g (λ n u. g.G n) (λ n u. feeds_by n u s.state s.leader_state && ltb u k) (mid_face es v s)

module _ (es : List ℕ) (v : View) (z : Sizes) {P : ℕ → Type 0} {b : ℕ} {c : Scene} {g : Ghost ℕ} (few : z.depots ≤ max_depots) where
  -- one more
  opens_one : {s₀ : SequencePaxos} (t : ℕ) (m : PromiseMetaData) (s : SequencePaxos) → s.state ≡ record { role = Leader; phase = phase.Accept } → t < z.depots → (place t s.leader_state).promise ≡ Promised m
      → Opening es v z P b c g s₀ t s → Clean (send_acc_sync (t + 1) m s) → Opening es v z P b c g s₀ (suc t) (send_acc_sync (t + 1) m s)
  unfolding push_acc_sync push_of
  opens_one {s₀} t m s st lt pr o k =
      subst (Opening es v z P b c g s₀ (suc t)) (sym a.0)
      (record {
        ready = subst (λ j. Ready j es v y) (add-one t) (ready-push es v _ (session-box (t + 1) s) mid (omega arith));
        stays = stays_then o.stays (stays_then (stays_on (session-box (t + 1) s).leader_state s p refl) (stays-push _ (session-box (t + 1) s) mid (omega arith)));
        near = subst (Near z P b c g (λ n u. g.G n) fed) (sym (face-sync es v t m s o.ready (omega arith) o.near.node.own.length a.2 o.near.node.row (omega arith)))
            (t-opens o.near st t m fed lt pr refl p refl less);
      })
    where
      a : (send_acc_sync (t + 1) m s ≡ push_acc_sync (sync_start_of m s) (t + 1) (session-box (t + 1) s)) × Clean s × (sync_start_of m s ≤ log_length s)
      a = sync-is es v t m s k

      mid : Ready t es v (session-box (t + 1) s)
      mid = record { things = o.ready.things; room = o.ready.room; queue = o.ready.queue }

      y : SequencePaxos
      y = push_acc_sync (sync_start_of m s) (t + 1) (session-box (t + 1) s)

      p : Puts t (opened t (mid_face es v s)) s.leader_state (session-box (t + 1) s).leader_state
      p = session-puts es v t m s o.near.node.row (omega arith)

      lead : Leading z g b s.internal_storage (mid_face es v s).log s.leader_state
      lead = leads-in o.near.node st

      fed : Ballot → ℕ → Bool
      fed n u = feeds_by n u s.state (session-box (t + 1) s).leader_state && ltb u (suc t)

      less : (n : Ballot) (u : ℕ) → leader_of n ≡ b → u < z.depots → u ≢ b → (n ≢ s.internal_storage.promise) ⊎ (u ≢ t) → fed n u ≡ true → (feeds_by n u s.state s.leader_state && ltb u t) ≡ true
      less n u q lu ne d e = go d (both_true e)
        where
          go : (n ≢ s.internal_storage.promise) ⊎ (u ≢ t) → (feeds_by n u s.state (session-box (t + 1) s).leader_state ≡ true) × (ltb u (suc t) ≡ true) → (feeds_by n u s.state s.leader_state && ltb u t) ≡ true
          go (inl ne) j = absurd (not-both (feeds-leads n u s.state (session-box (t + 1) s).leader_state j.0) (leads-other n s.state (session-box (t + 1) s).leader_state (p.ballot ∙ lead.now) ne))
          go (inr ne) j =
              rw (feeds-less-to n u s.state s.leader_state (session-box (t + 1) s).leader_state p.ballot (λ r. sym (ap is_promised (puts-part (λ (d : Depot). d.promise) p refl u)) ∙ r) j.0, lt-ltb u t (omega (arith, ltb-true u (suc t) j.1)))

  module _ (s₀ : SequencePaxos) (st : s₀.state ≡ record { role = Leader; phase = phase.Accept }) where
    turn : (t : ℕ) (s : SequencePaxos) → t < z.depots → s₀.leader_state.n_leader.pid ≡ b + 1 → Opening es v z P b c g s₀ t s → (on : Bool) → get_or (followers_of z s₀) t false ≡ on → Clean (turn_of each.AcceptSync on (t + 1) s)
        → Opening es v z P b c g s₀ (suc t) (turn_of each.AcceptSync on (t + 1) s)
    unfolding acc_sync_to
    turn t s lt pid o true e k = subst (Opening es v z P b c g s₀ (suc t)) (sym is) (opens_one t m s (o.stays.state ∙ st) lt pr o (subst Clean is k))
      where
        pr₀ : is_promised (place t s₀.leader_state).promise ≡ true
        pr₀ = (marked-is z.depots t b s₀.leader_state lt few pid e).1

        m : PromiseMetaData
        m = meta_of (place t s.leader_state).promise

        pr : (place t s.leader_state).promise ≡ Promised m
        pr = promised-meta (place t s.leader_state).promise (ap is_promised (o.stays.promise t) ∙ pr₀)

        is : by_promise (t + 1) (the_depot (t + 1) s).promise s ≡ send_acc_sync (t + 1) m s
        is = ap (λ (p : PromiseState). by_promise (t + 1) p s) (ap (λ (d : Depot). d.promise) (pid-place t s.leader_state) ∙ pr)
    turn t s lt pid o false e k =
        record {
          ready = record { things = omega (arith, o.ready.things); room = o.ready.room; queue = o.ready.queue };
          stays = o.stays;
          near = refed o.near (λ n u. feeds_by n u s.state s.leader_state && ltb u (suc t)) less;
        }
      where
        less : (n : Ballot) (u : ℕ) → leader_of n ≡ b → u < z.depots → u ≢ b → (feeds_by n u s.state s.leader_state && ltb u (suc t)) ≡ true → (feeds_by n u s.state s.leader_state && ltb u t) ≡ true
        less n u q lu ne e' = go (both_true e') (depot-eq u t)
          where
            go : (feeds_by n u s.state s.leader_state ≡ true) × (ltb u (suc t) ≡ true) → (u ≡ t) ⊎ (u ≢ t) → (feeds_by n u s.state s.leader_state && ltb u t) ≡ true
            go j (inr d) = rw (j.0, lt-ltb u t (omega (arith, ltb-true u (suc t) j.1)))
            go j (inl d) =
                absurd (not-both (sym (ap is_promised (o.stays.promise u)) ∙ feeds-promised n u s.state s.leader_state j.0)
                (subst (λ k. is_promised (place k s₀.leader_state).promise ≡ false) (sym d) (unmarked-is z.depots t b s₀.leader_state lt few pid e (λ r. ne (d ∙ r)))))

    step : (i : ℕ) → suc i ≤ z.depots → s₀.leader_state.n_leader.pid ≡ b + 1 → Opening es v z P b c g s₀ 0 s₀ → Clean (turn_of each.AcceptSync (get_or (followers_of z s₀) i false) (suc i) (for_marked (followers_of z s₀) each.AcceptSync i s₀))
        → (Clean (for_marked (followers_of z s₀) each.AcceptSync i s₀) → Opening es v z P b c g s₀ i (for_marked (followers_of z s₀) each.AcceptSync i s₀))
        → Opening es v z P b c g s₀ (suc i) (turn_of each.AcceptSync (get_or (followers_of z s₀) i false) (suc i) (for_marked (followers_of z s₀) each.AcceptSync i s₀))
    step i h pid o =
        subst (λ j. Clean (turn_of each.AcceptSync (get_or (followers_of z s₀) i false) j (for_marked (followers_of z s₀) each.AcceptSync i s₀)) → (Clean (for_marked (followers_of z s₀) each.AcceptSync i s₀) → Opening es v z P b c g s₀ i (for_marked (followers_of z s₀) each.AcceptSync i s₀))
        → Opening es v z P b c g s₀ (suc i) (turn_of each.AcceptSync (get_or (followers_of z s₀) i false) j (for_marked (followers_of z s₀) each.AcceptSync i s₀))) (add-one i)
        (λ k again. turn i (for_marked (followers_of z s₀) each.AcceptSync i s₀) (omega arith) pid (again (clean-turn es v i (get_or (followers_of z s₀) i false) (for_marked (followers_of z s₀) each.AcceptSync i s₀) k)) (get_or (followers_of z s₀) i false) refl k)

    all : (k : ℕ) → k ≤ z.depots → s₀.leader_state.n_leader.pid ≡ b + 1 → Opening es v z P b c g s₀ 0 s₀ → Clean (for_marked (followers_of z s₀) each.AcceptSync k s₀) → Opening es v z P b c g s₀ k (for_marked (followers_of z s₀) each.AcceptSync k s₀)
    unfolding for_marked
    all zero h pid o k = o
    all (suc i) h pid o k = step i h pid o k (λ j. all i (omega arith) pid o j)

    -- all of them: whom the leader feeds has been sent the whole
    pub each-opened : s₀.leader_state.n_leader.pid ≡ b + 1 → Ready 0 es v s₀ → Near z P b c g (λ n u. g.G n) (λ n u. false) (mid_face es v s₀) → Clean (for_marked (followers_of z s₀) each.AcceptSync z.depots s₀)
        → Well z P b c g (mid_face es v (for_marked (followers_of z s₀) each.AcceptSync z.depots s₀))
    each-opened pid r w k =
        refed (all z.depots (omega arith) pid first k).near (λ n u. feeds_by n u (for_marked (followers_of z s₀) each.AcceptSync z.depots s₀).state (for_marked (followers_of z s₀) each.AcceptSync z.depots s₀).leader_state)
        (λ n u q lu ne e. rw (e, lt-ltb u z.depots lu))
      where
        none_yet : {A : Type 0} (t : Bool) (u : ℕ) → (t && ltb u 0) ≡ true → A
        none_yet t u e =
            let j : (t ≡ true) × (ltb u 0 ≡ true) = both_true e in
            absurd (omega (arith, ltb-true u 0 j.1))

        first : Opening es v z P b c g s₀ 0 s₀
        first = record { ready = r; stays = stays-refl s₀; near = refed w (λ n u. feeds_by n u s₀.state s₀.leader_state && ltb u 0) (λ n u q lu ne e. none_yet (feeds_by n u s₀.state s₀.leader_state) u e) }
