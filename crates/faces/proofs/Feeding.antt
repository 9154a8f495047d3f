-- Each promised follower is told of what the log has gained, or of the decided index.
use Rattle.std.specs.Prelude.{Some}
use Prim.Native.Nat.{ℕ, zero, suc, ◌+◌, ◌≤◌, ◌<◌}
use mathlib.Core.Path.{◌≡◌, refl, sym, ap, ◌∙◌, subst}
use mathlib.Core.Logic.{◌⊎◌, inl, inr, ◌≢◌}
use mathlib.Core.Bool.{Bool, true, false, cond, ◌&&◌}
use mathlib.Core.List.{List, [], ◌++◌}
use native.Mathlib.Omega.{arith}
use native.Mathlib.Nat.{le_refl}
use native.Mathlib.Numerals.{add-one}
use lib.Dec.{ltb}
use lib.ListN.{length, get_or, take, drop}
use borrow.Author.Tests.{lt-ltb, le-ltb}
use Rattle.base.specs.Limits.{max_depots}
use Rattle.base.proofs.Tests.{same_test, not-both}
use Rattle.ballot.specs.Ballot.{same}
use Rattle.ballot.specs.declared.Ballot.{Ballot}
use Rattle.ballot.proofs.Laws.{same-eq, same_refl as same_self}
use Rattle.leader_state.specs.declared.LeaderState.{LeaderState}
use Rattle.leader_state.specs.Promises.{is_promised}
use Rattle.paxos_box.specs.declared.SequencePaxos.{SequencePaxos}
use Rattle.paxos_box.specs.declared.InternalStorage.{InternalStorage}
use Rattle.paxos_box.specs.declared.Writes.{Writes}
use Rattle.paxos_box.specs.declared.Sight.{Sight}
use Rattle.paxos_box.specs.declared.Role.TheVariants.{Leader}
use Rattle.paxos_box.specs.declared.Phase.TheVariants as phase
use Rattle.sends.specs.declared.Each.{Each}
use Rattle.sends.specs.declared.Each.TheVariants as each
use Rattle.sends.specs.Sends.{latest_accdec, accept_decide_to, decide_to, send_one, turn_of, for_marked}
use Rattle.views.specs.View.{View}
use Rattle.agreement.specs.Core.{Sizes, Ghost, Same}
use Rattle.agreement.proofs.Update.{ballot-eq, depot-eq}
use Rattle.agreement.proofs.Same.{same-append}
use Rattle.travels.specs.Face.{place, feeds_by}
use Rattle.travels.specs.Near.{Scene, Near, Well}
use Rattle.travels.proofs.Tests.{and-false}
use Rattle.travels.proofs.Feed.{rewhole}
use Rattle.faces.specs.Mid.{mid_log, mid_face, Clean, Ready}
use Rattle.faces.proofs.Places.{marked-is, unmarked-is}
use Rattle.faces.proofs.Each.{Stays, stays-refl, stays_then, clean-entries, clean-decide}
use Rattle.faces.proofs.Opens.{feeds-promised, followers_of}
use Rattle.faces.proofs.Feeds.{Told, told_entries, told-decide}

-- of ballot n, the first k promised depots have been sent the whole, the others `log`
abbrev pub whole_at : Ghost ℕ → Ballot → List ℕ → LeaderState → ℕ → Ballot → ℕ → List ℕ
whole_at g n log l k m u = cond (same m n) (cond (ltb u k && is_promised (place u l).promise) (g.G n) log) (g.G m)

same_not : (m n : Ballot) → m ≢ n → same m n ≡ false
same_not m n ne = go (same m n) refl
  where
    go : (t : Bool) → same m n ≡ t → same m n ≡ false
    go true e = absurd (ne (same-eq m n e))
    go false e = e

module _ (g : Ghost ℕ) (n : Ballot) (log : List ℕ) (l : LeaderState) where
  pub whole-else : (k u : ℕ) (m : Ballot) → m ≢ n → whole_at g n log l k m u ≡ g.G m
  whole-else k u m ne = rw (same_not m n ne)

  whole-skip : (k u : ℕ) (m : Ballot) → u ≢ k → whole_at g n log l (suc k) m u ≡ whole_at g n log l k m u
  whole-skip k u m ne = let e : ltb u (suc k) ≡ ltb u k = same_test u (suc k) u k (λ h. omega arith) (λ h. omega arith) in rw e

  whole-left : (k : ℕ) → whole_at g n log l k n k ≡ log
  whole-left k = rw (same_self n, le-ltb k k (le_refl k))

  pub whole-none : (u : ℕ) → whole_at g n log l 0 n u ≡ log
  whole-none u = rw (same_self n, le-ltb u 0 (omega arith))

  whole-told : (k u : ℕ) → u < k → is_promised (place u l).promise ≡ true → whole_at g n log l k n u ≡ g.G n
  whole-told k u h e = rw (same_self n, lt-ltb u k h, e)

  whole-not : (k u : ℕ) (m : Ballot) → is_promised (place u l).promise ≡ false → whole_at g n log l k m u ≡ cond (same m n) log (g.G m)
  whole-not k u m e = rw e (ap (λ x. cond (same m n) (cond x (g.G n) log) (g.G m)) (and-false (ltb u k)))

-- what a send of a kind carries
abbrev pub Carries : List ℕ → View → Each → List ℕ → Writes → Type 0
Carries es v each.Prepare xs w = ⊥
Carries es v each.AcceptSync xs w = ⊥
Carries es v (each.AcceptDecide from count) xs w = take count (drop from (mid_log es v w)) ≡ xs
Carries es v each.Decide xs w = xs ≡ []
Carries es v each.PrepareReq xs w = ⊥

-- what came before such a send was not refused
clean-one : (es : List ℕ) (v : View) (xs : List ℕ) (ws : Writes) (w : Each) (to : ℕ) (s : SequencePaxos) → Carries es v w xs ws → Clean (send_one w to s) → Clean s
unfolding accept_decide_to decide_to
clean-one es v xs ws each.Prepare to s q k = absurd q
clean-one es v xs ws each.AcceptSync to s q k = absurd q
clean-one es v xs ws (each.AcceptDecide from count) to s q k = clean-entries from count to (latest_accdec to s) s k
clean-one es v xs ws each.Decide to s q k = clean-decide to (latest_accdec to s) s k
clean-one es v xs ws each.PrepareReq to s q k = absurd q

clean-turn : (es : List ℕ) (v : View) (xs : List ℕ) (ws : Writes) (w : Each) (m : Bool) (to : ℕ) (s : SequencePaxos) → Carries es v w xs ws → Clean (turn_of w m to s) → Clean s
clean-turn es v xs ws w true to s q k = clean-one es v xs ws w to s q k
clean-turn es v xs ws w false to s q k = k

-- the first k of them have been told
pub record Feeding (es : List ℕ) (v : View) (z : Sizes) (P : ℕ → Type 0) (b : ℕ) (c : Scene) (g : Ghost ℕ) (log : List ℕ) (s₀ : SequencePaxos) (k : ℕ) (s : SequencePaxos) : Type 0 where
  pub ready : Ready k es v s
  pub stays : Stays s₀ s
  pub near : Near z P b c g (whole_at g s₀.internal_storage.promise log s₀.leader_state k) (λ m u. feeds_by m u s.state s.leader_state) (mid_face es v s)
  pub latest : (u : ℕ) → k ≤ u → (place u s.leader_state).latest ≡ (place u s₀.leader_state).latest

module _ (es : List ℕ) (v : View) (z : Sizes) {P : ℕ → Type 0} {b : ℕ} {c : Scene} {g : Ghost ℕ} (few : z.depots ≤ max_depots) (s₀ : SequencePaxos) (st : s₀.state ≡ record { role = Leader; phase = phase.Accept })
    (pid : s₀.leader_state.n_leader.pid ≡ b + 1) (log xs : List ℕ) (all : log ++ xs ≡ g.G s₀.internal_storage.promise) (what : Each) (carries : Carries es v what xs s₀.plan.writes)
    (on : (t at : ℕ) → t < z.depots → (place t s₀.leader_state).latest ≡ Some at → get_or s₀.plan.sight.accdec t false ≡ true) where
  -- one more
  one : (t : ℕ) (s : SequencePaxos) → t < z.depots → is_promised (place t s₀.leader_state).promise ≡ true → Feeding es v z P b c g log s₀ t s → Clean (send_one what (t + 1) s)
      → Told es v z P b c g t (suc t) (whole_at g s₀.internal_storage.promise log s₀.leader_state (suc t)) s (send_one what (t + 1) s) × Clean s
  one t s lt pr o = by what (subst (Carries es v what xs) (sym o.stays.writes) carries)
    where
      n : Ballot
      n = s₀.internal_storage.promise

      l₀ : LeaderState
      l₀ = s₀.leader_state

      e : s.internal_storage.promise ≡ n
      e = ap (λ (k : InternalStorage). k.promise) o.stays.storage

      was : whole_at g n log l₀ t s.internal_storage.promise t ++ xs ≡ g.G s.internal_storage.promise
      was = subst (λ j. whole_at g n log l₀ t j t ++ xs ≡ g.G j) (sym e) (ap (λ k. k ++ xs) (whole-left g n log l₀ t) ∙ all)

      now : whole_at g n log l₀ (suc t) s.internal_storage.promise t ≡ g.G s.internal_storage.promise
      now = subst (λ j. whole_at g n log l₀ (suc t) j t ≡ g.G j) (sym e) (whole-told g n log l₀ (suc t) t (omega arith) pr)

      else : (m : Ballot) (u : ℕ) → (m ≢ s.internal_storage.promise) ⊎ (u ≢ t) → whole_at g n log l₀ (suc t) m u ≡ whole_at g n log l₀ t m u
      else m u (inl ne) = whole-else g n log l₀ (suc t) u m (λ q. ne (q ∙ sym e)) ∙ sym (whole-else g n log l₀ t u m (λ q. ne (q ∙ sym e)))
      else m u (inr ne) = whole-skip g n log l₀ t u m ne

      pr' : is_promised (place t s.leader_state).promise ≡ true
      pr' = ap is_promised (o.stays.promise t) ∙ pr

      on' : (at : ℕ) → (place t s.leader_state).latest ≡ Some at → get_or s.plan.sight.accdec t false ≡ true
      on' at q = ap (λ (k : Sight). get_or k.accdec t false) o.stays.sight ∙ on t at lt (sym (o.latest t (le_refl t)) ∙ q)

      by : (w : Each) → Carries es v w xs s.plan.writes → Clean (send_one w (t + 1) s) → Told es v z P b c g t (suc t) (whole_at g n log l₀ (suc t)) s (send_one w (t + 1) s) × Clean s
      by each.Prepare q = absurd q
      by each.AcceptSync q = absurd q
      by (each.AcceptDecide from count) q = told_entries es v few (omega arith) s (o.stays.state ∙ st) o.ready o.near t lt pr' (whole_at g n log l₀ (suc t)) xs was now else on' from count q
      by each.Decide q = told-decide es v few (omega arith) s (o.stays.state ∙ st) o.ready o.near t lt pr' (whole_at g n log l₀ (suc t)) xs was now else on' q
      by each.PrepareReq q = absurd q

  -- a turn, and that what came before it was not refused
  turn : (t : ℕ) (s : SequencePaxos) → t < z.depots → (m : Bool) → get_or (followers_of z s₀) t false ≡ m → (Clean s → Feeding es v z P b c g log s₀ t s) → (Clean (turn_of what m (t + 1) s) → Clean s)
      → Clean (turn_of what m (t + 1) s) → Feeding es v z P b c g log s₀ (suc t) (turn_of what m (t + 1) s)
  turn t s lt true e o down q =
      let f : Feeding es v z P b c g log s₀ t s = o (down q) in
      let a : Told es v z P b c g t (suc t) (whole_at g s₀.internal_storage.promise log s₀.leader_state (suc t)) s (send_one what (t + 1) s) × Clean s = one t s lt (marked-is z.depots t b s₀.leader_state lt few pid e).1 f q in
      record { ready = a.0.ready; stays = stays_then f.stays a.0.stays; near = a.0.near; latest = λ u h. a.0.latest u (λ k. omega arith) ∙ f.latest u (omega arith) }
  turn t s lt false e o down q =
      let f : Feeding es v z P b c g log s₀ t s = o (down q) in
      record {
        ready = record { things = omega (arith, f.ready.things); room = f.ready.room; queue = f.ready.queue };
        stays = f.stays;
        near = rewhole (whole_at g s₀.internal_storage.promise log s₀.leader_state (suc t)) (λ m u lu ne. inl (same_whole m u ne (depot-eq u t))) f.near;
        latest = λ u h. f.latest u (omega arith);
      }
    where
      same_whole : (m : Ballot) (u : ℕ) → u ≢ b → (u ≡ t) ⊎ (u ≢ t)
          → whole_at g s₀.internal_storage.promise log s₀.leader_state (suc t) m u ≡ whole_at g s₀.internal_storage.promise log s₀.leader_state t m u
      same_whole m u ne (inr d) = whole-skip g s₀.internal_storage.promise log s₀.leader_state t u m d
      same_whole m u ne (inl d) =
          let k : is_promised (place u s₀.leader_state).promise ≡ false = subst (λ j. is_promised (place j s₀.leader_state).promise ≡ false) (sym d) (unmarked-is z.depots t b s₀.leader_state lt few pid e (λ r. ne (d ∙ r))) in
          whole-not g s₀.internal_storage.promise log s₀.leader_state (suc t) u m k ∙ sym (whole-not g s₀.internal_storage.promise log s₀.leader_state t u m k)

  step : (i : ℕ) → suc i ≤ z.depots → (Clean (for_marked (followers_of z s₀) what i s₀) → Feeding es v z P b c g log s₀ i (for_marked (followers_of z s₀) what i s₀))
      → Clean (turn_of what (get_or (followers_of z s₀) i false) (suc i) (for_marked (followers_of z s₀) what i s₀))
      → Feeding es v z P b c g log s₀ (suc i) (turn_of what (get_or (followers_of z s₀) i false) (suc i) (for_marked (followers_of z s₀) what i s₀))
  step i h again =
      subst (λ j. Clean (turn_of what (get_or (followers_of z s₀) i false) j (for_marked (followers_of z s₀) what i s₀)) → Feeding es v z P b c g log s₀ (suc i) (turn_of what (get_or (followers_of z s₀) i false) j (for_marked (followers_of z s₀) what i s₀))) (add-one i)
      (turn i (for_marked (followers_of z s₀) what i s₀) (omega arith) (get_or (followers_of z s₀) i false) refl again (clean-turn es v xs s₀.plan.writes what (get_or (followers_of z s₀) i false) (i + 1) (for_marked (followers_of z s₀) what i s₀) carries))

  loop : Feeding es v z P b c g log s₀ 0 s₀ → (k : ℕ) → k ≤ z.depots → Clean (for_marked (followers_of z s₀) what k s₀) → Feeding es v z P b c g log s₀ k (for_marked (followers_of z s₀) what k s₀)
  unfolding for_marked
  loop o zero h q = o
  loop o (suc i) h q = step i h (loop o i (omega arith)) q

  -- all of them: whoever is fed has been sent the whole
  pub each-told : Ready 0 es v s₀ → Near z P b c g (whole_at g s₀.internal_storage.promise log s₀.leader_state 0) (λ m u. feeds_by m u s₀.state s₀.leader_state) (mid_face es v s₀)
      → Clean (for_marked (followers_of z s₀) what z.depots s₀) → Well z P b c g (mid_face es v (for_marked (followers_of z s₀) what z.depots s₀))
  each-told r w q = rewhole (λ m u. g.G m) (λ m u lu ne. whole m u lu (ballot-eq m n) (is_promised (place u l₀).promise) refl) f.near
    where
      s : SequencePaxos
      s = for_marked (followers_of z s₀) what z.depots s₀

      n : Ballot
      n = s₀.internal_storage.promise

      l₀ : LeaderState
      l₀ = s₀.leader_state

      f : Feeding es v z P b c g log s₀ z.depots s
      f = loop (record { ready = r; stays = stays-refl s₀; near = w; latest = λ u h. refl }) z.depots (le_refl z.depots) q

      -- who has not promised is not fed
      not-fed : (u : ℕ) → is_promised (place u l₀).promise ≡ false → (t : Bool) → feeds_by n u s.state s.leader_state ≡ t → t ≡ false
      not-fed u e true k = absurd (not-both (sym (ap is_promised (f.stays.promise u)) ∙ feeds-promised n u s.state s.leader_state k) e)
      not-fed u e false k = refl

      whole : (m : Ballot) (u : ℕ) → u < z.depots → (m ≡ n) ⊎ (m ≢ n) → (t : Bool) → is_promised (place u l₀).promise ≡ t
          → (g.G m ≡ whole_at g n log l₀ z.depots m u) ⊎ ((feeds_by m u s.state s.leader_state ≡ false) × Same (length (whole_at g n log l₀ z.depots m u)) (whole_at g n log l₀ z.depots m u) (g.G m))
      whole m u lu (inr d) t e = inl (sym (whole-else g n log l₀ z.depots u m d))
      whole m u lu (inl d) true e = inl (subst (λ j. g.G j ≡ whole_at g n log l₀ z.depots j u) (sym d) (sym (whole-told g n log l₀ z.depots u lu e)))
      whole m u lu (inl d) false e =
          inr (subst (λ j. (feeds_by j u s.state s.leader_state ≡ false) × Same (length (whole_at g n log l₀ z.depots j u)) (whole_at g n log l₀ z.depots j u) (g.G j)) (sym d)
          (not-fed u e (feeds_by n u s.state s.leader_state) refl, rw (whole-not g n log l₀ z.depots u n e, same_self n, ← all) (same-append log xs (length log) (le_refl (length log)))))
