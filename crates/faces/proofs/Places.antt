-- The leader's record with one place changed, and what its marks and counts say of its places.
use Rattle.std.specs.Prelude.{None}
use Prim.Native.Nat.{ℕ, zero, suc, ◌+◌, ◌-◌, ◌≤◌, ◌<◌, max}
use mathlib.Core.Path.{◌≡◌, refl, sym, ap, ◌∙◌, subst}
use mathlib.Core.Logic.{◌⊎◌, inl, inr, ◌≢◌}
use mathlib.Core.Bool.{Bool, true, false, cond}
use mathlib.Core.List.{List, [], ◌∷◌}
use native.Mathlib.Omega.{arith}
use lib.Dec.{ltb, leb, eqb}
use lib.ListN.{length, get_or, take, length-set}
use lib.Seq.{get_or-set_same, get_or-set_other}
use borrow.Author.Tests.{lt-ltb, ltb-true, ltb-false, leb-true, eqb-true, eqb-false}
use Rattle.base.proofs.Tests.{not-both}
use Rattle.base.specs.Limits.{max_depots}
use Rattle.base.specs.Lists.{on_first}
use Rattle.base.specs.Count.{count, count_below, most}
use Rattle.base.proofs.Lists.{get_d_tabulate}
use Rattle.base.proofs.Meet.{count-places}
use Rattle.ballot.specs.Ballot.{compare_of, is_above, is_same, above, same}
use Rattle.ballot.specs.declared.Ballot.{Ballot}
use Rattle.std.specs.declared.cmp.Ordering.{Ordering}
use Rattle.std.specs.declared.cmp.Ordering.TheVariants.{Less, Equal, Greater}
use Rattle.ballot.proofs.Laws.{total, same_refl as same_self}
use Rattle.quorum.specs.Quorum.{read_size, write_size, reaches_read, reaches_write}
use Rattle.quorum.specs.declared.Configuration.{Configuration}
use Rattle.leader_state.specs.declared.Depot.{Depot}
use Rattle.leader_state.specs.declared.LeaderState.{LeaderState}
use Rattle.leader_state.specs.declared.PromiseMetaData.{PromiseMetaData}
use Rattle.leader_state.specs.declared.PromiseState.{PromiseState}
use Rattle.leader_state.specs.declared.PromiseState.TheVariants.{NotPromised, Promised, PromisedHigher}
use Rattle.leader_state.specs.State.{fresh, depot_of, with_depot}
use Rattle.leader_state.specs.Promises.{is_promised, decided_state, promised_count, max_decided, by_order, beats}
use Rattle.leader_state.specs.Places.{accepted_at, chosen, is_follower, promised_followers}
use Rattle.agreement.specs.Order.{Within, lower, level, Beats, higher, longer}
use Rattle.agreement.specs.Core.{Sizes}
use Rattle.agreement.proofs.Update.{depot-eq}
use Rattle.travels.specs.Face.{place}
use Rattle.travels.proofs.Note.{Less as Fewer}
use Rattle.travels.proofs.Open.{Puts}
use Rattle.faces.proofs.Reply.{equal_is}

-- a pid's place
pub pid-place : (t : ℕ) (l : LeaderState) → depot_of (t + 1) l ≡ place t l
pid-place t l = let e : t + 1 - 1 ≡ t = omega arith in rw e

-- ---- one place changed
module _ (t : ℕ) (l : LeaderState) (row : length l.depots ≡ max_depots) (lt : t < max_depots) where
  pub puts_of : (f : Depot → Depot) → Puts t (f (place t l)) l (with_depot (t + 1) f l)
  puts_of f =
      let e : t + 1 - 1 ≡ t = omega arith in
      record {
        row = length-set l.depots (t + 1 - 1) (f (depot_of (t + 1) l)) ∙ row;
        ballot = refl;
        best = refl;
        here = rw e (get_or-set_same l.depots t (f (place t l)) fresh (omega (arith, row)));
        else = λ u ne. rw e (get_or-set_other l.depots t u (f (place t l)) fresh ne);
      }

pub puts_then : {t : ℕ} {d d' : Depot} {l l₁ l₂ : LeaderState} → Puts t d l l₁ → Puts t d' l₁ l₂ → Puts t d' l l₂
puts_then p q = record { row = q.row; ballot = q.ballot ∙ p.ballot; best = q.best ∙ p.best; here = q.here; else = λ u ne. q.else u ne ∙ p.else u ne }

pub puts-is : {t : ℕ} {d d' : Depot} {l l' : LeaderState} → d ≡ d' → Puts t d l l' → Puts t d' l l'
puts-is e p = record { row = p.row; ballot = p.ballot; best = p.best; here = p.here ∙ e; else = p.else }

-- one place has less in it
pub less-puts : {z : Sizes} {t : ℕ} {d : Depot} {l l' : LeaderState} → Puts t d l l' → d.seq_num ≡ (place t l).seq_num → (d.promise ≡ (place t l).promise) ⊎ (is_promised d.promise ≡ false)
    → (d.latest ≡ (place t l).latest) ⊎ (d.latest ≡ None) → Fewer z l l'
less-puts {z} {t} {d} {l} {l'} p en ep el =
    record {
      row = p.row;
      ballot = p.ballot;
      best = p.best;
      number = λ u _. number u (depot-eq u t);
      promise = λ u _. promise u (depot-eq u t);
      latest = λ u _. late u (depot-eq u t);
    }
  where
    number : (u : ℕ) → (u ≡ t) ⊎ (u ≢ t) → (place u l').seq_num ≡ (place u l).seq_num
    number u (inl e) = rw (e, p.here) en
    number u (inr e) = rw (p.else u e)

    promise : (u : ℕ) → (u ≡ t) ⊎ (u ≢ t) → ((place u l').promise ≡ (place u l).promise) ⊎ (is_promised (place u l').promise ≡ false)
    promise u (inl e) = rw (e, p.here) ep
    promise u (inr e) = inl (rw (p.else u e))

    late : (u : ℕ) → (u ≡ t) ⊎ (u ≢ t) → ((place u l').latest ≡ (place u l).latest) ⊎ ((place u l').latest ≡ None)
    late u (inl e) = rw (e, p.here) el
    late u (inr e) = inl (rw (p.else u e))

-- a fresh place
pub fresh-place : (k t : ℕ) (l : List Depot) → t < k → get_or (on_first k (λ d. fresh) l) t fresh ≡ fresh
unfolding on_first
fresh-place zero t l h = absurd (omega arith)
fresh-place (suc k) t [] h = refl
fresh-place (suc k) zero (x ∷ l) h = refl
fresh-place (suc k) (suc t) (x ∷ l) h = fresh-place k t l (omega arith)

-- ---- the order of promises

less-above : (x y : Ballot) → compare_of x y ≡ Less → above y x ≡ true
unfolding above same
less-above x y e = go (total x y)
  where
    go : (above x y ≡ true) ⊎ ((x ≡ y) ⊎ (above y x ≡ true)) → above y x ≡ true
    go (inl p) = absurd (not-both p (ap is_above e))
    go (inr (inl p)) = absurd (not-both (subst (λ k. same x k ≡ true) p (same_self x)) (ap is_same e))
    go (inr (inr p)) = p

pub beats-so : (a c : PromiseMetaData) → beats a c ≡ true → Beats a.n_accepted a.accepted_idx c.n_accepted c.accepted_idx
unfolding beats above
beats-so a c e = go (compare_of a.n_accepted c.n_accepted) refl e
  where
    go : (o : Ordering) → compare_of a.n_accepted c.n_accepted ≡ o → by_order o (ltb c.accepted_idx a.accepted_idx) ≡ true → Beats a.n_accepted a.accepted_idx c.n_accepted c.accepted_idx
    go Greater p q = higher (record { is = ap is_above p })
    go Equal p q = longer (sym (equal_is a.n_accepted c.n_accepted p)) (ltb-true c.accepted_idx a.accepted_idx q)
    go Less p q = absurd (not-both q refl)

pub beats-not : (a c : PromiseMetaData) → beats a c ≡ false → Within a.n_accepted a.accepted_idx c.n_accepted c.accepted_idx
unfolding beats
beats-not a c e = go (compare_of a.n_accepted c.n_accepted) refl e
  where
    go : (o : Ordering) → compare_of a.n_accepted c.n_accepted ≡ o → by_order o (ltb c.accepted_idx a.accepted_idx) ≡ false → Within a.n_accepted a.accepted_idx c.n_accepted c.accepted_idx
    go Greater p q = absurd (not-both refl q)
    go Equal p q = level (equal_is a.n_accepted c.n_accepted p) (ltb-false c.accepted_idx a.accepted_idx q)
    go Less p q = lower (record { is = less-above a.n_accepted c.n_accepted p })

-- ---- counts and marks

pub read-quorum : (c : Configuration) (l : LeaderState) → length l.depots ≡ max_depots → c.depots ≤ max_depots → reaches_read c.quorum (promised_count c.depots l) ≡ true
    → read_size c.quorum ≤ count_below (λ t. is_promised (place t l).promise) c.depots
unfolding reaches_read promised_count
read-quorum c l row d e =
    let k : count (λ (d : Depot). is_promised d.promise) (take c.depots l.depots) ≡ count_below (λ t. is_promised (place t l).promise) c.depots = count-places fresh (λ (d : Depot). is_promised d.promise) l.depots c.depots (omega (arith, row)) in
    omega (arith, k, leb-true (read_size c.quorum) (count (λ (d : Depot). is_promised d.promise) (take c.depots l.depots)) e)

pub write-quorum : (idx : ℕ) (c : Configuration) (l : LeaderState) → length l.depots ≡ max_depots → c.depots ≤ max_depots → chosen idx c l ≡ true
    → write_size c.quorum ≤ count_below (λ t. leb idx (place t l).accepted_idx) c.depots
unfolding reaches_write accepted_at
write-quorum idx c l row d e =
    let k : count (λ (d : Depot). leb idx d.accepted_idx) (take c.depots l.depots) ≡ count_below (λ t. leb idx (place t l).accepted_idx) c.depots = count-places fresh (λ (d : Depot). leb idx d.accepted_idx) l.depots c.depots (omega (arith, row)) in
    omega (arith, k, leb-true (write_size c.quorum) (count (λ (d : Depot). leb idx d.accepted_idx) (take c.depots l.depots)) e)

max-some : (Q : ℕ → Type 0) (i j : ℕ) → Q i → Q j → Q (max i j)
max-some Q i j p q = go (ltb i j) refl
  where
    go : (t : Bool) → ltb i j ≡ t → Q (max i j)
    go true e = let k : max i j ≡ j = omega (arith, ltb-true i j e) in rw k q
    go false e = let k : max i j ≡ i = omega (arith, ltb-false i j e) in rw k p

-- the highest decided index is 0 or that of one of the promises
most-some : (Q : ℕ → Type 0) (k : ℕ) (l : List Depot) → Q 0 → ((t : ℕ) → t < k → Q (decided_state (get_or l t fresh).promise)) → Q (most (λ (d : Depot). decided_state d.promise) (take k l))
unfolding most
most-some Q zero l z f = z
most-some Q (suc k) [] z f = z
most-some Q (suc k) (x ∷ l) z f = max-some Q (decided_state x.promise) (most (λ (d : Depot). decided_state d.promise) (take k l)) (f 0 (omega arith)) (most-some Q k l z (λ t h. f (suc t) (omega arith)))

pub highest-is : (k : ℕ) (l : LeaderState) (Q : ℕ → Type 0) → Q 0 → ((t : ℕ) (m : PromiseMetaData) → t < k → (place t l).promise ≡ Promised m → Q m.decided_idx) → Q (max_decided k l)
unfolding max_decided
highest-is k l Q z f = most-some Q k l.depots z (λ t h. one t h (place t l).promise refl)
  where
    one : (t : ℕ) → t < k → (p : PromiseState) → (place t l).promise ≡ p → Q (decided_state p)
    one t h NotPromised e = z
    one t h (Promised m) e = f t m h e
    one t h PromisedHigher e = z

-- who is marked as a promised follower
mark-is : (k t : ℕ) (l : LeaderState) → t < k → k ≤ max_depots → get_or (promised_followers k l) t false ≡ cond (eqb (t + 1) l.n_leader.pid) false (is_promised (place t l).promise)
unfolding promised_followers is_follower
mark-is k t l h d =
    get_d_tabulate max_depots (λ i. cond (ltb i k) (is_follower (i + 1) l) false) t false (omega arith) ∙ rw (lt-ltb t k h, pid-place t l)

pub marked-is : (k t b : ℕ) (l : LeaderState) → t < k → k ≤ max_depots → l.n_leader.pid ≡ b + 1 → get_or (promised_followers k l) t false ≡ true → (t ≢ b) × (is_promised (place t l).promise ≡ true)
marked-is k t b l h d p e = go (eqb (t + 1) l.n_leader.pid) refl (sym (mark-is k t l h d) ∙ e)
  where
    go : (x : Bool) → eqb (t + 1) l.n_leader.pid ≡ x → cond x false (is_promised (place t l).promise) ≡ true → (t ≢ b) × (is_promised (place t l).promise ≡ true)
    go true q r = absurd (not-both r refl)
    go false q r = ((λ s. eqb-false (t + 1) l.n_leader.pid q (omega arith)), r)

pub unmarked-is : (k t b : ℕ) (l : LeaderState) → t < k → k ≤ max_depots → l.n_leader.pid ≡ b + 1 → get_or (promised_followers k l) t false ≡ false → t ≢ b → is_promised (place t l).promise ≡ false
unmarked-is k t b l h d p e ne = go (eqb (t + 1) l.n_leader.pid) refl (sym (mark-is k t l h d) ∙ e)
  where
    go : (x : Bool) → eqb (t + 1) l.n_leader.pid ≡ x → cond x false (is_promised (place t l).promise) ≡ false → is_promised (place t l).promise ≡ false
    go true q r = absurd (ne (omega (arith, eqb-true (t + 1) l.n_leader.pid q)))
    go false q r = r
