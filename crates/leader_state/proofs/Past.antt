-- Places past the depots are neither changed nor read: each change leaves them, and records that agree on the depots' places get the same answers.
use Prim.Native.Nat.{ℕ, ◌+◌, ◌-◌, ◌≤◌, ◌<◌}
use mathlib.Core.Path.{◌≡◌, refl, ap}
use mathlib.Core.Bool.{Bool, true, false, cond}
use native.Mathlib.Omega.{arith}
use lib.Dec.{ltb}
use lib.ListN.{length, get_or, take}
use lib.Seq.{get_or-set_other, get_or-take, ext_get_or}
use borrow.Author.Tests.{ltb-true}
use Rattle.base.specs.Count.{count, most}
use Rattle.base.proofs.Lists.{on-first-past, length-tabulate, get_d_tabulate}
use Rattle.ballot.specs.declared.Ballot.{Ballot}
use Rattle.leader_state.specs.declared.Depot.{Depot}
use Rattle.leader_state.specs.declared.LeaderState.{LeaderState}
use Rattle.leader_state.specs.State.{fresh, depot_of, with_depot, with_of, forget_all}
use Rattle.leader_state.specs.Promises.{promised_count, max_decided}
use Rattle.leader_state.specs.Places.{accepted_at, is_follower, is_peer, marks, promised_followers, preparable_peers}

-- what stands past the depots' places is the same in both
abbrev pub KeptPast : ℕ → LeaderState → LeaderState → Type 0
KeptPast depots s r = (i : ℕ) → depots ≤ i → get_or r.depots i fresh ≡ get_or s.depots i fresh

pub one_place : (depots pid : ℕ) (f : Depot → Depot) (s : LeaderState) → 0 < pid → pid ≤ depots → KeptPast depots s (with_depot pid f s)
one_place depots pid f s h k i l = get_or-set_other s.depots (pid - 1) i (f (depot_of pid s)) fresh (λ e. omega arith)

pub new-leader : (depots : ℕ) (n : Ballot) (s : LeaderState) → KeptPast depots s (with_of n depots s)
unfolding with_of
new-leader depots n s i l = on-first-past depots (λ d. fresh) s.depots i fresh l

pub forgotten : (depots : ℕ) (s : LeaderState) → KeptPast depots s (forget_all depots s)
unfolding forget_all
forgotten depots s i l = on-first-past depots _ s.depots i fresh l

-- two records that agree on the ballot and on the depots' places
pub record Alike (depots : ℕ) (s t : LeaderState) : Type 0 where
  pub ballot : s.n_leader ≡ t.n_leader
  pub places : take depots s.depots ≡ take depots t.depots

module _ (depots : ℕ) (s t : LeaderState) (a : Alike depots s t) where
  pub counts-alike : (idx : ℕ) → (accepted_at idx depots s ≡ accepted_at idx depots t) × (promised_count depots s ≡ promised_count depots t) × (max_decided depots s ≡ max_decided depots t)
  unfolding accepted_at promised_count max_decided
  counts-alike idx = (ap (count _) a.places, ap (count _) a.places, ap (most _) a.places)

  place-alike : (i : ℕ) → i < depots → get_or s.depots i fresh ≡ get_or t.depots i fresh
  place-alike i l =
      let p : get_or (take depots s.depots) i fresh ≡ get_or s.depots i fresh = get_or-take depots s.depots i fresh l in
      let q : get_or (take depots t.depots) i fresh ≡ get_or t.depots i fresh = get_or-take depots t.depots i fresh l in
      let e : get_or (take depots s.depots) i fresh ≡ get_or (take depots t.depots) i fresh = ap (λ l. get_or l i fresh) a.places in
      cc

  depot-alike : (i : ℕ) → i < depots → depot_of (i + 1) s ≡ depot_of (i + 1) t
  depot-alike i l = let e : (i + 1) - 1 ≡ i = omega arith in rw e (place-alike i l)

  marks-alike : (f g : ℕ → Bool) → ((i : ℕ) → i < depots → f (i + 1) ≡ g (i + 1)) → marks depots f ≡ marks depots g
  marks-alike f g h = ext_get_or false (marks depots f) (marks depots g) (rw (length-tabulate, length-tabulate)) each
    where
      pick : (i : ℕ) (b : Bool) → ltb i depots ≡ b → cond b (f (i + 1)) false ≡ cond b (g (i + 1)) false
      pick i true e = h i (ltb-true i depots e)
      pick i false e = refl

      each : (i : ℕ) → i < length (marks depots f) → get_or (marks depots f) i false ≡ get_or (marks depots g) i false
      each i l =
          let k : i < 7 = omega (arith, length-tabulate 7 (λ i. cond (ltb i depots) (f (i + 1)) false)) in
          rw (get_d_tabulate 7 (λ i. cond (ltb i depots) (f (i + 1)) false) i false k, get_d_tabulate 7 (λ i. cond (ltb i depots) (g (i + 1)) false) i false k) (pick i (ltb i depots) refl)

  follower-alike : (i : ℕ) → i < depots → is_follower (i + 1) s ≡ is_follower (i + 1) t
  unfolding is_follower
  follower-alike i l = rw (a.ballot, depot-alike i l)

  peer-alike : (own i : ℕ) → i < depots → is_peer own (i + 1) s ≡ is_peer own (i + 1) t
  unfolding is_peer
  peer-alike own i l = rw (depot-alike i l)

  pub marked-alike : (own : ℕ) → (promised_followers depots s ≡ promised_followers depots t) × (preparable_peers own depots s ≡ preparable_peers own depots t)
  unfolding promised_followers preparable_peers
  marked-alike own = (marks-alike (λ pid. is_follower pid s) (λ pid. is_follower pid t) follower-alike, marks-alike (λ pid. is_peer own pid s) (λ pid. is_peer own pid t) (peer-alike own))
