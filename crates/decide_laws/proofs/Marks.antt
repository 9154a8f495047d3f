-- The marks of the promised followers, of the preparable peers and of the peers leave out one depot, so they are fewer than the depots.
use Prim.Native.Nat.{ℕ, zero, suc, ◌+◌, ◌-◌, ◌≤◌, ◌<◌}
use mathlib.Core.Path.{◌≡◌, refl, ap}
use mathlib.Core.Bool.{Bool, true, false, cond, not}
use mathlib.Core.List.{List}
use native.Mathlib.Omega.{arith}
use lib.Dec.{ltb, eqb}
use lib.ListN.{get_or}
use borrow.Author.Tests.{eqb-true, eqb-false, eq-eqb, lt-ltb}
use Rattle.base.specs.Limits.{max_depots}
use Rattle.base.specs.Count.{one, count_below}
use Rattle.base.proofs.Lists.{get_d_tabulate}
use Rattle.base.proofs.Meet.{count-le}
use Rattle.quorum.specs.declared.Configuration.{Configuration}
use Rattle.leader_state.specs.declared.LeaderState.{LeaderState}
use Rattle.leader_state.specs.Places.{is_follower, is_peer, marks, promised_followers, preparable_peers}
use Rattle.sends.specs.Sends.{peers_of}

-- how many of the first n places are marked
abbrev pub marked : List Bool → ℕ → ℕ
marked l n = count_below (λ i. get_or l i false) n

-- a place that does not pass is not counted
pub left_out : (f : ℕ → Bool) (n i : ℕ) → i < n → f i ≡ false → count_below f n + 1 ≤ n
unfolding count_below
left_out f zero i h e = absurd (omega arith)
left_out f (suc n) i h e = go (f n) (eqb i n) refl refl (λ k. left_out f n i k e)
  where
    go : (t q : Bool) → f n ≡ t → eqb i n ≡ q → (i < n → count_below f n + 1 ≤ n) → (one t + count_below f n) + 1 ≤ suc n
    go false q p r again = omega (arith, count-le f n)
    go true true p r again = absurd (let w : ◌≡◌ {A = ℕ} 0 1 = cc (ap f (eqb-true i n r)) in omega arith)
    go true false p r again = omega (arith, again (omega (arith, eqb-false i n r)))

-- a depot whose test is false is not marked
marks-out : (depots pid : ℕ) (f : ℕ → Bool) → depots ≤ max_depots → 0 < pid → pid ≤ depots → f pid ≡ false → marked (marks depots f) depots + 1 ≤ depots
marks-out depots pid f d h k e = left_out (λ i. get_or (marks depots f) i false) depots (pid - 1) (omega arith) at-pid
  where
    at-pid : get_or (marks depots f) (pid - 1) false ≡ false
    at-pid =
        let l : (pid - 1) < max_depots = omega arith in
        let p : (pid - 1) + 1 ≡ pid = omega arith in
        rw (get_d_tabulate max_depots (λ i. cond (ltb i depots) (f (i + 1)) false) (pid - 1) false l, lt-ltb (pid - 1) depots (omega arith), p) e

module _ (depots pid : ℕ) (d : depots ≤ max_depots) (h : 0 < pid) (k : pid ≤ depots) where
  -- the leader itself is none of its promised followers
  pub few-followers : (s : LeaderState) → s.n_leader.pid ≡ pid → marked (promised_followers depots s) depots + 1 ≤ depots
  unfolding promised_followers is_follower
  few-followers s e = marks-out depots pid (λ p. is_follower p s) d h k (rw (eq-eqb pid s.n_leader.pid (rw e)))

  -- oneself is no peer
  pub few-preparable : (s : LeaderState) → marked (preparable_peers pid depots s) depots + 1 ≤ depots
  unfolding preparable_peers is_peer
  few-preparable s = marks-out depots pid (λ p. is_peer pid p s) d h k (rw (eq-eqb pid pid refl))

pub few-peers : (c : Configuration) → c.depots ≤ max_depots → 0 < c.pid → c.pid ≤ c.depots → marked (peers_of c) c.depots + 1 ≤ c.depots
unfolding peers_of
few-peers c d h k = marks-out c.depots c.pid (λ p. not (eqb p c.pid)) d h k (rw (eq-eqb c.pid c.pid refl))
