-- A majority stands at every depot count; a read and a write quorum share a depot. Both are stated once, over the count.
use Prim.Native.Nat.{ℕ, ◌+◌, ◌≤◌, ◌<◌}
use mathlib.Core.Path.{◌≡◌, refl}
use mathlib.Core.Bool.{Bool, true, false, cond}
use native.Mathlib.Omega.{arith}
use lib.Dec.{ltb, eqb}
use borrow.Author.Tests.{le-ltb, lt-ltb, ltb-true, ltb-false, ne_eqb, eqb-false, le-leb, leb-true}
use Rattle.base.specs.Count.{count_below}
use Rattle.base.proofs.Meet.{Shared, meet}
use Rattle.quorum.specs.Quorum.{majority_of, read_size, write_size, is_depot, sizes_stand, stands_of}
use Rattle.quorum.specs.declared.Configuration.{Configuration}
use Rattle.quorum.specs.declared.Quorum.TheVariants.{Majority}

-- what a configuration that stands says
pub record Stands (c : Configuration) : Type 0 where
  pub least : 2 ≤ c.depots
  pub most : c.depots ≤ 7
  pub own : (0 < c.pid) × (c.pid ≤ c.depots)
  pub read : (0 < read_size c.quorum) × (read_size c.quorum ≤ c.depots)
  pub write : (0 < write_size c.quorum) × (write_size c.quorum ≤ c.depots)
  pub over : c.depots < read_size c.quorum + write_size c.quorum

-- a test that must fail for the rest to count
past : (t r : Bool) → cond t false r ≡ true → (t ≡ false) × (r ≡ true)
past true r e = absurd (let w : ◌≡◌ {A = ℕ} 0 1 = cc in omega arith)
past false r e = (refl, e)

held : (t r : Bool) → cond t r false ≡ true → (t ≡ true) × (r ≡ true)
held true r e = (refl, e)
held false r e = absurd (let w : ◌≡◌ {A = ℕ} 0 1 = cc in omega arith)

pub depot-range : (pid depots : ℕ) → is_depot pid depots ≡ true → (0 < pid) × (pid ≤ depots)
unfolding is_depot
depot-range pid depots e =
    let a = past (eqb pid 0) _ e in
    (let ne = eqb-false pid 0 a.0 in omega (arith, ne), leb-true pid depots a.1)

pub range-depot : (pid depots : ℕ) → 0 < pid → pid ≤ depots → is_depot pid depots ≡ true
unfolding is_depot
range-depot pid depots h k = rw (ne_eqb pid 0 (λ e. omega arith), le-leb pid depots k)

pub stands-says : (c : Configuration) → stands_of c ≡ true → Stands c
unfolding stands_of sizes_stand
stands-says c e =
    let a = past (ltb c.depots 2) _ e in
    let b = past (ltb 7 c.depots) _ a.1 in
    let o = held (is_depot c.pid c.depots) _ b.1 in
    let r₁ = past (eqb (read_size c.quorum) 0) _ o.1 in
    let r₂ = past (ltb c.depots (read_size c.quorum)) _ r₁.1 in
    let w₁ = past (eqb (write_size c.quorum) 0) _ r₂.1 in
    let w₂ = past (ltb c.depots (write_size c.quorum)) _ w₁.1 in
    record {
      least = ltb-false c.depots 2 a.0;
      most = ltb-false 7 c.depots b.0;
      own = depot-range c.pid c.depots o.0;
      read = (let n = eqb-false (read_size c.quorum) 0 r₁.0 in omega (arith, n), ltb-false _ _ r₂.0);
      write = (let n = eqb-false (write_size c.quorum) 0 w₁.0 in omega (arith, n), ltb-false _ _ w₂.0);
      over = ltb-true _ _ w₂.1;
    }

pub says-stands : (c : Configuration) → Stands c → stands_of c ≡ true
unfolding stands_of sizes_stand
says-stands c s =
    rw (
      le-ltb c.depots 2 s.least,
      le-ltb 7 c.depots s.most,
      range-depot c.pid c.depots s.own.0 s.own.1,
      ne_eqb (read_size c.quorum) 0 (λ e. omega (arith, s.read.0)),
      le-ltb c.depots (read_size c.quorum) s.read.1,
      ne_eqb (write_size c.quorum) 0 (λ e. omega (arith, s.write.0)),
      le-ltb c.depots (write_size c.quorum) s.write.1,
      lt-ltb c.depots (read_size c.quorum + write_size c.quorum) s.over,
    )

-- a majority stands, whatever the depot count
pub majority-stands : (depots pid : ℕ) → 2 ≤ depots → depots ≤ 7 → 0 < pid → pid ≤ depots → stands_of (record { depots = depots; pid = pid; quorum = Majority (majority_of depots) }) ≡ true
majority-stands depots pid l m o p =
    says-stands (record { depots = depots; pid = pid; quorum = Majority (majority_of depots) }) (record { least = l; most = m; own = (o, p); read = (omega arith, omega arith); write = (omega arith, omega arith); over = omega arith })

-- two sets of depots that reach read and write share a depot, which is here in hand
pub quorums-meet : (c : Configuration) → stands_of c ≡ true → (R W : ℕ → Bool) → read_size c.quorum ≤ count_below R c.depots → write_size c.quorum ≤ count_below W c.depots → Shared R W c.depots
quorums-meet c e R W r w = meet R W c.depots (omega (arith, (stands-says c e).over))
