-- Document 01, "Quorums": Majority is depots / 2 rounded down, plus 1, for both; Flexible has a read and a write size. A count reaches a quorum when it is at least the size.
use Rattle.std.specs.Prelude.{ℕ, ◌+◌, ◌/◌, Bool, false, cond, leb, ltb, eqb, Option, None, Some}
use Rattle.base.specs.Limits.{min_depots, max_depots}
use Rattle.quorum.specs.declared.FlexibleQuorum.{FlexibleQuorum}
use Rattle.quorum.specs.declared.Quorum.{Quorum}
use Rattle.quorum.specs.declared.Quorum.TheVariants.{Majority, Flexible}
use Rattle.quorum.specs.declared.Configuration.{Configuration}

abbrev pub majority_of : ℕ → ℕ
majority_of depots = depots / 2 + 1

abbrev pub with_of : Option FlexibleQuorum → ℕ → Quorum
with_of (Some q) depots = Flexible q
with_of None depots = Majority (majority_of depots)

abbrev pub read_size : Quorum → ℕ
read_size (Majority m) = m
read_size (Flexible q) = q.read_quorum_size

abbrev pub write_size : Quorum → ℕ
write_size (Majority m) = m
write_size (Flexible q) = q.write_quorum_size

unfoldable pub reaches_read : Quorum → ℕ → Bool
reaches_read q n = leb (read_size q) n

unfoldable pub reaches_write : Quorum → ℕ → Bool
reaches_write q n = leb (write_size q) n

-- 1 to depots: a pid that is a depot's, a size in its range
unfoldable pub is_depot : ℕ → ℕ → Bool
is_depot pid depots = cond (eqb pid 0) false (leb pid depots)

-- both sizes in range, and read + write above the depots
unfoldable pub sizes_stand : ℕ → ℕ → ℕ → Bool
sizes_stand read write depots =
    cond (eqb read 0) false
    (cond (ltb depots read) false
    (cond (eqb write 0) false
    (cond (ltb depots write) false
    (ltb depots (read + write)))))

-- refusal 1's part on numbers: depots, own pid and quorum sizes are in range, and read + write is above the depots
unfoldable pub stands_of : Configuration → Bool
stands_of c =
    cond (ltb c.depots min_depots) false
    (cond (ltb max_depots c.depots) false
    (cond (is_depot c.pid c.depots) (sizes_stand (read_size c.quorum) (write_size c.quorum) c.depots) false))
