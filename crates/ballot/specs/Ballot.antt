-- A ballot is (round, priority, pid), compared in that order; all zero is the default.
use Rattle.std.specs.Prelude.{ℕ, Bool, true, false, cond, ltb, eqb}
use Rattle.ballot.specs.declared.Ballot.{Ballot}
use Rattle.std.specs.declared.cmp.Ordering.{Ordering}
use Rattle.std.specs.declared.cmp.Ordering.TheVariants.{Less, Equal, Greater}

-- two numbers compared, and where they are equal what comes next
abbrev pub by_num : ℕ → ℕ → Ordering → Ordering
by_num a b next = cond (ltb a b) Less (cond (ltb b a) Greater next)

unfoldable pub compare_of : Ballot → Ballot → Ordering
compare_of a b = by_num a.n b.n (by_num a.priority b.priority (by_num a.pid b.pid Equal))

abbrev pub is_above : Ordering → Bool
is_above Less = false
is_above Equal = false
is_above Greater = true

abbrev pub is_same : Ordering → Bool
is_same Less = false
is_same Equal = true
is_same Greater = false

-- a is above b
unfoldable pub above : Ballot → Ballot → Bool
above a b = is_above (compare_of a b)

-- a is b
unfoldable pub same : Ballot → Ballot → Bool
same a b = is_same (compare_of a b)

-- all zero
abbrev pub default : Ballot
default = record { n = 0; priority = 0; pid = 0 }

unfoldable pub is_default : Ballot → Bool
is_default b = cond (eqb b.n 0) (cond (eqb b.priority 0) (eqb b.pid 0) false) false
