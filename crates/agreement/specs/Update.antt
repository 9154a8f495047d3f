-- A function changed at one place.
use Rattle.std.specs.Prelude.{ℕ, Bool, cond, eqb}
use Rattle.ballot.specs.Ballot.{same}
use Rattle.ballot.specs.declared.Ballot.{Ballot}

-- f, with x at the keys that pass the test
unfoldable pub put : {K X : Type 0} → (K → Bool) → X → (K → X) → K → X
put here x f k = cond (here k) x (f k)

-- at a depot; at a ballot; at a depot's ballot
abbrev pub at_depot : {X : Type 0} → ℕ → X → (ℕ → X) → ℕ → X
at_depot b x f = put (λ c. eqb c b) x f

abbrev pub at_ballot : {X : Type 0} → Ballot → X → (Ballot → X) → Ballot → X
at_ballot n x f = put (λ m. same m n) x f

abbrev pub at_both : {X : Type 0} → ℕ → Ballot → X → (ℕ → Ballot → X) → ℕ → Ballot → X
at_both b n x f = at_depot b (at_ballot n x (f b)) f
