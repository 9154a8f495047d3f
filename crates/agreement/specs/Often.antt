-- How often a number stands in a list.
use Rattle.std.specs.Prelude.{ℕ, ◌+◌, List, [], ◌∷◌, eqb}
use Rattle.base.specs.Count.{one}

abbrev pub often : ℕ → List ℕ → ℕ
often e [] = 0
often e (x ∷ l) = one (eqb x e) + often e l
