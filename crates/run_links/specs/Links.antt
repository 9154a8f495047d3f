-- What links that overtake, copy or alter do to the claim on runs: agreement fails, or an entry is decided more often than it was proposed.
use Rattle.std.specs.Prelude.{ℕ, ◌≤◌, ◌<◌, ◌≡◌, List, [], ◌∷◌, map}
use Rattle.agreement.specs.Often.{often}
use Rattle.runs.specs.Runs.{Setup, State, Move, after}
use Rattle.runs.specs.Claim.{history}
use Rattle.run_cases.specs.Seen.{two, three, start, all, having, Agree}
use Rattle.run_cases.specs.Moves.{out, other}
use Rattle.run_cases.specs.Parted.{parted}
use Rattle.run_links.specs.Loose.{keeps, after_loose}
use Rattle.run_links.specs.Moves.{overtaken_moves, copied_moves, repeated_moves, altered_moves}

-- no depot has decided an entry more often than it was proposed: a part of (c) of the claim on runs
abbrev pub Sparing : Setup → State → Type 0
Sparing z σ = (i entry : ℕ) → i < z.depots → often entry (history σ i) ≤ often entry σ.proposed

-- the clusters after the runs
abbrev pub overtaken : State
overtaken = after_loose three overtaken_moves start

abbrev pub copied : State
copied = after_loose three copied_moves start

abbrev pub repeated : State
repeated = after_loose two repeated_moves start

abbrev pub altered : State
altered = after_loose two altered_moves start

pub record Links : Type 0 where
  -- with nothing overtaken, copied or altered a run is a run
  pub keeping : (z : Setup) (ms : List Move) (σ : State) → after_loose z (map keeps ms) σ ≡ after z ms σ
  -- a link that lets messages overtake another
  pub overtaken-parts : all three overtaken ≡ parted
  pub overtaken-breaks : ¬ Agree three overtaken
  -- a link that puts a copy of a message at its end
  pub copied-parts : all three copied ≡ parted
  pub copied-breaks : ¬ Agree three copied
  -- a link that puts a copy of a message right behind it
  pub repeated-twice : all two repeated ≡ having 2 (out ∷ out ∷ []) ∷ having 0 [] ∷ []
  pub repeated-proposed : repeated.proposed ≡ out ∷ []
  pub repeated-breaks : ¬ Sparing two repeated
  -- a link that alters a message
  pub altered-parts : all two altered ≡ having 1 (out ∷ []) ∷ having 1 (other ∷ []) ∷ []
  pub altered-breaks : ¬ Agree two altered
