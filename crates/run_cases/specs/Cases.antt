-- What the computed runs show: the claim on runs is about runs in which entries are decided, and it fails by the old rule, and over links that do not keep their order.
use Rattle.std.specs.Prelude.{◌≡◌, [], ◌∷◌}
use Rattle.hire_book.specs.Book.{charged}
use Rattle.runs.specs.Runs.{State, Start, after}
use Rattle.run_cases.specs.Seen.{two, three, start, Seen, all, having, Agree}
use Rattle.run_cases.specs.Old.{old, after_by}
use Rattle.run_cases.specs.Loose.{after_loose}
use Rattle.run_cases.specs.Moves.{out, back, late_back, other, three_moves, stale_moves, overtaken_moves}

-- a depot that has decided the out and the back, and one that missed the back
abbrev pub right : Seen
right = having 2 (out ∷ back ∷ [])

abbrev pub wrong : Seen
wrong = having 2 (out ∷ late_back ∷ [])

-- the cluster after the stale case, by the old rule and by ours, and after an AcceptSync was overtaken
abbrev pub stale_old : State
stale_old = after_by old two stale_moves start

abbrev pub stale_ours : State
stale_ours = after two stale_moves start

abbrev pub disordered : State
disordered = after_loose three overtaken_moves start

pub record Cases : Type 0 where
  -- the runs begin as the claim asks
  pub two-start : Start two start
  pub three-start : Start three start
  -- a run with losses, a restart and reconnects in which all three depots decide both entries; their books charge pump 7 four days
  pub three-decide : all three (after three three_moves start) ≡ right ∷ right ∷ right ∷ []
  pub four-days : charged right.book 7 ≡ 4
  -- the stale case by the old rule: depot 1 decides a later entry in the place of the one that it missed; its book charges pump 7 nineteen days
  pub stale-old : all two stale_old ≡ right ∷ wrong ∷ []
  pub nineteen-days : charged wrong.book 7 ≡ 19
  pub stale-breaks : ¬ Agree two stale_old
  -- the same moves by our rule
  pub stale-ours : all two stale_ours ≡ right ∷ right ∷ []
  pub stale-agrees : Agree two stale_ours
  -- one AcceptSync is overtaken: depots 0 and 2 decide different entries at the first place
  pub overtaken : all three disordered ≡ having 1 (out ∷ []) ∷ having 0 [] ∷ having 1 (other ∷ []) ∷ []
  pub overtaken-breaks : ¬ Agree three disordered
