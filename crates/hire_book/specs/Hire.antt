-- What a history of entries charges, from the entries alone (document 01, "The hire book"). Nothing here knows how a book is stored.
use Rattle.std.specs.Prelude.{ℕ, zero, suc, ◌-◌, ◌*◌, ◌/◌, ◌%◌, Bool, cond, ◌&&◌, List, [], ◌∷◌, ◌++◌, leb, eqb, length}
use Rattle.base.specs.Count.{count}
use Rattle.base.specs.Limits.{pumps}

-- Entry = (day x 2 + kind) x 256 + pump
abbrev pub kinds : ℕ
kinds = 2

abbrev pub pump_of : ℕ → ℕ
pump_of e = e % pumps

abbrev pub kind_of : ℕ → ℕ
kind_of e = e / pumps % kinds

abbrev pub day_of : ℕ → ℕ
day_of e = e / (pumps * kinds)

-- kind 0 out, 1 back
abbrev pub out_kind : ℕ
out_kind = 0

abbrev pub back_kind : ℕ
back_kind = 1

-- where a pump is: in the yard since the day of its last counted back (0 if none), or away from the day of its out
pub data Place : Type 0 where
  yard : ℕ → Place
  away : ℕ → Place

-- Out counts if the pump is in the yard and day is not below its last counted back.
-- Back counts if the pump is away and day is not below its out day.
abbrev pub counts : ℕ → ℕ → Place → Bool
counts kind day (yard back) = eqb kind out_kind && leb back day
counts kind day (away out) = eqb kind back_kind && leb out day

-- where an entry that counts leaves the pump, and where any entry does
abbrev pub next : ℕ → Place → Place
next day (yard back) = away day
next day (away out) = yard day

abbrev pub place_after : ℕ → ℕ → Place → Place
place_after kind day w = cond (counts kind day w) (next day w) w

-- a hire: a counted out and the counted back that ends it
pub record Hire : Type 0 where
  pub pump : ℕ
  pub out : ℕ
  pub back : ℕ

-- the hire that an entry which counts ends: an out ends none
abbrev pub ended : ℕ → ℕ → Place → List Hire
ended pump day (yard back) = []
ended pump day (away out) = record { pump = pump; out = out; back = day } ∷ []

abbrev pub hires_by : ℕ → ℕ → ℕ → Place → List Hire
hires_by pump kind day w = cond (counts kind day w) (ended pump day w) []

-- where each pump is; at first in the yard, with no back counted
abbrev pub Places : Type 0
Places = ℕ → Place

abbrev pub start : Places
start pump = yard 0

-- an entry moves its own pump alone
abbrev pub places_after : ℕ → ℕ → ℕ → Places → Places
places_after pump kind day s q = cond (eqb q pump) (place_after kind day (s q)) (s q)

-- the hires that a history counts, in the order in which they end
unfoldable pub hires_from : Places → List ℕ → List Hire
hires_from s [] = []
hires_from s (e ∷ es) =
    hires_by (pump_of e) (kind_of e) (day_of e) (s (pump_of e)) ++ hires_from (places_after (pump_of e) (kind_of e) (day_of e) s) es

abbrev pub hires_of : List ℕ → List Hire
hires_of entries = hires_from start entries

-- a charge: one pump on one day
pub record Pair : Type 0 where
  pub pump : ℕ
  pub day : ℕ

unfoldable pub days_from : ℕ → ℕ → ℕ → List Pair
days_from pump day zero = []
days_from pump day (suc n) = record { pump = pump; day = day } ∷ days_from pump (suc day) n

-- a hire charges the days from out up to, not including, back
abbrev pub pairs_of : Hire → List Pair
pairs_of h = days_from h.pump h.out (h.back - h.out)

unfoldable pub pairs_of_all : List Hire → List Pair
pairs_of_all [] = []
pairs_of_all (h ∷ hs) = pairs_of h ++ pairs_of_all hs

-- the (pump, day) pairs that a history charges, in the order charged, and the total, their number
abbrev pub charges_of : List ℕ → List Pair
charges_of entries = pairs_of_all (hires_of entries)

abbrev pub total : List ℕ → ℕ
total entries = length (charges_of entries)

-- how many of some pairs are a pump's, and how often one pair is among them
abbrev pub days_of : ℕ → List Pair → ℕ
days_of pump pairs = count (λ x. eqb x.pump pump) pairs

abbrev pub times : ℕ → ℕ → List Pair → ℕ
times pump day pairs = count (λ x. eqb x.pump pump && eqb x.day day) pairs
