-- No pair is charged twice.
use Prim.Native.Nat.{ℕ, ◌+◌, ◌-◌, ◌≤◌, ◌<◌}
use mathlib.Core.Bool.{Bool, true, false, ◌&&◌}
use mathlib.Core.List.{List, [], ◌∷◌, append-nil}
use mathlib.Core.Path.{◌≡◌, refl}
use native.Mathlib.Decide.{ℕ_discrete, dec_lt}
use native.Mathlib.Omega.{arith}
use lib.Dec.{eqb, leb}
use borrow.Author.Tests.{eq-eqb, ne_eqb, leb-true}
use Rattle.base.proofs.Tests.{both}
use Rattle.base.specs.Count.{count}
use Rattle.hire_book.specs.Hire.{Place, yard, away, Places, start, out_kind, back_kind, counts, place_after, places_after, pump_of, kind_of, day_of, hires_by, hires_from, pairs_of_all, charges_of, times}
use Rattle.hire_laws.proofs.Count.{count-append}
use Rattle.hire_laws.proofs.Pairs.{pairs-append, times-le-days, spread}
use Rattle.hire_laws.proofs.Stored.{hires-other}

-- the day before which a pump's charges are settled
abbrev floor : Place → ℕ
floor (yard back) = back
floor (away out) = out

-- what one entry charges of a pair: at most once, nothing before the pump's day, and nothing from the day on that it leaves
record Turn (day low high t : ℕ) : Type 0 where
  once : t ≤ 1
  rises : low ≤ high
  before : day < low → t ≡ 0
  after : high ≤ day → t ≡ 0

turn-none : {day low high : ℕ} → low ≤ high → Turn day low high 0
turn-none h = record { once = omega arith; rises = h; before = λ _. refl; after = λ _. refl }

-- what an entry charges of a pair, where its pump is at a place
charge : ℕ → ℕ → ℕ → ℕ → ℕ → Place → ℕ
charge q d pump kind day w = times q d (pairs_of_all (hires_by pump kind day w))

own_turn : (q d pump kind day : ℕ) (w : Place) → Turn d (floor w) (floor (place_after kind day w)) (charge q d pump kind day w)
unfolding charge count pairs_of_all
own_turn q d pump kind day w = go w (counts kind day w) refl
  where
    go : (w : Place) (t : Bool) → counts kind day w ≡ t → Turn d (floor w) (floor (place_after kind day w)) (charge q d pump kind day w)
    go w false e = rw e (turn-none (omega arith))
    go (yard back) true e = rw e (turn-none (leb-true back day (both (eqb kind out_kind) (leb back day) e).1))
    go (away out) true e =
        let l : out ≤ day = leb-true out day (both (eqb kind back_kind) (leb out day) e).1 in
        let s = spread q pump d out (day - out) in
        rw (e, append-nil) (record { once = s.once; rises = l; before = s.before; after = λ h. s.after (omega arith) })

charge-other : (q d pump kind day : ℕ) (w : Place) → (q ≡ pump → ⊥) → charge q d pump kind day w ≡ 0
unfolding charge
charge-other q d pump kind day w n =
    omega (arith, hires-other pump kind day q n w, times-le-days q d (pairs_of_all (hires_by pump kind day w)))

-- the same of any pair, with all the pumps' places
turn : (q d pump kind day : ℕ) (s : Places) → Turn d (floor (s q)) (floor (places_after pump kind day s q)) (charge q d pump kind day (s pump))
turn q d pump kind day s = go (ℕ_discrete q pump)
  where
    go : Dec (q ≡ pump) → Turn d (floor (s q)) (floor (places_after pump kind day s q)) (charge q d pump kind day (s pump))
    go (yes e) = rw (eq-eqb q pump e, e) (own_turn pump d pump kind day (s pump))
    go (no n) = rw (ne_eqb q pump n, charge-other q d pump kind day (s pump) n) (turn-none (omega arith))

-- from any places on: at most once, and not at all before the pump's day
record Settled (d low t : ℕ) : Type 0 where
  once : t ≤ 1
  before : d < low → t ≡ 0

join : {d low high t r : ℕ} → Turn d low high t → Settled d high r → Settled d low (t + r)
join {d} {low} {high} {t} {r} a b = record { once = go (dec_lt d high); before = λ h. omega (arith, a.before h, b.before (omega (arith, a.rises))) }
  where
    go : Dec (d < high) → t + r ≤ 1
    go (yes h) = omega (arith, b.before h, a.once)
    go (no n) = omega (arith, a.after (omega arith), b.once)

once-from : (q d : ℕ) (entries : List ℕ) (s : Places) → Settled d (floor (s q)) (times q d (pairs_of_all (hires_from s entries)))
unfolding hires_from count pairs_of_all charge
once-from q d [] s = record { once = omega arith; before = λ _. refl }
once-from q d (e ∷ es) s =
    let Now-on = hires_by (pump_of e) (kind_of e) (day_of e) (s (pump_of e)) in
    let after = places_after (pump_of e) (kind_of e) (day_of e) s in
    rw (pairs-append Now-on (hires_from after es), count-append (λ x. eqb x.pump q && eqb x.day d) (pairs_of_all Now-on) (pairs_of_all (hires_from after es)))
    (join (turn q d (pump_of e) (kind_of e) (day_of e) s) (once-from q d es after))

-- 3. each pair of a pump and a day is charged at most once
pub charged-once : (entries : List ℕ) (pump day : ℕ) → times pump day (charges_of entries) ≤ 1
charged-once entries pump day = (once-from pump day entries start).once
