-- The pairs that hires charge: by pump, by pair, and joined.
use Prim.Native.Nat.{ℕ, zero, suc, ◌+◌, ◌≤◌, ◌<◌}
use mathlib.Core.Bool.{Bool, true, false, ◌&&◌}
use mathlib.Core.List.{List, [], ◌∷◌, ◌++◌, append_assoc}
use mathlib.Core.Path.{◌≡◌, refl, sym, ◌∙◌}
use native.Mathlib.Decide.{ℕ_discrete}
use native.Mathlib.Omega.{arith}
use lib.Dec.{eqb}
use lib.ListN.{length}
use borrow.Author.Tests.{eq-eqb, ne_eqb}
use Rattle.base.specs.Count.{count, one}
use Rattle.base.proofs.Meet.{one-le}
use Rattle.hire_book.specs.Below.{sum_below}
use Rattle.hire_book.specs.Hire.{Hire, Pair, days_from, pairs_of, pairs_of_all, days_of, times}
use Rattle.hire_laws.proofs.Count.{sum-zero, sum-add, sum_one}

pub pairs-append : (a b : List Hire) → pairs_of_all (a ++ b) ≡ pairs_of_all a ++ pairs_of_all b
unfolding pairs_of_all
pairs-append [] b = refl
pairs-append (h ∷ a) b = rw (pairs-append a b) (sym (append_assoc (pairs_of h) (pairs_of_all a) (pairs_of_all b)))

module _ (pump : ℕ) where
  pub days-own : (day n : ℕ) → days_of pump (days_from pump day n) ≡ n
  unfolding count days_from
  days-own day zero = refl
  days-own day (suc n) = rw (eq-eqb pump pump refl, days-own (suc day) n) (omega arith)

  pub days-other : (q day n : ℕ) → (q ≡ pump → ⊥) → days_of q (days_from pump day n) ≡ 0
  unfolding count days_from
  days-other q day zero h = refl
  days-other q day (suc n) h = rw (ne_eqb pump q (λ e. h (sym e)), days-other q (suc day) n h)

one-and : (a b : Bool) → one (a && b) ≤ one a
one-and true true = omega arith
one-and true false = omega arith
one-and false b = omega arith

pub one-and-no : (a b : Bool) → b ≡ false → one (a && b) ≡ 0
one-and-no true b e = rw e
one-and-no false b e = refl

pub times-le-days : (pump day : ℕ) (l : List Pair) → times pump day l ≤ days_of pump l
unfolding count
times-le-days pump day [] = omega arith
times-le-days pump day (x ∷ l) = omega (arith, one-and (eqb x.pump pump) (eqb x.day day), times-le-days pump day l)

-- each pair's pump is below a bound
pub data Pumped (n : ℕ) : List Pair → Type 0 where
  none : Pumped n []
  more : {x : Pair} {l : List Pair} → x.pump < n → Pumped n l → Pumped n (x ∷ l)

pub pumped-append : {n : ℕ} {a b : List Pair} → Pumped n a → Pumped n b → Pumped n (a ++ b)
pumped-append none r = r
pumped-append (more h p) r = more h (pumped-append p r)

pub pumped-days : {n : ℕ} (pump day k : ℕ) → pump < n → Pumped n (days_from pump day k)
unfolding days_from
pumped-days pump day zero h = none
pumped-days pump day (suc k) h = more h (pumped-days pump (suc day) k h)

-- then each pair is counted with one pump
pub each-pump : {n : ℕ} {l : List Pair} → Pumped n l → sum_below (λ q. days_of q l) n ≡ length l
unfolding count
each-pump {n} none = sum-zero n
each-pump {n} (more {x} {l} h p) =
    sum-add (λ q. one (eqb x.pump q)) (λ q. days_of q l) n ∙ rw (sum_one x.pump n h, each-pump p) (omega arith)

-- consecutive days: a pair is among them at most once, and not at all below their first or from their end on
pub record Spread (pump day out n : ℕ) (t : ℕ) : Type 0 where
  pub once : t ≤ 1
  pub before : day < out → t ≡ 0
  pub after : out + n ≤ day → t ≡ 0

pub spread : (pump own day out n : ℕ) → Spread pump day out n (times pump day (days_from own out n))
unfolding count days_from
spread pump own day out zero = record { once = omega arith; before = λ _. refl; after = λ _. refl }
spread pump own day out (suc n) = go (ℕ_discrete out day) (spread pump own day (suc out) n)
  where
    go : Dec (out ≡ day) → Spread pump day (suc out) n (times pump day (days_from own (suc out) n)) → Spread pump day out (suc n) (one (eqb own pump && eqb out day) + times pump day (days_from own (suc out) n))
    go (yes e) r =
        let z = r.before (omega arith) in
        let k = one-le (eqb own pump && eqb out day) in
        record { once = omega arith; before = λ h. absurd (omega arith); after = λ h. absurd (omega arith) }
    go (no o) r =
        let z = one-and-no (eqb own pump) (eqb out day) (ne_eqb out day o) in
        record { once = omega (arith, r.once); before = λ h. omega (arith, r.before (omega arith)); after = λ h. omega (arith, r.after (omega arith)) }
