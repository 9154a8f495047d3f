-- The days that a book stores are the pairs that the history charges: of each pump, and of all pumps together.
use Prim.Native.Nat.{ℕ, ◌+◌, ◌-◌, ◌<◌}
use mathlib.Core.Bool.{Bool, true, false}
use mathlib.Core.List.{List, [], ◌∷◌, append-nil}
use mathlib.Core.Path.{◌≡◌, refl, sym, ap, ◌∙◌}
use native.Mathlib.Decide.{ℕ_discrete}
use native.Mathlib.Nat.{add-zero}
use native.Mathlib.Omega.{arith}
use lib.Dec.{eqb}
use lib.ListN.{length}
use borrow.Author.Tests.{eq-eqb, ne_eqb, le-leb}
use Rattle.base.specs.Count.{count}
use Rattle.base.specs.Limits.{pumps}
use Rattle.hire_book.proofs.Cells.{Entered, stays, outs, backs, view, length-entered, other, back-other, out-open, back-back, back-open, back-charged}
use Rattle.hire_book.proofs.Sound.{fresh_at, fresh-length}
use Rattle.hire_book.specs.Book.{book_length, last_back_at, open_out_at, charged_at, last_back, open_out, charged, place_at, place_of, apply_of, apply_all, fresh_book, book_of, stored_days}
use Rattle.hire_book.specs.Hire.{Place, yard, away, Places, start, counts, place_after, places_after, pump_of, kind_of, day_of, hires_by, hires_from, pairs_of_all, charges_of, days_of, total}
use Rattle.hire_laws.proofs.Count.{count-append, sum_same}
use Rattle.hire_laws.proofs.Pairs.{pairs-append, days-own, days-other, Pumped, none, pumped-append, pumped-days, each-pump}

-- where a pump is, by its cells
in-yard : (back open-out : ℕ) → open-out ≡ 0 → place_at back open-out ≡ yard back
in-yard back open-out e = rw (eq-eqb open-out 0 e)

is-away : (back open-out : ℕ) → 0 < open-out → place_at back open-out ≡ away (open-out - 1)
is-away back open-out h = rw (ne_eqb open-out 0 (omega arith))

away-from : (back day : ℕ) → place_at back (day + 1) ≡ away day
away-from back day = is-away back (day + 1) (omega arith) ∙ ap away (omega arith)

-- one entry, seen by the book and by the walk over the entries
module _ (pump kind day : ℕ) where
  place_other : {book b : List ℕ} (q : ℕ) → (q ≡ pump → ⊥) → Entered pump kind day book b → place_of b q ≡ place_of book q
  place_other q n (stays e) = refl
  place_other {book} q n (outs k z l) = rw (other book (open_out_at pump) (last_back_at q) (day + 1) (omega arith), other book (open_out_at pump) (open_out_at q) (day + 1) (omega arith))
  place_other {book} q n (backs k z l) = rw (back-other book pump day _ q 0 n (omega arith), back-other book pump day _ q 1 n (omega arith))

  charged-other : {book b : List ℕ} (q : ℕ) → (q ≡ pump → ⊥) → Entered pump kind day book b → charged b q ≡ charged book q
  charged-other q n (stays e) = refl
  charged-other {book} q n (outs k z l) = other book (open_out_at pump) (charged_at q) (day + 1) (omega arith)
  charged-other {book} q n (backs k z l) = back-other book pump day _ q 2 n (omega arith)

  module _ (is : pump < pumps) where
    place-own : {book b : List ℕ} → length book ≡ book_length → Entered pump kind day book b → place_of b pump ≡ place_after kind day (place_of book pump)
    place-own a (stays e) = rw e
    place-own {book} a (outs k z l) =
        rw (in-yard (last_back book pump) (open_out book pump) z, k, le-leb _ _ l)
        (ap (place_at _) (out-open book pump day 0 a is) ∙ away-from _ day)
    place-own {book} a (backs k z l) =
        rw (is-away (last_back book pump) (open_out book pump) z, k, le-leb _ _ l)
        (in-yard _ _ (back-open book pump day _ a is) ∙ ap yard (back-back book pump day _ a is))

    charged-own : {book b : List ℕ} → length book ≡ book_length → Entered pump kind day book b → charged b pump ≡ charged book pump + days_of pump (pairs_of_all (hires_by pump kind day (place_of book pump)))
    unfolding count pairs_of_all
    charged-own {book} a (stays e) = rw e (sym (add-zero (charged book pump)))
    charged-own {book} a (outs k z l) =
        rw (in-yard (last_back book pump) (open_out book pump) z, k, le-leb _ _ l)
        (other book (open_out_at pump) (charged_at pump) (day + 1) (omega arith) ∙ sym (add-zero (charged book pump)))
    charged-own {book} a (backs k z l) =
        rw (is-away (last_back book pump) (open_out book pump) z, k, le-leb _ _ l, append-nil, days-own pump _ _)
        (back-charged book pump day _ a is)

  -- an entry charges no other pump
  pub hires-other : (q : ℕ) → (q ≡ pump → ⊥) → (w : Place) → days_of q (pairs_of_all (hires_by pump kind day w)) ≡ 0
  unfolding count pairs_of_all
  hires-other q n w = go w (counts kind day w) refl
    where
      go : (w : Place) (t : Bool) → counts kind day w ≡ t → days_of q (pairs_of_all (hires_by pump kind day w)) ≡ 0
      go w false e = rw e
      go (yard back) true e = rw e
      go (away out) true e = rw (e, append-nil) (days-other pump q out _ n)

-- the walk has each pump where the book has it
Agree : Places → List ℕ → Type 0
Agree s book = (q : ℕ) → q < pumps → s q ≡ place_of book q

agree_after : (pump kind day : ℕ) → pump < pumps → (s : Places) {book b : List ℕ} → length book ≡ book_length → Agree s book → Entered pump kind day book b → Agree (places_after pump kind day s) b
unfolding Agree
agree_after pump kind day is s {book} {b} a g r q h = go (ℕ_discrete q pump)
  where
    go : Dec (q ≡ pump) → places_after pump kind day s q ≡ place_of b q
    go (yes e) = rw (eq-eqb q pump e, e, g pump is) (sym (place-own pump kind day is a r))
    go (no n) = rw (ne_eqb q pump n, g q h) (sym (place_other pump kind day q n r))

charged-after : (pump kind day : ℕ) → pump < pumps → (s : Places) {book b : List ℕ} → length book ≡ book_length → Agree s book → Entered pump kind day book b → (q : ℕ) → charged b q ≡ charged book q + days_of q (pairs_of_all (hires_by pump kind day (s pump)))
unfolding Agree
charged-after pump kind day is s {book} {b} a g r q = go (ℕ_discrete q pump)
  where
    go : Dec (q ≡ pump) → charged b q ≡ charged book q + days_of q (pairs_of_all (hires_by pump kind day (s pump)))
    go (yes e) = rw (e, g pump is) (charged-own pump kind day is a r)
    go (no n) = rw (hires-other pump kind day q n (s pump)) (charged-other pump kind day q n r ∙ sym (add-zero (charged book q)))

-- from any place on: what is stored grows by what is charged
stored-from : (entries : List ℕ) (s : Places) (book : List ℕ) → length book ≡ book_length → Agree s book → (q : ℕ) → charged (apply_all entries book) q ≡ charged book q + days_of q (pairs_of_all (hires_from s entries))
unfolding apply_all hires_from count pairs_of_all
stored-from [] s book a g q = sym (add-zero (charged book q))
stored-from (e ∷ es) s book a g q =
    let r = view (pump_of e) (kind_of e) (day_of e) book in
    let is : pump_of e < pumps = omega arith in
    let Now-on = hires_by (pump_of e) (kind_of e) (day_of e) (s (pump_of e)) in
    let later = hires_from (places_after (pump_of e) (kind_of e) (day_of e) s) es in
    let ih = stored-from es (places_after (pump_of e) (kind_of e) (day_of e) s) (apply_of e book) (length-entered r ∙ a) (agree_after _ _ _ is s a g r) q in
    let one_more = charged-after (pump_of e) (kind_of e) (day_of e) is s a g r q in
    rw (pairs-append Now-on later, count-append (λ x. eqb x.pump q) (pairs_of_all Now-on) (pairs_of_all later)) (omega (arith, ih, one_more))

agree_fresh : Agree start fresh_book
unfolding Agree
agree_fresh q h = rw (fresh_at (last_back_at q) (omega arith), fresh_at (open_out_at q) (omega arith))

-- 1. the stored days of each pump are the number of its pairs that the history charges
pub stored-days : (entries : List ℕ) (pump : ℕ) → pump < pumps → charged (book_of entries) pump ≡ days_of pump (charges_of entries)
stored-days entries pump h =
    stored-from entries start fresh_book fresh-length agree_fresh pump ∙ rw (fresh_at (charged_at pump) (omega arith)) (omega arith)

hire-pumped : (pump kind day : ℕ) (w : Place) → pump < pumps → Pumped pumps (pairs_of_all (hires_by pump kind day w))
unfolding pairs_of_all
hire-pumped pump kind day w h = go w (counts kind day w) refl
  where
    go : (w : Place) (t : Bool) → counts kind day w ≡ t → Pumped pumps (pairs_of_all (hires_by pump kind day w))
    go w false e = rw e none
    go (yard back) true e = rw e none
    go (away out) true e = rw e (pumped-append (pumped-days pump out _ h) none)

charges-pumped : (entries : List ℕ) (s : Places) → Pumped pumps (pairs_of_all (hires_from s entries))
unfolding hires_from pairs_of_all
charges-pumped [] s = none
charges-pumped (e ∷ es) s =
    let later = hires_from (places_after (pump_of e) (kind_of e) (day_of e) s) es in
    rw (pairs-append (hires_by (pump_of e) (kind_of e) (day_of e) (s (pump_of e))) later)
    (pumped-append (hire-pumped (pump_of e) (kind_of e) (day_of e) (s (pump_of e)) (omega arith)) (charges-pumped es _))

-- 2. the stored days of all pumps are the total
pub stored-total : (entries : List ℕ) → stored_days (book_of entries) ≡ total entries
stored-total entries = sum_same _ _ pumps (stored-days entries) ∙ each-pump (charges-pumped entries start)
