-- The hire book as a box keeps it: a row of 768 cells, `cells` = 3 for each of the 256 pumps. Pump p has, from cell 3 p on,
--     the day of its last counted back, or 0 if there is none;
--     its open out: 0 while it is in the yard, and day + 1 while it is away from that day;
--     its charged days.
use Rattle.std.specs.Prelude.{ℕ, ◌+◌, ◌-◌, ◌*◌, Bool, false, cond, ◌||◌, List, [], ◌∷◌, ◌≡◌, ltb, eqb, get_or, length, replicate, set}
use Rattle.base.specs.Limits.{pumps, max_day, max_entry}
use Rattle.hire_book.specs.Below.{any_below, sum_below}
use Rattle.hire_book.specs.Hire.{Place, yard, away, counts, pump_of, kind_of, day_of}

abbrev pub cells : ℕ
cells = 3

abbrev pub book_length : ℕ
book_length = pumps * cells

-- where a pump's cells lie
abbrev pub last_back_at : ℕ → ℕ
last_back_at pump = pump * cells + 0

abbrev pub open_out_at : ℕ → ℕ
open_out_at pump = pump * cells + 1

abbrev pub charged_at : ℕ → ℕ
charged_at pump = pump * cells + 2

-- and what they hold
abbrev pub last_back : List ℕ → ℕ → ℕ
last_back book pump = get_or book (last_back_at pump) 0

abbrev pub open_out : List ℕ → ℕ → ℕ
open_out book pump = get_or book (open_out_at pump) 0

abbrev pub charged : List ℕ → ℕ → ℕ
charged book pump = get_or book (charged_at pump) 0

-- where a pump is, by its first two cells
abbrev pub place_at : ℕ → ℕ → Place
place_at back open-out = cond (eqb open-out 0) (yard back) (away (open-out - 1))

abbrev pub place_of : List ℕ → ℕ → Place
place_of book pump = place_at (last_back book pump) (open_out book pump)

-- an entry that counts, written: an out makes the pump away from that day; a back makes it the last counted back, and charges the days from out up to, not including, back
abbrev pub written : ℕ → ℕ → Place → List ℕ → List ℕ
written pump day (yard back) book = set book (open_out_at pump) (day + 1)
written pump day (away out) book =
    set (set (set book (last_back_at pump) day) (open_out_at pump) 0) (charged_at pump) (charged book pump + (day - out))

-- a pump's out (kind 0) or back (kind 1) on a day: what does not count changes nothing
unfoldable pub entered : ℕ → ℕ → ℕ → List ℕ → List ℕ
entered pump kind day book = cond (counts kind day (place_of book pump)) (written pump day (place_of book pump) book) book

-- one entry, and entries in order
abbrev pub apply_of : ℕ → List ℕ → List ℕ
apply_of e book = entered (pump_of e) (kind_of e) (day_of e) book

unfoldable pub apply_all : List ℕ → List ℕ → List ℕ
apply_all [] book = book
apply_all (e ∷ es) book = apply_all es (apply_of e book)

-- a book in which nothing was entered, and the book that a history makes
unfoldable pub fresh_book : List ℕ
fresh_book = replicate book_length 0

abbrev pub book_of : List ℕ → List ℕ
book_of entries = apply_all entries fresh_book

-- refusal 2 (R2.2.12 to R2.2.14), of one pump: a day is above 65,535, its charged days pass the day of its last counted back (0 if none), or an open out lies before that back
abbrev pub open_above : ℕ → Place → Bool
open_above limit (yard back) = false
open_above limit (away out) = ltb limit out

abbrev pub open_before : ℕ → Place → Bool
open_before day (yard back) = false
open_before day (away out) = ltb out day

unfoldable pub broken_at : ℕ → ℕ → ℕ → Bool
broken_at back open-out days =
    ltb max_day back || open_above max_day (place_at back open-out) || ltb back days || open_before back (place_at back open-out)

abbrev pub pump_broken : List ℕ → ℕ → Bool
pump_broken book pump = broken_at (last_back book pump) (open_out book pump) (charged book pump)

-- refusal 2, of the book
unfoldable pub broken_of : List ℕ → Bool
broken_of book = any_below (pump_broken book) pumps

-- a book that stands: the right length, and not broken
pub record Sound (book : List ℕ) : Type 0 where
  pub cells : length book ≡ book_length
  pub kept : broken_of book ≡ false

-- the stored days of all pumps
abbrev pub stored_days : List ℕ → ℕ
stored_days book = sum_below (charged book) pumps

-- some entry is above its limit
unfoldable pub any_above : List ℕ → Bool
any_above entries = any_below (λ i. ltb max_entry (get_or entries i 0)) (length entries)
