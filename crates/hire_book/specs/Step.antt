-- What each call on a book gives: the answer and the book after it. Refusals stand in the order of R13.10 (docs/RULES.md), and each leaves the book as found.
use Rattle.std.specs.Prelude.{ℕ, Bool, true, cond, not, List, ltb, leb, eqb, length, Result}
use Rattle.std.specs.Result.{result_unwrap_or}
use Rattle.base.specs.Limits.{pumps, max_entry}
use Rattle.base.specs.Refusal.{answer_number}
use Rattle.base.specs.declared.Refusal.{Refusal}
use Rattle.hire_book.specs.Book.{book_length, broken_of, apply_of, apply_all, any_above, fresh_book, charged, stored_days}

-- what a caller sees of a call that was lent a book
pub record Seen : Type 0 where
  pub answer : ℕ
  pub book : List ℕ

abbrev pub seen : ℕ → List ℕ → Seen
seen answer book = record { answer = answer; book = book }

-- refusal 1 of a lent book, and then refusal 2, before whatever else a call gives
abbrev pub wrong_length : List ℕ → Bool
wrong_length book = not (eqb (length book) book_length)

abbrev pub of_sound : {A : Type 0} → (ℕ → A) → List ℕ → A → A
of_sound refused book rest = cond (wrong_length book) (refused 1) (cond (broken_of book) (refused 2) rest)

-- those two refusals alone
abbrev pub check_of : List ℕ → ℕ
check_of book = of_sound (λ n. n) book 0

unfoldable pub apply_step : List ℕ → ℕ → Seen
apply_step book e = of_sound (λ n. seen n book) book (cond (ltb max_entry e) (seen 4 book) (seen 0 (apply_of e book)))

unfoldable pub apply_all_step : List ℕ → List ℕ → Seen
apply_all_step book entries =
    of_sound (λ n. seen n book) book (cond (any_above entries) (seen 4 book) (seen 0 (apply_all entries book)))

unfoldable pub fresh_step : List ℕ → Seen
fresh_step book = cond (wrong_length book) (seen 1 book) (seen 0 fresh_book)

-- a slice of the wrong length is no book that stands
unfoldable pub is_broken_of : List ℕ → Bool
is_broken_of book = cond (wrong_length book) true (broken_of book)

-- an answer in numbers: the refusal's (R13.10), or 0 with the days
pub record Told : Type 0 where
  pub number : ℕ
  pub days : ℕ

abbrev pub tell : ℕ → ℕ → Told
tell number days = record { number = number; days = days }

abbrev pub told : Result ℕ Refusal → Told
told r = tell (answer_number r) (result_unwrap_or r 0)

-- a pump's stored days; a pump that is none is an index above its limit
unfoldable pub charged_step : List ℕ → ℕ → Told
charged_step book pump = of_sound (λ n. tell n 0) book (cond (leb pumps pump) (tell 4 0) (tell 0 (charged book pump)))

-- the stored days of all pumps
unfoldable pub total_step : List ℕ → Told
total_step book = of_sound (λ n. tell n 0) book (tell 0 (stored_days book))
