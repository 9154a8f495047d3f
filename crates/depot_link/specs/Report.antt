-- What the linked report gives: the page of a book, as text at the start of a buffer.
use Rattle.std.specs.Prelude.{ℕ, cond, List, ◌++◌, ltb, length, drop}
use Rattle.page.specs.Page.{page_of, report_bytes}
use Rattle.hire_book.specs.Book.{charged, stored_days, broken_of}
use Rattle.hire_book.specs.Step.{wrong_length}

pub record Reported : Type 0 where
  pub number : ℕ
  pub count : ℕ
  pub out : List ℕ

abbrev pub reported : ℕ → ℕ → List ℕ → Reported
reported number count out = record { number = number; count = count; out = out }

-- the text of a book, and the buffer with it at its start
abbrev pub text_of : List ℕ → List ℕ
text_of book = page_of (charged book) (stored_days book)

unfoldable pub report_in : List ℕ → List ℕ → Reported
report_in book out =
    cond (wrong_length book) (reported 1 0 out)
    (cond (ltb (length out) report_bytes) (reported 1 0 out)
    (cond (broken_of book) (reported 2 0 out)
    (reported 0 (length (text_of book)) (text_of book ++ drop (length (text_of book)) out))))
