-- What each call gives: the answer and everything lent. Refusals stand in the order of R2.0 (docs/RULES.md), and each leaves all as found.
use Rattle.std.specs.Prelude.{ℕ, ◌≤◌, ◌≡◌, cond, List, [], ◌∷◌, ◌++◌, length, take, drop, ltb, Result}
use Rattle.std.specs.Result.{result_unwrap_or}
use Rattle.base.specs.Refusal.{answer_number}
use Rattle.base.specs.declared.Refusal.{Refusal}
use Rattle.page.specs.Page.{report_bytes}
use Rattle.hire_book.specs.Book.{broken_of, fresh_book}
use Rattle.hire_book.specs.Step.{wrong_length, of_sound}
use Rattle.report.specs.declared.Reader.{Reader}
use Rattle.report.specs.Reading.{Reading, reading, fresh_reader, feed_of, last_of, output_of}

-- what a caller sees of a part that was fed
pub record SeenFed : Type 0 where
  pub answer : ℕ
  pub reading : Reading

-- refused, the caller goes on with the reader that it passed
abbrev pub seen_fed : Result Reader Refusal → Reader → List ℕ → SeenFed
seen_fed r reader book = record { answer = answer_number r; reading = reading (result_unwrap_or r reader) book }

unfoldable pub feed_step : Reading → List ℕ → SeenFed
feed_step d part =
    of_sound (λ n. record { answer = n; reading = d }) d.book (record { answer = 0; reading = feed_of d part })

-- what a caller sees of a report that was written
pub record SeenReport : Type 0 where
  pub answer : ℕ
  pub count : ℕ
  pub book : List ℕ
  pub out : List ℕ

abbrev pub seen_report : Result ℕ Refusal → List ℕ → List ℕ → SeenReport
seen_report r book out = record { answer = answer_number r; count = result_unwrap_or r 0; book = book; out = out }

-- text at the start of the buffer, whose further bytes stay as found
abbrev pub written : List ℕ → Reading → List ℕ → SeenReport
written text d out = record { answer = 0; count = length text; book = d.book; out = text ++ drop (length text) out }

abbrev pub refused : ℕ → Reading → List ℕ → SeenReport
refused n d out = record { answer = n; count = 0; book = d.book; out = out }

-- n counts bytes at the start of the buffer. The second part follows from the first; with both a caller's `&out[..n]` asks nothing more.
abbrev pub Counted : ℕ → List ℕ → Type 0
Counted n out = (n ≤ length out) × (n ≡ length (take n out))

unfoldable pub finish_step : Reading → List ℕ → SeenReport
finish_step d out =
    cond (wrong_length d.book) (refused 1 d out)
    (cond (ltb (length out) report_bytes) (refused 1 d out)
    (cond (broken_of d.book) (refused 2 d out)
    (written (output_of (last_of d)) (last_of d) out)))

-- a caller that feeds parts in turn, each with the reader and the book that the part before it left
unfoldable pub feed_parts : Reading → List (List ℕ) → Reading
feed_parts d [] = d
feed_parts d (part ∷ parts) = feed_parts (feed_step d part).reading parts

-- at the start: nothing read, and nothing entered in the book
abbrev pub fresh_reading : Reading
fresh_reading = reading fresh_reader fresh_book

-- the parts as one row of bytes
unfoldable pub joined : List (List ℕ) → List ℕ
joined [] = []
joined (part ∷ parts) = part ++ joined parts
