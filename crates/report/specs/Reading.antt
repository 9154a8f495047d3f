-- How a reader goes through its bytes, one at a time, with the book that the lines read so far make.
use Rattle.std.specs.Prelude.{ℕ, ◌+◌, ◌-◌, ◌*◌, true, false, cond, ◌&&◌, List, [], ◌∷◌, ltb, leb, eqb}
use Rattle.base.specs.Limits.{max_entry, largest}
use Rattle.decimal.specs.Digits.{digit0, is_digit}
use Rattle.page.specs.Page.{line_end, bad_line_of, page_of}
use Rattle.hire_book.specs.Book.{apply_of, charged, stored_days}
use Rattle.report.specs.declared.Reader.{Reader}

-- between two bytes: the reader and the book
pub record Reading : Type 0 where
  pub reader : Reader
  pub book : List ℕ

abbrev pub reading : Reader → List ℕ → Reading
reading reader book = record { reader = reader; book = book }

-- before the first byte: line 1, of which nothing is read
abbrev pub fresh_reader : Reader
fresh_reader = record { line = 1; any = false; value = 0; bad = false }

-- the value of a line that no further byte makes fit
abbrev pub unfit : ℕ
unfit = max_entry + 1

-- the value of a line with one byte more. Once above the limit it stays as it is, so it never passes ten times the limit.
unfoldable pub value_after : ℕ → ℕ → ℕ
value_after value b = cond (is_digit b) (cond (ltb max_entry value) value (value * 10 + (b - digit0))) unfit

abbrev pub with_byte : ℕ → Reader → Reader
with_byte b reader =
    record { line = reader.line; any = true; value = value_after reader.value b; bad = reader.bad }

-- the next line's number. It stays at the largest that 64 bits hold: no input has so many lines.
unfoldable pub line_after : ℕ → ℕ
line_after line = cond (ltb line largest) (line + 1) line

abbrev pub next_line : Reader → Reader
next_line reader = record { line = line_after reader.line; any = false; value = 0; bad = reader.bad }

-- the line that is read is bad: its number stays
abbrev pub marked : Reader → Reader
marked reader = record { line = reader.line; any = reader.any; value = reader.value; bad = true }

-- a line ends: its entry is applied, or the line is bad
unfoldable pub end_of : Reading → Reading
end_of d =
    cond (d.reader.any && leb d.reader.value max_entry)
    (reading (next_line d.reader) (apply_of d.reader.value d.book))
    (reading (marked d.reader) d.book)

-- a byte is read; after a bad line all is skipped
unfoldable pub byte_of : ℕ → Reading → Reading
byte_of b d =
    cond d.reader.bad d (cond (eqb b line_end) (end_of d) (reading (with_byte b d.reader) d.book))

-- bytes are read in order
unfoldable pub feed_of : Reading → List ℕ → Reading
feed_of d [] = d
feed_of d (b ∷ bytes) = feed_of (byte_of b d) bytes

-- the input ends: a line that has begun ends too
unfoldable pub last_of : Reading → Reading
last_of d = cond d.reader.bad d (cond d.reader.any (end_of d) d)

-- what is then written
unfoldable pub output_of : Reading → List ℕ
output_of d =
    cond d.reader.bad (bad_line_of d.reader.line) (page_of (charged d.book) (stored_days d.book))
