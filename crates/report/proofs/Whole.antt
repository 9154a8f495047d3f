-- The whole report: parts fed in turn and then finished write what the definition says of their bytes, however the input was cut.
use Prim.Native.Nat.{ℕ, suc, ◌+◌, ◌≤◌, ◌<◌}
use native.Mathlib.Omega.{arith}
use mathlib.Core.Path.{◌≡◌, refl, sym, ap, ◌∙◌}
use mathlib.Core.Bool.{Bool, true, false, cond}
use mathlib.Core.List.{List, [], ◌∷◌, ◌++◌, map, append_assoc, append-nil}
use lib.Dec.{eqb}
use lib.ListN.{length}
use borrow.Author.Tests.{eqb-true, ne_eqb, le-ltb}
use Rattle.base.specs.Limits.{largest}
use Rattle.decimal.specs.Digits.{value_of}
use Rattle.page.specs.Page.{line_end, bad_line_of, page_of, report_bytes}
use Rattle.page.proofs.Rows.{page-same}
use Rattle.hire_book.specs.Hire.{charges_of, days_of, total}
use Rattle.hire_book.specs.Book.{apply_of, apply_all, book_of, fresh_book, charged, stored_days}
use Rattle.hire_book.proofs.Sound.{fresh-sound}
use Rattle.hire_laws.proofs.Stored.{stored-days, stored-total}
use Rattle.report.specs.declared.Reader.{Reader}
use Rattle.report.specs.Report.{onto, lines_of, is_bad, first_bad_from, first_bad, entries_of, report_of}
use Rattle.report.specs.Reading.{Reading, reading, marked, end_of, byte_of, feed_of, last_of, output_of}
use Rattle.report.specs.Step.{finish_step, written, feed_parts, fresh_reading, joined}
use Rattle.report.proofs.Value.{kept_from}
use Rattle.report.proofs.Reading.{feed-sound, not-wrong, parts-fed}
use Rattle.report.proofs.Lines.{Open, none, more, open_snoc, lines_end, lines-one, reader_at, reader-byte, end-bad, end-good}

-- where the reader and the book are after lines of which the first has number n
unfoldable after : ℕ → List (List ℕ) → List ℕ → Reading
after n [] book = reading (reader_at n []) book
after n (line ∷ lines) book = cond (is_bad line) (reading (marked (reader_at n line)) book) (after (suc n) lines (apply_of (value_of line) book))

after-bad : (n : ℕ) (line : List ℕ) (lines : List (List ℕ)) (book : List ℕ) → is_bad line ≡ true → after n (line ∷ lines) book ≡ reading (marked (reader_at n line)) book
unfolding after
after-bad n line lines book e = rw e

after-good : (n : ℕ) (line : List ℕ) (lines : List (List ℕ)) (book : List ℕ) → is_bad line ≡ false → after n (line ∷ lines) book ≡ after (suc n) lines (apply_of (value_of line) book)
unfolding after
after-good n line lines book e = rw e

-- after a bad line nothing changes
first : {A : Type 0} (t : Bool) (a b : A) → t ≡ true → cond t a b ≡ a
first true a b e = refl
first false a b e = absurd (let z : ◌≡◌ {A = ℕ} 0 1 = cc in omega arith)

frozen : (d : Reading) (bytes : List ℕ) → d.reader.bad ≡ true → last_of (feed_of d bytes) ≡ d
unfolding feed_of last_of byte_of
frozen d [] e = first d.reader.bad d _ e
frozen d (b ∷ bytes) e = ap (λ (x : Reading). last_of (feed_of x bytes)) (first d.reader.bad d _ e) ∙ frozen d bytes e

-- a byte that ends a line, and one that does not
byte-end : (n b : ℕ) (line book : List ℕ) → eqb b line_end ≡ true → byte_of b (reading (reader_at n line) book) ≡ end_of (reading (reader_at n line) book)
unfolding byte_of
byte-end n b line book e = rw e

byte_more : (n b : ℕ) (line book : List ℕ) → eqb b line_end ≡ false → byte_of b (reading (reader_at n line) book) ≡ reading (reader_at n (line ++ (b ∷ []))) book
unfolding byte_of
byte_more n b line book e = rw e (ap (λ (r : Reader). reading r book) (reader-byte n b line))

-- the bytes after a line's end, where what they do after a good line is known
ended : (n : ℕ) (line book bytes : List ℕ) → (last_of (feed_of (reading (reader_at (suc n) []) (apply_of (value_of line) book)) bytes) ≡ after (suc n) (lines_of bytes) (apply_of (value_of line) book)) → (t : Bool) → is_bad line ≡ t → last_of (feed_of (end_of (reading (reader_at n line) book)) bytes) ≡ after n (line ∷ lines_of bytes) book
ended n line book bytes rest true e =
    rw (end-bad n line book e, after-bad n line (lines_of bytes) book e) (frozen (reading (marked (reader_at n line)) book) bytes refl)
ended n line book bytes rest false e = rw (end-good n line book e, after-good n line (lines_of bytes) book e) rest

-- the input's end in a line, or after one
one_line : (n : ℕ) (line book : List ℕ) (t : Bool) → is_bad line ≡ t → end_of (reading (reader_at n line) book) ≡ after n (line ∷ []) book
unfolding after
one_line n line book true e = end-bad n line book e ∙ sym (after-bad n line [] book e)
one_line n line book false e = end-good n line book e ∙ sym (after-good n line [] book e)

at_last : (n : ℕ) (line book : List ℕ) → Open line → last_of (reading (reader_at n line) book) ≡ after n (lines_of line) book
unfolding last_of lines_of after
at_last n [] book none = refl
at_last n (b ∷ line) book (more e o) = rw (lines-one b e o) (one_line n (b ∷ line) book (is_bad (b ∷ line)) refl)

turn : (bytes line : List ℕ) (n b : ℕ) (book : List ℕ) → Open line
    → (last_of (feed_of (reading (reader_at (suc n) []) (apply_of (value_of line) book)) bytes) ≡ after (suc n) (lines_of bytes) (apply_of (value_of line) book))
    → (Open (line ++ (b ∷ [])) → last_of (feed_of (reading (reader_at n (line ++ (b ∷ []))) book) bytes) ≡ after n (lines_of ((line ++ (b ∷ [])) ++ bytes)) book)
    → (t : Bool) → eqb b line_end ≡ t → last_of (feed_of (byte_of b (reading (reader_at n line) book)) bytes) ≡ after n (lines_of (line ++ (b ∷ bytes))) book
turn bytes line n b book o new on true e =
    rw (byte-end n b line book e, eqb-true b line_end e, lines_end bytes o) (ended n line book bytes new (is_bad line) refl)
turn bytes line n b book o new on false e =
    rw (byte_more n b line book e) (on (open_snoc b o e) ∙ rw (append_assoc line (b ∷ []) bytes))

-- bytes read from within a line on are the lines that they make with its first bytes
reads : (bytes line : List ℕ) (n : ℕ) (book : List ℕ) → Open line → last_of (feed_of (reading (reader_at n line) book) bytes) ≡ after n (lines_of (line ++ bytes)) book
unfolding feed_of
reads [] line n book o = rw (append-nil line) (at_last n line book o)
reads (b ∷ bytes) line n book o =
    turn bytes line n b book o (reads bytes [] (suc n) (apply_of (value_of line) book) none) (λ q. reads bytes (line ++ (b ∷ [])) n book q) (eqb b line_end) refl

-- what is written for the first bad line's number, or for the book where there is none
abbrev shown : ℕ → List ℕ → List ℕ
shown bad book = cond (eqb bad 0) (page_of (charged book) (stored_days book)) (bad_line_of bad)

bad-here : (n : ℕ) (line : List ℕ) (lines : List (List ℕ)) → is_bad line ≡ true → first_bad_from n (line ∷ lines) ≡ n
unfolding first_bad_from
bad-here n line lines e = rw e

bad-later : (n : ℕ) (line : List ℕ) (lines : List (List ℕ)) → is_bad line ≡ false → first_bad_from n (line ∷ lines) ≡ first_bad_from (suc n) lines
unfolding first_bad_from
bad-later n line lines e = rw e

bad-shown : (n : ℕ) (line book left : List ℕ) → 0 < n → n ≤ largest → output_of (reading (marked (reader_at n line)) book) ≡ shown n left
unfolding output_of
bad-shown n line book left h k = rw (ne_eqb n 0 (λ e. omega arith)) (ap bad_line_of (omega arith))

shown-line : (n : ℕ) (line : List ℕ) (lines : List (List ℕ)) (book : List ℕ) → 0 < n → first_bad_from n (line ∷ lines) ≤ largest
    → (first_bad_from (suc n) lines ≤ largest → output_of (after (suc n) lines (apply_of (value_of line) book)) ≡ shown (first_bad_from (suc n) lines) (apply_all (map value_of lines) (apply_of (value_of line) book)))
    → (t : Bool) → is_bad line ≡ t → output_of (after n (line ∷ lines) book) ≡ shown (first_bad_from n (line ∷ lines)) (apply_all (map value_of (line ∷ lines)) book)
unfolding apply_all
shown-line n line lines book h k rest true e =
    rw (after-bad n line lines book e, bad-here n line lines e) (bad-shown n line book (apply_all (map value_of (line ∷ lines)) book) h (rw (bad-here n line lines e) at k))
shown-line n line lines book h k rest false e =
    rw (after-good n line lines book e, bad-later n line lines e) (rest (rw (bad-later n line lines e) at k))

shown-after : (n : ℕ) (lines : List (List ℕ)) (book : List ℕ) → 0 < n → first_bad_from n lines ≤ largest → output_of (after n lines book) ≡ shown (first_bad_from n lines) (apply_all (map value_of lines) book)
unfolding after apply_all first_bad_from output_of
shown-after n [] book h k = refl
shown-after n (line ∷ lines) book h k =
    shown-line n line lines book h k (shown-after (suc n) lines (apply_of (value_of line) book) (omega arith)) (is_bad line) refl

-- the book that the entries make stores what their history charges
page-charged : (entries : List ℕ) → page_of (charged (book_of entries)) (stored_days (book_of entries)) ≡ page_of (λ pump. days_of pump (charges_of entries)) (total entries)
page-charged entries = page-same _ _ _ _ (stored-days entries) (stored-total entries)

-- all bytes fed to the fresh reader and the fresh book
read_all : (bytes : List ℕ) → last_of (feed_of fresh_reading bytes) ≡ after 1 (lines_of bytes) fresh_book
unfolding kept_from
read_all bytes = reads bytes [] 1 fresh_book none

pub report-written : (bytes : List ℕ) → first_bad bytes ≤ largest → output_of (last_of (feed_of fresh_reading bytes)) ≡ report_of bytes
unfolding report_of
report-written bytes h =
    rw (read_all bytes, shown-after 1 (lines_of bytes) fresh_book (omega arith) h, page-charged (entries_of bytes))

-- an input has no more lines than bytes, so a bad line's number is at most the number of bytes
onto-length : (b : ℕ) (lines : List (List ℕ)) → length (onto b lines) ≤ suc (length lines)
onto-length b [] = omega arith
onto-length b (line ∷ lines) = omega arith

lines-length : (bytes : List ℕ) → length (lines_of bytes) ≤ length bytes
unfolding lines_of
lines-length [] = omega arith
lines-length (b ∷ bytes) = go (eqb b line_end) (lines-length bytes)
  where
    go : (t : Bool) → length (lines_of bytes) ≤ length bytes → length (cond t ([] ∷ lines_of bytes) (onto b (lines_of bytes))) ≤ suc (length bytes)
    go true h = omega arith
    go false h = omega (arith, onto-length b (lines_of bytes))

bad-within : (n : ℕ) (lines : List (List ℕ)) → first_bad_from (suc n) lines ≤ n + length lines
unfolding first_bad_from
bad-within n [] = omega arith
bad-within n (line ∷ lines) = go (is_bad line) (bad-within (suc n) lines)
  where
    go : (t : Bool) → first_bad_from (suc (suc n)) lines ≤ suc n + length lines → cond t (suc n) (first_bad_from (suc (suc n)) lines) ≤ n + suc (length lines)
    go true h = omega arith
    go false h = omega arith

pub bad-fits : (bytes : List ℕ) → first_bad bytes ≤ length bytes
bad-fits bytes = omega (arith, bad-within 0 (lines_of bytes), lines-length bytes)

-- Parts fed in turn to the fresh reader and the fresh book, and then finished: the answer is 0, and what is written is the report of all the bytes, however
-- they were cut. (Of an input of 2 to the 64 bytes or more, the number of a bad line might not fit.)
pub whole : (parts : List (List ℕ)) (out : List ℕ) → report_bytes ≤ length out → length (joined parts) ≤ largest → finish_step (feed_parts fresh_reading parts) out ≡ written (report_of (joined parts)) (last_of (feed_of fresh_reading (joined parts))) out
unfolding finish_step
whole parts out h k =
    let s = feed-sound fresh_reading (joined parts) fresh-sound in
    rw (parts-fed fresh_reading parts fresh-sound, not-wrong s, le-ltb (length out) report_bytes h, s.kept)
    (ap (λ (text : List ℕ). written text (last_of (feed_of fresh_reading (joined parts))) out) (report-written (joined parts) (omega (arith, bad-fits (joined parts)))))
