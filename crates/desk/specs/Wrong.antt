-- Wrong answers that each promise rules out. `Post κs a r s` is what a call's own promise says of the arguments a, the answer r and what is lent at exit s.
use Rattle.std.specs.Prelude.{ℕ, ◌+◌, ◌<◌, ◌≡◌, ◌≢◌, true, List, [], ◌∷◌, length, get_or, drop}
use Rattle.base.specs.Limits.{pumps, max_entry}
use Rattle.base.specs.Refusal.{answer_number}
use Rattle.quorum.specs.declared.Configuration.{Configuration}
use Rattle.messages.specs.declared.Event.{Event}
use Rattle.messages.specs.declared.Head.{Head}
use Rattle.messages.specs.Messages.{no_head}
use Rattle.record.specs.Record.{fresh_record}
use Rattle.hire_book.specs.Book.{book_length, broken_of, any_above, apply_of, fresh_book, charged, stored_days}
use Rattle.hire_book.specs.Step.{told}
use Rattle.hire_book.proofs.apply_all.Reads as apply-all-reads
use Rattle.hire_book.proofs.fresh.Reads as fresh-reads
use Rattle.hire_book.proofs.any_above.Reads as any-above-reads
use Rattle.hire_book.proofs.charged_days.Reads as charged-days-reads
use Rattle.hire_book.proofs.total_days.Reads as total-days-reads
use Rattle.broken.specs.Lent.{Lent}
use Rattle.step.specs.Step.{World}
use Rattle.layout_record.specs.Words.{record_length, record_words}
use Rattle.layout_record.specs.Reading.{no_record}
use Rattle.layout_row.specs.Row.{no_row}
use Rattle.depot.specs.declared.Stepped.{Stepped}
use Rattle.depot.specs.Heads.{step_heads, seen_heads}
use Rattle.depot_link.proofs.depots_fresh.Reads as link-fresh-reads
use Rattle.depot_link.proofs.depots_step.Reads as link-step-reads
use Rattle.depot_link.proofs.depots_report.Reads as link-report-reads

pub record Wrong : Type 1 where
  -- depots_fresh: words of another length get 1 and are as found; words of the right length become a fresh record's
  pub fresh-off : (κs : _) (a : _) (r : _) (s : _) → link-fresh-reads.Post κs a r s → length a.0.now ≢ record_length → (r ≡ 1) × (s.0.now ≡ a.0.now)
  pub fresh-made : (κs : _) (a : _) (r : _) (s : _) → link-fresh-reads.Post κs a r s → length a.0.now ≡ record_length → s.0.now ≡ record_words fresh_record
  -- depots_step: refused, the record's words are as found; words that mean no record, or no row, are refused
  pub step-refused : (κs : _) (a : _) (r : _) (s : _) → link-step-reads.Post κs a r s → r ≢ 0 → s.1.0.now ≡ a.1.0.now
  pub step-no-record : (κs : _) (a : _) (r : _) (s : _) → link-step-reads.Post κs a r s → no_record a.1.0.now ≡ true → 0 < r
  pub step-no-row : (κs : _) (a : _) (r : _) (s : _) → link-step-reads.Post κs a r s → no_row a.1.1.0.now ≡ true → 0 < r
  -- depots_report: past the text the buffer is as found
  pub report-past : (κs : _) (a : _) (r : _) (s : _) → link-report-reads.Post κs a r s → drop s.1.1.0.now s.1.0.now ≡ drop s.1.1.0.now a.1.0.now
  -- depot::step: refused, each head is as found
  pub heads-refused : (c : Configuration) (e : Event) (entries : List ℕ) (w : World) (x : Stepped) (h : List Head) (l : Lent) → seen_heads x h l ≡ step_heads c e entries w → x.answer.no ≢ 0 → (k : ℕ) → get_or h k no_head ≡ get_or w.row.heads k no_head
  -- hire_book::apply_all: where one entry is above its limit none is applied; two entries are applied in their order
  pub none-applied : (κs : _) (a : _) (r : _) (s : _) → apply-all-reads.Post κs a r s → any_above a.1.0.now ≡ true → s.0.now ≡ a.0.now
  pub in_order : (κs : _) (a : _) (r : _) (s : _) (d e : ℕ) → apply-all-reads.Post κs a r s → answer_number r ≡ 0 → a.1.0.now ≡ d ∷ e ∷ [] → s.0.now ≡ apply_of e (apply_of d a.0.now)
  -- hire_book::fresh: a slice of the wrong length is as found; a book is cleared, every cell of it
  pub book-off : (κs : _) (a : _) (r : _) (s : _) → fresh-reads.Post κs a r s → length a.0.now ≢ book_length → (answer_number r ≡ 1) × (s.0.now ≡ a.0.now)
  pub book-cleared : (κs : _) (a : _) (r : _) (s : _) → fresh-reads.Post κs a r s → length a.0.now ≡ book_length → s.0.now ≡ fresh_book
  -- hire_book::any_above: one above the limit by one is seen, and in the second place too
  pub second-seen : (κs : _) (a : _) (r : _) (s : _) → any-above-reads.Post κs a r s → a.0.now ≡ 0 ∷ (max_entry + 1) ∷ [] → r ≡ true
  -- hire_book::charged_days, total_days: that pump's days, and the sum of all pumps'; a broken book has no days
  pub that-pump : (κs : _) (a : _) (r : _) (s : _) → charged-days-reads.Post κs a r s → (told r).number ≡ 0 → (told r).days ≡ charged a.0.now a.1.0
  pub none-charged : (κs : _) (a : _) (r : _) (s : _) → charged-days-reads.Post κs a r s → broken_of a.0.now ≡ true → (told r).days ≡ 0
  pub whole-total : (κs : _) (a : _) (r : _) (s : _) → total-days-reads.Post κs a r s → (told r).number ≡ 0 → (told r).days ≡ stored_days a.0.now
  pub no-total : (κs : _) (a : _) (r : _) (s : _) → total-days-reads.Post κs a r s → broken_of a.0.now ≡ true → (told r).days ≡ 0
