-- The wrong answers are ruled out: each is read off the definition that the promise cites.
use Prim.Native.Nat.{ℕ, ◌+◌, ◌≤◌}
use mathlib.Core.Path.{◌≡◌, refl, sym, ap, subst, ◌∙◌}
use mathlib.Core.Logic.{◌≢◌}
use mathlib.Core.Bool.{true}
use mathlib.Core.List.{List, [], ◌∷◌}
use native.Mathlib.Omega.{arith}
use lib.Dec.{eqb, ltb, leb}
use lib.ListN.{length, drop}
use lib.Seq.{drop_at}
use borrow.Author.Tests.{eq-eqb, ne_eqb}
use Rattle.record.specs.Record.{fresh_record}
use Rattle.record.specs.declared.Record.{Record}
use Rattle.quorum.specs.declared.Configuration.{Configuration}
use Rattle.messages.specs.declared.Event.{Event}
use Rattle.decide_laws.proofs.Grown.{either}
use Rattle.hire_book.specs.Below.{any_below}
use Rattle.hire_book.specs.Book.{book_length, broken_of, any_above, apply_of, apply_all, fresh_book, charged, stored_days}
use Rattle.hire_book.specs.Step.{Seen, seen, wrong_length, Told, tell, told, apply_all_step, fresh_step, charged_step, total_step}
use Rattle.page.specs.Page.{report_bytes}
use Rattle.base.specs.Limits.{pumps, max_entry, max_messages}
use Rattle.step.specs.Step.{World, Outcome, refused_with, step_of}
use Rattle.step_laws.proofs.Step.{as-found}
use Rattle.step_laws.proofs.Outcome.{Ways, refused, took, ways}
use Rattle.layout_record.specs.Words.{record_length, record_words}
use Rattle.layout_record.specs.Reading.{broken_record, no_record, record_in}
use Rattle.layout_row.specs.Row.{no_row}
use Rattle.depot.specs.Heads.{step_sized, step_heads}
use Rattle.depot_link.specs.Link.{Held, Linked, linked, Fresh, fresh, fresh_in, words_off, node_in, meant, written_back, linked_step}
use Rattle.depot_link.specs.Report.{Reported, text_of, report_in}
use Rattle.desk.specs.Wrong.{Wrong}

fresh-off : (l : List ℕ) → length l ≢ record_length → fresh_in l ≡ fresh 1 l
unfolding fresh_in
fresh-off l h = rw (ne_eqb (length l) record_length h)

fresh-made : (l : List ℕ) → length l ≡ record_length → fresh_in l ≡ fresh 0 (record_words fresh_record)
unfolding fresh_in
fresh-made l h = rw (eq-eqb (length l) record_length h)

-- the record's words after a call that is refused
abbrev NodeKept : Held → Linked → Type 0
NodeKept h x = x.answer.no ≢ 0 → x.after.node ≡ h.node

step-refused : (configuration event entries : List ℕ) (h : Held) → NodeKept h (linked_step configuration event entries h)
unfolding linked_step
step-refused configuration event entries h =
    either (NodeKept h) (words_off (length configuration) (length h.node) (length h.row) (length event)) (linked 1 0 0 h) (written_back (meant configuration event entries h) h)
    (λ t n. refl)
    (λ t n. rw (ne_eqb (meant configuration event entries h).answer.no 0 n))

-- a broken record is never taken
broken-refused : (c : Configuration) (e : Event) (entries : List ℕ) (w : World) → w.node ≡ broken_record → (step_of c e entries w).answer.no ≢ 0
broken-refused c e entries w b z = by (ways c e entries w)
  where
    by : Ways c e entries w → ⊥
    by (refused n d g q) = d (sym (ap (λ (x : Outcome). x.answer.no) q) ∙ z)
    by (took t r q) = let l : 1 ≤ 0 = subst (λ (x : Record). x.internal_storage.decided_idx ≤ x.internal_storage.accepted_idx) b t.whole.decided in omega arith

no-row : (node row : List ℕ) → no_row row ≡ true → node_in node row ≡ broken_record
unfolding node_in
no-row node row h = rw h

no-record : (node row : List ℕ) → no_record node ≡ true → node_in node row ≡ broken_record
unfolding node_in record_in
no-record node row h = rw h (either (λ (x : Record). x ≡ broken_record) (no_row row) broken_record broken_record (λ t. refl) (λ t. refl))

no_node : (configuration event entries : List ℕ) (h : Held) → node_in h.node h.row ≡ broken_record → (linked_step configuration event entries h).answer.no ≢ 0
unfolding linked_step
no_node configuration event entries h b =
    either (λ (x : Linked). x.answer.no ≢ 0) (words_off (length configuration) (length h.node) (length h.row) (length event)) (linked 1 0 0 h) (written_back (meant configuration event entries h) h)
    (λ t z. omega arith)
    (λ t. broken-refused _ _ entries _ b)

-- the buffer past the report
abbrev PastKept : List ℕ → Reported → Type 0
PastKept out x = drop x.count x.out ≡ drop x.count out

report-past : (book out : List ℕ) → PastKept out (report_in book out)
unfolding report_in
report-past book out =
    let text = text_of book in
    either (PastKept out) (wrong_length book) _ _ (λ t. refl)
    (λ t. either (PastKept out) (ltb (length out) report_bytes) _ _ (λ t. refl)
    (λ t. either (PastKept out) (broken_of book) _ _ (λ t. refl)
    (λ t. drop_at text (drop (length text) out) (length text) refl)))

-- the heads after a step that is refused
heads-kept : (c : Configuration) (e : Event) (entries : List ℕ) (w : World) → (step_heads c e entries w).answer.no ≢ 0 → (step_heads c e entries w).after.row.heads ≡ w.row.heads
unfolding step_sized
heads-kept c e entries w =
    either (λ (o : Outcome). o.answer.no ≢ 0 → o.after.row.heads ≡ w.row.heads) (eqb (length w.row.heads) max_messages) (step_of c e entries w) (refused_with 1 w)
    (λ t n. ap (λ (v : World). v.row.heads) (as-found c e entries w n).after)
    (λ t n. refl)

heads-of : (c : Configuration) (e : Event) (entries : List ℕ) (w : World) (o : Outcome) → o ≡ step_heads c e entries w → o.answer.no ≢ 0 → o.after.row.heads ≡ w.row.heads
heads-of c e entries w o p = subst (λ (o : Outcome). o.answer.no ≢ 0 → o.after.row.heads ≡ w.row.heads) (sym p) (heads-kept c e entries w)

-- of what a call that keeps its promise leaves, x
module _ (configuration event entries : List ℕ) (h : Held) (x : Linked) (p : x ≡ linked_step configuration event entries h) where
  node_kept : NodeKept h x
  node_kept = subst (NodeKept h) (sym p) (step-refused configuration event entries h)

  never-taken : node_in h.node h.row ≡ broken_record → x.answer.no ≢ 0
  never-taken b z = no_node configuration event entries h b (sym (ap (λ (y : Linked). y.answer.no) p) ∙ z)

past-kept : (book out : List ℕ) (x : Reported) → x ≡ report_in book out → PastKept out x
past-kept book out x p = subst (PastKept out) (sym p) (report-past book out)

-- the book's calls
above_kept : (book entries : List ℕ) → any_above entries ≡ true → (apply_all_step book entries).book ≡ book
unfolding apply_all_step
above_kept book entries b =
    either (λ (x : Seen). x.book ≡ book) (wrong_length book) (seen 1 book) _ (λ t. refl)
    (λ t. either (λ (x : Seen). x.book ≡ book) (broken_of book) (seen 2 book) _ (λ t. refl) (λ t. rw b))

abbrev Applied : List ℕ → List ℕ → Seen → Type 0
Applied book entries x = x.answer ≡ 0 → x.book ≡ apply_all entries book

applied : (book entries : List ℕ) → Applied book entries (apply_all_step book entries)
unfolding apply_all_step
applied book entries =
    either (Applied book entries) (wrong_length book) (seen 1 book) _ (λ t z. absurd (omega arith))
    (λ t. either (Applied book entries) (broken_of book) (seen 2 book) _ (λ t z. absurd (omega arith))
    (λ t. either (Applied book entries) (any_above entries) (seen 4 book) (seen 0 (apply_all entries book)) (λ t z. absurd (omega arith)) (λ t z. refl)))

two-applied : (d e : ℕ) (book : List ℕ) → apply_all (d ∷ e ∷ []) book ≡ apply_of e (apply_of d book)
unfolding apply_all
two-applied d e book = refl

book-off : (l : List ℕ) → length l ≢ book_length → fresh_step l ≡ seen 1 l
unfolding fresh_step
book-off l h = rw (ne_eqb (length l) book_length h)

book-cleared : (l : List ℕ) → length l ≡ book_length → fresh_step l ≡ seen 0 fresh_book
unfolding fresh_step
book-cleared l h = rw (eq-eqb (length l) book_length h)

second-seen : any_above (0 ∷ (max_entry + 1) ∷ []) ≡ true
unfolding any_above any_below
second-seen = refl

abbrev OfPump : List ℕ → ℕ → Told → Type 0
OfPump book pump x = x.number ≡ 0 → x.days ≡ charged book pump

of-pump : (book : List ℕ) (pump : ℕ) → OfPump book pump (charged_step book pump)
unfolding charged_step
of-pump book pump =
    either (OfPump book pump) (wrong_length book) (tell 1 0) _ (λ t z. absurd (omega arith))
    (λ t. either (OfPump book pump) (broken_of book) (tell 2 0) _ (λ t z. absurd (omega arith))
    (λ t. either (OfPump book pump) (leb pumps pump) (tell 4 0) (tell 0 (charged book pump)) (λ t z. absurd (omega arith)) (λ t z. refl)))

none-charged : (book : List ℕ) (pump : ℕ) → broken_of book ≡ true → (charged_step book pump).days ≡ 0
unfolding charged_step
none-charged book pump b = either (λ (x : Told). x.days ≡ 0) (wrong_length book) (tell 1 0) _ (λ t. refl) (λ t. rw b)

abbrev OfAll : List ℕ → Told → Type 0
OfAll book x = x.number ≡ 0 → x.days ≡ stored_days book

of-all : (book : List ℕ) → OfAll book (total_step book)
unfolding total_step
of-all book =
    either (OfAll book) (wrong_length book) (tell 1 0) _ (λ t z. absurd (omega arith))
    (λ t. either (OfAll book) (broken_of book) (tell 2 0) (tell 0 (stored_days book)) (λ t z. absurd (omega arith)) (λ t z. refl))

no-total : (book : List ℕ) → broken_of book ≡ true → (total_step book).days ≡ 0
unfolding total_step
no-total book b = either (λ (x : Told). x.days ≡ 0) (wrong_length book) (tell 1 0) _ (λ t. refl) (λ t. rw b)

pub wrong : Wrong
wrong =
    record {
      fresh-off = λ κs a r s p h. let q = p ∙ fresh-off a.0.now h in (let n = ap (λ (x : Fresh). x.number) q in omega arith, let k : s.0.now ≡ a.0.now = ap (λ (x : Fresh). x.node) q in rw k);
      fresh-made = λ κs a r s p h. let k : s.0.now ≡ record_words fresh_record = ap (λ (x : Fresh). x.node) (p ∙ fresh-made a.0.now h) in rw k;
      step-refused = λ κs a r s p n. let k : s.1.0.now ≡ a.1.0.now = node_kept _ _ _ _ _ p.0 n in rw k;
      step-no-record = λ κs a r s p b. let n = never-taken _ _ _ _ _ p.0 (no-record a.1.0.now a.1.1.0.now b) in omega arith;
      step-no-row = λ κs a r s p b. let n = never-taken _ _ _ _ _ p.0 (no-row a.1.0.now a.1.1.0.now b) in omega arith;
      report-past = λ κs a r s p. let k : drop s.1.1.0.now s.1.0.now ≡ drop s.1.1.0.now a.1.0.now = past-kept _ _ _ p in rw k;
      heads-refused = λ c e entries w x h l p n k. let q : h ≡ w.row.heads = heads-of c e entries w _ p n in rw q;
      none-applied = λ κs a r s p b. let k : s.0.now ≡ a.0.now = ap (λ (x : Seen). x.book) p ∙ above_kept _ _ b in rw k;
      in_order = λ κs a r s d e p z q. let k : s.0.now ≡ apply_all a.1.0.now a.0.now = subst (Applied a.0.now a.1.0.now) (sym p) (applied a.0.now a.1.0.now) z in rw (k, q, two-applied d e a.0.now);
      book-off = λ κs a r s p h. let q = p ∙ book-off a.0.now h in (let n = ap (λ (x : Seen). x.answer) q in omega arith, let k : s.0.now ≡ a.0.now = ap (λ (x : Seen). x.book) q in rw k);
      book-cleared = λ κs a r s p h. let k : s.0.now ≡ fresh_book = ap (λ (x : Seen). x.book) (p ∙ book-cleared a.0.now h) in rw k;
      second-seen = λ κs a r s p q. rw (p, q, second-seen);
      that-pump = λ κs a r s p z. let k : (told r).days ≡ charged a.0.now a.1.0 = subst (OfPump a.0.now a.1.0) (sym p) (of-pump a.0.now a.1.0) z in rw k;
      none-charged = λ κs a r s p b. let k = ap (λ (x : Told). x.days) p ∙ none-charged a.0.now a.1.0 b in omega (arith, k);
      whole-total = λ κs a r s p z. let k : (told r).days ≡ stored_days a.0.now = subst (OfAll a.0.now) (sym p) (of-all a.0.now) z in rw k;
      no-total = λ κs a r s p b. let k = ap (λ (x : Told). x.days) p ∙ no-total a.0.now b in omega (arith, k);
    }
