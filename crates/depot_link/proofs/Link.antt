-- A refused step leaves the world as found; words that mean no record are refused with 2, and what means no event with 3 or 4.
use Prim.Native.Nat.{ℕ, suc}
use mathlib.Core.Path.{◌≡◌, refl, sym, ap, ◌∙◌}
use mathlib.Core.Logic.{◌⊎◌, ⊎_elim}
use mathlib.Core.Bool.{Bool, true, false, cond, not}
use mathlib.Core.List.{List}
use native.Mathlib.Omega.{arith}
use lib.Dec.{eqb}
use lib.ListN.{length}
use borrow.Author.Tests.{eqb-true, ne_eqb, not-false}
use Rattle.ballot.specs.Ballot.{is_default}
use Rattle.quorum.specs.declared.Configuration.{Configuration}
use Rattle.messages.specs.declared.Event.{Event}
use Rattle.messages.specs.declared.Row.{Row}
use Rattle.record.specs.declared.Record.{Record}
use Rattle.outcome.specs.Outcome.{Decision}
use Rattle.hire_book.proofs.Below.{neither}
use Rattle.unfit.specs.Unfit.{wrong_sender, unfit_of, message_unfit, entry_above, foreign}
use Rattle.broken.specs.Lent.{Lent}
use Rattle.broken.specs.Broken.{record_broken}
use Rattle.refusals.specs.Refusals.{refusal_of, call_off}
use Rattle.step.specs.declared.Answer.{Answer}
use Rattle.step.specs.declared.Step.{Step}
use Rattle.step.specs.Step.{World, world, Outcome, seen, refused_with, taken_to, concluded, decision_of, step_of}
use Rattle.blocks.specs.Blocks.{block_words, word, above_most}
use Rattle.layout_record.specs.Words.{record_length, record_words}
use Rattle.layout_record.specs.Reading.{broken_record, no_record, record_in}
use Rattle.layout_row.specs.Row.{row_length, row_words, no_row, row_in}
use Rattle.layout_row.specs.Event.{event_most, unfit_from, event_in}
use Rattle.depot_link.specs.Link.{Held, held, told, linked, words_off, node_in, world_in, configuration_of, event_of, written_back, linked_step, Follows}

no-taken : true ≡ false → ⊥
no-taken e = let z : ◌≡◌ {A = ℕ} 0 1 = cc in omega arith

concluded-same : (e : Event) (entries : List ℕ) (d : Decision) (w : World) → eqb (concluded e entries d w).answer.no 0 ≡ false → (concluded e entries d w).after ≡ w
unfolding concluded
concluded-same e entries d w h = go (eqb d.no 0) h
  where
    go : (t : Bool) → eqb (cond t (taken_to e entries d.node w) (refused_with d.no w)).answer.no 0 ≡ false → (cond t (taken_to e entries d.node w) (refused_with d.no w)).after ≡ w
    go true k = absurd (no-taken k)
    go false k = refl

-- a step that is refused leaves the world as found
pub refused-same : (c : Configuration) (e : Event) (entries : List ℕ) (w : World) → eqb (step_of c e entries w).answer.no 0 ≡ false → (step_of c e entries w).after ≡ w
unfolding step_of
refused-same c e entries w h = go (eqb (refusal_of c w.node w.row w.lists e entries) 0) h
  where
    rest : Outcome
    rest = concluded e entries (decision_of c e entries w) w

    never : Outcome
    never = refused_with (refusal_of c w.node w.row w.lists e entries) w

    go : (t : Bool) → eqb (cond t rest never).answer.no 0 ≡ false → (cond t rest never).after ≡ w
    go true k = concluded-same e entries (decision_of c e entries w) w k
    go false k = refl

-- lengths that are right
pub words_right : (configuration node row event : ℕ) → words_off configuration node row event ≡ false → (node ≡ record_length) × (row ≡ row_length)
unfolding words_off
words_right configuration node row event h =
    let a = neither (not (eqb configuration block_words)) _ h in
    let b = neither (not (eqb node record_length)) _ a.1 in
    let d = neither (not (eqb row row_length)) _ b.1 in
    (eqb-true node record_length (not-false _ b.0), eqb-true row row_length (not-false _ d.0))

-- what was seen of a step, and the words written back
told_back : (x : Step) (lists : Lent) (o : Outcome) (h : Held) (node row : List ℕ) → seen x lists ≡ o → node ≡ cond (eqb x.answer.no 0) (record_words x.node) h.node → row ≡ cond (eqb x.answer.no 0) (row_words x.row) h.row → told x.answer (held node row lists) ≡ written_back o h
told_back x lists o h node row s n m = rw (← s, n, m)

pub step_back : (c : Configuration) (e : Event) (entries : List ℕ) (h : Held) (r : Record) (heads : Row) (x : Step) (lists : Lent) (node row : List ℕ) → r ≡ node_in h.node h.row → heads ≡ row_in h.row → seen x lists ≡ step_of c e entries (world r heads h.lists) → node ≡ cond (eqb x.answer.no 0) (record_words x.node) h.node → row ≡ cond (eqb x.answer.no 0) (row_words x.row) h.row → told x.answer (held node row lists) ≡ written_back (step_of c e entries (world_in h)) h
step_back c e entries h r heads x lists node row p q s n m =
    told_back x lists (step_of c e entries (world_in h)) h node row (rw (← p, ← q) s) n m

-- what the words mean after a step that was refused, and after one that was taken
left-world : (x : Step) (lists : Lent) (w : World) (o : Outcome) (r : Record) (row : Row) (t : Bool) → eqb x.answer.no 0 ≡ t → seen x lists ≡ o → (eqb o.answer.no 0 ≡ false → o.after ≡ w) → r ≡ cond t x.node w.node → row ≡ cond t x.row w.row → world r row lists ≡ o.after
left-world x lists w o r row true k s same a b = rw (a, b, ← s)
left-world x lists w o r row false k s same a b =
    let kept : o.after ≡ w = same (rw (← s) k) in
    let lent : lists ≡ w.lists = ap (λ (z : Outcome). z.after.lists) s ∙ ap (λ (z : World). z.lists) kept in
    rw (a, b, lent, kept)

pub step_follows : (c : Configuration) (e : Event) (entries : List ℕ) (h : Held) (r : Record) (heads : Row) (x : Step) (lists : Lent) (node row : List ℕ) → r ≡ node_in h.node h.row → heads ≡ row_in h.row → seen x lists ≡ step_of c e entries (world r heads h.lists) → node_in node row ≡ cond (eqb x.answer.no 0) x.node (node_in h.node h.row) → row_in row ≡ cond (eqb x.answer.no 0) x.row (row_in h.row) → world_in (held node row lists) ≡ (step_of c e entries (world_in h)).after
step_follows c e entries h r heads x lists node row p q s a b =
    left-world x lists (world_in h) (step_of c e entries (world_in h)) (node_in node row) (row_in row) (eqb x.answer.no 0) refl (rw (← p, ← q) s) (refused-same c e entries (world_in h)) a b

-- the call
pub link-back : (configuration event entries : List ℕ) (h : Held) (c : Configuration) (e : Event) (a : Answer) (after : Held) → words_off (length configuration) (length h.node) (length h.row) (length event) ≡ false → c ≡ configuration_of configuration → e ≡ event_of event → told a after ≡ written_back (step_of c e entries (world_in h)) h → linked a.no a.dropped a.handed_out after ≡ linked_step configuration event entries h
unfolding linked_step
link-back configuration event entries h c e a after k p q s = rw (k, ← p, ← q) s

pub link-follows : (configuration event entries : List ℕ) (h : Held) (c : Configuration) (e : Event) (after : Held) → c ≡ configuration_of configuration → e ≡ event_of event → world_in after ≡ (step_of c e entries (world_in h)).after → Follows configuration event entries h after
link-follows configuration event entries h c e after p q s k = rw (← p, ← q) s

pub link-off : (configuration event entries : List ℕ) (h : Held) → words_off (length configuration) (length h.node) (length h.row) (length event) ≡ true → linked 1 0 0 h ≡ linked_step configuration event entries h
unfolding linked_step
link-off configuration event entries h k = rw k

pub off-follows : (configuration event entries : List ℕ) (h : Held) → words_off (length configuration) (length h.node) (length h.row) (length event) ≡ true → Follows configuration event entries h h
off-follows configuration event entries h k f = absurd (no-taken (sym k ∙ f))

-- the record of words that mean none

row-none : (node row : List ℕ) → no_row row ≡ true → node_in node row ≡ broken_record
unfolding node_in
row-none node row m = rw m

node-none : (node row : List ℕ) → no_record node ≡ true → node_in node row ≡ broken_record
unfolding node_in record_in
node-none node row m = rw m (go (no_row row))
  where
    go : (t : Bool) → cond t broken_record broken_record ≡ broken_record
    go true = refl
    go false = refl

none-node : (h : Held) → (no_row h.row ≡ true) ⊎ (no_record h.node ≡ true) → node_in h.node h.row ≡ broken_record
none-node h = ⊎_elim (row-none h.node h.row) (node-none h.node h.row)

broken-always : (c : Configuration) (row : Row) (l : Lent) → record_broken c broken_record row l ≡ true
unfolding record_broken
broken-always c row l = refl

-- a step that is refused before it decides
early : (c : Configuration) (e : Event) (entries : List ℕ) (w : World) (n : ℕ) → refusal_of c w.node w.row w.lists e entries ≡ suc n → (step_of c e entries w).answer.no ≡ suc n
unfolding step_of
early c e entries w n k = rw (k, ne_eqb (suc n) 0 (λ z. omega (arith, z)))

second : (c : Configuration) (e : Event) (entries : List ℕ) (row : Row) (l : Lent) → call_off c l ≡ false → refusal_of c broken_record row l e entries ≡ 2
unfolding refusal_of
second c e entries row l right = rw (right, broken-always c row l)

third : (c : Configuration) (from : ℕ) (entries : List ℕ) (w : World) → call_off c w.lists ≡ false → record_broken c w.node w.row w.lists ≡ false → wrong_sender c from ≡ true → refusal_of c w.node w.row w.lists (unfit_from from) entries ≡ 3
unfolding refusal_of
third c from entries w right whole k = rw (right, whole, k)

unfit-always : (c : Configuration) (from : ℕ) (entries : List ℕ) → unfit_of c (unfit_from from) entries ≡ true
unfolding message_unfit entry_above foreign is_default
unfit-always c from entries = refl

fourth : (c : Configuration) (from : ℕ) (entries : List ℕ) (w : World) → call_off c w.lists ≡ false → record_broken c w.node w.row w.lists ≡ false → wrong_sender c from ≡ false → refusal_of c w.node w.row w.lists (unfit_from from) entries ≡ 4
unfolding refusal_of
fourth c from entries w right whole k = rw (right, whole, k, unfit-always c from entries)

-- words that mean no record, or no row, are refused with 2, where the call is not refused with 1
pub no-record : (c : Configuration) (e : Event) (entries : List ℕ) (h : Held) → call_off c h.lists ≡ false → (no_row h.row ≡ true) ⊎ (no_record h.node ≡ true) → (step_of c e entries (world_in h)).answer.no ≡ 2
no-record c e entries h right m = early c e entries (world_in h) 1 two
  where
    two : refusal_of c (node_in h.node h.row) (row_in h.row) h.lists e entries ≡ 2
    two = rw (none-node h m) (second c e entries (row_in h.row) h.lists right)

-- what means no event is an unfit message: 3 where the depot in word 0 is no other one, else 4
pub no-event : (c : Configuration) (b entries : List ℕ) (w : World) → call_off c w.lists ≡ false → record_broken c w.node w.row w.lists ≡ false → above_most event_most b ≡ true → (step_of c (event_in b) entries w).answer.no ≡ cond (wrong_sender c (word b 0)) 3 4
unfolding event_in
no-event c b entries w right whole m = rw m (go (wrong_sender c (word b 0)) refl)
  where
    go : (t : Bool) → wrong_sender c (word b 0) ≡ t → (step_of c (unfit_from (word b 0)) entries w).answer.no ≡ cond t 3 4
    go true k = early c (unfit_from (word b 0)) entries w 2 (third c (word b 0) entries w right whole k)
    go false k = early c (unfit_from (word b 0)) entries w 3 (fourth c (word b 0) entries w right whole k)
