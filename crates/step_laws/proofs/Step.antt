-- Laws of every step: a refused one leaves all as found, the numbers of the answers, decided places stay, the book is that of the decided entries, places past the depots are as found.
use Prim.Native.Nat.{ℕ, ◌+◌, ◌-◌, ◌≤◌}
use mathlib.Core.Path.{◌≡◌, refl, ap, sym, subst, ◌∙◌}
use mathlib.Core.Bool.{true, false}
use mathlib.Core.Logic.{◌⊎◌, inl, inr}
use mathlib.Core.List.{List, ◌++◌}
use native.Mathlib.Omega.{arith}
use lib.ListN.{length, take, drop}
use lib.Seq.{take-add}
use Rattle.base.specs.Limits.{max_messages}
use Rattle.quorum.specs.declared.Configuration.{Configuration}
use Rattle.quorum.proofs.Laws.{Stands}
use Rattle.messages.specs.declared.Event.{Event}
use Rattle.messages.specs.declared.Event.TheVariants as event
use Rattle.messages.specs.declared.Row.{Row}
use Rattle.record.specs.Record.{fresh_record}
use Rattle.hire_book.specs.Book.{Sound, fresh_book, book_of, apply_all}
use Rattle.hire_book.proofs.Entries.{apply-append}
use Rattle.broken.specs.Lent.{Lent}
use Rattle.refusals.proofs.Taken.{Lengths, Taken}
use Rattle.refusals.proofs.Sound.{whole}
use Rattle.refusals.proofs.Fresh as never-ran
use Rattle.step.specs.Step.{World, world, Outcome, box_of, log_of, is_restart, newly_decided, book_after, perform_of, step_of}
use Rattle.decide_laws.proofs.Grown.{either}
use Rattle.step_laws.proofs.Written.{Planned}
use Rattle.decide_laws.proofs.Table.{Fits}
use Rattle.step_laws.proofs.Fits.{passes, found, planned-taken}
use Rattle.step_laws.proofs.Outcome.{outcome_of, Ways, refused, took, ways, gives-le}
use Rattle.step_laws.proofs.Past.{AsFound, past-taken}
use Rattle.step_laws.proofs.Decided.{log-stays}
use Rattle.step_laws.proofs.Whole.{Stays, not-off}

-- refused: all is as found, nothing dropped or handed out
pub record Untouched (o : Outcome) (w : World) : Type 0 where
  pub after : o.after ≡ w
  pub dropped : o.answer.dropped ≡ 0
  pub handed_out : o.answer.handed_out ≡ 0

pub as-found : (c : Configuration) (e : Event) (entries : List ℕ) (w : World) → ((step_of c e entries w).answer.no ≡ 0 → ⊥) → Untouched (step_of c e entries w) w
as-found c e entries w z = by (ways c e entries w)
  where
    by : Ways c e entries w → Untouched (step_of c e entries w) w
    by (refused n d g q) = subst (λ (x : Outcome). Untouched x w) (sym q) (record { after = refl; dropped = refl; handed_out = refl })
    by (took t r q) = absurd (z (ap (λ (x : Outcome). x.answer.no) q))

-- the answer is one of R2's numbers
pub numbers : (c : Configuration) (e : Event) (entries : List ℕ) (w : World) → (step_of c e entries w).answer.no ≤ 8
numbers c e entries w = by (ways c e entries w)
  where
    by : Ways c e entries w → (step_of c e entries w).answer.no ≤ 8
    by (refused n d g q) = subst (λ (x : Outcome). x.answer.no ≤ 8) (sym q) (gives-le c e entries w n g)
    by (took t r q) = subst (λ (x : Outcome). x.answer.no ≤ 8) (sym q) (omega arith)

-- a fact of every world that a step leaves: of the found one, and of what a taken step performs
by-ways :
    (c : Configuration) (e : Event) (entries : List ℕ) (w : World) (P : World → Type 0)
    → P w
    → (Taken c w.node w.row w.lists e entries → Planned c e entries (found c e entries w) 7 (outcome_of c e entries w) → Fits (outcome_of c e entries w) → P (perform_of e entries (outcome_of c e entries w) w))
    → P (step_of c e entries w).after
by-ways c e entries w P a b = by (ways c e entries w)
  where
    by : Ways c e entries w → P (step_of c e entries w).after
    by (refused n d g q) = subst (λ (x : Outcome). P x.after) (sym q) a
    by (took t r q) = subst (λ (x : Outcome). P x.after) (sym q) (b t (planned-taken c e entries w t) (passes (outcome_of c e entries w) r))

-- the decided index never falls
pub decided-rises : (c : Configuration) (e : Event) (entries : List ℕ) (w : World) → w.node.internal_storage.decided_idx ≤ (step_of c e entries w).after.node.internal_storage.decided_idx
unfolding perform_of box_of
decided-rises c e entries w =
    by-ways c e entries w (λ (v : World). w.node.internal_storage.decided_idx ≤ v.node.internal_storage.decided_idx) (omega arith) (λ t p o. p.rises)

-- places of the log below the decided index are unchanged
pub decided-stays : (c : Configuration) (e : Event) (entries : List ℕ) (w : World) → take w.node.internal_storage.decided_idx (step_of c e entries w).after.lists.log ≡ take w.node.internal_storage.decided_idx w.lists.log
unfolding perform_of
decided-stays c e entries w =
    by-ways c e entries w (λ (v : World). take w.node.internal_storage.decided_idx v.lists.log ≡ take w.node.internal_storage.decided_idx w.lists.log) refl
    (λ t p o. log-stays c e entries w t (outcome_of c e entries w) p o)

-- places past the depots are as found
pub past-depots : (c : Configuration) (e : Event) (entries : List ℕ) (w : World) → AsFound c w.node.leader_state.depots (step_of c e entries w).after.node.leader_state.depots
unfolding perform_of
past-depots c e entries w =
    by-ways c e entries w (λ (v : World). AsFound c w.node.leader_state.depots v.node.leader_state.depots) (λ i h. refl) (λ t p o. past-taken c e entries w t)

-- the book is the one that the decided entries make
abbrev pub Kept : World → Type 0
Kept w = w.lists.book ≡ book_of (take w.node.internal_storage.decided_idx w.lists.log)

book-more : (old new : ℕ) (log l : List ℕ) → old ≤ new → take old log ≡ take old l → apply_all (newly_decided old new log) (book_of (take old l)) ≡ book_of (take new log)
book-more old new log l h q =
    let m : old + (new - old) ≡ new = omega arith in
    let a : take (old + (new - old)) log ≡ take old log ++ take (new - old) (drop old log) = take-add old (new - old) log in
    let b : take new log ≡ take old log ++ take (new - old) (drop old log) = rw m at a in
    rw (b, apply-append (take old log) (take (new - old) (drop old log)) fresh_book, q)

module _ (c : Configuration) (e : Event) (entries : List ℕ) (w : World) where
  book-performed : (Kept w ⊎ (is_restart e ≡ true)) → Taken c w.node w.row w.lists e entries → Planned c e entries (found c e entries w) 7 (outcome_of c e entries w) → Fits (outcome_of c e entries w) → Kept (perform_of e entries (outcome_of c e entries w) w)
  unfolding perform_of book_after box_of
  book-performed k t p o =
      let s = outcome_of c e entries w in
      let old = w.node.internal_storage.decided_idx in
      let new = s.internal_storage.decided_idx in
      let log = log_of entries s w in
      either (λ (b : List ℕ). b ≡ book_of (take new log)) (is_restart e) (book_of (take new log)) (apply_all (newly_decided old new log) w.lists.book)
      (λ q. refl)
      (λ q. by k q ∙ book-more old new log w.lists.log p.rises (log-stays c e entries w t s p o))
    where
      by : (Kept w ⊎ (is_restart e ≡ true)) → is_restart e ≡ false → apply_all (newly_decided w.node.internal_storage.decided_idx (outcome_of c e entries w).internal_storage.decided_idx (log_of entries (outcome_of c e entries w) w)) w.lists.book ≡ apply_all (newly_decided w.node.internal_storage.decided_idx (outcome_of c e entries w).internal_storage.decided_idx (log_of entries (outcome_of c e entries w) w)) (book_of (take w.node.internal_storage.decided_idx w.lists.log))
      by (inl q) f = ap (apply_all (newly_decided w.node.internal_storage.decided_idx (outcome_of c e entries w).internal_storage.decided_idx (log_of entries (outcome_of c e entries w) w))) q
      by (inr q) f = absurd (let z : ◌≡◌ {A = ℕ} 0 1 = cc in omega arith)

  -- every step keeps it so
  pub book-law : Kept w → Kept (step_of c e entries w).after
  book-law k = by-ways c e entries w Kept k (book-performed (inl k))

-- and a restart that is taken makes it so
pub restart-makes : (c : Configuration) (entries : List ℕ) (w : World) → (step_of c event.Restart entries w).answer.no ≡ 0 → Kept (step_of c event.Restart entries w).after
restart-makes c entries w z = by (ways c event.Restart entries w)
  where
    by : Ways c event.Restart entries w → Kept (step_of c event.Restart entries w).after
    by (refused n d g q) = absurd (d (sym (ap (λ (x : Outcome). x.answer.no) q) ∙ z))
    by (took t r q) =
        subst (λ (x : Outcome). Kept x.after) (sym q) (book-performed c event.Restart entries w (inr refl) t (planned-taken c event.Restart entries w t) (passes (outcome_of c event.Restart entries w) r))

-- a box that never ran, with lists of the right lengths and a book that stands
pub fresh-stays : (c : Configuration) (row : Row) (l : Lent) → Stands c → Lengths l → length row.heads ≡ max_messages → Sound l.book → Stays c (world fresh_record row l)
fresh-stays c row l s n h b =
    let u = never-ran.fresh-unbroken c row l b.kept in
    record { lengths = n; shape = record { buffered = refl; heads = h }; whole = whole c fresh_record row l n.book u; call = not-off c l s n; record-stands = u }
