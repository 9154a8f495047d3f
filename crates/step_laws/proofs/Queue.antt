-- The queue that a step finds, and how it lies after what is planned: in the store, apart, each message fit.
use Prim.Native.Nat.{ℕ, zero, suc, ◌+◌, ◌≤◌, ◌<◌}
use mathlib.Core.Path.{◌≡◌, refl, sym, subst, ◌∙◌}
use mathlib.Core.Logic.{inr}
use mathlib.Core.Bool.{Bool, true, false}
use mathlib.Core.List.{List, [], ◌∷◌}
use native.Mathlib.Omega.{arith}
use lib.Dec.{eqb}
use lib.ListN.{length, take, get_or, length-take}
use lib.Seq.{get_or-take, length-take-le}
use borrow.Author.Tests.{eqb-true, eqb-false}
use Rattle.base.specs.Limits.{max_messages, max_store}
use Rattle.quorum.specs.declared.Configuration.{Configuration}
use Rattle.messages.specs.Messages.{no_head}
use Rattle.messages.specs.declared.Head.{Head}
use Rattle.messages.specs.declared.Row.{Row}
use Rattle.paxos_box.specs.declared.Send.{Send}
use Rattle.paxos_box.specs.declared.Sends.{Sends}
use Rattle.record.specs.declared.Record.{Record}
use Rattle.hire_book.specs.Below.{sum_below}
use Rattle.sight.specs.Sight.{head_at, queue_entries}
use Rattle.broken.specs.Lent as broken
use Rattle.outgoing.specs.Queue.{Lent, lent, msg_of, queue_of, laid}
use Rattle.outgoing.specs.Perform.{Sources, entries_of, perform_all, performed, items_of, new_in, carried, Fits}
use Rattle.outgoing.specs.Packing.{Packed}
use Rattle.outgoing.proofs.Steps.{laid-sizes}
use Rattle.outgoing.proofs.Kept.{performed-none, after-length, queue-after, entries-after, packed-after, packed-inside, packed-apart}
use Rattle.refusals.proofs.Taken.{Apart, HeadFit, Whole}
use Rattle.decide_laws.proofs.Grown.{either}
use Rattle.step_laws.proofs.Plan.{Each, each_of, each_at}
use Rattle.step_laws.proofs.Messages.{Does, FitMsg, each_all, each-shown, each-head, head-shown, shown-head}

-- a sum by its first number
sum_first : (f : ℕ → ℕ) (n : ℕ) → sum_below f (suc n) ≡ f 0 + sum_below (λ i. f (suc i)) n
unfolding sum_below
sum_first f zero = omega arith
sum_first f (suc n) = let e = sum_first f n in omega (arith, e)

none-carried : (n : ℕ) → sum_below (λ i. 0) n ≡ 0
unfolding sum_below
none-carried zero = refl
none-carried (suc n) = omega (arith, none-carried n)

carried-sum : (hs : List Head) (n : ℕ) → sum_below (λ i. (get_or hs i no_head).count) n ≡ carried (take n hs)
unfolding carried sum_below
carried-sum [] zero = refl
carried-sum [] (suc n) = none-carried (suc n)
carried-sum (h ∷ hs) zero = refl
carried-sum (h ∷ hs) (suc n) = let e = carried-sum hs n in omega (arith, e, sum_first (λ i. (get_or (h ∷ hs) i no_head).count) n)

-- how many entries it carries
pub carried-found : (row : Row) (len : ℕ) → carried (take len row.heads) ≡ queue_entries row len
unfolding queue_entries
carried-found row len = let e = carried-sum row.heads len in omega (arith, e)

-- heads that lie in the store, apart, and carry no more than it holds
pub record Lies (n : ℕ) (row : Row) : Type 0 where
  pub inside : (k : ℕ) → k < n → 0 < (head_at row k).count → (head_at row k).start + (head_at row k).count ≤ max_store
  pub apart : (i j : ℕ) → i < j → j < n → Apart (head_at row j) (head_at row i)
  pub few : queue_entries row n ≤ max_store

pub found-lies : (c : Configuration) (r : Record) (row : Row) (l : broken.Lent) → Whole c r row l → Lies r.outgoing row
found-lies c r row l w = record { inside = λ k h. (w.heads k h).inside; apart = w.apart; few = w.carried }

packed-lies : (n : ℕ) (row : Row) (store : List ℕ) → length store ≡ max_store → Packed n row.heads store → Lies n row
packed-lies n row store e p =
    record {
      inside = λ k l h. omega (arith, packed-inside n row store p k l h);
      apart = λ i j l h a b. inr (packed-apart n row store p i j l h);
      few = omega (arith, carried-found row n, p.within);
    }

module _ (f : Sources) (x : Sends) (len : ℕ) (row : Row) (store : List ℕ) (p : Fits len x row store) (h : length row.heads ≡ max_messages) where
  pub sizes-after : (length (performed f x len (lent row store)).row.heads ≡ max_messages) × (length (performed f x len (lent row store)).store ≡ max_store)
  unfolding performed
  sizes-after =
      either (λ (v : Lent). (length v.row.heads ≡ max_messages) × (length v.store ≡ max_store)) (eqb x.count 0) (lent row store) (laid (perform_all f (items_of x) (queue_of len (lent row store))) (lent row store))
      (λ e. (h, p.size))
      (λ e. let s = laid-sizes (perform_all f (items_of x) (queue_of len (lent row store))) (lent row store) (omega (arith, after-length f x len row store p h, p.messages, h)) (omega (arith, entries-after f x len row store p h, p.size)) in (s.0 ∙ h, s.1 ∙ p.size))

  none-new : x.count ≡ 0 → len + new_in (items_of x) ≡ len
  unfolding new_in
  none-new e = let z : len + 0 ≡ len = omega arith in rw e z

  pub lies-after : Lies len row → Lies (len + new_in (items_of x)) (performed f x len (lent row store)).row
  lies-after l = by (eqb x.count 0) refl
    where
      by : (t : Bool) → eqb x.count 0 ≡ t → Lies (len + new_in (items_of x)) (performed f x len (lent row store)).row
      by true e =
          let z = eqb-true x.count 0 e in
          subst (λ (n : ℕ). Lies n (performed f x len (lent row store)).row) (sym (none-new z)) (subst (λ (v : Lent). Lies len v.row) (sym (performed-none f x len (lent row store) z)) l)
      by false e = packed-lies (len + new_in (items_of x)) (performed f x len (lent row store)).row (performed f x len (lent row store)).store sizes-after.1 (packed-after f x len row store p h (eqb-false x.count 0 e))

module _ (c : Configuration) (f : Sources) (x : Sends) (len : ℕ) (row : Row) (store : List ℕ) (p : Fits len x row store) (h : length row.heads ≡ max_messages) where
  -- the messages that wait are fit, and so are those after the plan
  found-fit : ((k : ℕ) → k < len → HeadFit c store (head_at row k)) → Each (FitMsg c) (queue_of len (lent row store))
  unfolding queue_of
  found-fit g =
      each-shown (FitMsg c) store (take len row.heads)
      (each_of (λ (y : Head). FitMsg c (msg_of store y)) (take len row.heads) no_head
      (λ k l. let m : k < len = omega (arith, length-take len row.heads) in subst (λ (y : Head). FitMsg c (msg_of store y)) (sym (get_or-take len row.heads k no_head m)) (head-shown c store (head_at row k) (g k m))))

  message-after : ((k : ℕ) → k < len → HeadFit c store (head_at row k)) → Each (λ (m : Send). Does (FitMsg c) m.what m.to (entries_of f m)) (items_of x) → (k : ℕ) → k < len + new_in (items_of x) → FitMsg c (msg_of (performed f x len (lent row store)).store (head_at (performed f x len (lent row store)).row k))
  unfolding queue_of
  message-after g d k l =
      let n = len + new_in (items_of x) in
      let v = performed f x len (lent row store) in
      let all : Each (FitMsg c) (queue_of n v) = subst (Each (FitMsg c)) (sym (queue-after f x len row store p h)) (each_all (FitMsg c) f (items_of x) (queue_of len (lent row store)) d (found-fit g)) in
      let m : length (take n v.row.heads) ≡ n = length-take-le n v.row.heads (omega (arith, (sizes-after f x len row store p h).0, p.messages)) in
      subst (λ (y : Head). FitMsg c (msg_of v.store y)) (get_or-take n v.row.heads k no_head l)
      (each_at (λ (y : Head). FitMsg c (msg_of v.store y)) (take n v.row.heads) no_head (each-head (FitMsg c) v.store (take n v.row.heads) all) k (omega arith))

  pub head-after : Lies len row → ((k : ℕ) → k < len → HeadFit c store (head_at row k)) → Each (λ (m : Send). Does (FitMsg c) m.what m.to (entries_of f m)) (items_of x) → (k : ℕ) → k < len + new_in (items_of x) → HeadFit c (performed f x len (lent row store)).store (head_at (performed f x len (lent row store)).row k)
  head-after l g d k b =
      let v = performed f x len (lent row store) in
      let m = message-after g d k b in
      let i = (lies-after f x len row store p h l).inside k b in
      record { inside = i; entries = shown-head c v.store (head_at v.row k) (λ z. rw (sizes-after f x len row store p h).1 (i z)) m; ballots = m.ballots }
