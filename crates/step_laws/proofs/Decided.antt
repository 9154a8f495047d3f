-- A step leaves the places of the log below the decided index that it found.
use Rattle.std.specs.Prelude.{Option}
use Prim.Native.Nat.{ℕ, ◌+◌, ◌-◌, ◌≤◌, ◌<◌}
use mathlib.Core.Path.{◌≡◌, refl, ap, sym, ◌∙◌}
use mathlib.Core.Bool.{Bool, true, false, not}
use mathlib.Core.List.{List}
use native.Mathlib.Omega.{arith}
use lib.Dec.{ltb, eqb}
use lib.ListN.{length, take, drop, get_or, length-take}
use lib.Seq.{get_or-take, get_or-drop, ext_get_or, length-take-le, take_all}
use borrow.Author.Tests.{ltb-true, ltb-false, le-leb, eqb-true, not-false}
use Rattle.leader_state.specs.declared.LogSync.{LogSync}
use Rattle.quorum.specs.declared.Configuration.{Configuration}
use Rattle.messages.specs.declared.Event.{Event}
use Rattle.paxos_box.specs.declared.SequencePaxos.{SequencePaxos}
use Rattle.paxos_box.specs.declared.LogOp.{LogOp}
use Rattle.paxos_box.specs.declared.LogOp.TheVariants as log
use Rattle.sight.specs.Sight.{changes_at, first_change, held_change, brought, brought_change}
use Rattle.sight.proofs.First.{first_says}
use Rattle.storage.specs.Storage.{put_at, end_after, op_on, log_after}
use Rattle.storage.proofs.Laws.{put-before, put-past}
use Rattle.storage.proofs.Laid.{length-put}
use Rattle.outgoing.proofs.Cells.{put-at-before}
use Rattle.refusals.proofs.Taken.{Taken}
use Rattle.step.specs.Step.{World, box_of, log_of}
use Rattle.step_laws.proofs.Log.{put-at-within, op-length}
use Rattle.step_laws.proofs.Written.{OpFit, Planned}
use Rattle.decide_laws.proofs.Table.{Fits}
use Rattle.step_laws.proofs.Fits.{found, ends-within}

-- past a write the list is as found
put-at-past : (i j : ℕ) (xs l : List ℕ) → i ≤ length l → i + length xs ≤ j → get_or (put_at i xs l) j 0 ≡ get_or l j 0
put-at-past i j xs l k h =
    let m : (i + length xs) + (j - (i + length xs)) ≡ j = omega arith in
    let a : get_or (drop (i + length xs) (put_at i xs l)) (j - (i + length xs)) 0 ≡ get_or (put_at i xs l) ((i + length xs) + (j - (i + length xs))) 0 = get_or-drop (i + length xs) (put_at i xs l) (j - (i + length xs)) 0 in
    let b : get_or (drop (i + length xs) l) (j - (i + length xs)) 0 ≡ get_or l ((i + length xs) + (j - (i + length xs))) 0 = get_or-drop (i + length xs) l (j - (i + length xs)) 0 in
    let c : get_or (drop (i + length xs) (put_at i xs l)) (j - (i + length xs)) 0 ≡ get_or (drop (i + length xs) l) (j - (i + length xs)) 0 = ap (λ (y : List ℕ). get_or y (j - (i + length xs)) 0) (put-past i xs l k) in
    rw m at (sym a ∙ (c ∙ b))

-- a place that a write does not change is as found
unchanged : (start i : ℕ) (xs l : List ℕ) → start ≤ length l → changes_at l start xs i ≡ false → get_or (put_at start xs l) i 0 ≡ get_or l i 0
unfolding changes_at
unchanged start i xs l k e = by (ltb i start) (ltb (i - start) (length xs)) refl refl
  where
    by : (a b : Bool) → ltb i start ≡ a → ltb (i - start) (length xs) ≡ b → get_or (put_at start xs l) i 0 ≡ get_or l i 0
    by true b p q = put-at-before i start xs l (ltb-true i start p) k
    by false false p q =
        let x = ltb-false i start p in
        let y = ltb-false (i - start) (length xs) q in
        put-at-past start i xs l k (omega arith)
    by false true p q =
        let x = ltb-false i start p in
        let y = ltb-true (i - start) (length xs) q in
        let m : start + (i - start) ≡ i = omega arith in
        let z : not (eqb (get_or l i 0) (get_or xs (i - start) 0)) ≡ false = rw (le-leb start i x, q) at e in
        let s : get_or l i 0 ≡ get_or xs (i - start) 0 = eqb-true (get_or l i 0) (get_or xs (i - start) 0) (not-false (eqb (get_or l i 0) (get_or xs (i - start) 0)) z) in
        rw m at (put-at-within start (i - start) xs l k y) ∙ sym s

put-stays : (start old : ℕ) (xs l : List ℕ) → start + length xs ≤ length l → old ≤ length l → ((i : ℕ) → i < old → changes_at l start xs i ≡ false) → take old (put_at start xs l) ≡ take old l
put-stays start old xs l k h f =
    let n : length (put_at start xs l) ≡ length l = length-put start xs l k in
    let a : length (take old (put_at start xs l)) ≡ old = length-take-le old (put_at start xs l) (omega arith) in
    let b : length (take old l) ≡ old = length-take-le old l h in
    ext_get_or 0 (take old (put_at start xs l)) (take old l) (a ∙ sym b)
    (λ i m.
    let j : i < old = omega arith in
    rw (get_or-take old (put_at start xs l) i 0 j, get_or-take old l i 0 j) (unchanged start i xs l (omega arith) (f i j)))

-- below the first change nothing changes
before-change : (l : List ℕ) (len start : ℕ) (xs : List ℕ) (old : ℕ) → old ≤ first_change l len start xs → (i : ℕ) → i < old → changes_at l start xs i ≡ false
unfolding first_change
before-change l len start xs old h i k = (first_says (changes_at l start xs) 0 len).before i (omega arith) (omega arith)

module _ (c : Configuration) (e : Event) (entries : List ℕ) (w : World) (t : Taken c w.node w.row w.lists e entries) where
  op-stays : (op : LogOp) → end_after op w.node.internal_storage.accepted_idx ≤ length w.lists.log → OpFit e entries (found c e entries w) op → take w.node.internal_storage.decided_idx (op_on op w.node.internal_storage.accepted_idx entries w.lists.best w.lists.log) ≡ take w.node.internal_storage.decided_idx w.lists.log
  unfolding box_of
  op-stays log.Keep h o = refl
  op-stays (log.Append n) h o =
      put-before w.node.internal_storage.decided_idx w.node.internal_storage.accepted_idx (take n entries) w.lists.log t.whole.decided (omega arith)
  op-stays (log.PutGiven x) h o =
      let l = w.lists.log in
      let len = w.node.internal_storage.accepted_idx in
      let old = w.node.internal_storage.decided_idx in
      let all : take x.len entries ≡ entries = take_all x.len entries (omega (arith, o.0.count)) in
      let sight : brought_change (brought e) l len entries ≡ first_change l len x.sync_idx entries = ap (λ (y : Option ℕ). brought_change y l len entries) o.0.start in
      rw all (put-stays x.sync_idx old entries l (omega (arith, o.0.count)) (omega (arith, t.whole.decided, t.whole.ends, t.lengths.log)) (before-change l len x.sync_idx entries old (omega (arith, o.2, sight))))
  op-stays (log.PutHeld x) h o =
      let l = w.lists.log in
      let len = w.node.internal_storage.accepted_idx in
      let old = w.node.internal_storage.decided_idx in
      let sight : held_change w.node.leader_state.max_promise.sync l len w.lists.best ≡ first_change l len x.sync_idx (take x.len w.lists.best) = ap (λ (y : Option LogSync). held_change y l len w.lists.best) o.0 in
      put-stays x.sync_idx old (take x.len w.lists.best) l (omega (arith, length-take x.len w.lists.best)) (omega (arith, t.whole.decided, t.whole.ends, t.lengths.log)) (before-change l len x.sync_idx (take x.len w.lists.best) old (omega (arith, o.2, sight)))

  pub log-stays : (s : SequencePaxos) → Planned c e entries (found c e entries w) 7 s → Fits s → take w.node.internal_storage.decided_idx (log_of entries s w) ≡ take w.node.internal_storage.decided_idx w.lists.log
  unfolding log_of log_after box_of
  log-stays s p o =
      let len = w.node.internal_storage.accepted_idx in
      let old = w.node.internal_storage.decided_idx in
      let op = s.plan.writes.log in
      let h : end_after op len ≤ length w.lists.log = omega (arith, ends-within c e entries w t s p o, t.lengths.log) in
      let n : length (op_on op len entries w.lists.best w.lists.log) ≡ length w.lists.log = op-length op len entries w.lists.best w.lists.log h in
      put-before old (end_after op len) (take s.plan.writes.buffered w.node.buffered_proposals.entries) (op_on op len entries w.lists.best w.lists.log) (omega (arith, p.rises, p.decided)) (omega arith)
      ∙ op-stays op h p.op
