-- Laws of streams: joined, with items lost, over a log that grows, and with more entries in the last numbered item.
use Prim.Native.Nat.{ℕ, suc, ◌+◌, ◌≤◌}
use mathlib.Core.Path.{◌≡◌, refl, sym, ap, ◌∙◌, subst}
use mathlib.Core.List.{List, [], ◌∷◌, ◌++◌, append_assoc, map}
use native.Mathlib.Omega.{arith}
use native.Mathlib.Nat.{le_refl}
use lib.ListN.{length, take, length-append}
use lib.Seq.{take-length, take-append_seam}
use Rattle.agreement.specs.Core.{Same}
use Rattle.agreement.specs.Facts.{Part}
use Rattle.agreement.specs.All.{All, nil, cons, Sub, end, keep, leave}
use Rattle.agreement.specs.Stream.{Item, plain, adds, Spot, spot, Stream, done, skip, anew, on, gap, Later, NoLater, before, within, Plain, none, more}
use Rattle.agreement.proofs.Same.{same-down, same_length}

-- ---- numbers

-- an item's spot comes later than the one before it
later-anew : (a : Spot) {s : ℕ} (c e : ℕ) → s ≡ suc a.session → a.end ≤ e → Later a (spot s c e)
later-anew a c e p u = record { above = before (omega arith); end = u }

later-on : (a : Spot) {s c : ℕ} (k : ℕ) → s ≡ a.session → c ≡ suc a.counter → Later a (spot s c (a.end + k))
later-on a k p q = record { above = within (sym p) (omega arith); end = omega arith }

-- a number that is not above a spot is below every later one
pub below-later : {s c : ℕ} {a x : Spot} → NoLater s c a → Later a x → NoLater s (suc c) x
below-later {s} {c} {a} {x} p w = go p w.above
  where
    go : NoLater s c a → NoLater a.session (suc a.counter) x → NoLater s (suc c) x
    go (before p) (before q) = before (omega arith)
    go (before p) (within e q) = before (omega arith)
    go (within e p) (before q) = before (omega arith)
    go (within e p) (within f q) = within (e ∙ f) (omega arith)

pub no-later : {s c : ℕ} {x : Spot} → NoLater s (suc c) x → NoLater s c x
no-later (before p) = before p
no-later (within e p) = within e (omega arith)

pub not_there : {s c : ℕ} {x : Spot} → NoLater s (suc c) x → s ≡ x.session → c ≡ x.counter → ⊥
not_there (before p) e f = omega arith
not_there (within _ p) e f = omega arith

module _ {E : Type 0} where
  -- ---- parts of a log

  pub part_up : {xs ys es : List E} {i : ℕ} → Same (length xs) xs ys → Part xs i es → Part ys i es
  part_up {xs} {ys} {es} {i} s p =
      record {
        ends = omega (arith, same_length s (le_refl _), p.ends);
        is = sym (same-down (i + length es) p.ends s).eq ∙ p.is ∙ ap (λ l. l ++ es) (same-down i (omega (arith, p.ends)) s).eq;
      }

  pub part_join : {log xs ys : List E} {i : ℕ} → Part log i xs → Part log (i + length xs) ys → Part log i (xs ++ ys)
  part_join {log} {xs} {ys} {i} p q =
      let e : i + length (xs ++ ys) ≡ i + length xs + length ys = omega (arith, length-append xs ys) in
      record { ends = omega (arith, q.ends); is = rw e (q.is ∙ ap (λ l. l ++ ys) p.is ∙ append_assoc (take i log) xs ys) }

  -- what a log has gained
  pub part_end : (log es : List E) → Part (log ++ es) (length log) es
  part_end log es = record { ends = omega (arith, length-append log es); is = rw (← length-append, take-length, take-append_seam) }

  -- ---- streams

  pub stream-append : {log : List E} {l r : List (Item E)} {a x b : Spot} → Stream log l a x → Stream log r x b → Stream log (l ++ r) a b
  stream-append done q = q
  stream-append (skip p) q = skip (stream-append p q)
  stream-append (anew s c u p) q = anew s c u (stream-append p q)
  stream-append (on s c u p) q = on s c u (stream-append p q)
  stream-append (gap w p) q = gap w (stream-append p q)

  pub stream-up : {xs ys : List E} {l : List (Item E)} {a b : Spot} → Same (length xs) xs ys → Stream xs l a b → Stream ys l a b
  stream-up e done = done
  stream-up e (skip p) = skip (stream-up e p)
  stream-up e (anew s c u p) = anew s c u (stream-up e p)
  stream-up e (on s c u p) = on s c (part_up e u) (stream-up e p)
  stream-up e (gap w p) = gap w (stream-up e p)

  pub plain-stream : {log : List E} {l : List (Item E)} {a : Spot} → Plain l → Stream log l a a
  plain-stream none = done
  plain-stream (more p) = skip (plain-stream p)

  -- any items may be lost
  pub stream-sub : {log : List E} {l r : List (Item E)} {a b : Spot} → Sub l r → Stream log r a b → Stream log l a b
  stream-sub end done = done
  stream-sub (keep {l = l} t) (skip p) = skip (stream-sub {l = l} t p)
  stream-sub (keep {l = l} t) (anew s c u p) = anew s c u (stream-sub {l = l} t p)
  stream-sub (keep {l = l} t) (on s c u p) = on s c u (stream-sub {l = l} t p)
  stream-sub {l = l} (leave t) (skip p) = stream-sub {l = l} t p
  stream-sub {l = l} (leave t) (anew {a = a} s c u p) = gap (later-anew a _ _ s u) (stream-sub {l = l} t p)
  stream-sub {l = l} (leave t) (on {a = a} s c u p) = gap (later-on a _ s c) (stream-sub {l = l} t p)
  stream-sub {l = l} t (gap w p) = gap w (stream-sub {l = l} t p)

  -- the first item of a stream, and what follows it
  record Head (log : List E) (m : Item E) (l : List (Item E)) (a b : Spot) : Type 0 where
    mid : Spot
    one : Stream log (m ∷ []) a mid
    rest : Stream log l mid b

  head : {log : List E} {m : Item E} {l : List (Item E)} {a b : Spot} → Stream log (m ∷ l) a b → Head log m l a b
  head (skip p) = record { mid = _; one = skip done; rest = p }
  head (anew s c u p) = record { mid = _; one = anew s c u done; rest = p }
  head (on s c u p) = record { mid = _; one = on s c u done; rest = p }
  head {log} {m} {l} (gap {x = x} {b = b} w p) = let h : Head log m l x b = head p in record { mid = h.mid; one = gap w h.one; rest = h.rest }

  rises : {log : List E} {l : List (Item E)} {a b : Spot} {s c : ℕ} → Stream log l a b → NoLater s c a → NoLater s c b
  rises done n = n
  rises (skip p) n = rises p n
  rises (anew {c = c} {a = a} s _ u p) n = rises p (no-later (below-later n (later-anew a c _ s u)))
  rises (on {a = a} s c u p) n = rises p (no-later (below-later n (later-on a _ s c)))
  rises (gap w p) n = rises p (no-later (below-later n w))

  -- where the number has not risen, nothing numbered lies between
  still : {log : List E} {l : List (Item E)} {a b : Spot} → Stream log l a b → b.session ≡ a.session → b.counter ≡ a.counter → (b ≡ a) × Plain l
  still done e f = (refl, none)
  still (skip p) e f = ((still p e f).0, more (still p e f).1)
  still (anew {c = c} {a = a} s _ u p) e f = absurd (not_there (rises p (later-anew a c _ s u).above) (sym e) (sym f))
  still (on {a = a} s c u p) e f = absurd (not_there (rises p (later-on a _ s c).above) (sym e) (sym f))
  still (gap w p) e f = absurd (not_there (rises p w.above) (sym e) (sym f))

  -- the item with the back's number gains ys: the stream's end moves by as much, and its number stays
  last-gains : {log es ys : List E} {s c : ℕ} {post : List (Item E)} {a b : Spot} → (b ≡ spot s c (a.end + length es)) × Plain post → Part log b.end ys
      → s ≡ a.session → c ≡ suc a.counter → Part log a.end es → Stream log (adds s c (es ++ ys) ∷ post) a (spot b.session b.counter (b.end + length ys))
  last-gains {log} {es} {ys} {s} {c} {post} {a} {b} (eq, p) q e f u =
      rw eq (subst (λ k. Stream log (adds s c (es ++ ys) ∷ post) a (spot s c k)) len (on e f (part_join u (subst (λ (k : Spot). Part log k.end ys) eq q)) (plain-stream p)))
    where
      len : a.end + length (es ++ ys) ≡ a.end + length es + length ys
      len = omega (arith, length-append es ys)

  first-gains : {log es ys : List E} {s c : ℕ} {post : List (Item E)} {a b : Spot} → b.session ≡ s → b.counter ≡ c → Part log b.end ys → Stream log (adds s c es ∷ post) a b
      → Stream log (adds s c (es ++ ys) ∷ post) a (spot b.session b.counter (b.end + length ys))
  first-gains p q u (on e f v r) = last-gains (still r p q) u e f v
  first-gains p q u (gap w r) = gap w (first-gains p q u r)

  pub stream-extend : {log ys : List E} (pre post : List (Item E)) (s c : ℕ) (es : List E) {a b : Spot} → b.session ≡ s → b.counter ≡ c → Part log b.end ys
      → Stream log (pre ++ (adds s c es ∷ post)) a b → Stream log (pre ++ (adds s c (es ++ ys) ∷ post)) a (spot b.session b.counter (b.end + length ys))
  stream-extend [] post s c es p q u r = first-gains p q u r
  stream-extend {log} (m ∷ pre) post s c es {a} {b} p q u r =
      let h : Head log m (pre ++ (adds s c es ∷ post)) a b = head r in
      stream-append h.one (stream-extend pre post s c es p q u h.rest)

  -- ---- messages that are nothing to the stream
  pub plain_map : {M : Type 0} (view : M → Item E) {l : List M} → All (λ m. view m ≡ plain) l → Plain (map view l)
  plain_map view nil = none
  plain_map view (cons p ps) = rw p (more (plain_map view ps))
