-- A depot's durable part, through the moves of its own and of others: it promises, and accepts a log that it was brought.
use Prim.Native.Nat.{ℕ, zero, suc, ◌+◌, ◌≤◌}
use mathlib.Core.Path.{◌≡◌, refl, sym, ap, ◌∙◌, subst}
use mathlib.Core.Logic.{◌⊎◌, inl, inr, ◌≢◌}
use mathlib.Core.Bool.{true}
use mathlib.Core.List.{List, [], ◌++◌}
use native.Mathlib.Omega.{arith}
use native.Mathlib.Nat.{le_refl}
use lib.ListN.{length, take, length-append, length-take}
use lib.Seq.{take_all, take-length, length-take-le}
use Rattle.ballot.specs.Ballot.{default}
use Rattle.ballot.specs.declared.Ballot.{Ballot}
use Rattle.ballot.proofs.Laws.{default-lowest}
use Rattle.agreement.specs.Order.{Below, Upto, Within, lower, level}
use Rattle.agreement.specs.Core.{Sizes, Ghost, Same, Mark, nothing, begun, Start, Core}
use Rattle.agreement.specs.Growth.{Ext, Moved}
use Rattle.agreement.specs.Moves.{fresh, raise, accept}
use Rattle.agreement.specs.Facts.{Part, Comm, Settled, Borne, Holds, Fit, Taken, Brought}
use Rattle.agreement.specs.Report.{Valid, Syncs}
use Rattle.agreement.proofs.Order.{upto-split, upto-both, upto-trans, upto-eq}
use Rattle.agreement.proofs.Same.{same_refl, same-trans, same-down, same-take, same_length}
use Rattle.agreement.proofs.Update.{depot-here, both-here, both-ballot}
use Rattle.agreement.proofs.Growth.{ext_trans, mark-fits, log-kept}
use Rattle.agreement.proofs.Moves.{raised, round-here, accepted}
use Rattle.agreement.proofs.Decided.{decided-up, comm-on}

module _ {E : Type 0} {z : Sizes} {g : Ghost E} (c : Core z g) where
  -- a depot has accepted no more than there is
  pub accepted-fits : (b : ℕ) (n : Ballot) → g.A b n ≤ length (g.G n)
  accepted-fits b n = go (g.A b n) refl
    where
      go : (k : ℕ) → g.A b n ≡ k → g.A b n ≤ length (g.G n)
      go zero e = omega arith
      go (suc k) e = mark-fits ((c.accepts b).mark n (omega arith))

  -- where a started ballot is held, it is begun
  pub mark-started : {n : Ballot} {a : ℕ} → g.started n ≡ true → Mark g n a → g.g0 n ≤ a
  mark-started {n} s (begun t l f) = l
  mark-started {n} s (nothing e f) = let o : Start z g n = c.starts n s in absurd (default-lowest o.na (subst (Below o.na) e o.origin.below).is)

  module _ {b : ℕ} {p r : Ballot} {log : List E} {d : ℕ} (o : Holds z g b p r log d) where
    pub holds-low : Upto r p
    holds-low = upto-trans (upto-eq (sym o.rnd)) (upto-trans (c.accepts b).low (upto-eq o.promise))

    pub holds-mark : Mark g r (length log)
    holds-mark = rw (o.rnd, o.here) at (c.accepts b).here

    -- ---- it promises
    pub promised : (n : Ballot) → Upto p n → Holds z (raise b n g) b n r log d
    unfolding raise
    promised n u =
        let m : Moved z b g (raise b n g) = raised c b n (upto-trans (upto-eq o.promise) u) in
        record { promise = depot-here b n g.promise; rnd = o.rnd; here = o.here; same = o.same; fits = o.fits; decided = λ q. decided-up m.ext (o.decided q) }

  -- ---- it accepts
  pub taken : {b : ℕ} {n : Ballot} {log : List E} → g.promise b ≡ n → Fit g b n log → Taken z g (accept b n (length log) g) b n log
  unfolding accept
  taken {b} {n} {log} p f =
      record {
        moved = accepted c b n (length log) p f.started f.whole (same_length f.same (le_refl _)) f.up;
        here = both-here b n (length log) g.A;
        else = λ m ne. both-ballot b n (length log) g.A m ne;
        holds = λ d l k. record { promise = p; rnd = round-here g b n (length log); here = both-here b n (length log) g.A; same = f.same; fits = l; decided = k };
      }

  -- ---- what it is brought

  -- its log agrees with ballot n's below i, and is brought es from there on
  pub extended : {b i d : ℕ} {n r : Ballot} {log es : List E} → Holds z g b n r log d → g.started n ≡ true → i ≤ length log → Same i log (g.G n) → Part (g.G n) i es
      → g.g0 n ≤ i + length es → g.A b n ≤ i + length es → Brought z g b n d (take i log ++ es)
  extended {b} {i} {d} {n} {r} {log} {es} o s l q pt w u =
      record {
        fit = record {
          started = s;
          whole = omega (arith, len);
          up = omega (arith, len);
          same = rw len (record { eq = take_all (i + length es) (take i log ++ es) (omega (arith, len)) ∙ ap (λ k. k ++ es) q.eq ∙ sym pt.is });
        };
        fits = omega (arith, len, bears.fits);
        decided = bears.decided;
      }
    where
      len : length (take i log ++ es) ≡ i + length es
      len = simp (length-append, length-take) (omega arith)

      at_most : (r ≡ n) ⊎ Below r n → Within r (length log) n (i + length es)
      at_most (inl e) = level e (omega (arith, o.here, ap (g.A b) e))
      at_most (inr lt) = lower lt

      bears : Borne z g r n (i + length es) d
      bears = comm-on c d (at_most (upto-split (holds-low o))) (begun s w pt.ends) o.fits o.decided

  -- where the log is of ballot n already, more of it
  pub more : {b d : ℕ} {n : Ballot} {log es : List E} → Holds z g b n n log d → g.started n ≡ true → Part (g.G n) (length log) es → Brought z g b n d (log ++ es)
  more {b} {d} {n} {log} {es} o s pt =
      rw take-length at (extended o s (le_refl _) o.same pt (omega (arith, mark-started s (holds-mark o))) (omega (arith, o.here)))

  -- what the leader knew to be valid still is
  pub valid-here : {b i d : ℕ} {n r : Ballot} {log : List E} → Holds z g b n r log d → g.started n ≡ true → Valid g b n i → (i ≤ length log) × Same i log (g.G n)
  valid-here {b} {i} {d} {n} {r} {log} o s v = go v.last v.kept
    where
      out : i ≤ length log → Same i (g.G r) (g.G n) → (i ≤ length log) × Same i log (g.G n)
      out l q = (l, same-trans (same-down i l o.same) q)

      of-r : v.r ≡ r → (i ≤ length log) × Same i log (g.G n)
      of-r e = out (omega (arith, v.has, ap (g.A b) e, o.here)) (subst (λ x. Same i (g.G x) (g.G n)) e v.same)

      of-n : Upto n (g.rnd b) → r ≡ n
      of-n u = upto-both (holds-low o) (upto-trans u (upto-eq o.rnd))

      go : (g.rnd b ≡ v.r) ⊎ Upto n (g.rnd b) → (v.r ≡ n) ⊎ (i ≤ g.g0 n) → (i ≤ length log) × Same i log (g.G n)
      go (inl a) k = of-r (sym a ∙ o.rnd)
      go (inr a) (inl k) = of-r (k ∙ sym (of-n a))
      go (inr a) (inr k) =
          let m : Mark g n (length log) = subst (λ x. Mark g x (length log)) (of-n a) (holds-mark o) in
          out (omega (arith, mark-started s m)) (subst (λ x. Same i (g.G x) (g.G n)) (sym (of-n a)) same_refl)

  pub synced : {b i d k : ℕ} {n r : Ballot} {log es : List E} → Holds z g b n r log d → Syncs z g b n i es k → g.A b n ≤ i + length es → Brought z g b n d (take i log ++ es)
  synced {i = i} {n = n} {log = log} o w u =
      let k : (i ≤ length log) × Same i log (g.G n) = valid-here o w.started w.valid in
      extended o w.started k.0 k.1 w.part w.whole u

-- what depot b accepts after a move of its own that left its row alone
pub taken-after : {E : Type 0} {z : Sizes} {g g₁ h : Ghost E} {b : ℕ} {n : Ballot} {log : List E} → Moved z b g g₁ → ((m : Ballot) → g₁.A b m ≡ g.A b m) → Taken z g₁ h b n log → Taken z g h b n log
taken-after w a t =
    record { moved = record { ext = ext_trans w.ext t.moved.ext; core = t.moved.core }; here = t.here; else = λ m ne. t.else m ne ∙ a m; holds = t.holds }

-- ---- before every run
pub holds-fresh : {E : Type 0} {z : Sizes} (b : ℕ) → Holds {E = E} z fresh b default default [] 0
unfolding fresh
holds-fresh b = record { promise = refl; rnd = refl; here = refl; same = same_refl; fits = omega arith; decided = λ p. absurd (omega arith) }

-- ---- what it has decided
pub decides : {E : Type 0} {z : Sizes} {g : Ghost E} {b d : ℕ} {p r : Ballot} {log : List E} (k : ℕ) → k ≤ length log → Comm z g r k → Holds z g b p r log d → Holds z g b p r log k
decides k l q o = record { promise = o.promise; rnd = o.rnd; here = o.here; same = o.same; fits = l; decided = q }

pub settled-of : {E : Type 0} {z : Sizes} {g : Ghost E} {b d : ℕ} {p r : Ballot} {log : List E} → Holds z g b p r log d → Settled z g (take d log)
settled-of {g = g} {d = d} {r = r} {log = log} o =
    let e : length (take d log) ≡ d = length-take-le d log o.fits in
    record { at = r; decided = rw e o.decided; same = rw e (same-trans (same-take log d) (same-down d o.fits o.same)) }

-- ---- another depot moves
module _ {E : Type 0} {z : Sizes} {b : ℕ} {g h : Ghost E} (e : Ext b g h) where
  pub holds-up : {c d : ℕ} {p r : Ballot} {log : List E} → c ≢ b → Holds z g c p r log d → Holds z h c p r log d
  holds-up {c} {d} {p} {r} {log} ne o =
      record {
        promise = (e.stays c ne).promise ∙ o.promise;
        rnd = (e.stays c ne).rnd ∙ o.rnd;
        here = (e.stays c ne).A r ∙ o.here;
        same = same-trans o.same (log-kept e r (length log) (same_length o.same (le_refl _)));
        fits = o.fits;
        decided = λ q. decided-up e (o.decided q);
      }
