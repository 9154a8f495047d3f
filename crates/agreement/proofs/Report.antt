-- Reports: they stay true when any depot moves; a depot's own is one; what the leader of a ballot may conclude from them.
use Prim.Native.Nat.{ℕ, zero, suc, ◌≤◌, ◌<◌}
use mathlib.Core.Path.{◌≡◌, refl, sym, ap, ◌∙◌, subst}
use mathlib.Core.Logic.{◌⊎◌, inl, inr}
use mathlib.Core.Bool.{true, false}
use mathlib.Core.List.{List, ◌++◌}
use native.Mathlib.Omega.{arith}
use native.Mathlib.Nat.{le_refl}
use lib.ListN.{length, take, drop, take-append-drop}
use lib.Seq.{take-take, length-take-le}
use Rattle.base.proofs.Tests.{not-both, is_false}
use Rattle.ballot.specs.Ballot.{above}
use Rattle.ballot.specs.declared.Ballot.{Ballot}
use Rattle.ballot.proofs.Laws.{total}
use Rattle.agreement.specs.Order.{Below, Upto, Within, lower, level, Beats, higher, longer, leader_of}
use Rattle.agreement.specs.Core.{Sizes, Ghost, Same, Mark, Core}
use Rattle.agreement.specs.Growth.{Ext, Moved}
use Rattle.agreement.specs.Moves.{raise}
use Rattle.agreement.specs.Facts.{Borne, Holds}
use Rattle.agreement.specs.Report.{Sync, from, Brings, Report, Asks, Offer, Answer, Told, Promises}
use Rattle.agreement.proofs.Order.{never, upto-refl, upto-eq, upto-trans, below-upto, below_apart, within-trans}
use Rattle.agreement.proofs.Same.{same-sym, same-trans, same-down, same_whole}
use Rattle.agreement.proofs.Growth.{mark-below, moves, log-kept, mark-up, mark-fits}
use Rattle.agreement.proofs.Moves.{raised}
use Rattle.agreement.proofs.Decided.{decided-up, comm-on}
use Rattle.agreement.proofs.Hold.{holds-low, holds-mark, promised}

-- ---- any depot moves
module _ {E : Type 0} {b : ℕ} {g h : Ghost E} (e : Ext b g h) where
  -- what has not started had not started
  pub fresh-before : {n : Ballot} → h.started n ≡ false → g.started n ≡ false
  fresh-before {n} s = is_false (g.started n) (λ q. not-both ((e.grows n).started q) s)

  -- a depot's accepted round stays until it is at least the promise that the depot had
  pub last_up : {n r : Ballot} (c : ℕ) → Upto n (g.promise c) → (g.rnd c ≡ r) ⊎ Upto n (g.rnd c) → (h.rnd c ≡ r) ⊎ Upto n (h.rnd c)
  last_up {n} {r} c u q = go (moves e c).rnd q
    where
      go : (h.rnd c ≡ g.rnd c) ⊎ Upto (g.promise c) (h.rnd c) → (g.rnd c ≡ r) ⊎ Upto n (g.rnd c) → (h.rnd c ≡ r) ⊎ Upto n (h.rnd c)
      go (inl p) (inl q) = inl (p ∙ q)
      go (inl p) (inr q) = inr (upto-trans q (upto-eq (sym p)))
      go (inr p) q = inr (upto-trans u p)

  pub take-up : (n : Ballot) (a : ℕ) → a ≤ length (g.G n) → take a (h.G n) ≡ take a (g.G n)
  take-up n a l = sym (log-kept e n a l).eq

module _ {E : Type 0} {z : Sizes} {b : ℕ} {g h : Ghost E} (e : Ext b g h) where
  pub report-up : {n na : Ballot} {j a d : ℕ} → Report z g n j na a d → Report z h n j na a d
  report-up {n} {na} {j} {a} o =
      record {
        firm = upto-trans o.firm (moves e j).promise;
        upto = o.upto;
        mark = mark-up e o.mark;
        has = omega (arith, o.has, (moves e j).up na);
        best = λ m l p. let f : h.A j m ≡ g.A j m = (moves e j).frozen m (below-upto l o.firm) in rw f (o.best m l (omega arith));
        last = last_up e j o.firm o.last;
        fits = o.fits;
        decided = λ p. decided-up e (o.decided p);
      }

  pub asks-up : {n na : Ballot} {a d : ℕ} → Asks z g n na a d → Asks z h n na a d
  asks-up o = record { early = λ s. report-up (o.early (fresh-before e s)) }

  offer-up : {n na : Ballot} {a : ℕ} {sync : Sync E} → a ≤ length (g.G na) → Offer z g n na a sync → Offer z h n na a sync
  offer-up {n} {na} {a} l o =
      record {
        lna = o.lna;
        la = o.la;
        ld = o.ld;
        own = report-up o.own;
        brings = rw (take-up e na a l, take-up e o.lna o.la (mark-fits o.own.mark)) o.brings;
      }

  pub answer-up : {n na : Ballot} {j a d : ℕ} {sync : Sync E} → Answer z g n j na a d sync → Answer z h n j na a d sync
  answer-up o = record { report = report-up o.report; offer = λ s. offer-up (mark-fits o.report.mark) (o.offer (fresh-before e s)) }

  pub told-up : {n bn na : Ballot} {ba j a d : ℕ} → Told z g n bn ba j na a d → Told z h n bn ba j na a d
  told-up o = record { report = report-up o.report; least = o.least }

-- two lists that agree below i: the front of the one and the rest of the other
graft : {E : Type 0} {i : ℕ} {xs ys zs : List E} → Same i xs ys → Same (length ys) ys zs → take i xs ++ drop i ys ≡ take (length ys) zs
graft {i = i} {ys = ys} p q = ap (λ l. l ++ drop i ys) p.eq ∙ take-append-drop i ys ∙ same_whole q

module _ {E : Type 0} {z : Sizes} {g : Ghost E} where
  -- a higher best
  pub told-less : {n bn bm na : Ballot} {ba bk j a d : ℕ} → Within bn ba bm bk → Told z g n bn ba j na a d → Told z g n bm bk j na a d
  told-less w o = record { report = o.report; least = within-trans o.least w }

  module _ (c : Core z g) where
    -- a ballot above its depot's promise has not started
    pub not-started : {n : Ballot} → Below (g.promise (leader_of n)) n → g.started n ≡ false
    not-started {n} l = is_false (g.started n) (λ e. never l (c.starts n e).own)

    -- a depot tells what it holds
    pub report-of : {b d : ℕ} {n p r : Ballot} {log : List E} → Holds z g b p r log d → Upto r n → Upto n p → Report z g n b r (length log) d
    report-of {b} {d} {n} {p} {r} {log} o u v =
        record {
          firm = upto-trans v (upto-eq (sym o.promise));
          upto = u;
          mark = holds-mark c o;
          has = omega (arith, o.here);
          best = λ m _ pos. most m pos (total m r);
          last = inl o.rnd;
          fits = o.fits;
          decided = o.decided;
        }
      where
        most : (m : Ballot) → 0 < g.A b m → (above m r ≡ true) ⊎ ((m ≡ r) ⊎ (above r m ≡ true)) → Within m (g.A b m) r (length log)
        most m pos (inl q) = absurd (omega (arith, (c.accepts b).none m (subst (λ x. Below x m) (sym o.rnd) (record { is = q }))))
        most m pos (inr (inl q)) = level q (omega (arith, o.here, ap (g.A b) q))
        most m pos (inr (inr q)) = lower (record { is = q })

    -- while its promise is n and n has not started, it holds what it told
    pub report-now : {j d d' a : ℕ} {m n na r : Ballot} {log : List E} → Report z g n j na a d → Holds z g j n r log d' → g.started n ≡ false → Below m n → (na ≡ r) × (a ≡ length log)
    report-now {j} {a = a} {n = n} {na = na} {r = r} {log = log} o h s l = (is, omega (arith, o.has, ap (g.A j) is, h.here, full))
      where
        low : Below r n
        low = mark-below s l (holds-low c h) (holds-mark c h)

        is : na ≡ r
        is = go o.last
          where
            go : (g.rnd j ≡ na) ⊎ Upto n (g.rnd j) → na ≡ r
            go (inl q) = sym q ∙ h.rnd
            go (inr q) = absurd (never low (upto-trans q (upto-eq h.rnd)))

        level-le : {k : ℕ} → Within r k na a → k ≤ a
        level-le (level _ q) = q
        level-le (lower q) = absurd (below_apart q (sym is))

        full : length log ≤ a
        full = go (length log) refl
          where
            go : (k : ℕ) → length log ≡ k → k ≤ a
            go zero q = omega arith
            go (suc k) q = omega (arith, level-le (o.best r low (omega (arith, h.here))), h.here)

    -- ---- the sync that a depot offers a leader, of whose log it knows la places of lna

    brings-from : {b i la d : ℕ} {p r lna : Ballot} {log : List E} → Holds z g b p r log d → i ≤ la → la ≤ length (g.G lna) → Same i (g.G lna) log
        → Brings (take la (g.G lna)) (take (length log) (g.G r)) (from i (drop i log))
    brings-from {i = i} {la = la} {lna = lna} {log = log} o l f s =
        record { cut = omega (arith, length-take-le la (g.G lna) f); is = ap (λ k. k ++ drop i log) (take-take i la (g.G lna) l) ∙ graft s o.same }

    -- of a higher round: from the leader's decided index on
    pub brings-decided : {b l la ld d : ℕ} {n p r lna : Ballot} {log : List E} → Holds z g b p r log d → Report z g n l lna la ld → Below lna r
        → Brings (take la (g.G lna)) (take (length log) (g.G r)) (from ld (drop ld log))
    brings-decided {ld = ld} {r = r} {lna = lna} {log = log} o k l =
        let w : Borne z g lna r (length log) ld = comm-on c ld (lower l) (holds-mark c o) k.fits k.decided in
        brings-from o k.fits (mark-fits k.mark) (same-trans w.same (same-sym (same-down ld w.fits o.same)))

    -- of the leader's round, and longer: from the leader's accepted index on
    pub brings-longer : {b l la ld d : ℕ} {n p r lna : Ballot} {log : List E} → Holds z g b p r log d → Report z g n l lna la ld → lna ≡ r → la ≤ length log
        → Brings (take la (g.G lna)) (take (length log) (g.G r)) (from la (drop la log))
    brings-longer {la = la} {r = r} {log = log} o k e l =
        brings-from o (le_refl la) (mark-fits k.mark) (subst (λ x. Same la (g.G x) log) (sym e) (same-sym (same-down la l o.same)))

    -- ---- the decided index of a report is borne out by the best
    pub told-decided : {n bn na : Ballot} {ba j a d : ℕ} → Mark g bn ba → Told z g n bn ba j na a d → Borne z g na bn ba d
    told-decided {d = d} k o = comm-on c d o.least k o.report.fits o.report.decided

-- ---- a promise
module _ {E : Type 0} {z : Sizes} {g : Ghost E} (c : Core z g) where
  -- a depot promises n, on the leader's report: it offers its log from the leader's decided index on where its round is higher, from the leader's accepted index on where
  -- its round is the same and its log longer, and what it will elsewhere
  pub answered : {t d la ld : ℕ} {n p r lna : Ballot} {log : List E} {sync : Sync E} → Holds z g t p r log d → Upto p n → Asks z g n lna la ld
      → (Below lna r → sync ≡ from ld (drop ld log)) → (lna ≡ r → la < length log → sync ≡ from la (drop la log)) → Promises z g (raise t n g) t n r log d sync
  unfolding raise
  answered {t} {d} {la} {ld} {n} {p} {r} {lna} {log} {sync} o u ask hi lo =
      record { moved = m; holds = h; answer = record { report = report-of m.core h (upto-trans (holds-low c o) u) upto-refl; offer = λ s. offered ((asks-up m.ext ask).early s) } }
    where
      m : Moved z t g (raise t n g)
      m = raised c t n (upto-trans (upto-eq o.promise) u)

      h : Holds z (raise t n g) t n r log d
      h = promised c o n u

      offered : Report z (raise t n g) n (leader_of n) lna la ld → Offer z (raise t n g) n r (length log) sync
      offered w = record { lna = lna; la = la; ld = ld; own = w; brings = brings }
        where
          brings : Beats r (length log) lna la → Brings (take la ((raise t n g).G lna)) (take (length log) ((raise t n g).G r)) sync
          brings (higher l) = rw (hi l) (brings-decided m.core h w l)
          brings (longer e l) = rw (lo e l) (brings-longer m.core h w e (omega arith))
