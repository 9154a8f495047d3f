-- The leader of a ballot: it prepares, a better promise replaces the best, its ballot starts, its log gains entries, and it knows what of a follower's log is valid.
use Prim.Native.Nat.{ℕ, zero, suc, ◌+◌, ◌≤◌, ◌<◌, min}
use mathlib.Core.Path.{◌≡◌, refl, sym, ap, ◌∙◌, subst}
use mathlib.Core.Logic.{◌⊎◌, inl, inr, ◌≢◌}
use mathlib.Core.Bool.{Bool, true, false}
use mathlib.Core.List.{List, ◌++◌}
use native.Mathlib.Omega.{arith}
use native.Mathlib.Nat.{le_refl}
use lib.ListN.{length, take, drop, take-append-drop, length-append, length-drop}
use lib.Seq.{take-length, length-take-le}
use Rattle.base.proofs.Tests.{not-both}
use Rattle.base.specs.Count.{count_below}
use Rattle.ballot.specs.declared.Ballot.{Ballot}
use Rattle.agreement.specs.Order.{Below, lower, Beats, leader_of}
use Rattle.agreement.specs.Core.{Sizes, Ghost, Mark, nothing, begun, Start, Core}
use Rattle.agreement.specs.Growth.{Ext, Moved, Rests}
use Rattle.agreement.specs.Moves.{raise, start, append, accept, Begins}
use Rattle.agreement.specs.Facts.{Comm, Borne, Holds, Fit, Taken}
use Rattle.agreement.specs.Report.{Sync, put_on, Brings, Report, Offer, Answer, Told, Prepares, Leads, Valid, Syncs, Elected, Led}
use Rattle.agreement.proofs.Order.{upto-refl, upto-eq, upto-of, upto-trans, upto-apart, upto-below, within-trans, within-refl, within-beats, beats-within}
use Rattle.agreement.proofs.Same.{same_refl, same-sym, same-trans, same-down, same-append, same-take, same_whole, same_length}
use Rattle.agreement.proofs.Update.{ballot-here}
use Rattle.agreement.proofs.Growth.{mark-below, logs-up, log-kept, mark-up, mark-fits, moves}
use Rattle.agreement.proofs.Moves.{raised, begun-by, appended}
use Rattle.agreement.proofs.Decided.{decided-up, comm-on}
use Rattle.agreement.proofs.Hold.{accepted-fits, holds-low, holds-mark, promised, taken, taken-after}
use Rattle.agreement.proofs.Stream.{part_up}
use Rattle.agreement.proofs.Report.{last_up, take-up, not-started, report-of, report-now}

-- ---- another depot moves
module _ {E : Type 0} {b : ℕ} {g h : Ghost E} (e : Ext b g h) where
  -- a ballot of a depot that does not move is as it was
  own-rests : {n : Ballot} {c : ℕ} → c ≢ b → leader_of n ≡ c → Rests g h n
  own-rests {n} ne own = e.rests n (λ q. ne (sym own ∙ q))

  pub prepares-up : {c ba : ℕ} {n r bn : Ballot} {log : List E} {sync : Sync E} → c ≢ b → Prepares g c n r log bn ba sync → Prepares h c n r log bn ba sync
  prepares-up {ba = ba} {bn = bn} ne o =
      record {
        own = o.own;
        fresh = (own-rests ne o.own).started ∙ o.fresh;
        below = o.below;
        mark = mark-up e o.mark;
        least = o.least;
        brings = rw (take-up e bn ba (mark-fits o.mark)) o.brings;
      }

  pub leads-up : {c ba : ℕ} {n bn : Ballot} {log : List E} → c ≢ b → Leads g c n log bn ba → Leads h c n log bn ba
  leads-up {n = n} ne o =
      record {
        own = o.own;
        started = (own-rests ne o.own).started ∙ o.started;
        all = o.all ∙ sym (own-rests ne o.own).log;
        mark = mark-up e o.mark;
        kept = omega (arith, o.kept, (e.grows n).g0 o.started);
        same = logs-up e (mark-fits o.mark) o.same;
      }

-- ---- any depot moves
pub valid-up : {E : Type 0} {z : Sizes} {b : ℕ} {g h : Ghost E} → Core z g → Ext b g h → {t i : ℕ} {n : Ballot} → g.started n ≡ true → Valid g t n i → Valid h t n i
valid-up {g = g} {h = h} c e {t} {i} {n} s o =
    record {
      r = o.r;
      firm = upto-trans o.firm (moves e t).promise;
      has = omega (arith, o.has, (moves e t).up o.r);
      same = logs-up e (omega (arith, o.has, accepted-fits c t o.r)) o.same;
      last = last_up e t o.firm o.last;
      kept = go o.kept;
    }
  where
    go : (o.r ≡ n) ⊎ (i ≤ g.g0 n) → (o.r ≡ n) ⊎ (i ≤ h.g0 n)
    go (inl q) = inl q
    go (inr q) = inr (omega (arith, (e.grows n).g0 s))

pub syncs-up : {E : Type 0} {z : Sizes} {b : ℕ} {g h : Ghost E} → Core z g → Ext b g h → {t i d : ℕ} {n : Ballot} {es : List E} → Syncs z g t n i es d → Syncs z h t n i es d
syncs-up c e {n = n} o =
    record {
      started = (e.grows n).started o.started;
      valid = valid-up c e o.started o.valid;
      part = part_up (e.grows n).log o.part;
      whole = omega (arith, o.whole, (e.grows n).g0 o.started);
      fits = o.fits;
      decided = λ p. decided-up e (o.decided p);
    }

module _ {E : Type 0} {z : Sizes} {g : Ghost E} (c : Core z g) where
  -- ---- (Leader, Prepare)

  -- at first its own log is the best
  pub elected : {b d : ℕ} {n p r : Ballot} {log : List E} → Holds z g b p r log d → leader_of n ≡ b → Below p n → Elected z g (raise b n g) b n r log d
  unfolding raise
  elected {b} {d} {n} {p} {r} {log} o own l =
      record {
        moved = m;
        holds = h;
        report = report-of m.core h (upto-of low) upto-refl;
        prepares = record {
          own = own;
          fresh = not-started c (rw (own, o.promise) l);
          below = low;
          mark = holds-mark m.core h;
          least = within-refl;
          brings = record { cut = omega arith; is = same_whole o.same };
        };
      }
    where
      m : Moved z b g (raise b n g)
      m = raised c b n (upto-trans (upto-eq o.promise) (upto-of l))

      h : Holds z (raise b n g) b n r log d
      h = promised c o n (upto-of l)

      low : Below r n
      low = upto-below (holds-low c o) l

  -- an answer that beats the best replaces it, with its sync
  pub prepares-better : {b j d dj ba a : ℕ} {n r bn na : Ballot} {log : List E} {sync sync' : Sync E} → Holds z g b n r log d → Prepares g b n r log bn ba sync
      → Answer z g n j na a dj sync' → Beats na a bn ba → Prepares g b n r log na a sync'
  prepares-better {d = d} {ba = ba} {a = a} {n = n} {r = r} {bn = bn} {na = na} {log = log} {sync' = sync'} o p w bt =
      record {
        own = p.own;
        fresh = p.fresh;
        below = mark-below p.fresh p.below w.report.upto w.report.mark;
        mark = w.report.mark;
        least = within-trans p.least (beats-within bt);
        brings = mine (w.offer p.fresh);
      }
    where
      mine : Offer z g n na a sync' → Brings log (take a (g.G na)) sync'
      mine q =
          let h : Holds z g (leader_of n) n r log d = subst (λ x. Holds z g x n r log d) (sym p.own) o in
          let k : (q.lna ≡ r) × (q.la ≡ length log) = report-now c q.own h p.fresh p.below in
          let more : Beats na a q.lna q.la = rw (k.0, k.1) (within-beats p.least bt) in
          let was : take q.la (g.G q.lna) ≡ log = rw (k.0, k.1) (sym (same_whole o.same)) in
          rw was at (q.brings more)

  -- a read quorum has told no more than the best: the log that the held sync makes, and any entries after it, may be the ballot's
  pub begins : {b ba : ℕ} {n r bn : Ballot} {log : List E} {sync : Sync E} (es : List E) → Prepares g b n r log bn ba sync
      → (R : ℕ → Bool) (na : ℕ → Ballot) (a d : ℕ → ℕ) → z.read ≤ count_below R z.depots → ((j : ℕ) → j < z.depots → R j ≡ true → Told z g n bn ba j (na j) (a j) (d j))
      → Begins z g n bn ba (put_on sync log ++ es)
  begins {ba = ba} {n = n} {bn = bn} {log = log} {sync = sync} es p R na a d q t =
      record {
        R = R;
        below = p.below;
        mark = p.mark;
        fits = omega (arith, length-append (put_on sync log) es, len);
        same = same-trans (same-sym (same-append (put_on sync log) es ba (omega (arith, len)))) (rw p.brings.is (same-take (g.G bn) ba));
        heard = record { quorum = q; firm = λ j l s. (t j l s).report.firm; best = λ j m l s lt pos. within-trans ((t j l s).report.best m lt pos) (t j l s).least };
      }
    where
      len : length (put_on sync log) ≡ ba
      len = ap length p.brings.is ∙ length-take-le ba (g.G bn) (mark-fits p.mark)

  -- nothing is accepted in a ballot that has not started
  pub none-accepted : {n : Ballot} (b : ℕ) → g.started n ≡ false → g.A b n ≡ 0
  none-accepted {n} b s = go (g.A b n) refl
    where
      no : {a : ℕ} → 0 < a → Mark g n a → ⊥
      no p (nothing _ e) = omega arith
      no p (begun t _ _) = not-both t s

      go : (k : ℕ) → g.A b n ≡ k → g.A b n ≡ 0
      go zero e = e
      go (suc k) e = absurd (no (omega arith) ((c.accepts b).mark n (omega arith)))

  -- the ballot starts, and its leader accepts its log
  pub led-first : {b ba : ℕ} {n bn : Ballot} {log : List E} → leader_of n ≡ b → g.promise b ≡ n → g.started n ≡ false → Begins z g n bn ba log
      → Led z g (accept b n (length log) (start n log g)) b n log bn ba
  unfolding start accept
  led-first {b} {ba} {n} {bn} {log} own p s w =
      record {
        taken = taken-after m (λ k. refl) t;
        leads = record {
          own = own;
          started = ballot-here n true g.started;
          all = sym h_g;
          mark = mark-up t.moved.ext (mark-up m.ext w.mark);
          kept = rw h0 w.fits;
          same = same-trans (same-sym (log-kept m.ext bn ba (mark-fits w.mark))) (rw h_g (same-sym w.same));
        };
      }
    where
      g₁ : Ghost E
      g₁ = start n log g

      m : Moved z b g g₁
      m = begun-by c b n log own s (upto-eq (sym p)) w

      h_g : g₁.G n ≡ log
      h_g = ballot-here n log g.G

      h0 : g₁.g0 n ≡ length log
      h0 = ballot-here n (length log) g.g0

      fit : Fit g₁ b n log
      fit = record { started = ballot-here n true g.started; whole = omega (arith, h0); same = rw h_g same_refl; up = omega (arith, none-accepted b s) }

      t : Taken z g₁ (accept b n (length log) g₁) b n log
      t = taken m.core p fit

  -- ---- (Leader, Accept)

  -- the leader's log gains entries, and it accepts them
  pub led-more : {b ba d : ℕ} {n bn : Ballot} {log : List E} (es : List E) → Holds z g b n n log d → Leads g b n log bn ba
      → Led z g (accept b n (length (log ++ es)) (append n es g)) b n (log ++ es) bn ba
  unfolding append accept
  led-more {b} {ba} {d} {n} {bn} {log} es o l =
      record {
        taken = taken-after m (λ k. refl) t;
        leads = record {
          own = l.own;
          started = l.started;
          all = sym h_g;
          mark = mark-up t.moved.ext (mark-up m.ext l.mark);
          kept = l.kept;
          same = logs-up m.ext (mark-fits l.mark) l.same;
        };
      }
    where
      g₁ : Ghost E
      g₁ = append n es g

      m : Moved z b g g₁
      m = appended c b n es l.own l.started

      h_g : g₁.G n ≡ log ++ es
      h_g = ballot-here n (g.G n ++ es) g.G ∙ ap (λ k. k ++ es) (sym l.all)

      fit : Fit g₁ b n (log ++ es)
      fit =
          record {
            started = l.started;
            whole = omega (arith, (c.starts n l.started).fits, ap length l.all, length-append log es);
            same = rw h_g same_refl;
            up = omega (arith, o.here, length-append log es);
          }

      t : Taken z g₁ (accept b n (length (log ++ es)) g₁) b n (log ++ es)
      t = taken m.core o.promise fit

  -- ---- what of depot t's log is valid in ballot n, by its report

  -- its round is n: up to its accepted index
  pub valid-own : {t a d : ℕ} {n : Ballot} → Report z g n t n a d → Valid g t n a
  valid-own {n = n} o = record { r = n; firm = o.firm; has = o.has; same = same_refl; last = o.last; kept = inl refl }

  -- its round is the best's: up to the smaller of the two accepted indexes
  pub valid-best : {b t ba a d : ℕ} {n bn : Ballot} {log : List E} → Leads g b n log bn ba → Report z g n t bn a d → Valid g t n (min ba a)
  valid-best {ba = ba} {a = a} {bn = bn} l o =
      record { r = bn; firm = o.firm; has = omega (arith, o.has); same = same-down (min ba a) (omega arith) l.same; last = o.last; kept = inr (omega (arith, l.kept)) }

  -- another round: up to its decided index
  pub valid-decided : {b t ba a d : ℕ} {n bn na : Ballot} {log : List E} → Leads g b n log bn ba → Report z g n t na a d → na ≢ n → Valid g t n d
  valid-decided {d = d} {n = n} {na = na} l o ne =
      let st : Start z g n = c.starts n l.started in
      let w : Borne z g na n (g.g0 n) d = comm-on c d (lower (upto-apart o.upto ne)) (begun l.started (le_refl _) st.fits) o.fits o.decided in
      record { r = na; firm = o.firm; has = omega (arith, o.has, o.fits); same = w.same; last = o.last; kept = inr w.fits }

  -- so the leader's log may be put on t's from there on
  pub syncs : {b t ba i d : ℕ} {n bn : Ballot} {log : List E} → Holds z g b n n log d → Leads g b n log bn ba → Valid g t n i → Syncs z g t n i (drop i log) d
  syncs {t = t} {i = i} {n = n} {log = log} o l v =
      record {
        started = l.started;
        valid = v;
        part = record { ends = omega (arith, e, all); is = rw (← l.all, e, take-length, take-append-drop) };
        whole = omega (arith, (c.starts n l.started).fits, all, e);
        fits = omega (arith, o.fits, e);
        decided = o.decided;
      }
    where
      all : length log ≡ length (g.G n)
      all = ap length l.all

      f : i ≤ length log
      f = omega (arith, same_length v.same (omega (arith, v.has, accepted-fits c t v.r)), all)

      e : i + length (drop i log) ≡ length log
      e = rw (length-drop i log) (omega (arith, f))

-- what the best bore out as decided, the ballot's log does
pub led-decided : {E : Type 0} {z : Sizes} {g h : Ghost E} {b ba : ℕ} {n bn : Ballot} {log : List E} (d : ℕ) → Led z g h b n log bn ba → Below bn n → d ≤ ba → Comm z g bn d
    → Borne z h bn n (length log) d
led-decided {h = h} {n = n} {log = log} d o l f k =
    let e : length log ≡ length (h.G n) = ap length o.leads.all in
    let s : h.g0 n ≤ length (h.G n) = (o.taken.moved.core.starts n o.leads.started).fits in
    comm-on o.taken.moved.core d (lower l) (begun o.leads.started (omega arith) (omega arith)) f (λ p. decided-up o.taken.moved.ext (k p))
