-- Every fact of the core lives on when a depot moves.
use Prim.Native.Nat.{ℕ, ◌≤◌, ◌<◌}
use mathlib.Core.Path.{◌≡◌, refl, sym, ◌∙◌, subst}
use mathlib.Core.Logic.{◌⊎◌, inl, inr, ◌≢◌}
use mathlib.Core.Bool.{Bool, true, false}
use mathlib.Core.List.{[]}
use native.Mathlib.Omega.{arith}
use native.Mathlib.Nat.{le_refl}
use lib.Dec.{leb}
use lib.ListN.{length}
use borrow.Author.Tests.{leb-true, le-leb}
use Rattle.base.proofs.Tests.{not-both}
use Rattle.base.specs.Count.{count_below}
use Rattle.base.proofs.Meet.{count-mono}
use Rattle.ballot.specs.declared.Ballot.{Ballot}
use Rattle.ballot.proofs.Laws.{default-lowest}
use Rattle.agreement.specs.Order.{Below, Upto, leader_of}
use Rattle.agreement.specs.Core.{Sizes, Ghost, Same, Mark, nothing, begun, Accepts, Heard, Start, Core, Chosen}
use Rattle.agreement.specs.Growth.{Grows, Rests, Moves, Stays, Ext}
use Rattle.agreement.proofs.Order.{upto-apart, upto-eq, upto-trans, below-upto}
use Rattle.agreement.proofs.Same.{same_refl, same-sym, same-trans, same-down, same_length}
use Rattle.agreement.proofs.Update.{depot-eq}

-- a quorum of depots that are at k in one row of numbers is one of depots that are at j in another
pub quorum-up : (size depots : ℕ) {j k : ℕ} (f f' : ℕ → ℕ) → ((i : ℕ) → i < depots → k ≤ f i → j ≤ f' i)
    → size ≤ count_below (λ i. leb k (f i)) depots → size ≤ count_below (λ i. leb j (f' i)) depots
quorum-up size depots {j} {k} f f' p q = omega (arith, count-mono (λ i. leb k (f i)) (λ i. leb j (f' i)) depots (λ i l t. le-leb j (f' i) (p i l (leb-true k (f i) t))))

module _ {E : Type 0} where
  -- ---- what is as it was has moved by nothing

  pub rests-grows : {g h : Ghost E} {m : Ballot} → h.g0 m ≡ g.g0 m → Rests g h m → Grows g h m
  rests-grows {g} {h} {m} p r = record { started = λ s. r.started ∙ s; g0 = λ s. p; log = subst (Same (length (g.G m)) (g.G m)) (sym r.log) same_refl }

  pub stays-moves : {g h : Ghost E} {c : ℕ} → Stays g h c → Moves g h c
  stays-moves s = record { promise = upto-eq (sym s.promise); rnd = inl s.rnd; up = λ m. omega (arith, s.A m); frozen = λ m l. s.A m }

  -- ---- no move, and two moves of one depot

  pub ext_refl : (b : ℕ) (g : Ghost E) → Ext b g g
  ext_refl b g =
      record {
        grows = λ m. rests-grows refl (record { started = refl; log = refl });
        rests = λ m ne. record { started = refl; log = refl };
        moves = stays-moves (record { promise = refl; rnd = refl; A = λ m. refl });
        stays = λ c ne. record { promise = refl; rnd = refl; A = λ m. refl };
      }

  grows-trans : {g h k : Ghost E} {m : Ballot} → Grows g h m → Grows h k m → Grows g k m
  grows-trans {g} {h} {k} {m} p q =
      record {
        started = λ s. q.started (p.started s);
        g0 = λ s. q.g0 (p.started s) ∙ p.g0 s;
        log = same-trans p.log (same-down (length (g.G m)) (same_length p.log (le_refl _)) q.log);
      }

  moves-trans : {g h k : Ghost E} {c : ℕ} → Moves g h c → Moves h k c → Moves g k c
  moves-trans {g} {h} {k} {c} p q =
      record {
        promise = upto-trans p.promise q.promise;
        rnd = go p.rnd q.rnd;
        up = λ m. omega (arith, p.up m, q.up m);
        frozen = λ m l. q.frozen m (below-upto l p.promise) ∙ p.frozen m l;
      }
    where
      go : (h.rnd c ≡ g.rnd c) ⊎ Upto (g.promise c) (h.rnd c) → (k.rnd c ≡ h.rnd c) ⊎ Upto (h.promise c) (k.rnd c) → (k.rnd c ≡ g.rnd c) ⊎ Upto (g.promise c) (k.rnd c)
      go (inl a) (inl b) = inl (b ∙ a)
      go (inr a) (inl b) = inr (upto-trans a (upto-eq (sym b)))
      go a (inr b) = inr (upto-trans p.promise b)

  pub ext_trans : {b : ℕ} {g h k : Ghost E} → Ext b g h → Ext b h k → Ext b g k
  ext_trans p q =
      record {
        grows = λ m. grows-trans (p.grows m) (q.grows m);
        rests = λ m ne. record { started = (q.rests m ne).started ∙ (p.rests m ne).started; log = (q.rests m ne).log ∙ (p.rests m ne).log };
        moves = moves-trans p.moves q.moves;
        stays = λ c ne.
            record { promise = (q.stays c ne).promise ∙ (p.stays c ne).promise; rnd = (q.stays c ne).rnd ∙ (p.stays c ne).rnd; A = λ m. (q.stays c ne).A m ∙ (p.stays c ne).A m };
      }

  pub mark-fits : {g : Ghost E} {n : Ballot} {a : ℕ} → Mark g n a → a ≤ length (g.G n)
  mark-fits (nothing p q) = omega arith
  mark-fits (begun s l f) = f

  -- a log that a depot may hold is of a ballot below one that has not started, if it is of one up to that
  pub mark-below : {g : Ghost E} {m n na : Ballot} {a : ℕ} → g.started n ≡ false → Below m n → Upto na n → Mark g na a → Below na n
  mark-below {g} {m} {n} {na} s l u k = upto-apart u (go k)
    where
      go : {a : ℕ} → Mark g na a → na ≢ n
      go (nothing e _) q = default-lowest m (subst (Below m) (sym q ∙ e) l).is
      go (begun t _ _) q = not-both (subst (λ x. g.started x ≡ true) q t) s

  module _ {b : ℕ} {g h : Ghost E} (e : Ext b g h) where
    pub moves : (c : ℕ) → Moves g h c
    moves c = go (depot-eq c b)
      where
        go : (c ≡ b) ⊎ (c ≢ b) → Moves g h c
        go (inl q) = subst (Moves g h) (sym q) e.moves
        go (inr ne) = stays-moves (e.stays c ne)

    -- ---- logs

    pub longer : (m : Ballot) → length (g.G m) ≤ length (h.G m)
    longer m = same_length (e.grows m).log (le_refl _)

    -- the first k places of ballot m's log stay
    pub log-kept : (m : Ballot) (k : ℕ) → k ≤ length (g.G m) → Same k (g.G m) (h.G m)
    log-kept m k l = same-down k l (e.grows m).log

    pub logs-up : {m n : Ballot} {k : ℕ} → k ≤ length (g.G m) → Same k (g.G m) (g.G n) → Same k (h.G m) (h.G n)
    logs-up {m} {n} {k} l s = same-trans (same-sym (log-kept m k l)) (same-trans s (log-kept n k (same_length s l)))

    pub mark-up : {n : Ballot} {a : ℕ} → Mark g n a → Mark h n a
    mark-up (nothing p q) = nothing p q
    mark-up {n} (begun s l f) = begun ((e.grows n).started s) (omega (arith, (e.grows n).g0 s)) (omega (arith, longer n))

    pub chosen-up : {z : Sizes} {m : Ballot} {k : ℕ} → Chosen z g m k → Chosen z h m k
    chosen-up {z} {m} {k} c =
        record {
          fits = omega (arith, c.fits, longer m);
          quorum = quorum-up z.write z.depots (λ i. g.A i m) (λ i. h.A i m) (λ i l p. omega (arith, (moves i).up m)) c.quorum;
        }

    -- ---- C1 to C3

    -- of a depot whose accepted round and log are as they were
    pub accepts-up : {c : ℕ} → h.rnd c ≡ g.rnd c → ((m : Ballot) → h.A c m ≡ g.A c m) → Accepts g c → Accepts h c
    accepts-up {c} r a o =
        record {
          low = upto-trans (upto-eq r) (upto-trans o.low (moves c).promise);
          here = rw (r, a (g.rnd c)) (mark-up o.here);
          mark = λ n p. rw (a n) (mark-up (o.mark n (omega (arith, a n))));
          none = λ n l. a n ∙ o.none n (subst (λ k. Below k n) r l);
        }

    heard-up : {z : Sizes} {n na : Ballot} {R : ℕ → Bool} {a : ℕ} → Heard z g n R na a → Heard z h n R na a
    heard-up o =
        record {
          quorum = o.quorum;
          firm = λ c l r. upto-trans (o.firm c l r) (moves c).promise;
          best = λ c m l r lt p.
              let f : h.A c m ≡ g.A c m = (moves c).frozen m (below-upto lt (o.firm c l r)) in
              rw f (o.best c m l r lt (omega arith));
        }

    start_up : {z : Sizes} {n : Ballot} → g.started n ≡ true → Start z g n → Start z h n
    start_up {z} {n} s o =
        record {
          R = o.R;
          na = o.na;
          a = o.a;
          heard = heard-up o.heard;
          own = upto-trans o.own (moves (leader_of n)).promise;
          fits = omega (arith, o.fits, (e.grows n).g0 s, longer n);
          origin = record {
            below = o.origin.below;
            mark = mark-up o.origin.mark;
            kept = omega (arith, (e.grows n).g0 s, o.origin.kept);
            same = logs-up (omega (arith, o.origin.kept, o.fits)) o.origin.same;
          };
        }

    -- what a move has to give: C1 of the depot that moved, C2 and C3 of the ballots that it started, and that no ballot has a log before its start
    pub core-up : {z : Sizes} → Core z g → Accepts h b → ((n : Ballot) → g.started n ≡ false → h.started n ≡ true → Start z h n) → ((n : Ballot) → h.started n ≡ false → h.G n ≡ []) → Core z h
    core-up {z} o acc new emp = record { accepts = accepts; starts = λ n s. starts n (g.started n) refl s; empty = emp }
      where
        accepts : (c : ℕ) → Accepts h c
        accepts c = go (depot-eq c b)
          where
            go : (c ≡ b) ⊎ (c ≢ b) → Accepts h c
            go (inl q) = subst (Accepts h) (sym q) acc
            go (inr ne) = accepts-up (e.stays c ne).rnd (e.stays c ne).A (o.accepts c)

        starts : (n : Ballot) (t : Bool) → g.started n ≡ t → h.started n ≡ true → Start z h n
        starts n true q s = start_up q (o.starts n q)
        starts n false q s = new n q s
