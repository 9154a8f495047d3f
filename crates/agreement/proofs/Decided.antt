-- Decided places: they stay decided, also as a higher ballot's log shows them.
use Prim.Native.Nat.{ℕ, zero, suc, ◌≤◌, ◌<◌, min, max}
use mathlib.Core.Path.{◌≡◌, refl, subst}
use mathlib.Core.Bool.{Bool, true, false}
use mathlib.Core.List.{List}
use native.Mathlib.Omega.{arith}
use lib.Dec.{leb, ltb}
use lib.ListN.{length}
use borrow.Author.Tests.{ltb-true, ltb-false}
use Rattle.base.specs.Count.{count_below}
use Rattle.ballot.specs.declared.Ballot.{Ballot}
use Rattle.ballot.proofs.Laws.{default-lowest}
use Rattle.agreement.specs.Order.{Below, Within, lower, level}
use Rattle.agreement.specs.Core.{Sizes, Ghost, Same, Mark, nothing, begun, Core, Chosen, Held}
use Rattle.agreement.specs.Growth.{Ext}
use Rattle.agreement.specs.Facts.{Decided, Comm, Settled, Borne}
use Rattle.agreement.proofs.Order.{upto-refl, upto-of, upto-below}
use Rattle.agreement.proofs.Same.{same_refl, same-sym, same-trans, same-down, same_length, same_none, same_some}
use Rattle.agreement.proofs.Agree.{agreement}
use Rattle.agreement.proofs.Growth.{quorum-up, log-kept, logs-up, chosen-up}

module _ {E : Type 0} {z : Sizes} {g : Ghost E} where
  pub chosen-down : {m : Ballot} {k : ℕ} (j : ℕ) → j ≤ k → Chosen z g m k → Chosen z g m j
  chosen-down {m} {k} j l c =
      record {
        fits = omega (arith, c.fits);
        quorum = quorum-up z.write z.depots (λ b. g.A b m) (λ b. g.A b m) (λ i u h. omega arith) c.quorum;
      }

  -- a write quorum has told of k places, each of its depots no more than it has accepted
  pub chosen_by : {m : Ballot} {k : ℕ} (told : ℕ → ℕ) → ((b : ℕ) → b < z.depots → told b ≤ g.A b m) → k ≤ length (g.G m) → z.write ≤ count_below (λ b. leb k (told b)) z.depots → Chosen z g m k
  chosen_by {m} {k} told has f w =
      record {
        fits = f;
        quorum = quorum-up z.write z.depots told (λ b. g.A b m) (λ i u h. omega (arith, has i u)) w;
      }

  pub chosen-decided : {n : Ballot} {d : ℕ} → Chosen z g n d → Decided z g n d
  chosen-decided {n} c = record { at = n; upto = upto-refl; chosen = c; same = same_refl }

  decided-down : {n : Ballot} {d : ℕ} (k : ℕ) → k ≤ d → Decided z g n d → Decided z g n k
  decided-down k l o = record { at = o.at; upto = o.upto; chosen = chosen-down k l o.chosen; same = same-down k l o.same }

  pub comm-down : {n : Ballot} {d : ℕ} (k : ℕ) → k ≤ d → Comm z g n d → Comm z g n k
  comm-down k l o p = decided-down k l (o (omega arith))

  pub decided-fits : {n : Ballot} {d : ℕ} → Decided z g n d → d ≤ length (g.G n)
  decided-fits o = same_length o.same o.chosen.fits

  pub comm-max : {n : Ballot} (a b : ℕ) → Comm z g n a → Comm z g n b → Comm z g n (max a b)
  comm-max {n} a b p q = go (ltb a b) refl
    where
      go : (t : Bool) → ltb a b ≡ t → Comm z g n (max a b)
      go true e = let l : max a b ≡ b = omega (arith, ltb-true a b e) in rw l q
      go false e = let l : max a b ≡ a = omega (arith, ltb-false a b e) in rw l p

  module _ (c : Core z g) where
    -- a ballot that starts later bears out what a lower one did, at its start
    decided-start : {m n : Ballot} {k d : ℕ} → g.started n ≡ true → g.g0 n ≤ k → Below m n → 0 < d → Decided z g m d → Borne z g m n k d
    decided-start {m} {n} {k} {d} s u l p o =
        let at : Held g o.at n d = (agreement c).starts_with s (upto-below o.upto l) p o.chosen in
        record {
          fits = omega (arith, at.fits);
          same = same-trans (same-sym o.same) (same-sym at.same);
          decided = λ _. record { at = o.at; upto = upto-of (upto-below o.upto l); chosen = o.chosen; same = same-sym at.same };
        }

    -- what a places of m bear out, so does any log that is at least that
    pub comm-on : {m n : Ballot} {a k : ℕ} (d : ℕ) → Within m a n k → Mark g n k → d ≤ a → Comm z g m d → Borne z g m n k d
    comm-on {m} d (level e l) mk f o = record { fits = omega arith; same = subst (λ x. Same d (g.G m) (g.G x)) e same_refl; decided = λ p. subst (λ x. Decided z g x d) e (o p) }
    comm-on {m} d (lower l) (nothing e _) f o = absurd (default-lowest m (subst (Below m) e l).is)
    comm-on zero (lower l) (begun s u _) f o = record { fits = omega arith; same = same_none; decided = λ p. absurd (omega arith) }
    comm-on (suc d) (lower l) (begun s u _) f o = decided-start s u l (omega arith) (o (omega arith))

    -- decided places agree as far as both lists reach
    pub settled-agree : {xs ys : List E} → Settled z g xs → Settled z g ys → Same (min (length xs) (length ys)) xs ys
    settled-agree {xs} {ys} p q = same_some (min (length xs) (length ys)) (λ pos. via _ (omega arith) (omega arith) (p.decided (omega arith)) (q.decided (omega arith)))
      where
        via : (i : ℕ) → i ≤ length xs → i ≤ length ys → Decided z g p.at (length xs) → Decided z g q.at (length ys) → Same i xs ys
        via i l m s t =
            same-trans (same-down i l (same-trans p.same (same-sym s.same)))
            (same-trans (same-down i (omega arith) ((agreement c).agree s.chosen t.chosen)) (same-down i m (same-trans t.same (same-sym q.same))))

module _ {E : Type 0} {z : Sizes} {b : ℕ} {g h : Ghost E} (e : Ext b g h) where
  pub decided-up : {n : Ballot} {d : ℕ} → Decided z g n d → Decided z h n d
  decided-up o = record { at = o.at; upto = o.upto; chosen = chosen-up e o.chosen; same = logs-up e o.chosen.fits o.same }

  pub settled_up : {xs : List E} → Settled z g xs → Settled z h xs
  settled_up {xs} o = record { at = o.at; decided = λ p. decided-up (o.decided p); same = same-trans o.same (log-kept e o.at (length xs) (same_length o.same (omega arith))) }
