-- The core lemma and its corollary: C1 to C3 give agreement.
use Prim.Native.Nat.{ℕ, ◌≤◌, ◌<◌, min}
use mathlib.Core.Path.{◌≡◌, sym, ap, subst}
use mathlib.Core.Logic.{◌⊎◌, inl, inr}
use mathlib.Core.Bool.{true}
use native.Mathlib.Omega.{arith}
use lib.Dec.{leb}
use lib.ListN.{length}
use borrow.Author.Tests.{leb-true}
use Rattle.base.proofs.Meet.{Shared, meet}
use Rattle.ballot.specs.Ballot.{above}
use Rattle.ballot.specs.declared.Ballot.{Ballot}
use Rattle.ballot.proofs.Laws.{descent, total, default-lowest}
use Rattle.agreement.specs.Order.{Below, Within, lower, level}
use Rattle.agreement.specs.Core.{Sizes, Ghost, Same, Mark, nothing, begun, Start, Core, Chosen, Held, Agreement}
use Rattle.agreement.proofs.Order.{is_true}
use Rattle.agreement.proofs.Same.{same_refl, same-sym, same-trans, same-down, same_some}

module _ {E : Type 0} {z : Sizes} {g : Ghost E} where
  -- ballot n heard a depot that accepted k places of m. Its best is at least that: it is of m itself, or of a ballot between, which had the k places
  from-best : {m n : Ballot} {k j : ℕ} (s : Start z g n) → k ≤ j → ((na : Ballot) → Below na n → g.started na ≡ true → Below m na → Held g m na k)
      → Within m j s.na s.a → Held g m n k
  from-best {m} {n} {k} s has between (level e l) =
      record { fits = omega (arith, s.origin.kept); same = subst (λ x. Same k (g.G n) (g.G x)) (sym e) (same-down k (omega arith) s.origin.same) }
  from-best {m} {n} {k} s has between (lower l) = go s.origin.mark
    where
      go : Mark g s.na s.a → Held g m n k
      go (nothing e f) = absurd (default-lowest m (subst (Below m) e l).is)
      go (begun st f _) =
          let h : Held g m s.na k = between s.na s.origin.below st l in
          record { fits = omega (arith, h.fits, s.origin.kept); same = same-trans (same-down k (omega (arith, h.fits)) s.origin.same) h.same }

  module _ (c : Core z g) where
    core-lemma : {m n : Ballot} {k : ℕ} → g.started n ≡ true → Below m n → 0 < k → Chosen z g m k → Held g m n k
    core-lemma {m} {n} {k} s l pos ch = descent P step n s l
      where
        P : Ballot → Type 0
        P n = g.started n ≡ true → Below m n → Held g m n k

        step : (n : Ballot) → ((na : Ballot) → above n na ≡ true → P na) → P n
        step n between s l =
            let st : Start z g n = c.starts n s in
            let w : Shared st.R (λ b. leb k (g.A b m)) z.depots = meet st.R (λ b. leb k (g.A b m)) z.depots (omega (arith, st.heard.quorum, ch.quorum, z.over)) in
            let has : k ≤ g.A w.place m = leb-true k (g.A w.place m) w.second in
            from-best st has (λ na b. between na b.is) (st.heard.best w.place m w.below w.first l (omega arith))

    -- what is chosen reaches as far as a started ballot's log
    chosen-started : {m : Ballot} {k : ℕ} → 0 < k → Chosen z g m k → g.started m ≡ true
    chosen-started {m} pos ch = is_true (g.started m) (λ e. omega (arith, ch.fits, ap length (c.empty m e)))

    corollary : {m n : Ballot} {j k : ℕ} → Chosen z g m j → Chosen z g n k → Same (min j k) (g.G m) (g.G n)
    corollary {m} {n} {j} {k} p q = same_some (min j k) (λ pos. ordered (min j k) pos (omega arith) (omega arith) (total m n))
      where
        ordered : (i : ℕ) → 0 < i → i ≤ j → i ≤ k → (above m n ≡ true) ⊎ ((m ≡ n) ⊎ (above n m ≡ true)) → Same i (g.G m) (g.G n)
        ordered i pos u v (inl l) = same-down i v (core-lemma (chosen-started (omega arith) p) (record { is = l }) (omega arith) q).same
        ordered i pos u v (inr (inl e)) = subst (λ x. Same i (g.G m) (g.G x)) e same_refl
        ordered i pos u v (inr (inr l)) = same-sym (same-down i u (core-lemma (chosen-started (omega arith) q) (record { is = l }) (omega arith) p).same)

    -- THE CORE: wherever C1 to C3 hold, what is chosen agrees
    pub agreement : Agreement z g
    agreement = record { starts_with = core-lemma; agree = corollary }
