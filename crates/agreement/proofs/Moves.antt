-- Each of the core's moves keeps C1 to C3.
use Prim.Native.Nat.{ℕ, ◌≤◌, ◌<◌}
use mathlib.Core.Path.{◌≡◌, refl, sym, ap, ◌∙◌, subst}
use mathlib.Core.Logic.{◌⊎◌, inl, inr, ◌≢◌}
use mathlib.Core.Bool.{true, false}
use mathlib.Core.List.{List, [], ◌++◌}
use native.Mathlib.Omega.{arith}
use native.Mathlib.Nat.{le_refl}
use lib.ListN.{length}
use Rattle.base.proofs.Tests.{not-both}
use Rattle.ballot.specs.declared.Ballot.{Ballot}
use Rattle.agreement.specs.Order.{Below, Upto, leader_of}
use Rattle.agreement.specs.Core.{Sizes, Ghost, Same, Mark, nothing, begun, Accepts, Start, Core}
use Rattle.agreement.specs.Growth.{Ext, Moved}
use Rattle.agreement.specs.Moves.{fresh, raise, start, append, accept, Begins}
use Rattle.agreement.proofs.Order.{below_apart, upto-below, upto-refl, upto-eq, upto-trans}
use Rattle.agreement.proofs.Same.{same_refl, same-append, same_none}
use Rattle.agreement.proofs.Update.{ballot-eq, depot-here, depot-other, ballot-here, ballot-other, ballot-each, both-here, both-depot, both-ballot, both-each}
use Rattle.agreement.proofs.Growth.{rests-grows, stays-moves, mark-up, accepts-up, core-up}

-- a depot that accepts in ballot n has n as its accepted round from then on, and no other depot has
module _ {E : Type 0} (g : Ghost E) (b : ℕ) (n : Ballot) (k : ℕ) where
  pub round-here : (accept b n k g).rnd b ≡ n
  unfolding accept
  round-here = rw depot-here

  round-other : (c : ℕ) → c ≢ b → (accept b n k g).rnd c ≡ g.rnd c
  unfolding accept
  round-other c ne = rw depot-other

module _ {E : Type 0} {z : Sizes} where
  -- before every run
  pub begin : Core {E = E} z fresh
  unfolding fresh
  begin =
      record {
        accepts = λ b. record { low = upto-refl; here = nothing refl refl; mark = λ n p. absurd (omega arith); none = λ n l. refl };
        starts = λ n s. absurd (not-both s refl);
        empty = λ n s. refl;
      }

  module _ {g : Ghost E} (c : Core z g) (b : ℕ) (n : Ballot) where
    -- ---- a promise is raised
    pub raised : Upto (g.promise b) n → Moved z b g (raise b n g)
    unfolding raise
    raised u = record { ext = e; core = core-up e c (accepts-up e refl (λ m. refl) (c.accepts b)) (λ m p q. absurd (not-both q p)) c.empty }
      where
        e : Ext b g (raise b n g)
        e =
            record {
              grows = λ m. rests-grows refl (record { started = refl; log = refl });
              rests = λ m ne. record { started = refl; log = refl };
              moves = record { promise = rw (depot-here b n g.promise) u; rnd = inl refl; up = λ m. le_refl _; frozen = λ m l. refl };
              stays = λ c ne. record { promise = depot-other b n g.promise c ne; rnd = refl; A = λ m. refl };
            }

    -- ---- a ballot starts
    module _ (log : List E) (own : leader_of n ≡ b) (new : g.started n ≡ false) where
      start-ext : Ext b g (start n log g)
      unfolding start
      start-ext =
          record {
            grows = λ m. record {
              started = ballot-each (λ m t. g.started m ≡ true → t ≡ true) n true g.started (λ s. refl) (λ m ne s. s) m;
              g0 = ballot-each (λ m k. g.started m ≡ true → k ≡ g.g0 m) n (length log) g.g0 (λ s. absurd (not-both s new)) (λ m ne s. refl) m;
              log = ballot-each (λ m l. Same (length (g.G m)) (g.G m) l) n log g.G (rw (c.empty n new) same_none) (λ m ne. same_refl) m;
            };
            rests = λ m ne.
                let k : m ≢ n = λ q. ne (ap leader_of q ∙ own) in
                record { started = ballot-other n true g.started m k; log = ballot-other n log g.G m k };
            moves = stays-moves (record { promise = refl; rnd = refl; A = λ m. refl });
            stays = λ c ne. record { promise = refl; rnd = refl; A = λ m. refl };
          }

      pub begun-by : {na : Ballot} {a : ℕ} → Upto n (g.promise b) → Begins z g n na a log → Moved z b g (start n log g)
      unfolding start
      begun-by {na} {a} u o = record { ext = start-ext; core = core-up start-ext c (accepts-up start-ext refl (λ m. refl) (c.accepts b)) (λ m p q. this m p q (ballot-eq m n)) (λ m p. none m p (ballot-eq m n)) }
        where
          h : Ghost E
          h = start n log g

          h_g : h.G n ≡ log
          h_g = ballot-here n log g.G

          h0 : h.g0 n ≡ length log
          h0 = ballot-here n (length log) g.g0

          other : {m : Ballot} → m ≢ n → h.started m ≡ g.started m
          other {m} ne = ballot-other n true g.started m ne

          st : Start z h n
          st =
              record {
                R = o.R;
                na = na;
                a = a;
                fits = rw (h0, h_g) (le_refl _);
                own = rw own u;
                heard = record { quorum = o.heard.quorum; firm = o.heard.firm; best = o.heard.best };
                origin = record {
                  below = o.below;
                  mark = mark-up start-ext o.mark;
                  kept = rw h0 o.fits;
                  same = rw (h_g, ballot-other n log g.G na (below_apart o.below)) o.same;
                };
              }

          this : (m : Ballot) → g.started m ≡ false → h.started m ≡ true → (m ≡ n) ⊎ (m ≢ n) → Start z h m
          this m p q (inl k) = subst (Start z h) (sym k) st
          this m p q (inr k) = absurd (not-both q (other k ∙ p))

          none : (m : Ballot) → h.started m ≡ false → (m ≡ n) ⊎ (m ≢ n) → h.G m ≡ []
          none m p (inl k) = absurd (not-both (ballot-here n true g.started) (subst (λ x. h.started x ≡ false) k p))
          none m p (inr k) = ballot-other n log g.G m k ∙ c.empty m (sym (other k) ∙ p)

    -- ---- a ballot's log gains entries
    pub appended : (es : List E) → leader_of n ≡ b → g.started n ≡ true → Moved z b g (append n es g)
    unfolding append
    appended es own s = record { ext = e; core = core-up e c (accepts-up e refl (λ m. refl) (c.accepts b)) (λ m p q. absurd (not-both q p)) none }
      where
        e : Ext b g (append n es g)
        e =
            record {
              grows = λ m. record {
                started = λ s. s;
                g0 = λ s. refl;
                log = ballot-each (λ m l. Same (length (g.G m)) (g.G m) l) n (g.G n ++ es) g.G (same-append (g.G n) es (length (g.G n)) (le_refl _)) (λ m ne. same_refl) m;
              };
              rests = λ m ne. record { started = refl; log = ballot-other n (g.G n ++ es) g.G m (λ q. ne (ap leader_of q ∙ own)) };
              moves = stays-moves (record { promise = refl; rnd = refl; A = λ m. refl });
              stays = λ c ne. record { promise = refl; rnd = refl; A = λ m. refl };
            }

        none : (m : Ballot) → g.started m ≡ false → (append n es g).G m ≡ []
        none = ballot-each (λ m l. g.started m ≡ false → l ≡ []) n (g.G n ++ es) g.G (λ p. absurd (not-both s p)) (λ m ne p. c.empty m p)

    -- ---- a depot accepts
    pub accepted : (k : ℕ) → g.promise b ≡ n → g.started n ≡ true → g.g0 n ≤ k → k ≤ length (g.G n) → g.A b n ≤ k → Moved z b g (accept b n k g)
    unfolding accept
    accepted k p s l f up = record { ext = e; core = core-up e c acc (λ m p q. absurd (not-both q p)) c.empty }
      where
        h : Ghost E
        h = accept b n k g

        e : Ext b g h
        e =
            record {
              grows = λ m. rests-grows refl (record { started = refl; log = refl });
              rests = λ m ne. record { started = refl; log = refl };
              moves = record {
                promise = upto-refl;
                rnd = inr (upto-eq (p ∙ sym (round-here g b n k)));
                up = both-each (λ m w. g.A b m ≤ w) b n k g.A up (λ m ne. le_refl _);
                frozen = λ m lt. both-ballot b n k g.A m (λ q. below_apart lt (q ∙ sym p));
              };
              stays = λ c ne. record { promise = refl; rnd = round-other g b n k c ne; A = λ m. both-depot b n k g.A c m ne };
            }

        mk : Mark h n k
        mk = begun s l f

        acc : Accepts h b
        acc =
            record {
              low = upto-eq (round-here g b n k ∙ sym p);
              here = rw (round-here g b n k, both-here b n k g.A) mk;
              mark = both-each (λ m w. 0 < w → Mark h m w) b n k g.A (λ q. mk) (λ m ne q. mark-up e ((c.accepts b).mark m q));
              none = λ m lt.
                  let lt' : Below n m = subst (λ x. Below x m) (round-here g b n k) lt in
                  both-ballot b n k g.A m (λ q. below_apart lt' (sym q)) ∙ (c.accepts b).none m (upto-below (upto-trans (c.accepts b).low (upto-eq p)) lt');
            }
