-- The flow from a ballot's leader to a follower, through whatever the two do.
use Prim.Native.Nat.{ℕ, suc, ◌+◌, ◌≤◌}
use mathlib.Core.Path.{◌≡◌, sym, ap, ◌∙◌}
use mathlib.Core.Bool.{true, false}
use mathlib.Core.List.{List, [], ◌∷◌, ◌++◌}
use native.Mathlib.Omega.{arith}
use native.Mathlib.Nat.{le_refl}
use lib.ListN.{length, length-append}
use Rattle.base.proofs.Tests.{not-both}
use Rattle.agreement.specs.Core.{Same}
use Rattle.agreement.specs.Facts.{Part}
use Rattle.agreement.specs.Stream.{Item, opens, adds, Spot, spot, Later, within, Stream, done, anew, on, gap, Plain, Taker, Feeder, Follows, Feeds, Flow, Took}
use Rattle.agreement.specs.All.{Sub}
use Rattle.agreement.proofs.Same.{same-append, same_length}
use Rattle.agreement.proofs.Stream.{no-later, below-later, not_there, part_end, stream-append, stream-sub, stream-up, stream-extend, plain-stream}

-- ---- the follower's side

-- behind a later front the follower is too
past : {x : Taker} {a b : Spot} → Later a b → Follows x a → Follows x b
past w f = record { upto = λ t. no-later (below-later (f.upto t) w); here = λ t p q. absurd (not_there (below-later (f.upto t) w) p q) }

took-follows : {s c e : ℕ} {x : Taker} → Took s c e x → Follows x (spot s c e)
took-follows w = record { upto = λ t. within w.session (omega (arith, w.counter)); here = λ t p q. w.length }

module _ {E : Type 0} {log : List E} {k : ℕ} {l : List (Item E)} {x : Taker} {y : Feeder} where
  -- items are lost, or not taken
  pub flow-sub : {r : List (Item E)} → Sub l r → Flow log k r x y → Flow log k l x y
  flow-sub s f = record { front = f.front; back = f.back; stream = stream-sub s f.stream; within = f.within; ahead = f.ahead; follows = f.follows; feeds = f.feeds }

  -- the first of a session is taken
  module _ {s c i : ℕ} {es : List E} (f : Flow log k (opens s c i es ∷ l) x y) where
    pub opens-late : k ≤ i + length es
    opens-late = go f.ahead f.stream
      where
        go : {a b : Spot} → k ≤ a.end → Stream log (opens s c i es ∷ l) a b → k ≤ i + length es
        go u (anew p q v r) = omega arith
        go u (gap w r) = go (omega (arith, w.end)) r

    pub took-opens : {j : ℕ} (x' : Taker) → j ≤ i + length es → Took s c (i + length es) x' → Flow log j l x' y
    took-opens {j} x' u w = record { front = spot s c (i + length es); back = f.back; stream = go f.stream; within = f.within; ahead = u; follows = took-follows w; feeds = f.feeds }
      where
        go : {a b : Spot} → Stream log (opens s c i es ∷ l) a b → Stream log l (spot s c (i + length es)) b
        go (anew p q v r) = r
        go (gap w r) = go r

  -- the next of a session is taken: it starts where the follower's log ends
  module _ {s c : ℕ} {es : List E} (f : Flow log k (adds s c es ∷ l) x y) (t : x.takes ≡ true) (sx : s ≡ x.session) (cx : c ≡ suc x.counter) where
    at_front : {a b : Spot} → Follows x a → Stream log (adds s c es ∷ l) a b → Part log x.length es × Stream log l (spot s c (x.length + length es)) b
    at_front {a} w (on p q v r) = let e : x.length ≡ a.end = w.here t (omega arith) (omega arith) in rw e (v, r)
    at_front w (gap p r) = at_front (past p w) r

    pub adds-part : Part log x.length es
    adds-part = (at_front f.follows f.stream).0

    pub took-adds : {j : ℕ} (x' : Taker) → j ≤ x.length + length es → Took s c (x.length + length es) x' → Flow log j l x' y
    took-adds x' u w =
        record {
          front = spot s c (x.length + length es);
          back = f.back;
          stream = (at_front f.follows f.stream).1;
          within = f.within;
          ahead = u;
          follows = took-follows w;
          feeds = f.feeds;
        }

  -- a follower that takes no items of the ballot may be anything
  pub flow-idle : (x' : Taker) → x'.takes ≡ false → Flow log k l x y → Flow log k l x' y
  flow-idle x' n f =
      record {
        front = f.front;
        back = f.back;
        stream = f.stream;
        within = f.within;
        ahead = f.ahead;
        follows = record { upto = λ t. absurd (not-both t n); here = λ t. absurd (not-both t n) };
        feeds = f.feeds;
      }

-- ---- the leader's side

-- before its ballot starts nothing is under way
pub flow-new : {E : Type 0} {log : List E} {l : List (Item E)} {x : Taker} {y : Feeder} → Plain l → x.takes ≡ false → y.session ≡ 0 → y.counter ≡ 0 → y.feeds ≡ false → Flow log 0 l x y
flow-new p n s c d =
    record {
      front = spot 0 0 0;
      back = spot 0 0 0;
      stream = plain-stream p;
      within = omega arith;
      ahead = omega arith;
      follows = record { upto = λ t. absurd (not-both t n); here = λ t. absurd (not-both t n) };
      feeds = record { number = λ t. (s, c); whole = λ t. absurd (not-both t d) };
    }

-- a leader that does no more than it did, with the number that it had
pub feeds-less : {size : ℕ} {y y' : Feeder} {b : Spot} → (y'.leads ≡ true → (y.leads ≡ true) × (y'.session ≡ y.session) × (y'.counter ≡ y.counter))
    → (y'.feeds ≡ true → y.feeds ≡ true) → Feeds size y b → Feeds size y' b
feeds-less p q w = record { number = λ t. ((p t).1 ∙ (w.number (p t).0).0, (p t).2 ∙ (w.number (p t).0).1); whole = λ t. w.whole (q t) }

module _ {E : Type 0} {log : List E} {k : ℕ} {l : List (Item E)} {x : Taker} {y : Feeder} (f : Flow log k l x y) where
  -- nothing numbered is sent: what is sent is plain; or the leader changes, and its log may have grown
  pub flow-plain : {r : List (Item E)} → Plain r → Flow log k (l ++ r) x y
  flow-plain p =
      record { front = f.front; back = f.back; stream = stream-append f.stream (plain-stream p); within = f.within; ahead = f.ahead; follows = f.follows; feeds = f.feeds }

  pub flow-grown : {log' : List E} (y' : Feeder) → Same (length log) log log' → Feeds (length log') y' f.back → Flow log' k l x y'
  flow-grown y' e w =
      record { front = f.front; back = f.back; stream = stream-up e f.stream; within = omega (arith, f.within, same_length e (le_refl _)); ahead = f.ahead; follows = f.follows; feeds = w }

  module _ (t : y.leads ≡ true) where
    -- a session is opened with all of the log from i on
    pub flow-opens : {s c : ℕ} (i : ℕ) (es : List E) (y' : Feeder) → s ≡ suc y.session → c ≡ 1 → i + length es ≡ length log → y'.session ≡ s → y'.counter ≡ c
        → Flow log k (l ++ (opens s c i es ∷ [])) x y'
    flow-opens {s} {c} i es y' p q e p' q' =
        record {
          front = f.front;
          back = spot s c (i + length es);
          stream = stream-append f.stream (anew (p ∙ ap suc (f.feeds.number t).0) q (omega (arith, f.within)) done);
          within = omega arith;
          ahead = f.ahead;
          follows = f.follows;
          feeds = record { number = λ _. (p', q'); whole = λ _. e };
        }

    -- the log gains es, and the follower is sent them
    module _ (d : y.feeds ≡ true) (es : List E) where
      end : f.back.end ≡ length log
      end = f.feeds.whole d

      grown : Same (length log) log (log ++ es)
      grown = same-append log es (length log) (le_refl _)

      len : f.back.end + length es ≡ length (log ++ es)
      len = omega (arith, end, length-append log es)

      -- in an item of their own; with none, only the number rises
      pub flow-adds : {s c : ℕ} (y' : Feeder) → s ≡ y.session → c ≡ suc y.counter → y'.session ≡ s → y'.counter ≡ c → Flow (log ++ es) k (l ++ (adds s c es ∷ [])) x y'
      flow-adds {s} {c} y' p q p' q' =
          record {
            front = f.front;
            back = spot s c (f.back.end + length es);
            stream = stream-append (stream-up grown f.stream) (on (p ∙ (f.feeds.number t).0) (q ∙ ap suc (f.feeds.number t).1) (rw end (part_end log es)) done);
            within = omega (arith, len);
            ahead = f.ahead;
            follows = f.follows;
            feeds = record { number = λ _. (p', q'); whole = λ _. len };
          }

      -- they join the item that was sent last, wherever it is under way
      pub flow-joins : (pre post : List (Item E)) (es₀ : List E) (y' : Feeder) → l ≡ pre ++ (adds y.session y.counter es₀ ∷ post)
          → y'.session ≡ y.session → y'.counter ≡ y.counter → Flow (log ++ es) k (pre ++ (adds y.session y.counter (es₀ ++ es) ∷ post)) x y'
      flow-joins pre post es₀ y' is p' q' =
          let n : (y.session ≡ f.back.session) × (y.counter ≡ f.back.counter) = f.feeds.number t in
          record {
            front = f.front;
            back = spot f.back.session f.back.counter (f.back.end + length es);
            stream = stream-extend pre post y.session y.counter es₀ (sym n.0) (sym n.1) (rw end (part_end log es)) (stream-up grown (rw is at f.stream));
            within = omega (arith, len);
            ahead = f.ahead;
            follows = f.follows;
            feeds = record { number = λ _. (p' ∙ n.0, q' ∙ n.1); whole = λ _. len };
          }
