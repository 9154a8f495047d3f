-- The queue of a depot: a message at its end, an edit in its place, and what both mean for each receiver.
use Rattle.std.specs.Prelude.{Option, None, Some}
use Prim.Native.Nat.{ℕ, ◌+◌}
use mathlib.Core.Path.{◌≡◌, sym}
use mathlib.Core.Logic.{◌⊎◌, inl, inr, ◌≢◌}
use mathlib.Core.Bool.{Bool}
use mathlib.Core.List.{List, [], ◌∷◌, ◌++◌, map, map-append, append_assoc}
use Rattle.paxos_box.specs.declared.AcceptedAt.{AcceptedAt}
use Rattle.ballot.specs.declared.Ballot.{Ballot}
use Rattle.leader_state.specs.declared.Depot.{Depot}
use Rattle.outgoing.specs.Queue.{Msg}
use Rattle.agreement.specs.Core.{Sizes, Ghost}
use Rattle.agreement.specs.All.{All, nil, cons}
use Rattle.agreement.specs.Queue.{sel}
use Rattle.agreement.specs.Stream.{plain, Plain, none, more, Taker, Feeder, Flow}
use Rattle.agreement.proofs.Update.{depot-eq}
use Rattle.agreement.proofs.All.{all_append}
use Rattle.agreement.proofs.Queue.{sel-append, sel-hit, sel-miss, there-push}
use Rattle.agreement.proofs.Flow.{flow-plain}
use Rattle.travels.specs.Face.{Face, item, push}
use Rattle.travels.specs.Facts.{Ok, NodeOk, Remembers, Standing, MetaOk}
use Rattle.travels.specs.Inv.{for_depot}
use Rattle.travels.specs.Near.{Scene, Near}

abbrev pub to_of : Msg → ℕ
to_of m = m.to

pub sent-end : (t : ℕ) (o q r : List Msg) → o ++ for_depot t (q ++ r) ≡ (o ++ for_depot t q) ++ for_depot t r
sent-end t o q r = rw (sel-append to_of (t + 1) q r) (sym (append_assoc o (for_depot t q) (for_depot t r)))

-- one message, for the depot t or not
module _ (t : ℕ) (m : Msg) where
  pub one-all : (Q : Msg → Type 0) → (m.to ≡ t + 1 → Q m) → All Q (for_depot t (m ∷ []))
  unfolding sel
  one-all Q p = go (depot-eq m.to (t + 1))
    where
      go : (m.to ≡ t + 1) ⊎ (m.to ≢ t + 1) → All Q (for_depot t (m ∷ []))
      go (inl e) = rw (sel-hit to_of m [] e) (cons (p e) nil)
      go (inr e) = rw (sel-miss to_of m [] e) nil

  one_plain : (n : Ballot) → item n m ≡ plain → Plain (map (item n) (for_depot t (m ∷ [])))
  unfolding sel
  one_plain n p = go (depot-eq m.to (t + 1))
    where
      go : (m.to ≡ t + 1) ⊎ (m.to ≢ t + 1) → Plain (map (item n) (for_depot t (m ∷ [])))
      go (inl e) = rw (sel-hit to_of m [] e) (rw p (more none))
      go (inr e) = rw (sel-miss to_of m [] e) none

pub remembers-push : {n : Ballot} {t : ℕ} {d : Depot} {q : List Msg} (r : List Msg) → Remembers n t d q → Remembers n t d (q ++ r)
remembers-push {n} {t} {d} {q} r o = record { stands = λ at e. one at (o.stands at e) }
  where
    one : (at : ℕ) → Standing n t d at q → Standing n t d at (q ++ r)
    one at s = record { what = s.what; entries = s.entries; there = there-push to_of s.there r; ballot = s.ballot; number = s.number }

pub meta-push : (m : Option AcceptedAt) (q r : List Msg) → MetaOk m q → MetaOk m (q ++ r)
meta-push None q r o = tt
meta-push (Some x) q r o = record { index = o.index; there = there-push to_of o.there r }

-- a depot's facts with one message more in its queue
node-push : {z : Sizes} {P : ℕ → Type 0} {g : Ghost ℕ} {b : ℕ} {x : Face} (m : Msg) → NodeOk z P g b x → NodeOk z P g b (push m x)
node-push {x = x} m o =
    record {
      own = o.own;
      role = o.role;
      cached = o.cached;
      buffered = o.buffered;
      remembers = λ l t u. remembers-push (m ∷ []) (o.remembers l t u);
      meta = meta-push x.meta x.queue (m ∷ []) o.meta;
      row = o.row;
    }

pub flow-push : {log : List ℕ} {k : ℕ} {x : Taker} {y : Feeder} (n : Ballot) (t : ℕ) (o q : List Msg) (m : Msg) → item n m ≡ plain
    → Flow log k (map (item n) (o ++ for_depot t q)) x y → Flow log k (map (item n) (o ++ for_depot t (q ++ (m ∷ [])))) x y
flow-push n t o q m p f = rw (sent-end t o q (m ∷ []), map-append (item n) (o ++ for_depot t q) (for_depot t (m ∷ []))) (flow-plain f (one_plain t m n p))

-- a message that has no number is sent
pub pushed : {z : Sizes} {P : ℕ → Type 0} {b : ℕ} {c : Scene} {g : Ghost ℕ} {whole : Ballot → ℕ → List ℕ} {fed : Ballot → ℕ → Bool} {x : Face} (m : Msg)
    → ((t : ℕ) → m.to ≡ t + 1 → Ok z P g b t m) → ((n : Ballot) → item n m ≡ plain) → Near z P b c g whole fed x → Near z P b c g whole fed (push m x)
pushed {z} {P} {b} {c} {g} {x = x} m ok p v =
    record {
      core = v.core;
      only = v.only;
      node = node-push m v.node;
      msgs = λ t. rw (sent-end t (c.out t) x.queue (m ∷ [])) (all_append (v.msgs t) (one-all t m (Ok z P g b t) (ok t)));
      down = v.down;
      up = λ n t o u ne. flow-push n t (c.out t) x.queue m (p n) (v.up n t o u ne);
    }
