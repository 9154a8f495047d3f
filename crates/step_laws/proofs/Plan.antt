-- One thing more in a plan; what holds of each thing planned; one place of a list changed, and the first places.
use Prim.Native.Nat.{ℕ, zero, suc, ◌≤◌, ◌<◌}
use mathlib.Core.Path.{◌≡◌, refl, ap, sym, subst, ◌∙◌}
use mathlib.Core.List.{List, [], ◌∷◌, ◌++◌}
use native.Mathlib.Omega.{arith}
use lib.ListN.{length, get_or, set, length-set}
use borrow.Author.Tests.{lt-ltb}
use Rattle.base.specs.Lists.{on_first}
use Rattle.paxos_box.specs.declared.SequencePaxos.{SequencePaxos}
use Rattle.paxos_box.specs.declared.Plan.{Plan}
use Rattle.paxos_box.specs.declared.Send.{Send}
use Rattle.paxos_box.specs.declared.Sends.{Sends}
use Rattle.paxos_box.specs.Box.{with_plan, sending, planned, push_of}
use Rattle.paxos_box.specs.Room.{items_of}
use Rattle.paxos_box.proofs.Rooms.{items_more}

-- a plan with one thing more
abbrev pub with_send : Send → Plan → Plan
with_send m p = record { sends = sending m p.sends; writes = p.writes; unfit = p.unfit; top = p.top; sight = p.sight }

pub planned-is : (m : Send) (p : Plan) → p.sends.count < 8 → planned m p ≡ with_send m p
unfolding planned
planned-is m p h = rw (lt-ltb p.sends.count 8 h)

pub pushed : (P : SequencePaxos → Type 0) (m : Send) (s : SequencePaxos) → s.plan.sends.count < 8 → P (with_plan (with_send m s.plan) s) → P (push_of m s)
unfolding push_of
pushed P m s h p = subst (λ (x : Plan). P (with_plan x s)) (sym (planned-is m s.plan h)) p

-- each of a list
pub data Each {A : Type 0} (P : A → Type 0) : List A → Type 0 where
  none : Each P []
  more : {x : A} {l : List A} → P x → Each P l → Each P (x ∷ l)

module _ {A : Type 0} (P : A → Type 0) where
  pub each_snoc : (l : List A) (x : A) → Each P l → P x → Each P (l ++ (x ∷ []))
  each_snoc [] x e p = more p none
  each_snoc (y ∷ l) x (more q e) p = more q (each_snoc l x e p)

  pub each_of : (l : List A) (d : A) → ((k : ℕ) → k < length l → P (get_or l k d)) → Each P l
  each_of [] d f = none
  each_of (x ∷ l) d f = more (f 0 (omega arith)) (each_of l d (λ k h. f (suc k) (omega arith)))

  pub each_at : (l : List A) (d : A) → Each P l → (k : ℕ) → k < length l → P (get_or l k d)
  each_at [] d e k h = absurd (omega arith)
  each_at (x ∷ l) d (more p e) zero h = p
  each_at (x ∷ l) d (more p e) (suc k) h = each_at l d e k (omega arith)

-- no more than eight, each of which is so
pub record Items (P : Send → Type 0) (x : Sends) : Type 0 where
  pub room : length x.items ≡ 8
  pub each : Each P (items_of x)

pub items-pushed : (P : Send → Type 0) (m : Send) (x : Sends) → x.count < 8 → P m → Items P x → Items P (sending m x)
items-pushed P m x h p i =
    record {
      room = length-set x.items x.count m ∙ i.room;
      each = subst (Each P) (sym (items_more x m (omega (arith, i.room)))) (each_snoc P (items_of x) m i.each p);
    }

-- where nothing is planned, anything holds of each
pub items-none : (P Q : Send → Type 0) (x : Sends) → x.count ≤ 0 → Items P x → Items Q x
items-none P Q x h i = let z : x.count ≡ 0 = omega arith in record { room = i.room; each = rw z none }

module _ {A : Type 0} (P : A → Type 0) where
  -- one place of a list written
  pub set-place : (l : List A) (i j : ℕ) (v d : A) → (j ≡ i → P v) → P (get_or l j d) → P (get_or (set l i v) j d)
  set-place [] i j v d f p = p
  set-place (x ∷ l) zero zero v d f p = f refl
  set-place (x ∷ l) zero (suc j) v d f p = p
  set-place (x ∷ l) (suc i) zero v d f p = p
  set-place (x ∷ l) (suc i) (suc j) v d f p = set-place l i j v d (λ e. f (ap suc e)) p

  -- one of the first places changed
  pub first-place : (n : ℕ) (f : A → A) (l : List A) (i : ℕ) (d : A) → i < n → P (f (get_or l i d)) → P d → P (get_or (on_first n f l) i d)
  unfolding on_first
  first-place zero f l i d h p q = absurd (omega arith)
  first-place (suc n) f [] i d h p q = q
  first-place (suc n) f (x ∷ l) zero d h p q = p
  first-place (suc n) f (x ∷ l) (suc i) d h p q = first-place n f l i d (omega arith) p q
