-- What a handler's flags say: unfit exactly when U, and, where not U, at the top exactly when T. And the loop over the promised followers, in words.
use Prim.Native.Nat.{ℕ, suc, ◌+◌, ◌-◌, ◌≤◌, ◌<◌}
use mathlib.Core.Path.{◌≡◌, refl, ap, sym, ◌∙◌}
use mathlib.Core.Logic.{◌⊎◌, inl, inr, ◌↔◌}
use mathlib.Core.Bool.{Bool, true, false, cond, ◌&&◌, true≢false}
use mathlib.Core.List.{List}
use native.Mathlib.Omega.{arith}
use native.Mathlib.Numerals.{add-one}
use lib.Dec.{ltb}
use lib.ListN.{get_or}
use borrow.Author.Tests.{lt-ltb}
use Rattle.base.proofs.Tests.{not-both, is_false}
use Rattle.base.specs.Limits.{max_depots}
use Rattle.base.proofs.Lists.{get_d_tabulate}
use Rattle.base.proofs.Meet.{Shared}
use Rattle.leader_state.specs.declared.LeaderState.{LeaderState}
use Rattle.leader_state.specs.Places.{is_follower, promised_followers}
use Rattle.paxos_box.specs.declared.SequencePaxos.{SequencePaxos}
use Rattle.paxos_box.specs.declared.Send.{Send}
use Rattle.paxos_box.specs.declared.Standing.{Standing}
use Rattle.paxos_box.specs.declared.Standing.TheVariants.{LeaderPrepare, LeaderAccept, FollowerPrepare, FollowerAccept, Other}
use Rattle.paxos_box.specs.Box.{push_of}
use Rattle.sends.specs.declared.Each.{Each}
use Rattle.sends.specs.declared.Each.TheVariants as each
use Rattle.sends.specs.Sends.{for_marked}
use Rattle.leader.specs.Leader.{for_followers}
use Rattle.decide_laws.proofs.Grown.{planned-only}
use Rattle.decide_laws.proofs.Sends.{Few}
use Rattle.table_laws.specs.Words.{SomeFollower}
use Rattle.table_laws.proofs.Flags.{unfit_to, top_to, Raised, looped}

-- Tests
pub both_true : (a b : Bool) → a ≡ true → b ≡ true → (a && b) ≡ true
both_true a b p q = rw (p, q)

pub first-true : (a b : Bool) → (a && b) ≡ true → a ≡ true
first-true true b e = refl
first-true false b e = e

pub second-true : (a b : Bool) → (a && b) ≡ true → b ≡ true
second-true true b e = e
second-true false b e = absurd (true≢false (sym e))

-- where a box stands, numbered: two that are numbered apart are not one
abbrev pub number_of : Standing → ℕ
number_of LeaderPrepare = 0
number_of LeaderAccept = 1
number_of FollowerPrepare = 2
number_of FollowerAccept = 3
number_of Other = 4

pub apart : {a b : Standing} → a ≡ b → (number_of a ≡ number_of b → ⊥) → ⊥
apart e h = h (ap number_of e)

-- No flag

-- neither flag is set
pub record Clear (u t : Bool) : Type 0 where
  pub fit : u ≡ false
  pub below : t ≡ false

abbrev pub Unflagged : SequencePaxos → Type 0
Unflagged s = Clear s.plan.unfit s.plan.top

pub clear-push : (m : Send) (s : SequencePaxos) → Unflagged s → Unflagged (push_of m s)
unfolding push_of
clear-push m s c = rw (planned-only m s.plan) c

-- a flag that no turn raises is as the loop found it
raised-not : (a a₁ : Bool) (f g : ℕ → Bool) (n : ℕ) → a ≡ false → ((i : ℕ) → g i ≡ false) → Raised a a₁ f g n → a₁ ≡ false
raised-not a a₁ f g n e q h = is_false a₁ (λ k. none (h.0 k))
  where
    none : (a ≡ true) ⊎ Shared f g n → ⊥
    none (inl k) = not-both {b = a} k e
    none (inr x) = not-both {b = g x.place} x.second (q x.place)

clear-loop : (l : List Bool) (what : Each) (s : SequencePaxos) → Few what s → ((i : ℕ) → unfit_to what (suc i) s ≡ false) → ((i : ℕ) → top_to what (suc i) s ≡ false) → Unflagged s → Unflagged (for_marked l what s.config.depots s)
clear-loop l what s f u t c =
    let n = s.config.depots in
    let r = for_marked l what n s in
    let x = looped l what n s (omega arith) f in
    record {
      fit = raised-not s.plan.unfit r.plan.unfit (λ i. get_or l i false) (λ i. unfit_to what (suc i) s) n c.fit u x.unfit;
      below = raised-not s.plan.top r.plan.top (λ i. get_or l i false) (λ i. top_to what (suc i) s) n c.below t x.top;
    }

-- Prepare and PrepareReq to several raise none
pub clear-prepares : (l : List Bool) (s : SequencePaxos) → Unflagged s → Unflagged (for_marked l each.Prepare s.config.depots s)
clear-prepares l s c = clear-loop l each.Prepare s tt (λ i. refl) (λ i. refl) c

pub clear-requests : (l : List Bool) (s : SequencePaxos) → Unflagged s → Unflagged (for_marked l each.PrepareReq s.config.depots s)
clear-requests l s c = clear-loop l each.PrepareReq s tt (λ i. refl) (λ i. refl) c

-- What flags say
pub record Flagged (u t : Bool) (U T : Type 0) : Type 0 where
  pub unfit : (u ≡ true) ↔ U
  pub top : (U → ⊥) → (t ≡ true) ↔ T

abbrev pub Says : Type 0 → Type 0 → SequencePaxos → Type 0
Says U T r = Flagged r.plan.unfit r.plan.top U T

-- neither, and neither is said
pub says_none : (U T : Type 0) (r : SequencePaxos) → Unflagged r → (U → ⊥) → (T → ⊥) → Says U T r
says_none U T r c f g =
    record {
      unfit = ((λ e. absurd (not-both {b = r.plan.unfit} e c.fit)), (λ x. absurd (f x)));
      top = λ h. ((λ e. absurd (not-both {b = r.plan.top} e c.below)), (λ x. absurd (g x)));
    }

-- unfit, and so it is said
pub says-unfit : (U T : Type 0) (r : SequencePaxos) → r.plan.unfit ≡ true → U → Says U T r
says-unfit U T r e x = record { unfit = ((λ k. x), (λ k. e)); top = λ h. absurd (h x) }

-- at the top, and so it is said
pub says-top : (U T : Type 0) (r : SequencePaxos) → r.plan.unfit ≡ false → r.plan.top ≡ true → (U → ⊥) → T → Says U T r
says-top U T r c e f x = record { unfit = ((λ k. absurd (not-both {b = r.plan.unfit} k c)), (λ k. absurd (f k))); top = λ h. ((λ k. x), (λ k. e)) }

-- the same said in other words
pub says_map : (U T X W : Type 0) (r : SequencePaxos) → X ↔ U → W ↔ T → Says X W r → Says U T r
says_map U T X W r p q x =
    record {
      unfit = ((λ e. p.0 (x.unfit.0 e)), (λ u. x.unfit.1 (p.1 u)));
      top = λ h. let k = x.top (λ v. h (p.0 v)) in ((λ e. q.0 (k.0 e)), (λ t. k.1 (q.1 t)));
    }

-- a push changes neither
pub says-push : (U T : Type 0) (m : Send) (r : SequencePaxos) → Says U T r → Says U T (push_of m r)
unfolding push_of
says-push U T m r x = rw (planned-only m r.plan) x

-- Promised followers

-- a place that is marked, and a promised follower
module _ (depots : ℕ) (l : LeaderState) (g : ℕ → Bool) (d : depots ≤ max_depots) where
  mark : (i : ℕ) → i < depots → get_or (promised_followers depots l) i false ≡ is_follower (suc i) l
  unfolding promised_followers
  mark i h =
      rw (get_d_tabulate max_depots (λ i. cond (ltb i depots) (is_follower (i + 1) l) false) i false (omega arith), lt-ltb i depots h, add-one)

  marked-follower : Shared (λ i. get_or (promised_followers depots l) i false) (λ i. g (suc i)) depots → SomeFollower depots l (λ pid. g pid ≡ true)
  marked-follower x = record { pid = suc x.place; positive = omega arith; within = x.below; follows = sym (mark x.place x.below) ∙ x.first; so = x.second }

  follower-marked : SomeFollower depots l (λ pid. g pid ≡ true) → Shared (λ i. get_or (promised_followers depots l) i false) (λ i. g (suc i)) depots
  follower-marked x =
      let e : suc (x.pid - 1) ≡ x.pid = omega (arith, x.positive) in
      let b : (x.pid - 1) < depots = omega (arith, x.positive, x.within) in
      record { place = x.pid - 1; below = b; first = mark (x.pid - 1) b ∙ (rw e x.follows); second = rw e x.so }

pub follower-map : (depots : ℕ) (l r : LeaderState) (P Q : ℕ → Type 0) → ((pid : ℕ) → is_follower pid r ≡ is_follower pid l) → ((pid : ℕ) → is_follower pid l ≡ true → P pid → Q pid) → SomeFollower depots l P → SomeFollower depots r Q
follower-map depots l r P Q e f x = record { pid = x.pid; positive = x.positive; within = x.within; follows = e x.pid ∙ x.follows; so = f x.pid x.follows x.so }

-- to each promised follower: a flag is set exactly when it was, or one of them sets it
pub record Followed (what : Each) (s r : SequencePaxos) : Type 0 where
  pub unfit : (r.plan.unfit ≡ true) ↔ ((s.plan.unfit ≡ true) ⊎ SomeFollower s.config.depots s.leader_state (λ pid. unfit_to what pid s ≡ true))
  pub top : (r.plan.top ≡ true) ↔ ((s.plan.top ≡ true) ⊎ SomeFollower s.config.depots s.leader_state (λ pid. top_to what pid s ≡ true))

raised_by : (depots : ℕ) (l : LeaderState) (g : ℕ → Bool) (a a₁ : Bool) → depots ≤ max_depots → Raised a a₁ (λ i. get_or (promised_followers depots l) i false) (λ i. g (suc i)) depots → (a₁ ≡ true) ↔ ((a ≡ true) ⊎ SomeFollower depots l (λ pid. g pid ≡ true))
raised_by depots l g a a₁ d h = ((λ k. there (h.0 k)), (λ k. h.1 (back k)))
  where
    there : (a ≡ true) ⊎ Shared (λ i. get_or (promised_followers depots l) i false) (λ i. g (suc i)) depots → (a ≡ true) ⊎ SomeFollower depots l (λ pid. g pid ≡ true)
    there (inl e) = inl e
    there (inr x) = inr (marked-follower depots l g d x)

    back : (a ≡ true) ⊎ SomeFollower depots l (λ pid. g pid ≡ true) → (a ≡ true) ⊎ Shared (λ i. get_or (promised_followers depots l) i false) (λ i. g (suc i)) depots
    back (inl e) = inl e
    back (inr x) = inr (follower-marked depots l g d x)

pub followed : (what : Each) (s : SequencePaxos) → s.config.depots ≤ max_depots → Few what s → Followed what s (for_followers what s)
followed what s d f =
    let n = s.config.depots in
    let l = s.leader_state in
    let r = for_followers what s in
    let x = looped (promised_followers n l) what n s (omega arith) f in
    record {
      unfit = raised_by n l (λ pid. unfit_to what pid s) s.plan.unfit r.plan.unfit d x.unfit;
      top = raised_by n l (λ pid. top_to what pid s) s.plan.top r.plan.top d x.top;
    }
