-- Two boxes that differ only past the depots' places: they stay so through every change of a field, a send, and a choice by a test that both answer alike.
use Prim.Native.Nat.{ℕ, ◌-◌, ◌<◌}
use mathlib.Core.Path.{◌≡◌, refl, sym, ap, subst, ◌∙◌}
use mathlib.Core.Bool.{Bool, true, false, cond}
use mathlib.Core.List.{List}
use native.Mathlib.Omega.{arith}
use lib.ListN.{set}
use Rattle.quorum.specs.declared.Configuration.{Configuration}
use Rattle.leader_state.specs.declared.Depot as place
use Rattle.leader_state.specs.declared.LeaderState.{LeaderState}
use Rattle.leader_state.specs.State.{fresh, depot_of, with_depots, with_depot}
use Rattle.leader_state.proofs.Past as past
use Rattle.paxos_box.specs.declared.SequencePaxos.{SequencePaxos}
use Rattle.paxos_box.specs.declared.Send.{Send}
use Rattle.paxos_box.specs.Box.{with_leader, push_of}
use Rattle.sends.specs.Sends.{the_depot, on_depot}
use Rattle.refusals.proofs.Taken.{Depot}
use Rattle.unread_laws.specs.InUse.{mix, past_in, past_box}
use Rattle.unread_laws.proofs.Mix.{mix-get, mix-set, mix-take}

-- the second box is the first with the places z past the depots; the first is of this configuration
abbrev pub Pair : Configuration → List place.Depot → SequencePaxos → SequencePaxos → Type 0
Pair c z s t = (t ≡ past_box c.depots z s) × (s.config ≡ c)

module _ (c : Configuration) (z : List place.Depot) where
  -- enough to show it of a box and the same with other places past the depots
  pub lift : (f : SequencePaxos → SequencePaxos) → ((s : SequencePaxos) → s.config ≡ c → Pair c z (f s) (f (past_box c.depots z s))) → (s t : SequencePaxos) → Pair c z s t → Pair c z (f s) (f t)
  lift f l s t p = subst (λ (u : SequencePaxos). Pair c z (f s) (f u)) (sym p.0) (l s p.1)

  -- a choice
  pub choose : (b a : Bool) → a ≡ b → (x x' y y' : SequencePaxos) → Pair c z x y → Pair c z x' y' → Pair c z (cond b x x') (cond a y y')
  choose true a e x x' y y' p q = rw e p
  choose false a e x x' y y' p q = rw e q

  -- one thing more is planned
  pub push : (m : Send) (s t : SequencePaxos) → Pair c z s t → Pair c z (push_of m s) (push_of m t)
  unfolding push_of
  push m = lift (push_of m) (λ s e. (refl, e))

  -- a depot's place is read alike, and changed alike
  pub depot-alike : (to : ℕ) (s : SequencePaxos) → Depot c to → the_depot to (past_box c.depots z s) ≡ the_depot to s
  depot-alike to s d = mix-get c.depots s.leader_state.depots z (to - 1) fresh (omega (arith, d.0, d.1))

  pub place_set : (to : ℕ) (g : place.Depot → place.Depot) (l : LeaderState) → Depot c to → with_depot to g (past_in c.depots z l) ≡ past_in c.depots z (with_depot to g l)
  place_set to g l d =
      let h : to - 1 < c.depots = omega (arith, d.0, d.1) in
      ap (λ (r : List place.Depot). with_depots r l)
      (ap (λ (x : place.Depot). set (mix c.depots l.depots z) (to - 1) (g x)) (mix-get c.depots l.depots z (to - 1) fresh h)
      ∙ mix-set c.depots l.depots z (to - 1) (g (depot_of to l)) h)

  pub on-depot : (to : ℕ) (g : place.Depot → place.Depot) → Depot c to → (s t : SequencePaxos) → Pair c z s t → Pair c z (on_depot to g s) (on_depot to g t)
  on-depot to g d = lift (on_depot to g) (λ s e. (ap (λ (l : LeaderState). with_leader l s) (place_set to g s.leader_state d), e))

  -- counts and marks are alike
  pub leaders-alike : (l : LeaderState) → past.Alike c.depots (past_in c.depots z l) l
  leaders-alike l = record { ballot = refl; places = mix-take c.depots l.depots z }
