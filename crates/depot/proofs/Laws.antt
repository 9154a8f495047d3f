-- The step over a lent row of heads: its two ways, and that the row by value, stepped and written back, is the row lent, stepped.
use Prim.Native.Nat.{ℕ}
use mathlib.Core.Path.{◌≡◌, refl, sym, ◌∙◌, ap}
use mathlib.Core.Bool.{Bool, true, false}
use mathlib.Core.List.{List}
use lib.Dec.{eqb}
use lib.ListN.{length}
use borrow.Author.Tests.{eq-eqb, ne_eqb, eqb-true, eqb-false}
use Rattle.base.specs.Limits.{max_messages}
use Rattle.quorum.specs.declared.Configuration.{Configuration}
use Rattle.messages.specs.declared.Event.{Event}
use Rattle.messages.specs.declared.Head.{Head}
use Rattle.messages.specs.declared.Row.{Row}
use Rattle.record.specs.declared.Record.{Record}
use Rattle.outgoing.specs.Packing.{row_of}
use Rattle.broken.specs.Lent.{Lent}
use Rattle.step.specs.Step.{World, Outcome, world, refused_with, step_of}
use Rattle.lent_heads.specs.Heads.{snapshot_of, written_to}
use Rattle.lent_heads.proofs.Laws.{snapshot-whole, written-whole, written-back}
use Rattle.depot.specs.Heads.{step_sized, step_heads}

module _ (c : Configuration) (e : Event) (entries : List ℕ) (w : World) where
  pub sized-refused : (n : ℕ) → (n ≡ max_messages → ⊥) → refused_with 1 w ≡ step_sized n c e entries w
  unfolding step_sized
  sized-refused n h = rw (ne_eqb n max_messages h)

  pub sized-taken : (n : ℕ) → n ≡ max_messages → step_of c e entries w ≡ step_sized n c e entries w
  unfolding step_sized
  sized-taken n h = rw (eq-eqb n max_messages h)

-- an outcome over the row by value, with that row written back to the lent one
abbrev pub written_back : List Head → Outcome → Outcome
written_back hs o = record { answer = o.answer; after = world o.after.node (row_of (written_to hs o.after.row)) o.after.lists }

module _ (c : Configuration) (e : Event) (entries : List ℕ) (r : Record) (hs : List Head) (l : Lent) where
  abbrev from : Row → Outcome
  from row = step_sized (length hs) c e entries (world r row l)

  abbrev pub outcome : Outcome
  outcome = from (snapshot_of hs)

  whole : length hs ≡ max_messages → length outcome.after.row.heads ≡ max_messages → written_back hs outcome ≡ from (row_of hs)
  whole h k =
      ap (λ (zs : List Head). record { answer = outcome.answer; after = world outcome.after.node (row_of zs) outcome.after.lists }) (written-whole hs outcome.after.row h k)
      ∙ ap from (snapshot-whole hs h)

  wrong : (length hs ≡ max_messages → ⊥) → written_back hs outcome ≡ from (row_of hs)
  wrong h =
      ap (written_back hs) (sym (sized-refused c e entries (world r (snapshot_of hs) l) (length hs) h))
      ∙ ap (λ (zs : List Head). refused_with 1 (world r (row_of zs) l)) (written-back hs)
      ∙ sized-refused c e entries (world r (row_of hs) l) (length hs) h

  pub heads-stepped : length outcome.after.row.heads ≡ max_messages → written_back hs outcome ≡ step_heads c e entries (world r (row_of hs) l)
  heads-stepped k = go (eqb (length hs) max_messages) refl
    where
      go : (b : Bool) → eqb (length hs) max_messages ≡ b → written_back hs outcome ≡ from (row_of hs)
      go true p = whole (eqb-true (length hs) max_messages p) k
      go false p = wrong (eqb-false (length hs) max_messages p)
