-- A message is handed on thus (docs/LAYOUT.md): a head's words, with the sender's pid in word 0 and 0 in word 14, mean that message from that depot.
use Prim.Native.Nat.{ℕ}
use mathlib.Core.Path.{◌≡◌, refl, ◌∙◌}
use mathlib.Core.Bool.{false}
use mathlib.Core.List.{List, [], ◌∷◌}
use Rattle.base.specs.Lists.{over}
use Rattle.hire_book.specs.Below.{any_below}
use Rattle.messages.specs.declared.Event.TheVariants.{Message}
use Rattle.blocks.specs.Blocks.{block_at, over_most, above_most}
use Rattle.layout_row.specs.Row.{head_most, head_in}
use Rattle.layout_row.specs.Event as event
use Rattle.depot_link.specs.Link.{event_of}

module _ (to kind round priority pid round' priority' pid' session counter decided accepted with-sync sync-idx start count : ℕ) where
  -- a head that lies in sixteen words, and the event that is made of them
  abbrev pub head : List ℕ
  head =
      to ∷ kind ∷ round ∷ priority ∷ pid ∷ round' ∷ priority' ∷ pid' ∷ session ∷ counter ∷ decided ∷ accepted ∷ with-sync ∷ sync-idx ∷ start ∷ count ∷ []

  abbrev pub handed : ℕ → List ℕ
  handed from =
      from ∷ kind ∷ round ∷ priority ∷ pid ∷ round' ∷ priority' ∷ pid' ∷ session ∷ counter ∷ decided ∷ accepted ∷ with-sync ∷ sync-idx ∷ 0 ∷ count ∷ []

  fits : (from : ℕ) → above_most event.event_most (handed from) ≡ above_most head_most head
  unfolding above_most over_most any_below
  fits from = refl

  -- words that mean a head, handed on, mean its message
  pub handed-on : (from : ℕ) → above_most head_most head ≡ false → event_of (handed from) ≡ Message (record { from = from; msg = (head_in head).msg })
  unfolding event.event_in event.event_of block_at over
  handed-on from h = rw (fits from ∙ h)
