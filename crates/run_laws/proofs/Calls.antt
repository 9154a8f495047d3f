-- Calls of the linked library one after another answer as steps one after another, and leave words that mean what the steps leave.
use mathlib.Core.Path.{◌≡◌, refl, sym, ap, ◌∙◌}
use mathlib.Core.Bool.{Bool, false, cond}
use mathlib.Core.List.{List, [], ◌∷◌, map}
use Prim.Native.Nat.{ℕ}
use lib.ListN.{length}
use Rattle.step.specs.declared.Answer.{Answer}
use Rattle.step.specs.Step.{World}
use Rattle.depot_link.specs.Link.{Held, Linked, told, linked, words_off, world_in, configuration_of, event_of, meant, written_back, linked_step, Follows}
use Rattle.unread_laws.proofs.Unread.{Given, answers, after}

-- what is given to a call beside configuration and depot: the event's words, and the entries
pub record Call : Type 0 where
  pub event : List ℕ
  pub entries : List ℕ

abbrev pub given : Call → Given
given g = record { event = event_of g.event; entries = g.entries }

-- calls as they promise: the answers, and the words at the end
pub data Called (configuration : List ℕ) : List Call → Held → List Answer → Held → Type 0 where
  none : {h : Held} → Called configuration [] h [] h
  more :
      {g : Call} {gs : List Call} {h k m : Held} {a : Answer} {rest : List Answer}
      → words_off (length configuration) (length h.node) (length h.row) (length g.event) ≡ false
      → linked_step configuration g.event g.entries h ≡ told a k
      → Follows configuration g.event g.entries h k
      → Called configuration gs k rest m
      → Called configuration (g ∷ gs) h (a ∷ rest) m

-- one call: its answer is the step's
one : (configuration : List ℕ) (g : Call) (h : Held) (a : Answer) (k : Held) → words_off (length configuration) (length h.node) (length h.row) (length g.event) ≡ false → linked_step configuration g.event g.entries h ≡ told a k → a ≡ (meant configuration g.event g.entries h).answer
unfolding linked_step
one configuration g h a k off e =
    sym (ap (λ (l : Linked). l.answer) e) ∙ ap (λ (t : Bool). (cond t (linked 1 0 0 h) (written_back (meant configuration g.event g.entries h) h)).answer) off

-- all of them
pub calls :
    (configuration : List ℕ) (gs : List Call) (h m : Held) (as' : List Answer)
    → Called configuration gs h as' m
    → (as' ≡ answers (configuration_of configuration) (map given gs) (world_in h)) × (world_in m ≡ after (configuration_of configuration) (map given gs) (world_in h))
calls configuration [] h m as' none = (refl, refl)
calls configuration (g ∷ gs) h m as' (more {k = k} {a = a} {rest = rest} off e f r) =
    let p = calls configuration gs k m rest r in (
      ap (λ (l : List Answer). a ∷ l) (p.0 ∙ ap (λ (w : World). answers (configuration_of configuration) (map given gs) w) (f off))
          ∙ ap (λ (x : Answer). x ∷ answers (configuration_of configuration) (map given gs) (meant configuration g.event g.entries h).after) (one configuration g h a k off e),
      p.1 ∙ ap (λ (w : World). after (configuration_of configuration) (map given gs) w) (f off),
    )
