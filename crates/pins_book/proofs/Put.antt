-- Text put into a lent buffer: the place after it and the buffer it leaves are one.
use mathlib.Core.Path.{◌≡◌, sym, ◌∙◌}
use Prim.Native.Nat.{ℕ}
use mathlib.Core.List.{List}
use Rattle.decimal.specs.Text.{Put}

pub put-alike : {found text left₁ left₂ : List ℕ} {at next₁ next₂ : ℕ} → Put found at text next₁ left₁ → Put found at text next₂ left₂ → (next₁ ≡ next₂) × (left₁ ≡ left₂)
put-alike p q = (p.place ∙ sym q.place, p.bytes ∙ sym q.bytes)
