-- What a test that was passed in answered at the heads says whether some head passes it.
use Prim.Native.Nat.{ℕ, ◌<◌}
use mathlib.Core.Path.{◌≡◌, sym}
use mathlib.Core.Bool.{Bool, true, false}
use Rattle.messages.specs.declared.Head.{Head}
use Rattle.messages.specs.declared.Row.{Row}
use Rattle.hire_book.proofs.Below.{found, none}
use Rattle.sight.specs.Sight.{head_at}
use Rattle.heads.specs.Heads.{Tells, any_head}

module _ (answers : Head → Bool → Type 0) (f : Head → Bool) (row : Row) (len : ℕ) (t : Tells answers f row len) where
  pub some_head : (i : ℕ) → i < len → answers (head_at row i) true → true ≡ any_head f row len
  unfolding any_head
  some_head i h a = sym (found (λ j. f (head_at row j)) len i h (sym (t.at i h true a)))

  pub no_head_passed : ((i : ℕ) → i < len → answers (head_at row i) false) → false ≡ any_head f row len
  unfolding any_head
  no_head_passed a = sym (none (λ j. f (head_at row j)) len (λ i h. sym (t.at i h false (a i h))))
