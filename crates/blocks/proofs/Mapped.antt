-- Blocks made of each element of a list, and one turn of a loop that writes them.
use Prim.Native.Nat.{ℕ, zero, suc, ◌+◌, ◌*◌, ◌≤◌, ◌<◌}
use mathlib.Core.Path.{◌≡◌, refl, sym, ◌∙◌}
use mathlib.Core.Logic.{⊎_elim}
use mathlib.Core.List.{List, [], ◌∷◌, map}
use native.Mathlib.Nat.{eq-or-lt_of_le}
use native.Mathlib.Omega.{arith}
use lib.ListN.{length, get_or, take, length-map}
use Rattle.storage.specs.Storage.{put_at}
use Rattle.blocks.specs.Blocks.{block_words, joined, Whole}
use Rattle.blocks.proofs.Blocks.{put_next}

-- what holds of each number below k, and of k
pub below_more : (P : ℕ → Type 0) (k : ℕ) → ((j : ℕ) → j < k → P j) → P k → (j : ℕ) → j < k + 1 → P j
below_more P k h p j l = ⊎_elim (λ e. rw e p) (λ m. h j m) (eq-or-lt_of_le (let m : j ≤ k = omega arith in m))

module _ {A : Type 0} (f : A → List ℕ) where
  pub getD-mapped : (l : List A) (k : ℕ) (z : List ℕ) (d : A) → k < length l → get_or (map f l) k z ≡ f (get_or l k d)
  getD-mapped [] k z d h = absurd (omega arith)
  getD-mapped (x ∷ l) zero z d h = refl
  getD-mapped (x ∷ l) (suc k) z d h = getD-mapped l k z d (omega arith)

  pub whole-mapped : ((x : A) → length (f x) ≡ block_words) → (l : List A) → Whole (map f l)
  whole-mapped w [] = tt
  whole-mapped w (x ∷ l) = (w x, whole-mapped w l)

  -- one turn of a loop that writes them from a place on
  pub mapped-turn : ((x : A) → length (f x) ≡ block_words) → (i j k : ℕ) (l : List A) (found words b : List ℕ) (d : A) → j ≡ i + k * block_words → k < length l → i ≤ length found → words ≡ put_at i (joined (take k (map f l))) found → b ≡ f (get_or l k d) → put_at j b words ≡ put_at i (joined (take (k + 1) (map f l))) found
  mapped-turn w i j k l found words b d s h room e q =
      let inside : k < length (map f l) = omega (arith, length-map l f) in
      let here : b ≡ get_or (map f l) k [] = q ∙ sym (getD-mapped l k [] d h) in
      rw s (put_next i k (map f l) found words b (whole-mapped w l) inside room e here)
