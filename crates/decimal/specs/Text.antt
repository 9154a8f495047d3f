-- Bytes put into a lent buffer from a place on.
use Rattle.std.specs.Prelude.{ℕ, ◌+◌, ◌≤◌, ◌≡◌, List, length}
use Rattle.std.proofs.lemmas.List.Edits.{sets}

-- `text` stands in the buffer from `at` on, where it fits, all else is as it was found, and `next` is the place after it
pub record Put (found : List ℕ) (at : ℕ) (text : List ℕ) (next : ℕ) (left : List ℕ) : Type 0 where
  pub room : at + length text ≤ length found
  pub place : next ≡ at + length text
  pub bytes : left ≡ sets found at text
