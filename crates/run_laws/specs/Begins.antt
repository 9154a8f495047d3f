-- Of two lists, one begins with the other.
use Rattle.std.specs.Prelude.{ℕ, ◌≡◌, ◌⊎◌, List, length, take}

abbrev pub OneBegins : List ℕ → List ℕ → Type 0
OneBegins a b = (take (length a) b ≡ a) ⊎ (take (length b) a ≡ b)
