-- Tests over the heads that wait in the row: where their entries lie in the store, the ballots they name, the entries themselves.
use Rattle.std.specs.Prelude.{ℕ, ◌+◌, ◌<◌, ◌≡◌, Bool, ◌&&◌, List, ltb}
use Rattle.base.specs.Limits.{max_store}
use Rattle.quorum.specs.declared.Configuration.{Configuration}
use Rattle.messages.specs.declared.Head.{Head}
use Rattle.messages.specs.declared.Row.{Row}
use Rattle.hire_book.specs.Below.{any_below}
use Rattle.hire_book.specs.Book.{any_above}
use Rattle.sight.specs.Sight.{part_of, head_at}
use Rattle.unfit.specs.Unfit.{ballot_foreign}

-- some head of the first `len` of the row passes a test
unfoldable pub any_head : (Head → Bool) → Row → ℕ → Bool
any_head f row len = any_below (λ i. f (head_at row i)) len

-- entries, `count` from `start` on, that lie outside the store; where there are none nothing does
unfoldable pub outside : ℕ → ℕ → Bool
outside start count = ltb 0 count && ltb max_store (start + count)

-- n entries from a on, and m from b on, that share a cell: each starts before the other ends; no entries share nothing
unfoldable pub overlap : ℕ → ℕ → ℕ → ℕ → Bool
overlap a n b m = ltb 0 n && ltb 0 m && ltb a (b + m) && ltb b (a + n)

abbrev pub head_outside : Head → Bool
head_outside h = outside h.start h.count

abbrev pub heads_overlap : Head → Head → Bool
heads_overlap h g = overlap h.start h.count g.start g.count

-- head j overlaps one before it; some head does
abbrev pub overlaps : Row → ℕ → Bool
overlaps row j = any_head (heads_overlap (head_at row j)) row j

unfoldable pub any_overlap : Row → ℕ → Bool
any_overlap row len = any_below (overlaps row) len

-- it names a nonzero ballot whose pid is no depot
abbrev pub head_foreign : Configuration → Head → Bool
head_foreign c h = ballot_foreign c h.msg

-- one of its entries is above its limit
abbrev pub head_above : List ℕ → Head → Bool
head_above store h = any_above (part_of h.start h.count store)

-- what a test answers, passed in and asked of each of the first `len` heads, is what f says
pub record Tells (answers : Head → Bool → Type 0) (f : Head → Bool) (row : Row) (len : ℕ) : Type 0 where
  pub at : (i : ℕ) → i < len → (r : Bool) → answers (head_at row i) r → r ≡ f (head_at row i)
