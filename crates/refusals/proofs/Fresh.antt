-- A fresh box of a configuration that stands, with slices of the right lengths and a book that stands, is refused only for what an event says.
use Prim.Native.Nat.{ℕ, zero, suc, ◌+◌, ◌-◌}
use mathlib.Core.Path.{◌≡◌, refl}
use mathlib.Core.Bool.{Bool, false}
use mathlib.Core.List.{List}
use lib.ListN.{get_or, replicate}
use Rattle.ballot.specs.Ballot.{is_default}
use Rattle.quorum.specs.declared.Configuration.{Configuration}
use Rattle.leader_state.specs.State.{fresh}
use Rattle.leader_state.specs.declared.Depot.{Depot}
use Rattle.messages.specs.declared.Row.{Row}
use Rattle.messages.specs.declared.Event.{Event}
use Rattle.record.specs.Record.{fresh_record}
use Rattle.hire_book.specs.Below.{any_below}
use Rattle.hire_book.specs.Book.{any_above, broken_of}
use Rattle.hire_book.proofs.Below.{none}
use Rattle.unfit.specs.Unfit.{foreign, either_foreign, stranger_of, unfit_of}
use Rattle.heads.specs.Heads.{any_head, any_overlap}
use Rattle.places.specs.Places.{any_place, place_past, misplaced, place_foreign}
use Rattle.broken.specs.Lent.{Lent}
use Rattle.broken.specs.Broken.{kept_above, over_limit, position_past, head_off, sync_past, leader_off, kept_foreign, state_broken, record_broken}
use Rattle.refusals.specs.Refusals.{call_off, refusal_of}

-- each place of a row of equals, also past its end
alike : {A : Type 0} (n : ℕ) (x : A) (i : ℕ) → get_or (replicate n x) i x ≡ x
alike zero x i = refl
alike (suc n) x zero = refl
alike (suc n) x (suc i) = alike n x i

-- a test that no fresh place passes
no-fresh : (f : ℕ → Depot → Bool) (depots : ℕ) → ((pid : ℕ) → f pid fresh ≡ false) → any_place f depots fresh_record.leader_state ≡ false
unfolding any_place
no-fresh f depots h = none (λ i. f (i + 1) (get_or (replicate 7 fresh) ((i + 1) - 1) fresh)) depots (λ i l. rw (alike 7 fresh ((i + 1) - 1)) (h (i + 1)))

pub fresh-unbroken : (c : Configuration) (row : Row) (l : Lent) → broken_of l.book ≡ false → record_broken c fresh_record row l ≡ false
unfolding record_broken state_broken kept_above over_limit position_past head_off sync_past leader_off kept_foreign any_above any_head any_overlap any_below either_foreign foreign is_default
fresh-unbroken c row l e =
    rw (
      no-fresh (place_past 0) c.depots (λ pid. refl),
      no-fresh misplaced c.depots (λ pid. refl),
      no-fresh (place_foreign c) c.depots (λ pid. refl),
      e,
    )

pub fresh-taken : (c : Configuration) (row : Row) (l : Lent) (e : Event) (entries : List ℕ) → call_off c l ≡ false → broken_of l.book ≡ false → stranger_of c e ≡ false → unfit_of c e entries ≡ false → refusal_of c fresh_record row l e entries ≡ 0
unfolding refusal_of
fresh-taken c row l e entries a b s u = rw (a, fresh-unbroken c row l b, s, u)
