-- DEMAND 3: the claim holds of every run.
use Prim.Native.Nat.{ℕ, ◌<◌}
use mathlib.Core.Path.{◌≡◌, ap, sym, ◌∙◌}
use mathlib.Core.List.{List}
use Rattle.hire_book.specs.Book.{book_of}
use Rattle.runs.specs.Runs.{Setup, State, Start, Move, after}
use Rattle.runs.specs.Claim.{decided, book, Demand}
use Rattle.runs.proofs.Local.{rises, stays, kept, once, counted}
use Rattle.safety.proofs.Safe.{agree, given, histories}

-- equal decided indexes give equal books
equal : (z : Setup) (σ : State) → Start z σ → (ms : List Move) (i j : ℕ) → i < z.depots → j < z.depots → decided (after z ms σ) i ≡ decided (after z ms σ) j → book (after z ms σ) i ≡ book (after z ms σ) j
equal z σ o ms i j u w e = kept z σ o ms i ∙ ap book_of (histories z σ o ms i j u w e) ∙ sym (kept z σ o ms j)

pub demand : Demand
demand z σ o ms ns =
    record {
      agree = agree z σ o ms;
      rises = λ i _. rises z σ ms ns i;
      stays = λ i _. stays z σ ms ns i;
      given = given z σ o ms;
      kept = λ i _. kept z σ o ms i;
      equal = equal z σ o ms;
      once = once z σ ms;
      counted = λ i _. counted z σ o ms i;
    }
