-- Nothing is made up: through the core's moves, and in what a depot holds.
use Prim.Native.Nat.{ℕ}
use mathlib.Core.Path.{sym, subst}
use mathlib.Core.List.{List, ◌++◌}
use lib.ListN.{length}
use Rattle.ballot.specs.declared.Ballot.{Ballot}
use Rattle.agreement.specs.Core.{Sizes, Ghost}
use Rattle.agreement.specs.Moves.{fresh, raise, start, append, accept}
use Rattle.agreement.specs.Facts.{Holds}
use Rattle.agreement.specs.Report.{Sync, put_on, Prepares}
use Rattle.agreement.specs.All.{All, nil}
use Rattle.agreement.specs.Proposed.{Only}
use Rattle.agreement.proofs.All.{all_append, all_take}
use Rattle.agreement.proofs.Same.{same_whole}
use Rattle.agreement.proofs.Update.{ballot-each}

module _ {E : Type 0} {P : E → Type 0} where
  pub only-fresh : Only P fresh
  unfolding fresh
  only-fresh = record { each = λ n. nil }

  module _ {g : Ghost E} (o : Only P g) where
    pub only-raise : (b : ℕ) (n : Ballot) → Only P (raise b n g)
    unfolding raise
    only-raise b n = record { each = o.each }

    pub only-accept : (b : ℕ) (n : Ballot) (k : ℕ) → Only P (accept b n k g)
    unfolding accept
    only-accept b n k = record { each = o.each }

    pub only-start : {log : List E} (n : Ballot) → All P log → Only P (start n log g)
    unfolding start
    only-start {log} n p = record { each = ballot-each (λ m l. All P l) n log g.G p (λ m ne. o.each m) }

    pub only-append : {es : List E} (n : Ballot) → All P es → Only P (append n es g)
    unfolding append
    only-append {es} n p = record { each = ballot-each (λ m l. All P l) n (g.G n ++ es) g.G (all_append (o.each n) p) (λ m ne. o.each m) }

    -- a depot's log, and the log that a leader's held sync makes of its own
    pub only-held : {z : Sizes} {b d : ℕ} {p r : Ballot} {log : List E} → Holds z g b p r log d → All P log
    only-held {r = r} {log = log} h = subst (All P) (sym (same_whole h.same)) (all_take (length log) (o.each r))

    pub only-prepared : {b ba : ℕ} {n r bn : Ballot} {log : List E} {sync : Sync E} → Prepares g b n r log bn ba sync → All P (put_on sync log)
    only-prepared {ba = ba} {bn = bn} p = subst (All P) (sym p.brings.is) (all_take ba (o.each bn))
