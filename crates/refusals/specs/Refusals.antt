-- Refusals 1, 2, 3 and the 4 that is given in every state (document 01, "When a box says no"), tested in this order: the first that applies is given.
use Rattle.std.specs.Prelude.{ℕ, Bool, cond, not, ◌||◌, List, eqb, length}
use Rattle.base.specs.Limits.{max_log, max_store}
use Rattle.quorum.specs.Quorum.{stands_of}
use Rattle.quorum.specs.declared.Configuration.{Configuration}
use Rattle.messages.specs.declared.Row.{Row}
use Rattle.messages.specs.declared.Event.{Event}
use Rattle.record.specs.declared.Record.{Record}
use Rattle.hire_book.specs.Book.{book_length}
use Rattle.unfit.specs.Unfit.{stranger_of, unfit_of}
use Rattle.broken.specs.Lent.{Lent}
use Rattle.broken.specs.Broken.{record_broken}

-- a lent slice of the wrong length, by the five lengths
unfoldable pub lengths_off : ℕ → ℕ → ℕ → ℕ → ℕ → Bool
lengths_off log cached best store book =
    not (eqb log max_log)
    || (not (eqb cached max_log)
    || (not (eqb best max_log)
    || (not (eqb store max_store)
    || not (eqb book book_length))))

-- 1: depots, own pid or a quorum size out of range, read + write not above depots, or a lent slice of the wrong length
unfoldable pub wrong_call : Configuration → ℕ → ℕ → ℕ → ℕ → ℕ → Bool
wrong_call c log cached best store book = not (stands_of c) || lengths_off log cached best store book

abbrev pub call_off : Configuration → Lent → Bool
call_off c l = wrong_call c (length l.log) (length l.cached) (length l.best) (length l.store) (length l.book)

-- tests in order: the number of the first that holds, 0 where none does
abbrev pub first_of : Bool → Bool → Bool → Bool → ℕ
first_of one two three four = cond one 1 (cond two 2 (cond three 3 (cond four 4 0)))

unfoldable pub refusal_of : Configuration → Record → Row → Lent → Event → List ℕ → ℕ
refusal_of c r row l e entries = first_of (call_off c l) (record_broken c r row l) (stranger_of c e) (unfit_of c e entries)
