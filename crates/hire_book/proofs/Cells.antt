-- An entry by what it writes: nothing, an out, or a back; and a pump's cells after each.
use Prim.Native.Nat.{ℕ, ◌+◌, ◌-◌, ◌*◌, ◌≤◌, ◌<◌}
use mathlib.Core.Bool.{Bool, true, false}
use mathlib.Core.List.{List}
use mathlib.Core.Path.{◌≡◌, refl}
use native.Mathlib.Omega.{arith}
use lib.Dec.{eqb}
use lib.ListN.{length, get_or, set, length-set}
use lib.Seq.{get_or-set_same, get_or-set_other}
use borrow.Author.Tests.{eqb-true, eqb-false, leb-true}
use Rattle.base.proofs.Tests.{both}
use Rattle.base.specs.Limits.{pumps}
use Rattle.hire_book.specs.Book.{book_length, cells, last_back_at, open_out_at, charged_at, last_back, open_out, charged, place_of, entered}
use Rattle.hire_book.specs.Hire.{counts, out_kind, back_kind}

-- an out is written, and a back
abbrev pub out_book : ℕ → ℕ → List ℕ → List ℕ
out_book pump day book = set book (open_out_at pump) (day + 1)

abbrev pub back_book : ℕ → ℕ → ℕ → List ℕ → List ℕ
back_book pump day days book = set (set (set book (last_back_at pump) day) (open_out_at pump) 0) (charged_at pump) days

-- what an entry makes of a book
pub data Entered (pump kind day : ℕ) (book : List ℕ) : List ℕ → Type 0 where
  stays : counts kind day (place_of book pump) ≡ false → Entered pump kind day book book
  outs : kind ≡ out_kind → open_out book pump ≡ 0 → last_back book pump ≤ day → Entered pump kind day book (out_book pump day book)
  backs : kind ≡ back_kind → 0 < open_out book pump → open_out book pump - 1 ≤ day → Entered pump kind day book (back_book pump day (charged book pump + (day - (open_out book pump - 1))) book)

pub view : (pump kind day : ℕ) (book : List ℕ) → Entered pump kind day book (entered pump kind day book)
unfolding entered
view pump kind day book = go (counts kind day (place_of book pump)) refl (eqb (open_out book pump) 0) refl
  where
    go : (t : Bool) → counts kind day (place_of book pump) ≡ t → (y : Bool) → eqb (open_out book pump) 0 ≡ y → Entered pump kind day book (entered pump kind day book)
    go false e y q = rw e (stays e)
    go true e true q =
        let p = both _ _ (rw q at e) in
        let z = eqb-true (open_out book pump) 0 q in
        rw (e, q) (outs (eqb-true kind out_kind p.0) z (leb-true _ _ p.1))
    go true e false q =
        let p = both _ _ (rw q at e) in
        let z = eqb-false (open_out book pump) 0 q in
        rw (e, q) (backs (eqb-true kind back_kind p.0) (omega arith) (leb-true _ _ p.1))

-- a store leaves every other cell
pub other : (book : List ℕ) (i j v : ℕ) → (j ≡ i → ⊥) → get_or (set book i v) j 0 ≡ get_or book j 0
other book i j v h = get_or-set_other book i j v 0 h

-- a back leaves every cell of another pump
pub back-other : (book : List ℕ) (pump day days q k : ℕ) → (q ≡ pump → ⊥) → k < cells → get_or (back_book pump day days book) (q * cells + k) 0 ≡ get_or book (q * cells + k) 0
back-other book pump day days q k h l =
    rw (other _ (charged_at pump) (q * cells + k) days (omega arith), other _ (open_out_at pump) (q * cells + k) 0 (omega arith))
    (other book (last_back_at pump) (q * cells + k) day (omega arith))

-- the pump's own cells
module _ (book : List ℕ) (pump day days : ℕ) (all : length book ≡ book_length) (is : pump < pumps) where
  pub out-open : open_out (out_book pump day book) pump ≡ day + 1
  out-open = get_or-set_same book (open_out_at pump) (day + 1) 0 (omega arith)

  pub back-back : last_back (back_book pump day days book) pump ≡ day
  back-back =
      rw (other _ (charged_at pump) (last_back_at pump) days (omega arith), other _ (open_out_at pump) (last_back_at pump) 0 (omega arith))
      (get_or-set_same book (last_back_at pump) day 0 (omega arith))

  pub back-open : open_out (back_book pump day days book) pump ≡ 0
  back-open =
      rw (other _ (charged_at pump) (open_out_at pump) days (omega arith))
      (get_or-set_same (set book (last_back_at pump) day) (open_out_at pump) 0 0 (simp length-set (omega arith)))

  pub back-charged : charged (back_book pump day days book) pump ≡ days
  back-charged =
      get_or-set_same (set (set book (last_back_at pump) day) (open_out_at pump) 0) (charged_at pump) days 0
      (simp length-set (omega arith))

pub length-entered : {pump kind day : ℕ} {book b : List ℕ} → Entered pump kind day book b → length b ≡ length book
length-entered (stays e) = refl
length-entered (outs k z l) = simp length-set
length-entered (backs k z l) = simp length-set
