-- A sound book stays sound: each entry within its limit, applied to one, leaves one; and the fresh book is one.
use Prim.Native.Nat.{ℕ, ◌+◌, ◌-◌, ◌≤◌, ◌<◌}
use mathlib.Core.List.{List}
use mathlib.Core.Path.{◌≡◌}
use native.Mathlib.Decide.{ℕ_discrete}
use native.Mathlib.Omega.{arith}
use lib.ListN.{length, get_or, length-set, length-replicate, get_or-replicate}
use Rattle.base.specs.Limits.{pumps, max_day, max_entry}
use Rattle.hire_book.specs.Book.{book_length, last_back_at, open_out_at, charged_at, last_back, open_out, charged, apply_of, broken_of, pump_broken, fresh_book, Sound}
use Rattle.hire_book.specs.Hire.{pump_of, kind_of, day_of}
use Rattle.hire_book.proofs.Below.{none, none-at}
use Rattle.hire_book.proofs.Kept.{Kept, kept_of, kept-holds}
use Rattle.hire_book.proofs.Cells.{Entered, stays, outs, backs, back_book, out_book, view, other, back-other, out-open, back-back, back-open, back-charged}

-- what is kept of a pump, in a book
abbrev pub KeptOf : List ℕ → ℕ → Type 0
KeptOf book pump = Kept (last_back book pump) (open_out book pump) (charged book pump)

pub sound-pump : {book : List ℕ} → Sound book → (pump : ℕ) → pump < pumps → KeptOf book pump
unfolding broken_of
sound-pump {book} s pump h = kept_of _ _ _ (none-at (pump_broken book) pumps s.kept pump h)

pub sound-of : (book : List ℕ) → length book ≡ book_length → ((pump : ℕ) → pump < pumps → KeptOf book pump) → Sound book
unfolding broken_of
sound-of book l k = record { cells = l; kept = none (pump_broken book) pumps (λ pump h. kept-holds _ _ _ (k pump h)) }

same : {a b c a' b' c' : ℕ} → a' ≡ a → b' ≡ b → c' ≡ c → Kept a b c → Kept a' b' c'
same p q r k = rw (p, q, r) k

pub entered-sound : {pump kind day : ℕ} {book b : List ℕ} → Entered pump kind day book b → pump < pumps → day ≤ max_day → Sound book → Sound b
entered-sound (stays e) is fits s = s
entered-sound {pump} {kind} {day} {book} (outs k z l) is fits s = sound-of _ (simp length-set s.cells) (λ q h. at q h (ℕ_discrete q pump))
  where
    at : (q : ℕ) → q < pumps → Dec (q ≡ pump) → KeptOf (out_book pump day book) q
    at q h (yes e) =
        let old = sound-pump s pump is in
        rw e
        (same (other book _ _ _ (omega arith)) (out-open book pump day 0 s.cells is) (other book _ _ _ (omega arith))
        (record { back_fits = old.back_fits; open-fits = omega arith; days-fit = old.days-fit; after = λ _. omega arith }))
    at q h (no n) = same (other book _ _ _ (omega arith)) (other book _ _ _ (omega arith)) (other book _ _ _ (omega arith)) (sound-pump s q h)
entered-sound {pump} {kind} {day} {book} (backs k z l) is fits s = sound-of _ (simp length-set s.cells) (λ q h. at q h (ℕ_discrete q pump))
  where
    days : ℕ
    days = charged book pump + (day - (open_out book pump - 1))

    at : (q : ℕ) → q < pumps → Dec (q ≡ pump) → KeptOf (back_book pump day days book) q
    at q h (yes e) =
        let old = sound-pump s pump is in
        let a = old.after z in
        rw e
        (same (back-back book pump day days s.cells is) (back-open book pump day days s.cells is) (back-charged book pump day days s.cells is)
        (record { back_fits = fits; open-fits = omega arith; days-fit = omega arith; after = λ i. absurd (omega arith) }))
    at q h (no n) =
        same (back-other book pump day days q 0 n (omega arith)) (back-other book pump day days q 1 n (omega arith)) (back-other book pump day days q 2 n (omega arith))
        (sound-pump s q h)

pub apply-sound : (e : ℕ) (book : List ℕ) → e ≤ max_entry → Sound book → Sound (apply_of e book)
apply-sound e book h s = entered-sound (view (pump_of e) (kind_of e) (day_of e) book) (omega arith) (omega arith) s

pub fresh_at : (i : ℕ) → i < book_length → get_or fresh_book i 0 ≡ 0
unfolding fresh_book
fresh_at i h = get_or-replicate book_length i 0 0 h

pub fresh-length : length fresh_book ≡ book_length
unfolding fresh_book
fresh-length = length-replicate {A = ℕ} book_length 0

pub fresh-sound : Sound fresh_book
fresh-sound = sound-of fresh_book fresh-length (λ pump h.
    same (fresh_at (last_back_at pump) (omega arith)) (fresh_at (open_out_at pump) (omega arith)) (fresh_at (charged_at pump) (omega arith))
    (record { back_fits = omega arith; open-fits = omega arith; days-fit = omega arith; after = λ i. absurd (omega arith) }))
