-- The value that a reader keeps of a line: what the digits say while that is within the entry limit, and above the limit for good from there on.
use Prim.Native.Nat.{ℕ, ◌+◌, ◌-◌, ◌*◌, ◌≤◌, ◌<◌}
use native.Mathlib.Omega.{arith}
use mathlib.Core.Path.{◌≡◌, refl, sym}
use mathlib.Core.Bool.{Bool, true, false, ◌&&◌, and-false}
use mathlib.Core.List.{List, [], ◌∷◌, ◌++◌}
use lib.Dec.{ltb, leb}
use borrow.Author.Tests.{lt-ltb, le-ltb, lt-leb, ltb-true, ltb-false}
use Rattle.base.specs.Limits.{max_entry}
use Rattle.decimal.specs.Digits.{digit0, is_digit, all_digits, value_from}
use Rattle.report.specs.Reading.{value_after, unfit}

-- what the reader keeps after further bytes of the line
unfoldable pub kept_from : ℕ → List ℕ → ℕ
kept_from v [] = v
kept_from v (b ∷ line) = kept_from (value_after v b) line

pub kept-snoc : (v b : ℕ) (line : List ℕ) → kept_from v (line ++ (b ∷ [])) ≡ value_after (kept_from v line) b
unfolding kept_from
kept-snoc v b [] = refl
kept-snoc v b (a ∷ line) = kept-snoc (value_after v a) b line

-- one byte more: a digit while the value is within the limit, a digit above it, and any other byte
after-digit : (v b : ℕ) → is_digit b ≡ true → v ≤ max_entry → value_after v b ≡ v * 10 + (b - digit0)
unfolding value_after
after-digit v b e h = rw (e, le-ltb max_entry v h)

after-stays : (v b : ℕ) → is_digit b ≡ true → max_entry < v → value_after v b ≡ v
unfolding value_after
after-stays v b e h = rw (e, lt-ltb max_entry v h)

after-other : (v b : ℕ) → is_digit b ≡ false → value_after v b ≡ unfit
unfolding value_after
after-other v b e = rw e

after-above : (v b : ℕ) (t : Bool) → is_digit b ≡ t → max_entry < v → max_entry < value_after v b
after-above v b true e h = rw (after-stays v b e h) h
after-above v b false e h = rw (after-other v b e) (omega arith)

kept_above : (v : ℕ) (line : List ℕ) → max_entry < v → max_entry < kept_from v line
unfolding kept_from
kept_above v [] h = h
kept_above v (b ∷ line) h = kept_above (value_after v b) line (after-above v b (is_digit b) refl h)

value_grows : (v : ℕ) (line : List ℕ) → v ≤ value_from v line
unfolding value_from
value_grows v [] = omega arith
value_grows v (b ∷ line) = omega (arith, value_grows (v * 10 + (b - digit0)) line)

-- the kept value is within the limit exactly where the line is all digits and what they say is, and then it is that
pub record Kept (v : ℕ) (line : List ℕ) : Type 0 where
  pub fits : leb (kept_from v line) max_entry ≡ (all_digits line && leb (value_from v line) max_entry)
  pub says : kept_from v line ≤ max_entry → kept_from v line ≡ value_from v line

kept_byte : (v b : ℕ) (line : List ℕ) → v ≤ max_entry → (t : Bool) → is_digit b ≡ t → (u : Bool) → ltb max_entry (v * 10 + (b - digit0)) ≡ u → (v * 10 + (b - digit0) ≤ max_entry → Kept (v * 10 + (b - digit0)) line) → Kept v (b ∷ line)
unfolding kept_from all_digits value_from
kept_byte v b line h true e false q f =
    let k = f (ltb-false _ _ q) in
    record { fits = rw (after-digit v b e h, e) k.fits; says = rw (after-digit v b e h) k.says }
kept_byte v b line h true e true q f =
    let w = ltb-true max_entry (v * 10 + (b - digit0)) q in
    let a = kept_above (v * 10 + (b - digit0)) line w in
    let g = value_grows (v * 10 + (b - digit0)) line in
    record {
      fits = rw (after-digit v b e h, e, lt-leb _ _ a, lt-leb (value_from (v * 10 + (b - digit0)) line) max_entry (omega arith)) (sym (and-false (all_digits line)));
      says = rw (after-digit v b e h) (λ m. absurd (omega arith));
    }
kept_byte v b line h false e u q f =
    let a = kept_above unfit line (omega arith) in
    record { fits = rw (after-other v b e, e, lt-leb _ _ a); says = rw (after-other v b e) (λ m. absurd (omega arith)) }

pub kept : (v : ℕ) (line : List ℕ) → v ≤ max_entry → Kept v line
unfolding kept_from all_digits value_from
kept v [] h = record { fits = refl; says = λ _. refl }
kept v (b ∷ line) h = kept_byte v b line h (is_digit b) refl (ltb max_entry (v * 10 + (b - digit0))) refl (kept (v * 10 + (b - digit0)) line)
