-- The digits of a number: one more digit, how many, and what they say.
use Prim.Native.Nat.{ℕ, zero, suc, ◌+◌, ◌-◌, ◌*◌, ◌/◌, ◌%◌, ◌^◌, ◌≤◌, ◌<◌}
use native.Mathlib.Nat.{pow-suc, pow-zero}
use native.Mathlib.Omega.{arith}
use mathlib.Core.Path.{◌≡◌, refl, ap, sym, ◌∙◌}
use mathlib.Core.Bool.{Bool, true, false, cond, ◌&&◌, and-true, and_assoc}
use mathlib.Core.List.{List, [], ◌∷◌, ◌++◌}
use lib.Dec.{ltb}
use lib.ListN.{length, get_or, length-append, get_or-append}
use borrow.Author.Tests.{lt-ltb, le-ltb, le-leb, ltb-true, ltb-false}
use Rattle.decimal.specs.Digits.{digit0, digit9, is_digit, all_digits, value_from, value_of, digits_within, decimal_of}

-- a test's two answers, where only the second differs and only where the test fails
cond_same : {A : Type 0} (t : Bool) (a b c : A) → (t ≡ false → b ≡ c) → cond t a b ≡ cond t a c
cond_same true a b c f = refl
cond_same false a b c f = f refl

-- more room changes nothing
within : (a b n : ℕ) → n ≤ a → n ≤ b → digits_within a n ≡ digits_within b n
unfolding digits_within
within zero zero n h k = refl
within zero (suc b) n h k = rw (lt-ltb n 10 (omega arith))
within (suc a) zero n h k = rw (lt-ltb n 10 (omega arith))
within (suc a) (suc b) n h k = cond_same (ltb n 10) _ _ _ λ e. rw (within a b (n / 10) (omega (arith, ltb-false)) (omega (arith, ltb-false)))

pub decimal-one : (n : ℕ) → n < 10 → decimal_of n ≡ (digit0 + n) ∷ []
unfolding decimal_of digits_within
decimal-one n h = within n (suc n) n (omega arith) (omega arith) ∙ rw (lt-ltb n 10)

pub decimal-more : (n : ℕ) → 10 ≤ n → decimal_of n ≡ decimal_of (n / 10) ++ ((digit0 + n % 10) ∷ [])
unfolding decimal_of digits_within
decimal-more n h = within n (suc n) n (omega arith) (omega arith) ∙ rw (le-ltb n 10, within n (n / 10) (n / 10) (omega arith) (omega arith))

-- a number below 10 to the k has at most k digits
pub decimal-length : (k n : ℕ) → n < 10 ^ suc k → length (decimal_of n) ≤ suc k
decimal-length zero n h = rw (decimal-one n (omega (arith, pow-suc 10 0, pow-zero 10))) (omega arith)
decimal-length (suc k) n h = go (ltb n 10) refl (decimal-length k (n / 10) (omega (arith, pow-suc 10 (suc k))))
  where
    go : (t : Bool) → ltb n 10 ≡ t → length (decimal_of (n / 10)) ≤ suc k → length (decimal_of n) ≤ suc (suc k)
    go true e m = rw (decimal-one n (ltb-true n 10 e)) (omega arith)
    go false e m = rw (decimal-more n (ltb-false n 10 e), length-append) (omega arith)

-- one digit more
pub value-snoc : (v b : ℕ) (line : List ℕ) → value_from v (line ++ (b ∷ [])) ≡ value_from v line * 10 + (b - digit0)
unfolding value_from
value-snoc v b [] = refl
value-snoc v b (a ∷ line) = value-snoc (v * 10 + (a - digit0)) b line

pub digits-snoc : (b : ℕ) (line : List ℕ) → all_digits (line ++ (b ∷ [])) ≡ (all_digits line && is_digit b)
unfolding all_digits
digits-snoc b [] = and-true _
digits-snoc b (a ∷ line) = ap (λ (t : Bool). is_digit a && t) (digits-snoc b line) ∙ sym (and_assoc (is_digit a) (all_digits line) (is_digit b))

-- a digit is a digit, and says itself
digit-is : (d : ℕ) → d < 10 → is_digit (digit0 + d) ≡ true
digit-is d h = rw (le-leb digit0 (digit0 + d) (omega arith), le-leb (digit0 + d) digit9 (omega arith))

-- a number's digits are digits, say the number, and the first is no zero unless the number is 0
pub record Says (n : ℕ) (line : List ℕ) : Type 0 where
  pub some : 0 < length line
  pub first : 0 < n → digit0 < get_or line 0 0
  pub digits : all_digits line ≡ true
  pub value : value_of line ≡ n

says-one : (n : ℕ) → n < 10 → Says n ((digit0 + n) ∷ [])
unfolding all_digits value_from
says-one n h = record { some = omega arith; first = λ m. omega arith; digits = rw (digit-is n h); value = omega arith }

says-more : (n : ℕ) (line : List ℕ) → 10 ≤ n → Says (n / 10) line → Says n (line ++ ((digit0 + n % 10) ∷ []))
says-more n line h s = record {
  some = rw length-append (omega arith);
  first = λ m. rw (get_or-append line ((digit0 + n % 10) ∷ []) 0 0 s.some) (s.first (omega arith));
  digits = rw (digits-snoc (digit0 + n % 10) line, s.digits) (digit-is (n % 10) (omega arith));
  value = rw (value-snoc 0 (digit0 + n % 10) line, s.value) (omega arith);
}

says-test : (n : ℕ) (rest : List ℕ) (t : Bool) → ltb n 10 ≡ t → (10 ≤ n → Says (n / 10) rest) → Says n (cond t ((digit0 + n) ∷ []) (rest ++ ((digit0 + n % 10) ∷ [])))
says-test n rest true e f = says-one n (ltb-true n 10 e)
says-test n rest false e f = says-more n rest (ltb-false n 10 e) (f (ltb-false n 10 e))

says-within : (k n : ℕ) → n ≤ k → Says n (digits_within k n)
unfolding digits_within
says-within zero n h = says-one n (omega arith)
says-within (suc k) n h = says-test n (digits_within k (n / 10)) (ltb n 10) refl λ m. says-within k (n / 10) (omega arith)

pub decimal-says : (n : ℕ) → Says n (decimal_of n)
unfolding decimal_of
decimal-says n = says-within n n (omega arith)
