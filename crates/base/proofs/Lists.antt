-- Laws of `on_first` and `tabulate`, and one turn of a loop that makes each.
use Prim.Native.Nat.{ℕ, zero, suc, ◌+◌, ◌≤◌, ◌<◌}
use mathlib.Core.Path.{◌≡◌, refl, ap, sym, ◌∙◌}
use mathlib.Core.Bool.{Bool, true, false, cond}
use mathlib.Core.List.{List, [], ◌∷◌, ◌++◌, map}
use native.Mathlib.Omega.{arith}
use native.Mathlib.Numerals.{add-one}
use lib.Dec.{ltb, eqb}
use lib.ListN.{length, get_or, set, length-append, length-set, length-map, get_or-append}
use lib.Seq.{get_or-set_same, get_or-set_other, get_or_at, ext_get_or}
use borrow.Author.Tests.{eqb-true, eqb-false, lt-ltb, le-ltb, ltb-true, ltb-false}
use Rattle.base.specs.Lists.{on_first, tabulate}

-- what owning an array of structs tells of its list's length
pub length-mapped : (X Y : Type 0) (f : X → Y) (l : List X) (n : ℕ) → length (map f l) ≡ n → length l ≡ n
length-mapped X Y f l n p = sym (length-map l f) ∙ p

module _ {A : Type 0} where
  pub length-on-first : (n : ℕ) (f : A → A) (l : List A) → length (on_first n f l) ≡ length l
  unfolding on_first
  length-on-first zero f l = refl
  length-on-first (suc n) f [] = refl
  length-on-first (suc n) f (x ∷ l) = ap suc (length-on-first n f l)

  -- what lies past the first places is as found, also the next one
  pub on-first-past : (n : ℕ) (f : A → A) (l : List A) (i : ℕ) (d : A) → n ≤ i → get_or (on_first n f l) i d ≡ get_or l i d
  unfolding on_first
  on-first-past zero f l i d h = refl
  on-first-past (suc n) f [] i d h = refl
  on-first-past (suc n) f (x ∷ l) zero d h = absurd (omega arith)
  on-first-past (suc n) f (x ∷ l) (suc i) d h = on-first-past n f l i d (omega arith)

  pub on-first-more : (f : A → A) (l : List A) (i : ℕ) (d : A) → i < length l → set (on_first i f l) i (f (get_or l i d)) ≡ on_first (suc i) f l
  unfolding on_first
  on-first-more f [] i d h = absurd (omega arith)
  on-first-more f (x ∷ l) zero d h = refl
  on-first-more f (x ∷ l) (suc i) d h = ap (λ r. f x ∷ r) (on-first-more f l i d (omega arith))

  -- one turn of a loop that changes each of the first places
  pub on-first-turn : (d : A) (f : A → A) (l₀ l : List A) (i : ℕ) (v : A) → l ≡ on_first i f l₀ → v ≡ f (get_or l i d) → i < length l₀ → set l i v ≡ on_first (i + 1) f l₀
  on-first-turn d f l₀ l i v p q h =
      let e : get_or l i d ≡ get_or l₀ i d = rw p (on-first-past i f l₀ i d (omega arith)) in
      rw (q, e, p, add-one) (on-first-more f l₀ i d h)

  pub length-tabulate : (n : ℕ) (f : ℕ → A) → length (tabulate n f) ≡ n
  unfolding tabulate
  length-tabulate zero f = refl
  length-tabulate (suc n) f = simp (length-append, length-tabulate n f) (omega arith)

  pub get_d_tabulate : (n : ℕ) (f : ℕ → A) (i : ℕ) (d : A) → i < n → get_or (tabulate n f) i d ≡ f i
  unfolding tabulate
  get_d_tabulate zero f i d h = absurd (omega arith)
  get_d_tabulate (suc n) f i d h = go (eqb i n) refl (λ k. get_d_tabulate n f i d k)
    where
      go : (t : Bool) → eqb i n ≡ t → (i < n → get_or (tabulate n f) i d ≡ f i) → get_or (tabulate n f ++ (f n ∷ [])) i d ≡ f i
      go true e again = rw (eqb-true i n e) (get_or_at (tabulate n f) (f n) [] d n (length-tabulate n f))
      go false e again =
          let ne = eqb-false i n e in
          let lt : i < n = omega (arith, ne) in
          rw (get_or-append (tabulate n f) (f n ∷ []) d i (omega (arith, length-tabulate n f))) (again lt)

  pub tabulate-set : (n : ℕ) (g h : ℕ → A) (i : ℕ) → i < n → ((j : ℕ) → (j ≡ i → ⊥) → g j ≡ h j) → set (tabulate n g) i (h i) ≡ tabulate n h
  tabulate-set n g h i lt e = ext_get_or (h i) (set (tabulate n g) i (h i)) (tabulate n h) (simp (length-set, length-tabulate)) at_each
    where
      at_place : (j : ℕ) → j < n → (t : Bool) → eqb j i ≡ t → get_or (set (tabulate n g) i (h i)) j (h i) ≡ get_or (tabulate n h) j (h i)
      at_place j l true p =
          rw (eqb-true j i p, get_or-set_same (tabulate n g) i (h i) (h i) (omega (arith, length-tabulate n g)), get_d_tabulate n h i (h i) lt)
      at_place j l false p =
          let ne = eqb-false j i p in
          rw (get_or-set_other (tabulate n g) i j (h i) (h i) ne, get_d_tabulate n g j (h i) l, get_d_tabulate n h j (h i) l) (e j ne)

      at_each : (j : ℕ) → j < length (set (tabulate n g) i (h i)) → get_or (set (tabulate n g) i (h i)) j (h i) ≡ get_or (tabulate n h) j (h i)
      at_each j l = at_place j (omega (arith, length-set (tabulate n g) i (h i), length-tabulate n g)) (eqb j i) refl

-- the places marked so far by a loop over the places below an end
abbrev pub marked_to : ℕ → ℕ → (ℕ → Bool) → List Bool
marked_to n i f = tabulate n (λ j. cond (ltb j i) (f (j + 1)) false)

further : (i j : ℕ) (f : ℕ → Bool) → (j ≡ i → ⊥) → cond (ltb j i) (f (j + 1)) false ≡ cond (ltb j (i + 1)) (f (j + 1)) false
further i j f ne = go (ltb j i) refl
  where
    go : (t : Bool) → ltb j i ≡ t → cond t (f (j + 1)) false ≡ cond (ltb j (i + 1)) (f (j + 1)) false
    go true e = rw (lt-ltb j (i + 1) (omega (arith, ltb-true j i e)))
    go false e = rw (le-ltb j (i + 1) (omega (arith, ne, ltb-false j i e)))

-- one turn of a loop that marks places
pub marked_turn : (n i : ℕ) (f : ℕ → Bool) (l : List Bool) (v : Bool) → l ≡ marked_to n i f → v ≡ f (i + 1) → i < n → set l i v ≡ marked_to n (i + 1) f
marked_turn n i f l v p q h =
    let here : cond (ltb i (i + 1)) (f (i + 1)) false ≡ f (i + 1) = rw (lt-ltb i (i + 1) (omega arith)) in
    rw (p, q, ← here) (tabulate-set n (λ j. cond (ltb j i) (f (j + 1)) false) (λ j. cond (ltb j (i + 1)) (f (j + 1)) false) i h (λ j ne. further i j f ne))
