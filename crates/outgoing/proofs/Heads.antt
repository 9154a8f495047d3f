-- Heads in a row: what they carry, where packing puts them, and the entries that packed heads show.
use Prim.Native.Nat.{ℕ, zero, suc, ◌+◌, ◌≤◌, ◌<◌}
use mathlib.Core.Path.{◌≡◌, refl, sym, ap}
use mathlib.Core.Bool.{Bool, true, false, cond}
use mathlib.Core.List.{List, [], ◌∷◌, ◌++◌, map}
use native.Mathlib.Omega.{arith}
use lib.Dec.{eqb}
use lib.ListN.{length, get_or, take, drop, length-append, length-take, length-drop}
use lib.Seq.{take-add, drop-drop}
use borrow.Author.Tests.{eqb-true}
use Rattle.messages.specs.declared.Head.{Head}
use Rattle.messages.specs.Messages.{no_head}
use Rattle.outgoing.specs.Queue.{msg_of, entries_at, heads_from, entries_in}
use Rattle.outgoing.specs.Perform.{carried, Inside}
use Rattle.outgoing.specs.Packing.{packed_from, start_at, starts_from, Whole, none, more}

pub carried-append : (a b : List Head) → carried (a ++ b) ≡ carried a + carried b
unfolding carried
carried-append [] b = omega arith
carried-append (h ∷ a) b = rw (carried-append a b) (omega arith)

-- packing gives each head its start and changes nothing else
pub length-starts : (at : ℕ) (hs : List Head) → length (starts_from at hs) ≡ length hs
unfolding starts_from
length-starts at [] = refl
length-starts at (h ∷ hs) = ap suc (length-starts (at + h.count) hs)

pub carried-starts : (at : ℕ) (hs : List Head) → carried (starts_from at hs) ≡ carried hs
unfolding starts_from carried
carried-starts at [] = refl
carried-starts at (h ∷ hs) = rw (carried-starts (at + h.count) hs)

pub starts-again : (at : ℕ) (hs : List Head) → starts_from at (starts_from at hs) ≡ starts_from at hs
unfolding starts_from
starts-again at [] = refl
starts-again at (h ∷ hs) = rw (starts-again (at + h.count) hs)

-- heads that are packed from a place on: the first starts there, and the others are packed from its end on
pub first-start : (at : ℕ) (h : Head) (hs : List Head) → starts_from at (h ∷ hs) ≡ h ∷ hs → h.start ≡ at
unfolding starts_from
first-start at h hs e =
    let p : start_at at h ≡ h = cc in
    sym (ap (λ (x : Head). x.start) p)

pub rest-packed : (at : ℕ) (h : Head) (hs : List Head) → starts_from at (h ∷ hs) ≡ h ∷ hs → starts_from (at + h.count) hs ≡ hs
unfolding starts_from
rest-packed at h hs e = cc

same_start : (at : ℕ) (h : Head) → h.start ≡ at → start_at at h ≡ h
same_start at h e = rw (← e)

-- the test that the code makes
pub packed-starts : (at : ℕ) (hs : List Head) → packed_from at hs ≡ true → starts_from at hs ≡ hs
unfolding packed_from starts_from
packed-starts at [] e = refl
packed-starts at (h ∷ hs) e = go (eqb h.start at) refl e (λ k. packed-starts (at + h.count) hs k)
  where
    go : (t : Bool) → eqb h.start at ≡ t → cond t (packed_from (at + h.count) hs) false ≡ true → (packed_from (at + h.count) hs ≡ true → starts_from (at + h.count) hs ≡ hs) → start_at at h ∷ starts_from (at + h.count) hs ≡ h ∷ hs
    go true p q again = rw (same_start at h (eqb-true h.start at p), again q)
    go false p q again = absurd (let z : ◌≡◌ {A = ℕ} 0 1 = cc in omega arith)

-- the first heads of packed ones are packed, and the others from where the first end
pub front-packed : (at : ℕ) (a b : List Head) → starts_from at (a ++ b) ≡ a ++ b → starts_from at a ≡ a
unfolding starts_from
front-packed at [] b e = refl
front-packed at (h ∷ a) b e =
    let p : start_at at h ≡ h = cc in
    let q : starts_from (at + h.count) (a ++ b) ≡ a ++ b = cc in
    rw (p, front-packed (at + h.count) a b q)

pub back-packed : (at : ℕ) (a b : List Head) → starts_from at (a ++ b) ≡ a ++ b → starts_from (at + carried a) b ≡ b
unfolding starts_from carried
back-packed at [] b e = let z : at + 0 ≡ at = omega arith in rw z e
back-packed at (h ∷ a) b e =
    let q : starts_from (at + h.count) (a ++ b) ≡ a ++ b = cc in
    let z : at + (h.count + carried a) ≡ at + h.count + carried a = omega arith in
    rw z (back-packed (at + h.count) a b q)

shown : (s : List ℕ) (h : Head) → h.start + h.count ≤ length s → length (entries_at s h) ≡ h.count
shown s h l = rw (length-take, length-drop) (omega arith)

pub inside-shown : (s : List ℕ) (h : Head) → Inside (length s) h → length (entries_at s h) ≡ h.count
inside-shown s h f = go h.count refl
  where
    go : (n : ℕ) → h.count ≡ n → length (entries_at s h) ≡ h.count
    go zero e = rw (length-take, length-drop) (omega arith)
    go (suc n) e = shown s h (f (omega arith))

pub inside-whole : (s : List ℕ) (hs : List Head) → ((k : ℕ) → k < length hs → Inside (length s) (get_or hs k no_head)) → Whole s hs
inside-whole s [] f = none
inside-whole s (h ∷ hs) f = more (inside-shown s h (f 0 (omega arith))) (inside-whole s hs (λ k l. f (suc k) (omega arith)))

pub packed-whole : (s : List ℕ) (at : ℕ) (hs : List Head) → starts_from at hs ≡ hs → at + carried hs ≤ length s → Whole s hs
unfolding carried
packed-whole s at [] e l = none
packed-whole s at (h ∷ hs) e l =
    more (shown s h (omega (arith, first-start at h hs e))) (packed-whole s (at + h.count) hs (rest-packed at h hs e) (omega arith))

-- the heads of a queue that is packed are the heads with new starts
pub heads-queue : {s : List ℕ} {hs : List Head} (at : ℕ) → Whole s hs → heads_from at (map (msg_of s) hs) ≡ starts_from at hs
unfolding heads_from starts_from
heads-queue at none = refl
heads-queue {s} at (more {h} {hs} e w) = rw (e, heads-queue (at + h.count) w)

pub length-entries : {s : List ℕ} {hs : List Head} → Whole s hs → length (entries_in (map (msg_of s) hs)) ≡ carried hs
unfolding entries_in carried
length-entries none = refl
length-entries {s} (more {h} {hs} e w) = rw (length-append, e, length-entries w)

-- the entries of packed heads lie side by side in the store
pub packed-entries : (s : List ℕ) (at : ℕ) (hs : List Head) → starts_from at hs ≡ hs → entries_in (map (msg_of s) hs) ≡ take (carried hs) (drop at s)
unfolding entries_in carried
packed-entries s at [] e = refl
packed-entries s at (h ∷ hs) e =
    rw (first-start at h hs e, packed-entries s (at + h.count) hs (rest-packed at h hs e), take-add h.count (carried hs) (drop at s), drop-drop h.count at s)
