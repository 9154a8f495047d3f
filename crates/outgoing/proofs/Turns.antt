-- One turn of each loop over the heads, in terms of the heads that are left.
use Prim.Native.Nat.{ℕ, zero, suc, ◌+◌, ◌-◌, ◌≤◌, ◌<◌}
use mathlib.Core.Path.{◌≡◌}
use mathlib.Core.Bool.{true, false}
use mathlib.Core.List.{List, [], ◌∷◌, map}
use native.Mathlib.Omega.{arith}
use native.Mathlib.Numerals.{add-one}
use lib.ListN.{length, get_or, set, take, drop, take-append-drop, drop_of_length-le}
use lib.Seq.{drop-cons, append_snoc, take-suc-set, drop-set-lt}
use borrow.Author.Tests.{eq-eqb, ne_eqb}
use Rattle.storage.specs.Storage.{put_at}
use Rattle.storage.proofs.Laws.{put-again, put-nothing}
use Rattle.messages.specs.declared.Head.{Head}
use Rattle.messages.specs.declared.PaxosMsg.TheVariants.{PrepareReq}
use Rattle.outgoing.specs.Queue.{msg_of, entries_at, entries_in}
use Rattle.outgoing.specs.Perform.{carried}
use Rattle.outgoing.specs.Packing.{packed_from, start_at, starts_from, restarted, Whole, more}

-- what the code's reading gives past the end of a row
abbrev pub unset : Head
unset = record { to = 0; msg = PrepareReq (record { n = record { n = 0; priority = 0; pid = 0 } }); start = 0; count = 0 }

-- the next of those that are left, and none left
pub next : {A : Type 0} (l : List A) (i : ℕ) (d : A) → i < length l → drop i l ≡ get_or l i d ∷ drop (i + 1) l
next l i d h = rw (add-one, drop-cons l i d h)

pub carried-next : (hs : List Head) (i : ℕ) (d : Head) → i < length hs → carried (drop i hs) ≡ (get_or hs i d).count + carried (drop (i + 1) hs)
unfolding carried
carried-next hs i d h = rw (next hs i d h)

-- the test for packed heads
pub packed-turn : (hs : List Head) (i at : ℕ) (d : Head) → i < length hs → (get_or hs i d).start ≡ at → packed_from at (drop i hs) ≡ packed_from (at + (get_or hs i d).count) (drop (i + 1) hs)
unfolding packed_from
packed-turn hs i at d h e = rw (next hs i d h, eq-eqb (get_or hs i d).start at e)

pub not-packed : (hs : List Head) (i at : ℕ) (d : Head) → i < length hs → ((get_or hs i d).start ≡ at → ⊥) → packed_from at (drop i hs) ≡ false
unfolding packed_from
not-packed hs i at d h e = rw (next hs i d h, ne_eqb (get_or hs i d).start at e)

pub all-packed : (hs : List Head) (i at : ℕ) → length hs ≤ i → packed_from at (drop i hs) ≡ true
unfolding packed_from
all-packed hs i at h = rw (drop_of_length-le hs h)

-- new starts
left-next : (hs : List Head) (i to : ℕ) (d x : Head) → i < to → to ≤ length hs → take (to - i) (drop i hs) ≡ get_or hs i d ∷ take (to - (i + 1)) (drop (i + 1) (set hs i x))
left-next hs i to d x h n =
    let e : to - i ≡ suc (to - (i + 1)) = omega arith in
    rw (e, add-one, drop-set-lt (suc i) hs i x (omega arith), drop-cons hs i d (omega arith))

pub carried-left : (hs : List Head) (i to : ℕ) (d x : Head) → i < to → to ≤ length hs → carried (take (to - i) (drop i hs)) ≡ (get_or hs i d).count + carried (take (to - (i + 1)) (drop (i + 1) (set hs i x)))
unfolding carried
carried-left hs i to d x h n = rw (left-next hs i to d x h n)

pub restart-turn : (hs : List Head) (i to at : ℕ) (d : Head) → i < to → to ≤ length hs → restarted (i + 1) to (at + (get_or hs i d).count) (set hs i (start_at at (get_or hs i d))) ≡ restarted i to at hs
unfolding restarted starts_from
restart-turn hs i to at d h n =
    rw (left-next hs i to d (start_at at (get_or hs i d)) h n, add-one, take-suc-set hs i (start_at at (get_or hs i d)) (omega arith), drop-set-lt to hs i (start_at at (get_or hs i d)) h, append_snoc)

pub restart-end : (hs : List Head) (i at : ℕ) → restarted i i at hs ≡ hs
unfolding restarted starts_from
restart-end hs i at = let z : i - i ≡ 0 = omega arith in rw z (take-append-drop i hs)

-- entries side by side
pub gather-turn : (s : List ℕ) (hs : List Head) (i at : ℕ) (out : List ℕ) (d : Head) → i < length hs → at ≤ length out → length (entries_at s (get_or hs i d)) ≡ (get_or hs i d).count → put_at (at + (get_or hs i d).count) (entries_in (map (msg_of s) (drop (i + 1) hs))) (put_at at (entries_at s (get_or hs i d)) out) ≡ put_at at (entries_in (map (msg_of s) (drop i hs))) out
unfolding entries_in
gather-turn s hs i at out d h k e =
    rw (next hs i d h)
    (rw e at (put-again at (entries_at s (get_or hs i d)) (entries_in (map (msg_of s) (drop (i + 1) hs))) out k))

pub gather-end : (s : List ℕ) (hs : List Head) (i at : ℕ) (out : List ℕ) → length hs ≤ i → put_at at (entries_in (map (msg_of s) (drop i hs))) out ≡ out
unfolding entries_in
gather-end s hs i at out h = rw (drop_of_length-le hs h) (put-nothing at out)

pub whole-at : (s : List ℕ) (hs : List Head) (i : ℕ) (d : Head) → Whole s hs → i < length hs → length (entries_at s (get_or hs i d)) ≡ (get_or hs i d).count
whole-at s [] i d w h = absurd (omega arith)
whole-at s (x ∷ hs) zero d (more e w) h = e
whole-at s (x ∷ hs) (suc i) d (more e w) h = whole-at s hs i d w (omega arith)
