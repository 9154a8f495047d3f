-- Refusals 1 to 4 of every state are read off what is in use.
use Rattle.std.specs.Prelude.{Option, None, Some}
use Prim.Native.Nat.{ℕ, zero, suc, ◌+◌, ◌-◌, ◌<◌, ◌≤◌}
use mathlib.Core.Path.{◌≡◌, refl, sym, ap, ◌∙◌}
use mathlib.Core.Bool.{Bool, ◌||◌}
use mathlib.Core.List.{List, [], ◌∷◌, map}
use native.Mathlib.Omega.{arith}
use lib.ListN.{length, get_or, take}
use lib.Seq.{get_or-take}
use Rattle.leader_state.specs.declared.LogSync.{LogSync}
use Rattle.quorum.specs.declared.Configuration.{Configuration}
use Rattle.leader_state.specs.declared.Depot.{Depot}
use Rattle.leader_state.specs.declared.LeaderState.{LeaderState}
use Rattle.leader_state.specs.State.{fresh, with_depots}
use Rattle.messages.specs.declared.Head.{Head}
use Rattle.messages.specs.declared.Row.{Row}
use Rattle.messages.specs.declared.Event.{Event}
use Rattle.messages.specs.Messages.{no_head}
use Rattle.record.specs.declared.Record.{Record}
use Rattle.hire_book.specs.Below.{any_below}
use Rattle.hire_book.specs.Book.{any_above, broken_of}
use Rattle.sight.specs.Sight.{head_at}
use Rattle.heads.specs.Heads.{any_head, head_outside, heads_overlap, any_overlap, head_foreign}
use Rattle.places.specs.Places.{any_place, place_past, misplaced, place_foreign}
use Rattle.unfit.specs.Unfit.{stranger_of, unfit_of}
use Rattle.broken.specs.Broken.{decided_past, length_past, held_above, cached_sync, best_sync, kept_above, queued_above, over_limit, meta_past, position_past, head_off, sync_past, leader_off, kept_foreign, state_broken, record_broken}
use Rattle.refusals.specs.Refusals.{wrong_call, call_off, first_of, refusal_of}
use Rattle.outgoing.specs.Queue.{Msg, msg_of, lent, queue_of}
use Rattle.step.specs.Step.{World}
use Rattle.views.specs.View.{held_entries, no_msg}
use Rattle.unread_laws.specs.InUse.{used_node, InUse, in_use, Alike}

-- a test of the numbers below a bound, and another that answers alike there
any_same : (f g : ℕ → Bool) (n : ℕ) → ((i : ℕ) → i < n → f i ≡ g i) → any_below f n ≡ any_below g n
unfolding any_below
any_same f g zero h = refl
any_same f g (suc n) h = rw (any_same f g n (λ i l. h i (omega arith)), h n (omega arith))

-- the waiting heads as a row, and the depots' places
abbrev used_row : ℕ → Row → Row
used_row n row = record { heads = take n row.heads }

head-same : (n : ℕ) (row : Row) (i : ℕ) → i < n → head_at (used_row n row) i ≡ head_at row i
head-same n row i h = get_or-take n row.heads i no_head h

heads-same : (f : Head → Bool) (n k : ℕ) (row : Row) → k ≤ n → any_head f row k ≡ any_head f (used_row n row) k
unfolding any_head
heads-same f n k row l = any_same _ _ k (λ i h. ap f (sym (head-same n row i (omega arith))))

overlap-same : (n : ℕ) (row : Row) → any_overlap row n ≡ any_overlap (used_row n row) n
unfolding any_overlap
overlap-same n row =
    any_same _ _ n
    (λ j h.
    ap (λ (x : Head). any_head (heads_overlap x) row j) (sym (head-same n row j h))
    ∙ heads-same (heads_overlap (head_at (used_row n row) j)) n j row (omega arith))

abbrev used_places : ℕ → LeaderState → LeaderState
used_places n l = with_depots (take n l.depots) l

places_same : (f : ℕ → Depot → Bool) (n : ℕ) (l : LeaderState) → any_place f n l ≡ any_place f n (used_places n l)
unfolding any_place
places_same f n l = any_same _ _ n (λ i h. let k : (i + 1) - 1 < n = omega arith in ap (f (i + 1)) (sym (get_or-take n l.depots ((i + 1) - 1) fresh k)))

-- what record and row alone say
position-same : (c : Configuration) (r : Record) → position_past c r ≡ position_past c (used_node c r)
unfolding position_past
position-same c r = ap (λ (b : Bool). b || meta_past r.outgoing r.latest_accepted_meta) (places_same (place_past r.outgoing) c.depots r.leader_state)

off-same : (c : Configuration) (r : Record) (row : Row) → head_off r row ≡ head_off (used_node c r) (used_row r.outgoing row)
unfolding head_off
off-same c r row =
    ap (λ (b : Bool). b || any_overlap row r.outgoing) (heads-same head_outside r.outgoing r.outgoing row (omega arith))
    ∙ ap (λ (b : Bool). any_head head_outside (used_row r.outgoing row) r.outgoing || b) (overlap-same r.outgoing row)

foreign-same : (c : Configuration) (r : Record) (row : Row) → kept_foreign c r row ≡ kept_foreign c (used_node c r) (used_row r.outgoing row)
unfolding kept_foreign
foreign-same c r row =
    let n = r.outgoing in
    rw (places_same (place_foreign c) c.depots r.leader_state, heads-same (head_foreign c) n n row (omega arith))

state-same : (c : Configuration) (r : Record) (row : Row) → state_broken c r row ≡ state_broken c (used_node c r) (used_row r.outgoing row)
unfolding state_broken sync_past leader_off
state-same c r row =
    let p = places_same misplaced c.depots r.leader_state in
    rw (position-same c r, off-same c r row, p, foreign-same c r row)

-- entries
held-above : (x : Option LogSync) (l : List ℕ) → held_above x l ≡ any_above (held_entries x l)
unfolding any_above any_below
held-above None l = refl
held-above (Some x) l = refl

-- an entry of some message that waits is above its limit
queue_above : List Msg → ℕ → Bool
queue_above q n = any_below (λ i. any_above (get_or q i no_msg).entries) n

entries-same : (store : List ℕ) (l : List Head) (i : ℕ) → (msg_of store (get_or l i no_head)).entries ≡ (get_or (map (msg_of store) l) i no_msg).entries
entries-same store [] i = refl
entries-same store (h ∷ l) zero = refl
entries-same store (h ∷ l) (suc i) = entries-same store l i

queued-above : (r : Record) (row : Row) (store : List ℕ) → queued_above r row store ≡ queue_above (queue_of r.outgoing (lent row store)) r.outgoing
unfolding any_head queue_of queue_above
queued-above r row store =
    let n = r.outgoing in
    any_same _ _ n
    (λ i h.
    ap (λ (x : Head). any_above (msg_of store x).entries) (sym (head-same n row i h))
    ∙ ap any_above (entries-same store (take n row.heads) i))

-- refusal 2, of what is in use
broken_use : Configuration → InUse → Bool
broken_use c u =
    decided_past u.node
    || (length_past u.node
    || ((any_above u.log
    || (any_above u.buffered
    || (any_above u.cached
    || (any_above u.best
    || queue_above u.queue u.node.outgoing))))
    || (over_limit u.node
    || (state_broken c u.node (record { heads = u.heads })
    || broken_of u.book))))

broken-used : (c : Configuration) (w : World) → record_broken c w.node w.row w.lists ≡ broken_use c (in_use c w)
unfolding record_broken broken_use in_use kept_above over_limit
broken-used c w =
    let r = w.node in
    rw (held-above (cached_sync r) w.lists.cached, held-above (best_sync r) w.lists.best, queued-above r w.row w.lists.store, state-same c r w.row)

-- and refusal 1
call_use : Configuration → InUse → Bool
call_use c u = wrong_call c u.log-cells u.cached-cells u.best-cells u.store_cells (length u.book)

pub refusals-alike : (c : Configuration) (e : Event) (entries : List ℕ) (w v : World) → Alike c w v → refusal_of c w.node w.row w.lists e entries ≡ refusal_of c v.node v.row v.lists e entries
unfolding refusal_of in_use call_use
refusals-alike c e entries w v a =
    ap (λ (b : Bool). first_of (call_off c w.lists) b (stranger_of c e) (unfit_of c e entries)) (broken-used c w ∙ ap (broken_use c) a ∙ sym (broken-used c v))
    ∙ ap (λ (b : Bool). first_of b (record_broken c v.node v.row v.lists) (stranger_of c e) (unfit_of c e entries)) (ap (call_use c) a)
