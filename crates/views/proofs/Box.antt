-- The deciding box is made of the view: `box-viewed`.
use Rattle.std.specs.Prelude.{Option, None, Some}
use Prim.Native.Nat.{ℕ, zero, suc, ◌+◌, ◌≤◌, ◌<◌}
use mathlib.Core.Path.{◌≡◌, refl, sym, ap, ◌∙◌, fun_ext}
use mathlib.Core.Bool.{Bool, true, false, ◌&&◌}
use mathlib.Core.List.{List, [], ◌∷◌, map}
use native.Mathlib.Omega.{arith}
use lib.Dec.{ltb}
use lib.ListN.{length, take, get_or, length-take, length-map}
use lib.Seq.{get_or-take}
use borrow.Author.Tests.{ltb-true}
use Rattle.base.specs.Limits.{max_store}
use Rattle.paxos_box.specs.declared.AcceptedAt.{AcceptedAt}
use Rattle.leader_state.specs.declared.LogSync.{LogSync}
use Rattle.quorum.specs.declared.Configuration.{Configuration}
use Rattle.leader_state.specs.State.{depot_of}
use Rattle.leader_state.specs.Places.{marks}
use Rattle.messages.specs.declared.Head.{Head}
use Rattle.messages.specs.declared.Row.{Row}
use Rattle.messages.specs.declared.Event.{Event}
use Rattle.messages.specs.declared.PaxosMsg.{PaxosMsg}
use Rattle.messages.specs.Messages.{no_head, is_accept_decide, is_accepted}
use Rattle.paxos_box.specs.declared.Sight.{Sight}
use Rattle.record.specs.Record.{load_of}
use Rattle.sight.specs.Sight.{first_from, changes_at, first_change, held_change, brought, brought_change, head_at, accdec_at, accepted_at, accdec_on, accepted_on, accdec_marks, accepted_mark, queue_entries, sight_of}
use Rattle.broken.specs.Broken.{best_sync}
use Rattle.outgoing.specs.Queue.{Msg, lent, msg_of, queue_of, entries_in}
use Rattle.outgoing.specs.Perform.{Inside}
use Rattle.outgoing.proofs.Heads.{inside-whole, length-entries}
use Rattle.refusals.proofs.Taken.{Whole}
use Rattle.step.specs.Step.{World, box_of}
use Rattle.step_laws.proofs.Queue.{carried-found}
use Rattle.views.specs.View.{view_of, held_entries, Counted, no_msg, msg_at, accdec_there, accepted_there, held_first, sight_view, box_view}

-- The first place that a sync changes is looked for below the log's end alone

first-same : (f g : ℕ → Bool) (k i : ℕ) → ((j : ℕ) → i ≤ j → j < i + k → f j ≡ g j) → first_from f i k ≡ first_from g i k
unfolding first_from
first-same f g zero i h = refl
first-same f g (suc k) i h = rw (h i (omega arith) (omega arith), first-same f g k (suc i) (λ j a b. h j (omega arith) (omega arith)))

change-same : (log : List ℕ) (len start : ℕ) (suffix : List ℕ) → first_change log len start suffix ≡ first_change (take len log) len start suffix
unfolding first_change changes_at
change-same log len start suffix = first-same _ _ len 0 (λ j a b. let k : j < len = omega arith in rw (get_or-take len log j 0 k))

held-viewed : (x : Option LogSync) (log : List ℕ) (len : ℕ) (best : List ℕ) → length (take len log) ≡ len → held_change x log len best ≡ held_first x (take len log) (held_entries x best)
held-viewed None log len best e = sym e
held-viewed (Some x) log len best e = rw e (change-same log len x.sync_idx (take x.len best))

brought-viewed : (x : Option ℕ) (log : List ℕ) (len : ℕ) (entries : List ℕ) → length (take len log) ≡ len → brought_change x log len entries ≡ brought_change x (take len log) (length (take len log)) entries
brought-viewed None log len entries e = sym e
brought-viewed (Some start) log len entries e = rw e (change-same log len start entries)

-- What stands at a place of the queue

get_d_map : {A B : Type 0} (f : A → B) (l : List A) (i : ℕ) (d : A) (z : B) → i < length l → get_or (map f l) i z ≡ f (get_or l i d)
get_d_map f [] i d z h = absurd (omega arith)
get_d_map f (x ∷ l) zero d z h = refl
get_d_map f (x ∷ l) (suc i) d z h = get_d_map f l i d z (omega arith)

module _ (row : Row) (store : List ℕ) (len : ℕ) (e : length (queue_of len (lent row store)) ≡ len) where
  heads-there : len ≤ length row.heads
  unfolding queue_of
  heads-there = omega (arith, e, length-map (take len row.heads) (msg_of store), length-take len row.heads)

  msg-there : (i : ℕ) → i < len → msg_at (queue_of len (lent row store)) i ≡ (head_at row i).msg
  unfolding queue_of
  msg-there i h =
      ap (λ (m : Msg). m.msg) (get_d_map (msg_of store) (take len row.heads) i no_head no_msg (omega (arith, length-take len row.heads, heads-there)))
      ∙ ap (λ (x : Head). x.msg) (get_or-take len row.heads i no_head h)

  test-there : (f : PaxosMsg → Bool) (i : ℕ) → (ltb i len && f (head_at row i).msg) ≡ (ltb i (length (queue_of len (lent row store))) && f (msg_at (queue_of len (lent row store)) i))
  test-there f i = rw e (go (ltb i len) refl)
    where
      go : (t : Bool) → ltb i len ≡ t → (t && f (head_at row i).msg) ≡ (t && f (msg_at (queue_of len (lent row store)) i))
      go true p = rw (msg-there i (ltb-true i len p))
      go false p = refl

  accdec-there : (l : Option ℕ) → accdec_on row len l ≡ accdec_there (queue_of len (lent row store)) l
  unfolding accdec_at
  accdec-there None = refl
  accdec-there (Some at) = test-there is_accept_decide at

  accepted-there : (m : Option AcceptedAt) → accepted_on row len m ≡ accepted_there (queue_of len (lent row store)) m
  unfolding accepted_at
  accepted-there None = refl
  accepted-there (Some a) = test-there is_accepted a.at

-- how many entries the queue carries

module _ (row : Row) (store : List ℕ) (len : ℕ) (e : length (queue_of len (lent row store)) ≡ len) (i : (k : ℕ) → k < len → Inside (length store) (head_at row k)) where
  entries-there : queue_entries row len ≡ length (entries_in (queue_of len (lent row store)))
  unfolding queue_entries queue_of
  entries-there =
      sym (carried-found row len)
      ∙ sym (length-entries (inside-whole store (take len row.heads)
      (λ k l.
      let j : k < len = omega (arith, l, length-take len row.heads) in
      rw (get_or-take len row.heads k no_head j) (i k j))))

-- the box
same-sight : {a a' : List Bool} {b b' : Bool} {d d' f f' : ℕ} → a ≡ a' → b ≡ b' → d ≡ d' → f ≡ f' → ◌≡◌ {A = Sight} (record { accdec = a; accepted = b; held_change = d; brought_change = f }) (record { accdec = a'; accepted = b'; held_change = d'; brought_change = f' })
same-sight a b d f = rw (a, b, d, f)

module _ (c : Configuration) (e : Event) (entries : List ℕ) (w : World) (k : Counted (view_of w)) where
  marks-viewed : accdec_marks c w.node w.row ≡ marks c.depots (λ pid. accdec_there (view_of w).queue (depot_of pid w.node.leader_state).latest)
  unfolding accdec_marks view_of
  marks-viewed = ap (marks c.depots) (fun_ext (λ pid. accdec-there w.row w.lists.store w.node.outgoing k.queue (depot_of pid w.node.leader_state).latest))

  accepted-viewed : accepted_mark w.node w.row ≡ accepted_there (view_of w).queue w.node.latest_accepted_meta
  unfolding view_of
  accepted-viewed = accepted-there w.row w.lists.store w.node.outgoing k.queue w.node.latest_accepted_meta

  sight-viewed : sight_of c w.node w.row e w.lists.log w.lists.best entries ≡ sight_view c e entries (view_of w)
  unfolding sight_view view_of
  sight-viewed =
      same-sight marks-viewed accepted-viewed
      (held-viewed (best_sync w.node) w.lists.log w.node.internal_storage.accepted_idx w.lists.best k.log)
      (brought-viewed (brought e) w.lists.log w.node.internal_storage.accepted_idx entries k.log)

  entries-viewed : ((j : ℕ) → j < w.node.outgoing → Inside (length w.lists.store) (head_at w.row j)) → queue_entries w.row w.node.outgoing ≡ length (entries_in (view_of w).queue)
  unfolding view_of
  entries-viewed i = entries-there w.row w.lists.store w.node.outgoing k.queue i

  pub box-viewed : Whole c w.node w.row w.lists → length w.lists.store ≡ max_store → box_of c e entries w.node w.row w.lists.log w.lists.best ≡ box_view c e entries (view_of w)
  unfolding box_of box_view view_of
  box-viewed h n =
      let i : (j : ℕ) → j < w.node.outgoing → Inside (length w.lists.store) (head_at w.row j) = λ j l. rw n (h.heads j l).inside in
      ap (λ (m : ℕ). load_of c m (sight_of c w.node w.row e w.lists.log w.lists.best entries) w.node) (entries-viewed i)
      ∙ ap (λ (x : Sight). load_of c (length (entries_in (view_of w).queue)) x (view_of w).node) sight-viewed
