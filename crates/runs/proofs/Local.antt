-- What holds of each depot by itself, in every run: (b), that what is decided stays; the books of (d); and (e).
use Prim.Native.Nat.{ℕ, ◌+◌, ◌≤◌}
use mathlib.Core.Path.{◌≡◌, refl, sym, ◌∙◌, ap}
use mathlib.Core.Bool.{Bool, true, false, cond}
use mathlib.Core.List.{List, [], ◌∷◌, ◌++◌}
use native.Mathlib.Omega.{arith}
use lib.Dec.{eqb}
use lib.ListN.{take}
use lib.Seq.{take-take}
use borrow.Author.Tests.{eqb-true}
use Rattle.quorum.specs.declared.Configuration.{Configuration}
use Rattle.messages.specs.declared.Event.{Event}
use Rattle.messages.specs.declared.Event.TheVariants as event
use Rattle.hire_book.specs.Book.{apply_all, book_of, stored_days}
use Rattle.hire_book.specs.Hire.{charges_of, times, total}
use Rattle.hire_laws.proofs.Once.{charged-once}
use Rattle.hire_laws.proofs.Stored.{stored-total}
use Rattle.outgoing.specs.Queue.{Msg}
use Rattle.step.specs.Step.{World, step_of}
use Rattle.step_laws.proofs.Step.{decided-rises, decided-stays, Kept, book-law}
use Rattle.runs.specs.Runs.{Setup, State, FreshDepot, Start, Move, deliver, lose, drain, propose, leader, reconnect, resend, restart, config_of, put_at, arrives, lost, moved, after}
use Rattle.runs.specs.Claim.{decided, history, book}

-- a depot in one move: as it was, or after a step
pub data Turned (c : Configuration) (w : World) : World → Type 0 where
  still : Turned c w w
  stepped : (e : Event) (entries : List ℕ) → Turned c w (step_of c e entries w).after

put-turned : (z : Setup) (i k : ℕ) (e : Event) (entries : List ℕ) (f : ℕ → World) → Turned (config_of z k) (f k) (put_at i (step_of (config_of z i) e entries (f i)).after f k)
put-turned z i k e entries f = go (eqb k i) refl
  where
    go : (b : Bool) → eqb k i ≡ b → Turned (config_of z k) (f k) (cond b (step_of (config_of z i) e entries (f i)).after (f k))
    go true p = rw (eqb-true k i p) (stepped e entries)
    go false p = still

arrives-turned : (z : Setup) (i j k : ℕ) (q : List Msg) (σ : State) → Turned (config_of z k) (σ.depot k) ((arrives z i j q σ).depot k)
arrives-turned z i j k [] σ = still
arrives-turned z i j k (m ∷ q) σ = put-turned z j k (event.Message (record { from = i + 1; msg = m.msg })) m.entries σ.depot

lost-turned : (z : Setup) (i j k : ℕ) (q : List Msg) (σ : State) → Turned (config_of z k) (σ.depot k) ((lost i j q σ).depot k)
lost-turned z i j k [] σ = still
lost-turned z i j k (m ∷ q) σ = still

pub turned : (z : Setup) (m : Move) (k : ℕ) (σ : State) → Turned (config_of z k) (σ.depot k) ((moved z m σ).depot k)
unfolding moved
turned z (deliver i j) k σ = arrives-turned z i j k (σ.link i j) σ
turned z (lose i j) k σ = lost-turned z i j k (σ.link i j) σ
turned z (drain i) k σ = put-turned z i k event.Drain [] σ.depot
turned z (propose i entries) k σ = put-turned z i k event.Propose entries σ.depot
turned z (leader i n) k σ = put-turned z i k (event.Leader n) [] σ.depot
turned z (reconnect i pid) k σ = put-turned z i k (event.Reconnect pid) [] σ.depot
turned z (resend i) k σ = put-turned z i k event.Resend [] σ.depot
turned z (restart i) k σ = put-turned z i k event.Restart [] σ.depot

-- later: the decided index has not fallen, and the places below the earlier one are the same
pub record Later (w v : World) : Type 0 where
  pub rises : w.node.internal_storage.decided_idx ≤ v.node.internal_storage.decided_idx
  pub stays : take w.node.internal_storage.decided_idx v.lists.log ≡ take w.node.internal_storage.decided_idx w.lists.log

later-turned : {c : Configuration} {w v : World} → Turned c w v → Later w v
later-turned {c} {w} still = record { rises = omega arith; stays = refl }
later-turned {c} {w} (stepped e entries) = record { rises = decided-rises c e entries w; stays = decided-stays c e entries w }

-- a shorter part of equal parts
shorter : (d n : ℕ) (a b : List ℕ) → d ≤ n → take n a ≡ take n b → take d a ≡ take d b
shorter d n a b l p = sym (take-take d n a l) ∙ ap (take d) p ∙ take-take d n b l

later-then : {u w v : World} → Later u w → Later w v → Later u v
later-then {u} {w} {v} x y =
    let d = u.node.internal_storage.decided_idx in
    let n = w.node.internal_storage.decided_idx in
    record { rises = omega (arith, x.rises, y.rises); stays = shorter d n v.lists.log w.lists.log x.rises y.stays ∙ x.stays }

pub later : (z : Setup) (ms : List Move) (k : ℕ) (σ : State) → Later (σ.depot k) ((after z ms σ).depot k)
unfolding after
later z [] k σ = record { rises = omega arith; stays = refl }
later z (m ∷ ms) k σ = later-then (later-turned (turned z m k σ)) (later z ms k (moved z m σ))

pub after_more : (z : Setup) (ms ns : List Move) (σ : State) → after z (ms ++ ns) σ ≡ after z ns (after z ms σ)
unfolding after
after_more z [] ns σ = refl
after_more z (m ∷ ms) ns σ = after_more z ms ns (moved z m σ)

-- (b)
pub rises : (z : Setup) (σ : State) (ms ns : List Move) (i : ℕ) → decided (after z ms σ) i ≤ decided (after z (ms ++ ns) σ) i
rises z σ ms ns i = rw (after_more z ms ns σ) (later z ns i (after z ms σ)).rises

pub stays : (z : Setup) (σ : State) (ms ns : List Move) (i : ℕ) → take (decided (after z ms σ) i) (history (after z (ms ++ ns) σ) i) ≡ history (after z ms σ) i
stays z σ ms ns i =
    let x = later z ns i (after z ms σ) in
    rw (after_more z ms ns σ) (take-take (decided (after z ms σ) i) (decided (after z ns (after z ms σ)) i) ((after z ns (after z ms σ)).depot i).lists.log x.rises ∙ x.stays)

-- (d), each book by itself
kept-turned : {c : Configuration} {w v : World} → Turned c w v → Kept w → Kept v
kept-turned {c} {w} still h = h
kept-turned {c} {w} (stepped e entries) h = book-law c e entries w h

kept-after : (z : Setup) (ms : List Move) (k : ℕ) (σ : State) → Kept (σ.depot k) → Kept ((after z ms σ).depot k)
unfolding after
kept-after z [] k σ h = h
kept-after z (m ∷ ms) k σ h = kept-after z ms k (moved z m σ) (kept-turned (turned z m k σ) h)

fresh_kept : (w : World) → FreshDepot w → Kept w
unfolding apply_all
fresh_kept w f = rw f.node f.book

pub kept : (z : Setup) (σ : State) → Start z σ → (ms : List Move) (i : ℕ) → book (after z ms σ) i ≡ book_of (history (after z ms σ) i)
kept z σ s ms i = kept-after z ms i σ (fresh_kept (σ.depot i) (s.fresh i))

-- (e)
pub once : (z : Setup) (σ : State) (ms : List Move) (i pump day : ℕ) → times pump day (charges_of (history (after z ms σ) i)) ≤ 1
once z σ ms i pump day = charged-once (history (after z ms σ) i) pump day

pub counted : (z : Setup) (σ : State) → Start z σ → (ms : List Move) (i : ℕ) → stored_days (book (after z ms σ) i) ≡ total (history (after z ms σ) i)
counted z σ s ms i = rw (kept z σ s ms i) (stored-total (history (after z ms σ) i))
