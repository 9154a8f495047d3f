-- Every message that waits after a step is fit: those that waited are, and those that are planned are.
use Prim.Native.Nat.{ℕ, zero, suc, ◌+◌, ◌≤◌, ◌<◌}
use mathlib.Core.List.{List, [], ◌∷◌, map}
use native.Mathlib.Omega.{arith}
use lib.ListN.{length, get_or, take, drop, length-take, length-drop}
use lib.Seq.{get_or-take, get_or-drop}
use Rattle.base.specs.Limits.{max_entry}
use Rattle.quorum.specs.declared.Configuration.{Configuration}
use Rattle.messages.specs.declared.Head.{Head}
use Rattle.messages.specs.declared.PaxosMsg.{PaxosMsg}
use Rattle.messages.specs.declared.PaxosMsg.TheVariants.{PrepareReq, Prepare, Promise, AcceptSync, AcceptDecide, Accepted, NotAccepted, Decide, ProposalForward}
use Rattle.messages.specs.Messages.{with_decided, with_accepted}
use Rattle.paxos_box.specs.declared.Send.{Send}
use Rattle.paxos_box.specs.declared.Sent.{Sent}
use Rattle.paxos_box.specs.declared.Sent.TheVariants.{New, Join, Raise}
use Rattle.storage.proofs.Every.{Every, every_append}
use Rattle.outgoing.specs.Queue.{Msg, msg_of}
use Rattle.outgoing.specs.Perform.{Sources, entries_of, joined, raised, on_place, done_to, perform_one, perform_all}
use Rattle.refusals.proofs.Taken.{BallotsKnown, HeadFit}
use Rattle.step_laws.proofs.Plan.{Each, none, more, each_snoc}
use Rattle.step_laws.proofs.Ballots.{SentKnown}

-- what a planned thing does keeps a fact of every message
abbrev pub Does : (Msg → Type 0) → Sent → ℕ → List ℕ → Type 0
Does P (New x) to es = P (record { to = to; msg = x; entries = es })
Does P (Join j) to es = (m : Msg) → P m → P (joined j.decided_idx es m)
Does P (Raise r) to es = (m : Msg) → P m → P (raised r.accepted_idx m)

module _ (P : Msg → Type 0) where
  each-place : (f : Msg → Msg) (k : ℕ) (q : List Msg) → ((m : Msg) → P m → P (f m)) → Each P q → Each P (on_place k f q)
  unfolding on_place
  each-place f k [] g e = none
  each-place f zero (m ∷ q) g (more p e) = more (g m p) e
  each-place f (suc k) (m ∷ q) g (more p e) = more p (each-place f k q g e)

  each-done : (x : Sent) (to : ℕ) (es : List ℕ) (q : List Msg) → Does P x to es → Each P q → Each P (done_to x to es q)
  each-done (New x) to es q d e = each_snoc P q (record { to = to; msg = x; entries = es }) e d
  each-done (Join j) to es q d e = each-place (joined j.decided_idx es) j.at q d e
  each-done (Raise r) to es q d e = each-place (raised r.accepted_idx) r.at q d e

  pub each_all : (f : Sources) (ms : List Send) (q : List Msg) → Each (λ (m : Send). Does P m.what m.to (entries_of f m)) ms → Each P q → Each P (perform_all f ms q)
  unfolding perform_all perform_one
  each_all f [] q d e = e
  each_all f (m ∷ ms) q (more d ds) e = each_all f ms (perform_one f m q) ds (each-done m.what m.to (entries_of f m) q d e)

-- a message whose ballots are known and whose entries are within their limit
abbrev pub Small : ℕ → Type 0
Small n = n ≤ max_entry

pub record FitMsg (c : Configuration) (m : Msg) : Type 0 where
  pub ballots : BallotsKnown c m.msg
  pub entries : Every Small m.entries

decided-known : (c : Configuration) (d : ℕ) (m : PaxosMsg) → BallotsKnown c m → BallotsKnown c (with_decided d m)
decided-known c d (PrepareReq m) k = k
decided-known c d (Prepare m) k = k
decided-known c d (Promise m) k = k
decided-known c d (AcceptSync m) k = k
decided-known c d (AcceptDecide m) k = k
decided-known c d (Accepted m) k = k
decided-known c d (NotAccepted m) k = k
decided-known c d (Decide m) k = k
decided-known c d ProposalForward k = k

accepted-known : (c : Configuration) (a : ℕ) (m : PaxosMsg) → BallotsKnown c m → BallotsKnown c (with_accepted a m)
accepted-known c a (PrepareReq m) k = k
accepted-known c a (Prepare m) k = k
accepted-known c a (Promise m) k = k
accepted-known c a (AcceptSync m) k = k
accepted-known c a (AcceptDecide m) k = k
accepted-known c a (Accepted m) k = k
accepted-known c a (NotAccepted m) k = k
accepted-known c a (Decide m) k = k
accepted-known c a ProposalForward k = k

does-fit : (c : Configuration) (m : Send) (es : List ℕ) → SentKnown c m → Every Small es → Does (FitMsg c) m.what m.to es
does-fit c m es k f = by m.what k
  where
    by : (x : Sent) → SentKnown c (record { to = m.to; what = x; source = m.source; count = m.count }) → Does (FitMsg c) x m.to es
    by (New x) k = record { ballots = k; entries = f }
    by (Join j) k = λ y p. record { ballots = decided-known c j.decided_idx y.msg p.ballots; entries = every_append Small y.entries es p.entries f }
    by (Raise r) k = λ y p. record { ballots = accepted-known c r.accepted_idx y.msg p.ballots; entries = p.entries }

pub all_fit : (c : Configuration) (f : Sources) (Q : Send → Type 0) (ms : List Send) → ((m : Send) → Q m → Every Small (entries_of f m)) → Each (SentKnown c) ms → Each Q ms → Each (λ (m : Send). Does (FitMsg c) m.what m.to (entries_of f m)) ms
all_fit c f Q [] g k e = none
all_fit c f Q (m ∷ ms) g (more p ps) (more q qs) = more (does-fit c m (entries_of f m) p (g m q)) (all_fit c f Q ms g ps qs)

-- heads and the messages that they stand for
module _ (P : Msg → Type 0) (store : List ℕ) where
  pub each-shown : (hs : List Head) → Each (λ (h : Head). P (msg_of store h)) hs → Each P (map (msg_of store) hs)
  each-shown [] e = none
  each-shown (h ∷ hs) (more p e) = more p (each-shown hs e)

  pub each-head : (hs : List Head) → Each P (map (msg_of store) hs) → Each (λ (h : Head). P (msg_of store h)) hs
  each-head [] e = none
  each-head (h ∷ hs) (more p e) = more p (each-head hs e)

-- a head that is fit stands for a message that is
pub head-shown : (c : Configuration) (store : List ℕ) (h : Head) → HeadFit c store h → FitMsg c (msg_of store h)
head-shown c store h f =
    record {
      ballots = f.ballots;
      entries = λ i l. let m : i < h.count = omega (arith, length-take h.count (drop h.start store)) in rw (get_or-take h.count (drop h.start store) i 0 m, get_or-drop h.start store i 0) (f.entries i m);
    }

-- and a head within the store that stands for a message that is fit is fit
pub shown-head : (c : Configuration) (store : List ℕ) (h : Head) → (0 < h.count → h.start + h.count ≤ length store) → FitMsg c (msg_of store h) → (i : ℕ) → i < h.count → get_or store (h.start + i) 0 ≤ max_entry
shown-head c store h b f i l =
    let n : h.start + h.count ≤ length store = b (omega arith) in
    let m : i < length (take h.count (drop h.start store)) = omega (arith, length-take h.count (drop h.start store), length-drop h.start store) in
    rw (get_or-take h.count (drop h.start store) i 0 l, get_or-drop h.start store i 0) at (f.entries i m)
