-- What every step keeps, and by how much its plan grows: the records that the laws of the sends and of the handlers are about, and how they join.
use Prim.Native.Nat.{ℕ, zero, suc, ◌+◌, ◌*◌, ◌≤◌, ◌<◌, max}
use mathlib.Core.Path.{◌≡◌, refl, ap, ◌∙◌}
use mathlib.Core.Logic.{◌⊎◌, inl, inr}
use mathlib.Core.Bool.{Bool, true, false, cond}
use mathlib.Core.List.{List, [], ◌∷◌}
use native.Mathlib.Omega.{arith}
use native.Mathlib.Numerals.{add-one}
use lib.Dec.{ltb, eqb}
use lib.ListN.{get_or, take, set}
use Rattle.base.specs.Limits.{max_log}
use Rattle.base.specs.Count.{one}
use Rattle.base.proofs.Meet.{one-le}
use Rattle.ballot.specs.Ballot.{above}
use Rattle.ballot.specs.declared.Ballot.{Ballot}
use Rattle.ballot.proofs.Laws.{transitive}
use Rattle.quorum.specs.declared.Configuration.{Configuration}
use Rattle.leader_state.specs.declared.Depot.{Depot}
use Rattle.leader_state.specs.State.{fresh, with_depots}
use Rattle.leader_state.proofs.Past.{KeptPast}
use Rattle.paxos_box.specs.declared.SequencePaxos.{SequencePaxos}
use Rattle.paxos_box.specs.declared.Outgoing.{Outgoing}
use Rattle.paxos_box.specs.declared.Plan.{Plan}
use Rattle.paxos_box.specs.declared.Send.{Send}
use Rattle.paxos_box.specs.declared.Sends.{Sends}
use Rattle.paxos_box.specs.declared.Sight.{Sight}
use Rattle.paxos_box.specs.Box.{with_plan, with_leader, sending, planned}
use Rattle.paxos_box.specs.Room.{items_of}
use Rattle.paxos_box.proofs.Rooms.{new-le}

-- a choice by a test has what both sides have
pub either : {A : Type 0} (P : A → Type 0) (b : Bool) (x y : A) → (b ≡ true → P x) → (b ≡ false → P y) → P (cond b x y)
either P true x y f g = f refl
either P false x y f g = g refl

-- at most k things and k new messages more, each of at most 512 entries
pub record Grown (k : ℕ) (p q : Sends) : Type 0 where
  pub rises : p.count ≤ q.count
  pub things : q.count ≤ p.count + k
  pub messages : q.messages ≤ p.messages + k
  pub entries : q.entries ≤ p.entries + max_log * k

pub grown-none : (p : Sends) → Grown 0 p p
grown-none p = record { rises = omega arith; things = omega arith; messages = omega arith; entries = omega arith }

pub grown-more : {j : ℕ} {p q : Sends} (k : ℕ) → j ≤ k → Grown j p q → Grown k p q
grown-more k h g = record { rises = g.rises; things = omega (arith, g.things); messages = omega (arith, g.messages); entries = omega (arith, g.entries) }

pub grown-then : {j k : ℕ} {p q r : Sends} → Grown j p q → Grown k q r → Grown (j + k) p r
grown-then g h =
    record {
      rises = omega (arith, g.rises, h.rises);
      things = omega (arith, g.things, h.things);
      messages = omega (arith, g.messages, h.messages);
      entries = omega (arith, g.entries, h.entries);
    }

pub grown-push : (m : Send) (p : Plan) → m.count ≤ max_log → Grown 1 p.sends (planned m p).sends
unfolding planned
grown-push m p h =
    either (λ (q : Plan). Grown 1 p.sends q.sends) (ltb p.sends.count 8) _ _
    (λ e. record { rises = omega arith; things = omega arith; messages = omega (arith, new-le m.what); entries = omega arith })
    (λ e. grown-more 1 (omega arith) (grown-none p.sends))

-- of the plan only the sends change
pub planned-only : (m : Send) (p : Plan) → planned m p ≡ record { sends = (planned m p).sends; writes = p.writes; unfit = p.unfit; top = p.top; sight = p.sight }
unfolding planned
planned-only m p = go (ltb p.sends.count 8)
  where
    go : (b : Bool) → cond b (record { sends = sending m p.sends; writes = p.writes; unfit = p.unfit; top = p.top; sight = p.sight }) p ≡ record { sends = (cond b (record { sends = sending m p.sends; writes = p.writes; unfit = p.unfit; top = p.top; sight = p.sight }) p).sends; writes = p.writes; unfit = p.unfit; top = p.top; sight = p.sight }
    go true = refl
    go false = refl

-- the pid of a depot
abbrev pub InPlace : ℕ → Configuration → Type 0
InPlace pid c = (0 < pid) × (pid ≤ c.depots)

-- each of some planned things goes to a depot
abbrev pub ToDepots : Configuration → List Send → Type 0
ToDepots c [] = Unit {0}
ToDepots c (m ∷ ms) = InPlace m.to c × ToDepots c ms

abbrev pub Goes : Configuration → Sends → Type 0
Goes c p = ToDepots c (items_of p)

pub goes_none : (c : Configuration) (p : Sends) → p.count ≡ 0 → Goes c p
goes_none c p e = rw e tt

goes-more : (c : Configuration) (l : List Send) (n : ℕ) (m : Send) → InPlace m.to c → ToDepots c (take n l) → ToDepots c (take (suc n) (set l n m))
goes-more c [] n m h a = tt
goes-more c (x ∷ l) zero m h a = (h, tt)
goes-more c (x ∷ l) (suc n) m h a = (a.0, goes-more c l n m h a.1)

pub goes-push : (c : Configuration) (m : Send) (p : Plan) → InPlace m.to c → Goes c p.sends → Goes c (planned m p).sends
unfolding planned
goes-push c m p h a =
    either (λ (q : Plan). Goes c q.sends) (ltb p.sends.count 8) _ _
    (λ e. rw add-one (goes-more c p.sends.items p.sends.count m h a))
    (λ e. a)

-- nothing to anyone; one thing to a depot alone
abbrev pub nobody : ℕ → ℕ
nobody pid = 0

unfoldable pub just_to : ℕ → ℕ → ℕ
just_to to pid = one (eqb pid to)

-- how many of some planned things go to a depot
abbrev pub sent_in : ℕ → List Send → ℕ
sent_in pid [] = 0
sent_in pid (m ∷ ms) = just_to m.to pid + sent_in pid ms

abbrev pub sent_to : ℕ → Sends → ℕ
sent_to pid p = sent_in pid (items_of p)

pub sent-nothing : (pid : ℕ) (p : Sends) → p.count ≡ 0 → sent_to pid p ≡ 0
sent-nothing pid p e = rw e

sent-in-more : (pid : ℕ) (l : List Send) (n : ℕ) (m : Send) → sent_in pid (take (suc n) (set l n m)) ≤ sent_in pid (take n l) + just_to m.to pid
sent-in-more pid [] n m = omega arith
sent-in-more pid (x ∷ l) zero m = omega arith
sent-in-more pid (x ∷ l) (suc n) m = omega (arith, sent-in-more pid l n m)

pub each-push : (m : Send) (p : Plan) (pid : ℕ) → sent_to pid (planned m p).sends ≤ sent_to pid p.sends + just_to m.to pid
unfolding planned
each-push m p pid =
    either (λ (q : Plan). sent_to pid q.sends ≤ sent_to pid p.sends + just_to m.to pid) (ltb p.sends.count 8) _ _
    (λ e. rw add-one (sent-in-more pid p.sends.items p.sends.count m))
    (λ e. omega arith)

-- a promise is the same or a higher one
abbrev pub Rises : Ballot → Ballot → Type 0
Rises a b = (b ≡ a) ⊎ (above b a ≡ true)

pub rises-then : (a b c : Ballot) → Rises a b → Rises b c → Rises a c
rises-then a b c (inl p) (inl q) = inl (q ∙ p)
rises-then a b c (inl p) (inr q) = inr (rw p at q)
rises-then a b c (inr p) (inl q) = inr (rw (← q) at p)
rises-then a b c (inr p) (inr q) = inr (transitive c b a q p)

-- a decided index within its log: it stays within, and never falls
abbrev pub Decides : ℕ → ℕ → ℕ → ℕ → Type 0
Decides d a d₁ a₁ = d ≤ a → (d ≤ d₁) × (d₁ ≤ a₁)

-- of two boxes: configuration, queue and sight are the same, the plan has grown by k, by n to each depot and to depots alone, places past the depots are as found, the promise is not lower,
-- the decided index is not lower, and the log is within its limit or longer by j at most. Over the parts, so that a change of another part is none here
pub record Moved (j n k : ℕ) (c c₁ : Configuration) (o o₁ : Outgoing) (g g₁ : Sight) (p p₁ : Sends) (l l₁ : List Depot) (b b₁ : Ballot) (d a d₁ a₁ : ℕ) : Type 0 where
  pub config : c₁ ≡ c
  pub outgoing : o₁ ≡ o
  pub sight : g₁ ≡ g
  pub grown : Grown k p p₁
  pub goes : Goes c p → Goes c p₁
  pub each : (pid : ℕ) → sent_to pid p₁ ≤ sent_to pid p + n
  pub past : (i : ℕ) → c.depots ≤ i → get_or l₁ i fresh ≡ get_or l i fresh
  pub promise : Rises b b₁
  pub decided : Decides d a d₁ a₁
  pub log : a₁ ≤ max max_log (a + j)

-- a step by which the log may grow by j entries past its limit, and one by which it does not grow past it
abbrev pub Longer : ℕ → ℕ → ℕ → SequencePaxos → SequencePaxos → Type 0
Longer j n k s r =
    Moved j n k s.config r.config s.outgoing r.outgoing s.plan.sight r.plan.sight s.plan.sends r.plan.sends
    s.leader_state.depots r.leader_state.depots s.internal_storage.promise r.internal_storage.promise
    s.internal_storage.decided_idx s.internal_storage.accepted_idx r.internal_storage.decided_idx r.internal_storage.accepted_idx

abbrev pub Step : ℕ → ℕ → SequencePaxos → SequencePaxos → Type 0
Step n k s r = Longer 0 n k s r

pub step-none : (s : SequencePaxos) → Step 0 0 s s
step-none s =
    record { config = refl; outgoing = refl; sight = refl; grown = grown-none s.plan.sends; goes = λ a. a; each = λ pid. omega arith; past = λ i h. refl; promise = inl refl; decided = λ h. (omega arith, h); log = omega arith }

module _ {m i j n k : ℕ} {c c₁ c₂ : Configuration} {o o₁ o₂ : Outgoing} {g g₁ g₂ : Sight} {p p₁ p₂ : Sends} {l l₁ l₂ : List Depot} {b b₁ b₂ : Ballot} {d a d₁ a₁ d₂ a₂ : ℕ} where
  pub step_then : Moved m i j c c₁ o o₁ g g₁ p p₁ l l₁ b b₁ d a d₁ a₁ → Moved 0 n k c₁ c₂ o₁ o₂ g₁ g₂ p₁ p₂ l₁ l₂ b₁ b₂ d₁ a₁ d₂ a₂ → Moved m (i + n) (j + k) c c₂ o o₂ g g₂ p p₂ l l₂ b b₂ d a d₂ a₂
  step_then x y =
      record {
        config = y.config ∙ x.config;
        outgoing = y.outgoing ∙ x.outgoing;
        sight = y.sight ∙ x.sight;
        grown = grown-then x.grown y.grown;
        goes = λ a. rw x.config at (y.goes (rw x.config (x.goes a)));
        each = λ pid. omega (arith, x.each pid, y.each pid);
        past = λ i h. y.past i (rw x.config h) ∙ x.past i h;
        promise = rises-then b b₁ b₂ x.promise y.promise;
        decided = λ h. let e = x.decided h in let f = y.decided e.1 in (omega (arith, e.0, f.0), f.1);
        log = omega (arith, x.log, y.log);
      }

module _ {m i j : ℕ} {c c₁ : Configuration} {o o₁ : Outgoing} {g g₁ : Sight} {p p₁ : Sends} {l l₁ : List Depot} {b b₁ : Ballot} {d a d₁ a₁ : ℕ} where
  pub step-more : {n : ℕ} → Moved m i j c c₁ o o₁ g g₁ p p₁ l l₁ b b₁ d a d₁ a₁ → (k : ℕ) → (i ≤ n) × (j ≤ k) → Moved m n k c c₁ o o₁ g g₁ p p₁ l l₁ b b₁ d a d₁ a₁
  step-more x k h =
      record { config = x.config; outgoing = x.outgoing; sight = x.sight; grown = grown-more k h.1 x.grown; goes = x.goes; each = λ pid. omega (arith, x.each pid, h.0); past = x.past; promise = x.promise; decided = x.decided; log = x.log }

  pub step-longer : Moved m i j c c₁ o o₁ g g₁ p p₁ l l₁ b b₁ d a d₁ a₁ → (n : ℕ) → m ≤ n → Moved n i j c c₁ o o₁ g g₁ p p₁ l l₁ b b₁ d a d₁ a₁
  step-longer x n h =
      record { config = x.config; outgoing = x.outgoing; sight = x.sight; grown = x.grown; goes = x.goes; each = x.each; past = x.past; promise = x.promise; decided = x.decided; log = omega (arith, x.log) }

-- only what outlives a restart changes; only the leader's places do
module _ {c : Configuration} {o : Outgoing} {g : Sight} {p : Sends} {l : List Depot} {b : Ballot} {d a : ℕ} where
  pub step-stored : {b₁ : Ballot} {d₁ a₁ m : ℕ} → Rises b b₁ → Decides d a d₁ a₁ → a₁ ≤ max max_log (a + m) → Moved m 0 0 c c o o g g p p l l b b₁ d a d₁ a₁
  step-stored r h n = record { config = refl; outgoing = refl; sight = refl; grown = grown-none p; goes = λ q. q; each = λ pid. omega arith; past = λ i k. refl; promise = r; decided = h; log = n }

  pub step-places : {l₁ : List Depot} → ((i : ℕ) → c.depots ≤ i → get_or l₁ i fresh ≡ get_or l i fresh) → Moved 0 0 0 c c o o g g p p l l₁ b b d a d a
  step-places h = record { config = refl; outgoing = refl; sight = refl; grown = grown-none p; goes = λ q. q; each = λ pid. omega arith; past = h; promise = inl refl; decided = λ k. (omega arith, k); log = omega arith }

-- what sends of so many things to each depot leave: all but the plan and the leader's places, and of these the writes, the sight, the leader's ballot and the best promise
pub record Sent (w : ℕ → ℕ) (k : ℕ) (s r : SequencePaxos) : Type 0 where
  pub only : r ≡ with_plan r.plan (with_leader r.leader_state s)
  pub leader : r.leader_state ≡ with_depots r.leader_state.depots s.leader_state
  pub writes : r.plan.writes ≡ s.plan.writes
  pub sight : r.plan.sight ≡ s.plan.sight
  pub grown : Grown k s.plan.sends r.plan.sends
  pub goes : Goes s.config s.plan.sends → Goes s.config r.plan.sends
  pub each : (pid : ℕ) → sent_to pid r.plan.sends ≤ sent_to pid s.plan.sends + w pid
  pub past : KeptPast s.config.depots s.leader_state r.leader_state

-- no send, and one to a depot
abbrev pub Quiet : SequencePaxos → SequencePaxos → Type 0
Quiet s r = Sent nobody 0 s r

abbrev pub SentOne : ℕ → SequencePaxos → SequencePaxos → Type 0
SentOne to s r = Sent (just_to to) 1 s r

just-one : (to pid : ℕ) → just_to to pid ≤ 1
unfolding just_to
just-one to pid = one-le (eqb pid to)

module _ {w : ℕ → ℕ} {k : ℕ} {s r : SequencePaxos} (x : Sent w k s r) where
  pub same-config : r.config ≡ s.config
  same-config = ap (λ (b : SequencePaxos). b.config) x.only

  pub same-storage : r.internal_storage ≡ s.internal_storage
  same-storage = ap (λ (b : SequencePaxos). b.internal_storage) x.only

  pub sent-step : (n : ℕ) → ((pid : ℕ) → w pid ≤ n) → Step n k s r
  sent-step n h =
      record {
        config = same-config;
        outgoing = ap (λ (b : SequencePaxos). b.outgoing) x.only;
        sight = x.sight;
        grown = x.grown;
        goes = x.goes;
        each = λ pid. omega (arith, x.each pid, h pid);
        past = x.past;
        promise = inl (ap (λ t. t.promise) same-storage);
        decided = λ h. let d = ap (λ t. t.decided_idx) same-storage in let a = ap (λ t. t.accepted_idx) same-storage in (omega (arith, d), omega (arith, d, a));
        log = let a = ap (λ t. t.accepted_idx) same-storage in omega (arith, a);
      }

  pub sent-more : (v : ℕ → ℕ) (n : ℕ) → ((pid : ℕ) → w pid ≤ v pid) → k ≤ n → Sent v n s r
  sent-more v n f h = record { only = x.only; leader = x.leader; writes = x.writes; sight = x.sight; grown = grown-more n h x.grown; goes = x.goes; each = λ pid. omega (arith, x.each pid, f pid); past = x.past }

pub sent-none : (s : SequencePaxos) → Quiet s s
sent-none s = record { only = refl; leader = refl; writes = refl; sight = refl; grown = grown-none s.plan.sends; goes = λ a. a; each = λ pid. omega arith; past = λ i h. refl }

pub sent-then : {w v : ℕ → ℕ} {j k : ℕ} {s r t : SequencePaxos} → Sent w j s r → Sent v k r t → Sent (λ pid. w pid + v pid) (j + k) s t
sent-then {w} {v} {j} {k} {s} {r} {t} x y =
    record {
      only = y.only ∙ ap (λ (b : SequencePaxos). with_plan t.plan (with_leader t.leader_state b)) x.only;
      leader = y.leader ∙ ap (with_depots t.leader_state.depots) x.leader;
      writes = y.writes ∙ x.writes;
      sight = y.sight ∙ x.sight;
      grown = grown-then x.grown y.grown;
      goes = λ a. rw (same-config x) at (y.goes (rw (same-config x) (x.goes a)));
      each = λ pid. omega (arith, x.each pid, y.each pid);
      past = λ i h. y.past i (rw (same-config x) h) ∙ x.past i h;
    }

-- after no send, a send
pub sent-after : {w : ℕ → ℕ} {k : ℕ} {s r t : SequencePaxos} → Quiet s r → Sent w k r t → Sent w k s t
sent-after {w} {k} x y = sent-more (sent-then x y) w k (λ pid. omega arith) (omega arith)

pub quiet_step : {s r : SequencePaxos} → Quiet s r → Step 0 0 s r
quiet_step x = sent-step x 0 (λ pid. omega arith)

pub one-step : {s r : SequencePaxos} (to : ℕ) → SentOne to s r → Step 1 1 s r
one-step to x = sent-step x 1 (just-one to)
