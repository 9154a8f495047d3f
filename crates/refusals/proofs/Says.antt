-- What each test says that does not hold.
use Rattle.std.specs.Prelude.{Option, None, Some}
use Prim.Native.Nat.{ℕ, ◌+◌, ◌≤◌, ◌<◌}
use mathlib.Core.Path.{◌≡◌, refl}
use mathlib.Core.Bool.{Bool, true, false, not, ◌&&◌}
use mathlib.Core.List.{List}
use mathlib.Core.Logic.{◌⊎◌, inl, inr}
use native.Mathlib.Omega.{arith}
use lib.Dec.{ltb, eqb}
use lib.ListN.{length, get_or, take, drop, get_or-eq_default}
use lib.Seq.{get_or-take, get_or-drop}
use borrow.Author.Tests.{ltb-true, ltb-false, leb-false, eqb-true, eqb-false, not-false, lt-ltb}
use Rattle.base.specs.Limits.{max_log, max_store, max_entry, max_proposal}
use Rattle.ballot.specs.Ballot.{is_default}
use Rattle.paxos_box.specs.declared.AcceptedAt.{AcceptedAt}
use Rattle.paxos_box.specs.declared.CachedPromise.{CachedPromise}
use Rattle.leader_state.specs.declared.LogSync.{LogSync}
use Rattle.ballot.specs.declared.Ballot.{Ballot}
use Rattle.quorum.specs.Quorum.{stands_of}
use Rattle.quorum.specs.declared.Configuration.{Configuration}
use Rattle.quorum.proofs.Laws.{Stands, stands-says, depot-range}
use Rattle.leader_state.specs.declared.PromiseState.{PromiseState}
use Rattle.leader_state.specs.declared.PromiseState.TheVariants.{NotPromised, Promised, PromisedHigher}
use Rattle.messages.specs.declared.Head.{Head}
use Rattle.messages.specs.declared.PaxosMsg.{PaxosMsg}
use Rattle.messages.specs.declared.PaxosMsg.TheVariants.{PrepareReq, Prepare, Promise, AcceptSync, AcceptDecide, Accepted, NotAccepted, Decide, ProposalForward}
use Rattle.messages.specs.declared.Event.{Event}
use Rattle.messages.specs.declared.Event.TheVariants.{Message, Propose, Leader, Reconnect, Resend, Drain, Restart}
use Rattle.log_plan.specs.Log.{ends_past, sync_end}
use Rattle.hire_book.specs.Book.{any_above, book_length}
use Rattle.hire_book.proofs.Below.{neither}
use Rattle.hire_book.proofs.Entries.{within}
use Rattle.sight.specs.Sight.{part_of}
use Rattle.unfit.specs.Unfit.{no_depot, wrong_sender, stranger_of, is_from, entry_above, either_past, start_past, index_above, count_off, forward_off, foreign, either_foreign, ballot_foreign, ballot_default, not_by, sender_off, decided_above, message_unfit, proposal_unfit, unfit_of}
use Rattle.heads.specs.Heads.{overlap, heads_overlap}
use Rattle.places.specs.Places.{latest_past, promise_else, promise_foreign}
use Rattle.broken.specs.Lent.{Lent}
use Rattle.broken.specs.Broken.{held_above, held_past, meta_past, meta_foreign, cached_foreign, message_default}
use Rattle.refusals.specs.Refusals.{lengths_off, wrong_call, call_off}
use Rattle.refusals.proofs.Taken.{Depot, Known, Real, Fit, FitFrom, Lengths, SyncFit, LatestBelow, PromiseFit, MetaFit, CachedFit, BallotsKnown, Apart, Sender, Proposal, Reports, Led, Brings, MessageFit, EventFit}

-- refusal 1

pub call-says : (c : Configuration) (l : Lent) → call_off c l ≡ false → Stands c × Lengths l
unfolding wrong_call lengths_off
call-says c l e =
    let a = neither (not (stands_of c)) _ e in
    let b = neither (not (eqb (length l.log) max_log)) _ a.1 in
    let d = neither (not (eqb (length l.cached) max_log)) _ b.1 in
    let f = neither (not (eqb (length l.best) max_log)) _ d.1 in
    let g = neither (not (eqb (length l.store) max_store)) _ f.1 in (
      stands-says c (not-false (stands_of c) a.0),
      record {
        log = eqb-true (length l.log) max_log (not-false _ b.0);
        cached = eqb-true (length l.cached) max_log (not-false _ d.0);
        best = eqb-true (length l.best) max_log (not-false _ f.0);
        store = eqb-true (length l.store) max_store (not-false _ g.0);
        book = eqb-true (length l.book) book_length (not-false _ g.1);
      },
    )

-- entries

all_fit : (l : List ℕ) → any_above l ≡ false → (i : ℕ) → get_or l i 0 ≤ max_entry
all_fit l e i = go (ltb i (length l)) refl
  where
    go : (t : Bool) → ltb i (length l) ≡ t → get_or l i 0 ≤ max_entry
    go true p = within l e i (ltb-true i (length l) p)
    go false p = rw (get_or-eq_default l 0 (ltb-false i (length l) p)) (omega arith)

pub fit : (l : List ℕ) → any_above l ≡ false → Fit l (length l)
fit l e i h = all_fit l e i

pub first-fit : (l : List ℕ) (n : ℕ) → any_above (part_of 0 n l) ≡ false → Fit l n
first-fit l n e i h = rw (get_or-take n l i 0 h) at (all_fit (take n l) e i)

pub from-fit : (l : List ℕ) (start n : ℕ) → any_above (part_of start n l) ≡ false → FitFrom l start n
from-fit l start n e i h = rw (get_or-take n (drop start l) i 0 h, get_or-drop start l i 0) at (all_fit (take n (drop start l)) e i)

-- depots and ballots

pub depot : (c : Configuration) (pid : ℕ) → no_depot c pid ≡ false → Depot c pid
depot c pid e = depot-range pid c.depots (not-false _ e)

pub known : (c : Configuration) (n : Ballot) → foreign c n ≡ false → Known c n
unfolding foreign
known c n e d = depot c n.pid (rw d at e)

pub known_both : (c : Configuration) (a b : Ballot) → either_foreign c a b ≡ false → Known c a × Known c b
unfolding either_foreign
known_both c a b e = let p = neither (foreign c a) (foreign c b) e in (known c a p.0, known c b p.1)

real : (c : Configuration) (n : Ballot) → Known c n → is_default n ≡ false → Real c n
real c n k d = (d, k d)

pub ballots : (c : Configuration) (m : PaxosMsg) → ballot_foreign c m ≡ false → BallotsKnown c m
ballots c (PrepareReq m) e = known c m.n e
ballots c (Prepare m) e = known_both c m.n m.n_accepted e
ballots c (Promise m) e = known_both c m.n m.n_accepted e
ballots c (AcceptSync m) e = known c m.n e
ballots c (AcceptDecide m) e = known c m.n e
ballots c (Accepted m) e = known c m.n e
ballots c (NotAccepted m) e = known c m.n e
ballots c (Decide m) e = known c m.n e
ballots c ProposalForward e = tt

-- refusal 2, by parts

pub sync-says : (s : Option LogSync) (buffer : List ℕ) → held_above s buffer ≡ false → held_past s ≡ false → SyncFit s buffer
unfolding ends_past
sync-says None buffer a p = tt
sync-says (Some x) buffer a p = (ltb-false max_log (sync_end x) p, first-fit buffer x.len a)

pub latest-says : (len : ℕ) (l : Option ℕ) → latest_past len l ≡ false → LatestBelow len l
latest-says len None e = tt
latest-says len (Some at) e = leb-false len at e

pub promise-says : (c : Configuration) (pid : ℕ) (p : PromiseState) → promise_else pid p ≡ false → promise_foreign c p ≡ false → PromiseFit c pid p
promise-says c pid NotPromised e f = tt
promise-says c pid (Promised m) e f = (eqb-true m.pid pid (not-false _ e), known c m.n_accepted f)
promise-says c pid PromisedHigher e f = tt

pub meta-says : (c : Configuration) (len : ℕ) (m : Option AcceptedAt) → meta_past len m ≡ false → meta_foreign c m ≡ false → MetaFit c len m
meta-says c len None e f = tt
meta-says c len (Some a) e f = (leb-false len a.at e, known c a.n f)

pub cached-says : (c : Configuration) (m : Option CachedPromise) → cached_foreign c m ≡ false → message_default m ≡ false → CachedFit c m
cached-says c None e f = tt
cached-says c (Some m) e f = let p = known_both c m.n m.n_accepted e in (real c m.n p.0 f, p.1)

pub apart-says : (h g : Head) → heads_overlap h g ≡ false → Apart h g
unfolding overlap
apart-says h g e x y = go (ltb h.start (g.start + g.count)) refl
  where
    go : (t : Bool) → ltb h.start (g.start + g.count) ≡ t → (h.start + h.count ≤ g.start) ⊎ (g.start + g.count ≤ h.start)
    go true p = inl (ltb-false g.start (h.start + h.count) (rw (lt-ltb 0 h.count x, lt-ltb 0 g.count y, p) at e))
    go false p = inr (ltb-false h.start (g.start + g.count) p)

-- refusals 3 and 4

both-within : (a b : ℕ) → either_past a b ≡ false → (a ≤ max_log) × (b ≤ max_log)
unfolding either_past
both-within a b e = let p = neither (ltb max_log a) (ltb max_log b) e in (ltb-false max_log a p.0, ltb-false max_log b p.1)

count-says : (n : ℕ) → count_off n ≡ false → (0 < n) × (n ≤ max_proposal)
unfolding count_off
count-says n e = let p = neither (eqb n 0) (ltb max_proposal n) e in (let ne = eqb-false n 0 p.0 in omega (arith, ne), ltb-false max_proposal n p.1)

proposal : (entries : List ℕ) → any_above entries ≡ false → count_off (length entries) ≡ false → Proposal entries
proposal entries a e = let p = count-says (length entries) e in record { some = p.0; few = p.1; fit = fit entries a }

brings-says : (s : Option ℕ) (entries : List ℕ) → (is_from s && any_above entries) ≡ false → start_past s ≡ false → Brings s entries
brings-says None entries a p = tt
brings-says (Some start) entries a p = (ltb-false max_log start p, fit entries a)

reports : (c : Configuration) (n round : Ballot) (decided accepted : ℕ) → either_past decided accepted ≡ false → either_foreign c n round ≡ false → is_default n ≡ false → ltb accepted decided ≡ false → Reports c n round decided accepted
reports c n round decided accepted i f d w =
    let k = known_both c n round f in
    record { ballot = real c n k.0 d; round-known = k.1; within = ltb-false accepted decided w; last = (both-within decided accepted i).1 }

by : (from : ℕ) (n : Ballot) → not_by from n ≡ false → from ≡ n.pid
by from n e = eqb-true from n.pid (not-false _ e)

led : (c : Configuration) (from : ℕ) (n : Ballot) (decided : ℕ) → decided ≤ max_log → foreign c n ≡ false → is_default n ≡ false → not_by from n ≡ false → Led c from n decided
led c from n decided i f d s = record { ballot = real c n (known c n f) d; sender = by from n s; last = i }

message :
    (c : Configuration) (from : ℕ) (m : PaxosMsg) (entries : List ℕ)
    → entry_above m entries ≡ false
    → index_above m ≡ false
    → forward_off m (length entries) ≡ false
    → ballot_foreign c m ≡ false
    → ballot_default m ≡ false
    → sender_off from m ≡ false
    → decided_above m ≡ false
    → MessageFit c from m entries
unfolding entry_above
message c from (PrepareReq m) entries a i n f d s w = known c m.n f
message c from (Prepare m) entries a i n f d s w = (reports c m.n m.n_accepted m.decided_idx m.accepted_idx i f d w, by from m.n s)
message c from (Promise m) entries a i n f d s w =
    let p = neither (either_past m.decided_idx m.accepted_idx) (start_past m.log_sync) i in
    (reports c m.n m.n_accepted m.decided_idx m.accepted_idx p.0 f d w, brings-says m.log_sync entries a p.1)
message c from (AcceptSync m) entries a i n f d s w =
    let p = both-within m.decided_idx m.sync_idx i in
    (led c from m.n m.decided_idx p.0 f d s, p.1, fit entries a)
message c from (AcceptDecide m) entries a i n f d s w = (led c from m.n m.decided_idx (ltb-false max_log _ i) f d s, fit entries a)
message c from (Accepted m) entries a i n f d s w = (real c m.n (known c m.n f) d, ltb-false max_log _ i)
message c from (NotAccepted m) entries a i n f d s w = real c m.n (known c m.n f) d
message c from (Decide m) entries a i n f d s w = led c from m.n m.decided_idx (ltb-false max_log _ i) f d s
message c from ProposalForward entries a i n f d s w = proposal entries a n

message-says : (c : Configuration) (from : ℕ) (m : PaxosMsg) (entries : List ℕ) → message_unfit c from m entries ≡ false → MessageFit c from m entries
unfolding message_unfit
message-says c from m entries e =
    let p₁ = neither (entry_above m entries) _ e in
    let p₂ = neither (index_above m) _ p₁.1 in
    let p₃ = neither (forward_off m (length entries)) _ p₂.1 in
    let p₄ = neither (ballot_foreign c m) _ p₃.1 in
    let p₅ = neither (ballot_default m) _ p₄.1 in
    let p₆ = neither (sender_off from m) _ p₅.1 in
    message c from m entries p₁.0 p₂.0 p₃.0 p₄.0 p₅.0 p₆.0 p₆.1

sender-says : (c : Configuration) (from : ℕ) → wrong_sender c from ≡ false → Sender c from
unfolding wrong_sender
sender-says c from e = let p = neither (no_depot c from) (eqb from c.pid) e in record { depot = depot c from p.0; other = eqb-false from c.pid p.1 }

proposal-says : (entries : List ℕ) → proposal_unfit entries ≡ false → Proposal entries
unfolding proposal_unfit
proposal-says entries e = let p = neither (any_above entries) (count_off (length entries)) e in proposal entries p.0 p.1

pub event-says : (c : Configuration) (e : Event) (entries : List ℕ) → stranger_of c e ≡ false → unfit_of c e entries ≡ false → EventFit c e entries
event-says c (Message m) entries s u = (sender-says c m.from s, message-says c m.from m.msg entries u)
event-says c Propose entries s u = proposal-says entries u
event-says c (Leader n) entries s u = depot c n.pid s
event-says c (Reconnect pid) entries s u = depot c pid s
event-says c Resend entries s u = tt
event-says c Drain entries s u = tt
event-says c Restart entries s u = tt
