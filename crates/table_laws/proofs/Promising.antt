-- The flags of a Promise's handlers, in words: in (Leader, Prepare), at the read quorum, and in (Leader, Accept).
use Rattle.std.specs.Prelude.{Option, None, Some}
use Prim.Native.Nat.{ℕ, ◌+◌, ◌-◌, ◌≤◌, ◌<◌}
use mathlib.Core.Path.{◌≡◌, refl, ap, sym, subst, ◌∙◌}
use mathlib.Core.Logic.{◌⊎◌, inl, inr, ◌↔◌}
use mathlib.Core.Bool.{Bool, true, false, cond, ◌&&◌, ◌||◌}
use native.Mathlib.Omega.{arith}
use lib.Dec.{ltb, leb, eqb}
use lib.ListN.{length}
use lib.Seq.{get_or-set_same}
use borrow.Author.Tests.{ltb-true, lt-ltb, leb-true, le-leb}
use Rattle.base.proofs.Tests.{not-both}
use Rattle.base.specs.Limits.{max_log, max_depots, largest}
use Rattle.ballot.specs.Ballot.{same}
use Rattle.ballot.proofs.Laws.{same-eq, same_refl}
use Rattle.quorum.specs.declared.Configuration.{Configuration}
use Rattle.leader_state.specs.declared.Depot.{Depot}
use Rattle.leader_state.specs.declared.LeaderState.{LeaderState}
use Rattle.leader_state.specs.declared.LogSync.{LogSync}
use Rattle.leader_state.specs.declared.PromiseMetaData.{PromiseMetaData}
use Rattle.leader_state.specs.declared.PromiseState.{PromiseState}
use Rattle.leader_state.specs.declared.PromiseState.TheVariants.{NotPromised, Promised, PromisedHigher}
use Rattle.leader_state.specs.State.{fresh, depot_of, with_depot, set_accepted, set_promise_state}
use Rattle.leader_state.specs.Promises.{is_promised, max_decided, take_sync}
use Rattle.leader_state.specs.Places.{is_follower}
use Rattle.messages.specs.declared.Promise.{Promise}
use Rattle.paxos_box.specs.declared.SequencePaxos.{SequencePaxos}
use Rattle.paxos_box.specs.declared.Role.TheVariants.{Leader}
use Rattle.paxos_box.specs.declared.Phase.TheVariants as phase
use Rattle.paxos_box.specs.declared.Standing.{Standing}
use Rattle.paxos_box.specs.declared.Standing.TheVariants.{LeaderPrepare, LeaderAccept, FollowerPrepare, FollowerAccept, Other}
use Rattle.paxos_box.specs.declared.LogOp.{LogOp}
use Rattle.paxos_box.specs.declared.LogOp.TheVariants.{Keep}
use Rattle.paxos_box.specs.Box.{unfit, with_state}
use Rattle.sends.specs.declared.Each.TheVariants as each
use Rattle.sends.specs.Sends.{the_depot, log_length, sync_start_of, acc_sync_to}
use Rattle.log_plan.specs.Log.{sync_end, ends_past, kept_of, sync_unfit, sync_log, append_buffered}
use Rattle.leader.specs.Leader.{for_followers, keep_promise, reached, own_accepted, put_op, change_of, leader_syncs, sync_held, sync_by, sync_with_best, sync_taken, handle_majority_promises, keep_sync, handle_promise_prepare, handle_promise_accept, brings_past, promise_in, handle_promise}
use Rattle.sequence_paxos.specs.Decide.{report_of, brought_by}
use Rattle.decide_laws.proofs.Grown.{either}
use Rattle.decide_laws.proofs.Log.{kept-within}
use Rattle.decide_laws.proofs.Leader.{synced-best}
use Rattle.table_laws.specs.Words.{standing, decided_index, AtTop, SomeFollower, PromiseIn, kept_by, is_best, Completes, left_by, with_buffered, EndsPast, BestUnfit, BuiltPast, QuorumUnfit, best-sync, highest-decided, sync-built, PromiseUnfit, brings-past, built-past, at-quorum, PromiseTop, sender-top, follower-top}
use Rattle.table_laws.proofs.Flags.{kept_in, starts_past, unfit_to, top_to, turn_one}
use Rattle.table_laws.proofs.Flagged.{apart, both_true, second-true, Unflagged, Says, says_none, says-unfit, says_map, follower-map, followed}
use Rattle.table_laws.proofs.Following.{put-exactly}
use Rattle.table_laws.proofs.Leading.{follower-kept}

-- Each promised follower is synced
built-exactly : (p : PromiseState) (l : LeaderState) (len : ℕ) → (starts_past p l.n_leader l.max_promise.meta len ≡ true) ↔ BuiltPast p l len
built-exactly (Promised m) l len = (ltb-true len _, lt-ltb len _)
built-exactly NotPromised l len = ((λ e. not-both {b = false} e refl), (λ b. absurd b))
built-exactly PromisedHigher l len = ((λ e. not-both {b = false} e refl), (λ b. absurd b))

follower-promised : (pid : ℕ) (l : LeaderState) → is_follower pid l ≡ true → is_promised (depot_of pid l).promise ≡ true
unfolding is_follower
follower-promised pid l = go (eqb pid l.n_leader.pid)
  where
    go : (b : Bool) → cond b false (is_promised (depot_of pid l).promise) ≡ true → is_promised (depot_of pid l).promise ≡ true
    go true e = absurd (not-both {b = false} e refl)
    go false e = e

-- the leader's record as the loop finds it: the best's sync is taken, and the own accepted index is set
module _ (depots own idx len : ℕ) (l : LeaderState) where
  abbrev after : LeaderState
  after = with_depot own (set_accepted idx) (take_sync l)

  abbrev session_top : Depot → Bool
  session_top d = is_promised d.promise && leb largest d.seq_num.session

  promise-after : (pid : ℕ) → (depot_of pid after).promise ≡ (depot_of pid l).promise
  promise-after pid = kept_in (λ (d : Depot). d.promise) (set_accepted idx) (λ d. refl) l.depots (own - 1) (pid - 1) fresh

  session-after : (pid : ℕ) → session_top (depot_of pid after) ≡ session_top (depot_of pid l)
  session-after pid = kept_in session_top (set_accepted idx) (λ d. refl) l.depots (own - 1) (pid - 1) fresh

  past_after : (pid : ℕ) → starts_past (depot_of pid after).promise l.n_leader l.max_promise.meta len ≡ starts_past (depot_of pid l).promise l.n_leader l.max_promise.meta len
  past_after pid = ap (λ (p : PromiseState). starts_past p l.n_leader l.max_promise.meta len) (promise-after pid)

  same-follower : (pid : ℕ) → is_follower pid after ≡ is_follower pid l
  unfolding is_follower
  same-follower pid = follower-kept own idx pid (take_sync l)

  builds-after : SomeFollower depots after (λ pid. starts_past (depot_of pid after).promise l.n_leader l.max_promise.meta len ≡ true) ↔ SomeFollower depots l (λ pid. BuiltPast (depot_of pid l).promise l len)
  builds-after = (
    follower-map depots after l (λ pid. starts_past (depot_of pid after).promise l.n_leader l.max_promise.meta len ≡ true) (λ pid. BuiltPast (depot_of pid l).promise l len) (λ pid. sym (same-follower pid)) (λ pid h e. (built-exactly (depot_of pid l).promise l len).0 (sym (past_after pid) ∙ e)),
    follower-map depots l after (λ pid. BuiltPast (depot_of pid l).promise l len) (λ pid. starts_past (depot_of pid after).promise l.n_leader l.max_promise.meta len ≡ true) same-follower (λ pid h x. past_after pid ∙ (built-exactly (depot_of pid l).promise l len).1 x),
  )

  tops-after : SomeFollower depots after (λ pid. session_top (depot_of pid after) ≡ true) ↔ SomeFollower depots l (λ pid. AtTop (depot_of pid l).seq_num.session)
  tops-after = (
    follower-map depots after l (λ pid. session_top (depot_of pid after) ≡ true) (λ pid. AtTop (depot_of pid l).seq_num.session) (λ pid. sym (same-follower pid))
        (λ pid h e. leb-true largest (depot_of pid l).seq_num.session (second-true (is_promised (depot_of pid l).promise) (leb largest (depot_of pid l).seq_num.session) (sym (session-after pid) ∙ e))),
    follower-map depots l after (λ pid. AtTop (depot_of pid l).seq_num.session) (λ pid. session_top (depot_of pid after) ≡ true) same-follower
        (λ pid h x. session-after pid ∙ both_true (is_promised (depot_of pid l).promise) (leb largest (depot_of pid l).seq_num.session) (follower-promised pid l h) (le-leb largest (depot_of pid l).seq_num.session x)),
  )

-- of the flags before and after, over the leader's record and the log's length with the buffered entries
pub record AllSynced (depots : ℕ) (l : LeaderState) (len : ℕ) (a b a₁ b₁ : Bool) : Type 0 where
  pub unfit : (a₁ ≡ true) ↔ ((a ≡ true) ⊎ SomeFollower depots l (λ pid. BuiltPast (depot_of pid l).promise l len))
  pub top : (b₁ ≡ true) ↔ ((b ≡ true) ⊎ SomeFollower depots l (λ pid. AtTop (depot_of pid l).seq_num.session))

or_map : (A B C : Type 0) → B ↔ C → (A ⊎ B) ↔ (A ⊎ C)
or_map A B C h = (there, back)
  where
    there : A ⊎ B → A ⊎ C
    there (inl a) = inl a
    there (inr b) = inr (h.0 b)

    back : A ⊎ C → A ⊎ B
    back (inl a) = inl a
    back (inr c) = inr (h.1 c)

-- then the buffered proposals join, and each promised follower is synced
abbrev pub sync_all : SequencePaxos → SequencePaxos
sync_all u = for_followers each.AcceptSync (own_accepted (with_state (record { role = Leader; phase = phase.Accept }) (append_buffered (sync_taken u))))

all-synced : (u : SequencePaxos) → u.config.depots ≤ max_depots → log_length u ≤ max_log → AllSynced u.config.depots u.leader_state (with_buffered (log_length u) u) u.plan.unfit u.plan.top (sync_all u).plan.unfit (sync_all u).plan.top
unfolding append_buffered
all-synced u d h =
    let t = own_accepted (with_state (record { role = Leader; phase = phase.Accept }) (append_buffered (sync_taken u))) in
    let n = u.config.depots in
    let l = u.leader_state in
    let own = u.config.pid in
    let len = with_buffered (log_length u) u in
    let x = followed each.AcceptSync t d (let w = kept-within u.buffered_proposals (log_length u) in omega arith) in
    let p = or_map (u.plan.unfit ≡ true) (SomeFollower n (after n own len len l) (λ pid. starts_past (depot_of pid (after n own len len l)).promise l.n_leader l.max_promise.meta len ≡ true)) (SomeFollower n l (λ pid. BuiltPast (depot_of pid l).promise l len)) (builds-after n own len len l) in
    let q = or_map (u.plan.top ≡ true) (SomeFollower n (after n own len len l) (λ pid. session_top n own len len l (depot_of pid (after n own len len l)) ≡ true)) (SomeFollower n l (λ pid. AtTop (depot_of pid l).seq_num.session)) (tops-after n own len len l) in
    record {
      unfit = ((λ e. p.0 (x.unfit.0 e)), (λ y. x.unfit.1 (p.1 y)));
      top = ((λ e. q.0 (x.top.0 e)), (λ y. x.top.1 (q.1 y)));
    }

-- The best promise's sync

-- it may not be put on, or the highest decided index passes the log that it leaves
abbrev pub Bad : Option LogSync → ℕ → ℕ → ℕ → ℕ → ℕ → Type 0
Bad sync change brings len decided highest = BestUnfit sync change brings len decided ⊎ (left_by sync len < highest)

-- bad, and unfit; or not, and the log is as long as it leaves it
pub data Put (sync : Option LogSync) (change brings len decided highest : ℕ) (a b a₁ b₁ : Bool) (len₁ : ℕ) : Type 0 where
  bad : Bad sync change brings len decided highest → a₁ ≡ true → b₁ ≡ b → Put sync change brings len decided highest a b a₁ b₁ len₁
  good : (Bad sync change brings len decided highest → ⊥) → a₁ ≡ a → b₁ ≡ b → len₁ ≡ left_by sync len → Put sync change brings len decided highest a b a₁ b₁ len₁

abbrev pub PutOn : Option LogSync → ℕ → ℕ → ℕ → SequencePaxos → SequencePaxos → Type 0
PutOn sync change brings highest s u = Put sync change brings (log_length s) (decided_index s) highest s.plan.unfit s.plan.top u.plan.unfit u.plan.top (log_length u)

put-leader : (sync : Option LogSync) (change brings highest : ℕ) (op : LogOp) (s : SequencePaxos) → (BestUnfit sync change brings (log_length s) (decided_index s) → ⊥) → PutOn sync change brings highest s (leader_syncs highest (left_by sync (log_length s)) op s)
unfolding sync_log
put-leader sync change brings highest op s h =
    let end = left_by sync (log_length s) in
    either (PutOn sync change brings highest s) (ltb end highest) (unfit s) (sync_log s.leader_state.n_leader highest end op s)
    (λ e. bad (inr (ltb-true end highest e)) refl refl)
    (λ e. good (none e) refl refl refl)
  where
    none : ltb (left_by sync (log_length s)) highest ≡ false → Bad sync change brings (log_length s) (decided_index s) highest → ⊥
    none e (inl x) = h x
    none e (inr k) = not-both {b = ltb (left_by sync (log_length s)) highest} (lt-ltb (left_by sync (log_length s)) highest k) e

put-held : (x : LogSync) (brought : Bool) (highest : ℕ) (s : SequencePaxos) → PutOn (Some x) (change_of brought s) s.leader_state.max_promise.meta.decided_idx highest s (sync_held x brought highest s)
unfolding sync_held
put-held x brought highest s =
    let change = change_of brought s in
    let brings = s.leader_state.max_promise.meta.decided_idx in
    let test = sync_unfit x change brings s in
    let exactly = put-exactly x change brings s in
    either (PutOn (Some x) change brings highest s) test (unfit s) (leader_syncs highest (sync_end x) (put_op brought x) s)
    (λ e. bad (inl (exactly.0 e)) refl refl)
    (λ e. put-leader (Some x) change brings highest (put_op brought x) s (λ u. not-both {b = test} (exactly.1 u) e))

put-best : (brought : Bool) (s : SequencePaxos) → PutOn s.leader_state.max_promise.sync (change_of brought s) s.leader_state.max_promise.meta.decided_idx (max_decided s.config.depots s.leader_state) s (sync_with_best brought s)
unfolding sync_with_best
put-best brought s = by s.leader_state.max_promise.sync
  where
    highest : ℕ
    highest = max_decided s.config.depots s.leader_state

    by : (x : Option LogSync) → PutOn x (change_of brought s) s.leader_state.max_promise.meta.decided_idx highest s (sync_by x brought highest s)
    by (Some x) = put-held x brought highest s
    by None = put-leader None (change_of brought s) s.leader_state.max_promise.meta.decided_idx highest Keep s (λ b. b)

-- The read quorum

-- from the sync's outcome and the followers' to what is said, over the numbers alone
module _ (sync : Option LogSync) (change brings len decided highest : ℕ) (a b a₁ b₁ a₂ b₂ : Bool) (len₁ : ℕ) (B : ℕ → Type 0) (ca : a ≡ false) where
  quorum-unfit : Put sync change brings len decided highest a b a₁ b₁ len₁ → (a₂ ≡ true) ↔ ((a₁ ≡ true) ⊎ B len₁) → (a₂ ≡ true) ↔ (Bad sync change brings len decided highest ⊎ B (left_by sync len))
  quorum-unfit (bad x e f) h = ((λ k. inl x), (λ k. h.1 (inl e)))
  quorum-unfit (good none e f l) h = ((λ k. there (h.0 k)), back)
    where
      there : (a₁ ≡ true) ⊎ B len₁ → Bad sync change brings len decided highest ⊎ B (left_by sync len)
      there (inl k) = absurd (not-both {b = a₁} k (e ∙ ca))
      there (inr x) = inr (subst B l x)

      back : Bad sync change brings len decided highest ⊎ B (left_by sync len) → a₂ ≡ true
      back (inl x) = absurd (none x)
      back (inr x) = h.1 (inr (subst B (sym l) x))

  below_put : Put sync change brings len decided highest a b a₁ b₁ len₁ → b₁ ≡ b
  below_put (bad x e f) = f
  below_put (good none e f l) = f

-- of a box whose leader's record has the Promise kept
module _ (brought : Bool) (s : SequencePaxos) (c : Unflagged s) (d : s.config.depots ≤ max_depots) (h : log_length s ≤ max_log) where
  abbrev built : ℕ → Type 0
  built len = SomeFollower s.config.depots s.leader_state (λ pid. BuiltPast (depot_of pid s.leader_state).promise s.leader_state (with_buffered len s))

  abbrev sessions : Type 0
  sessions = SomeFollower s.config.depots s.leader_state (λ pid. AtTop (depot_of pid s.leader_state).seq_num.session)

  -- the sync changes neither the leader's record nor the configuration nor the buffered proposals
  synced-all : AllSynced s.config.depots s.leader_state (with_buffered (log_length (sync_with_best brought s)) s) (sync_with_best brought s).plan.unfit (sync_with_best brought s).plan.top (sync_all (sync_with_best brought s)).plan.unfit (sync_all (sync_with_best brought s)).plan.top
  synced-all =
      let u = sync_with_best brought s in
      let x = synced-best brought s h in
      let n : u.config.depots ≡ s.config.depots = ap (λ (c : Configuration). c.depots) x.step.config in
      let l : u.leader_state ≡ s.leader_state = ap (λ (b : SequencePaxos). b.leader_state) x.only in
      let w : u.buffered_proposals ≡ s.buffered_proposals = ap (λ (b : SequencePaxos). b.buffered_proposals) x.only in
      carried u.config.depots s.config.depots u.leader_state s.leader_state u.buffered_proposals s.buffered_proposals (log_length u) u.plan.unfit u.plan.top (sync_all u).plan.unfit (sync_all u).plan.top n l w
      (all-synced u (rw n d) x.within)
    where
      carried : (n₁ n : ℕ) (l₁ l : LeaderState) (w₁ w len : ℕ) (a b a₁ b₁ : Bool) → n₁ ≡ n → l₁ ≡ l → w₁ ≡ w → AllSynced n₁ l₁ (len + kept_of w₁ len) a b a₁ b₁ → AllSynced n l (len + kept_of w len) a b a₁ b₁
      carried n₁ n l₁ l w₁ w len a b a₁ b₁ p q r x = rw (← p, ← q, ← r) x

  says-majority : Says (Bad s.leader_state.max_promise.sync (change_of brought s) s.leader_state.max_promise.meta.decided_idx (log_length s) (decided_index s) (max_decided s.config.depots s.leader_state) ⊎ built (left_by s.leader_state.max_promise.sync (log_length s))) sessions (handle_majority_promises brought s)
  unfolding handle_majority_promises
  says-majority =
      let u = sync_with_best brought s in
      let r = sync_all u in
      let sync = s.leader_state.max_promise.sync in
      let brings = s.leader_state.max_promise.meta.decided_idx in
      let highest = max_decided s.config.depots s.leader_state in
      let below = below_put sync (change_of brought s) brings (log_length s) (decided_index s) highest s.plan.unfit s.plan.top u.plan.unfit u.plan.top r.plan.unfit r.plan.top (log_length u) built c.fit (put-best brought s) in
      record {
        unfit = quorum-unfit sync (change_of brought s) brings (log_length s) (decided_index s) highest s.plan.unfit s.plan.top u.plan.unfit u.plan.top r.plan.unfit r.plan.top (log_length u) built c.fit (put-best brought s) synced-all.unfit;
        top = λ k. ((λ e. some (below ∙ c.below) (synced-all.top.0 e)), (λ x. synced-all.top.1 (inr x)));
      }
    where
      some : (sync_with_best brought s).plan.top ≡ false → ((sync_with_best brought s).plan.top ≡ true) ⊎ sessions → sessions
      some e (inl k) = absurd (not-both {b = (sync_with_best brought s).plan.top} k e)
      some e (inr x) = x

-- A Promise: a sync brought that ends past 512
brings-exactly : (x : Option LogSync) → (brings_past x ≡ true) ↔ EndsPast x
unfolding ends_past
brings-exactly (Some x) = (ltb-true max_log (sync_end x), lt-ltb max_log (sync_end x))
brings-exactly None = ((λ e. not-both {b = false} e refl), (λ b. absurd b))

-- a promise kept changes no depot's session
session-kept : (m : PromiseMetaData) (l : LeaderState) (pid : ℕ) → (depot_of pid (with_depot m.pid (set_promise_state (Promised m)) l)).seq_num.session ≡ (depot_of pid l).seq_num.session
session-kept m l pid = kept_in (λ (d : Depot). d.seq_num.session) (set_promise_state (Promised m)) (λ d. refl) l.depots (m.pid - 1) (pid - 1) fresh

clear_kept : (b : Bool) (sync : Option LogSync) (s : SequencePaxos) → Unflagged s → Unflagged (keep_sync b sync s)
clear_kept true sync s c = c
clear_kept false sync s c = c

-- a flag not set before is what raises it
raised-alone : (a a₁ t t₁ : Bool) → a₁ ≡ (a || t) → a ≡ false → t ≡ t₁ → a₁ ≡ t₁
raised-alone a a₁ t t₁ e p q = e ∙ (rw p q)

-- nor does it change what is seen of the lists
change-kept : (b : Bool) (m : PromiseMetaData) (sync : Option LogSync) (s : SequencePaxos) → change_of b (keep_promise m sync true s) ≡ change_of b s
change-kept true m sync s = refl
change-kept false m sync s = refl

-- in (Leader, Accept): the sender is synced
module _ (m : PromiseMetaData) (s : SequencePaxos) (c : Unflagged s) (p : 0 < m.pid) (row : m.pid ≤ length s.leader_state.depots) where
  sender-promised : the_depot m.pid (keep_promise m None false s) ≡ set_promise_state (Promised m) (the_depot m.pid s)
  sender-promised = get_or-set_same s.leader_state.depots (m.pid - 1) (set_promise_state (Promised m) (the_depot m.pid s)) fresh (omega arith)

  says-sender : Says (log_length s < sync_start_of m s) (AtTop (the_depot m.pid s).seq_num.session) (handle_promise_accept m s)
  unfolding handle_promise_accept
  says-sender =
      let k = keep_promise m None false s in
      let r = acc_sync_to m.pid k in
      let x = turn_one each.AcceptSync m.pid k p in
      let from = sync_start_of m s in
      let top = (the_depot m.pid s).seq_num.session in
      let past = ap (λ (d : Depot). starts_past d.promise s.leader_state.n_leader s.leader_state.max_promise.meta (log_length s)) sender-promised in
      let high = ap (λ (d : Depot). is_promised d.promise && leb largest d.seq_num.session) sender-promised in
      let u : r.plan.unfit ≡ ltb (log_length s) from = raised-alone s.plan.unfit r.plan.unfit (unfit_to each.AcceptSync m.pid k) (ltb (log_length s) from) x.unfit c.fit past in
      let t : r.plan.top ≡ leb largest top = raised-alone s.plan.top r.plan.top (top_to each.AcceptSync m.pid k) (leb largest top) x.top c.below high in
      record {
        unfit = ((λ e. ltb-true (log_length s) from (sym u ∙ e)), (λ h. u ∙ lt-ltb (log_length s) from h));
        top = λ h. ((λ e. leb-true largest top (sym t ∙ e)), (λ h. t ∙ le-leb largest top h));
      }

module _ (m : Promise) (count from : ℕ) (s : SequencePaxos) (c : Unflagged s) (d : s.config.depots ≤ max_depots) (h : log_length s ≤ max_log) (p : 0 < from) (row : from ≤ length s.leader_state.depots) where
  abbrev IsUnfit : Type 0
  IsUnfit = PromiseUnfit m count from s

  abbrev IsTop : Type 0
  IsTop = PromiseTop m count from s

  abbrev report : PromiseMetaData
  report = report_of m from

  abbrev sync : Option LogSync
  sync = brought_by m.log_sync count

  -- what is said at the read quorum, of the record with this Promise kept
  says-quorum : Says (QuorumUnfit (kept_by m count from s) (is_best m from s) s) (SomeFollower s.config.depots (kept_by m count from s) (λ pid. AtTop (the_depot pid s).seq_num.session)) (handle_majority_promises (is_best m from s) (keep_promise report sync true s))
  says-quorum =
      says_map (QuorumUnfit l (is_best m from s) s) (SomeFollower s.config.depots l (λ pid. AtTop (the_depot pid s).seq_num.session)) (Worse ⊎ Built) Kept (handle_majority_promises (is_best m from s) (keep_promise report sync true s)) (there, back) (tops, at_top)
      (says-majority (is_best m from s) (keep_promise report sync true s) c d h)
    where
      l : LeaderState
      l = kept_by m count from s

      Kept : Type 0
      Kept = SomeFollower s.config.depots l (λ pid. AtTop (depot_of pid l).seq_num.session)

      left : ℕ
      left = left_by l.max_promise.sync (log_length s)

      Built : Type 0
      Built = SomeFollower s.config.depots l (λ pid. BuiltPast (depot_of pid l).promise l (with_buffered left s))

      Worse : Type 0
      Worse = Bad l.max_promise.sync (change_of (is_best m from s) (keep_promise report sync true s)) l.max_promise.meta.decided_idx (log_length s) (decided_index s) (max_decided s.config.depots l)

      Fails : ℕ → Type 0
      Fails change = BestUnfit l.max_promise.sync change l.max_promise.meta.decided_idx (log_length s) (decided_index s)

      there : Worse ⊎ Built → QuorumUnfit l (is_best m from s) s
      there (inl (inl x)) = best-sync (subst Fails (change-kept (is_best m from s) report sync s) x)
      there (inl (inr x)) = highest-decided x
      there (inr x) = sync-built x

      back : QuorumUnfit l (is_best m from s) s → Worse ⊎ Built
      back (best-sync x) = inl (inl (subst Fails (sym (change-kept (is_best m from s) report sync s)) x))
      back (highest-decided x) = inl (inr x)
      back (sync-built x) = inr x

      tops : Kept → SomeFollower s.config.depots l (λ pid. AtTop (the_depot pid s).seq_num.session)
      tops x = follower-map s.config.depots l l (λ pid. AtTop (depot_of pid l).seq_num.session) (λ pid. AtTop (the_depot pid s).seq_num.session) (λ pid. refl) (λ pid f y. rw (session-kept report s.leader_state pid) at y) x

      at_top : SomeFollower s.config.depots l (λ pid. AtTop (the_depot pid s).seq_num.session) → Kept
      at_top x = follower-map s.config.depots l l (λ pid. AtTop (the_depot pid s).seq_num.session) (λ pid. AtTop (depot_of pid l).seq_num.session) (λ pid. refl) (λ pid f y. rw (session-kept report s.leader_state pid) y) x

  -- in (Leader, Prepare), with a sync that does not end past 512
  module _ (i : PromiseIn LeaderPrepare m s) (short : brings_past sync ≡ false) where
    not-accept : PromiseIn LeaderAccept m s → ⊥
    not-accept k = apart (sym i.1 ∙ k.1) (omega arith)

    unfit-prepare : IsUnfit → Completes m count from s × QuorumUnfit (kept_by m count from s) (is_best m from s) s
    unfit-prepare (brings-past t e) = absurd (not-both {b = brings_past sync} ((brings-exactly sync).1 e) short)
    unfit-prepare (built-past k e) = absurd (not-accept k)
    unfit-prepare (at-quorum k q) = (k, q)

    top-prepare : IsTop → Completes m count from s × SomeFollower s.config.depots (kept_by m count from s) (λ pid. AtTop (the_depot pid s).seq_num.session)
    top-prepare (sender-top k e) = absurd (not-accept k)
    top-prepare (follower-top k q) = (k, q)

    says-prepare : Says IsUnfit IsTop (handle_promise_prepare report sync s)
    unfolding handle_promise_prepare
    says-prepare =
        let k = keep_promise report sync true s in
        let test = reached report sync true s in
        let r = handle_majority_promises (is_best m from s) k in
        let q = keep_sync (is_best m from s) sync k in
        either (Says IsUnfit IsTop) test r q
        (λ e. says_map IsUnfit IsTop (QuorumUnfit (kept_by m count from s) (is_best m from s) s) (SomeFollower s.config.depots (kept_by m count from s) (λ pid. AtTop (the_depot pid s).seq_num.session)) r ((λ x. at-quorum (i, e) x), (λ x. (unfit-prepare x).1)) ((λ x. follower-top (i, e) x), (λ x. (top-prepare x).1)) says-quorum)
        (λ e. says_none IsUnfit IsTop q (clear_kept (is_best m from s) sync k c) (λ x. not-both {b = test} (unfit-prepare x).0.1 e) (λ x. not-both {b = test} (top-prepare x).0.1 e))

  -- in (Leader, Accept)
  module _ (i : PromiseIn LeaderAccept m s) (short : brings_past sync ≡ false) where
    not-prepare : PromiseIn LeaderPrepare m s → ⊥
    not-prepare k = apart (sym i.1 ∙ k.1) (omega arith)

    unfit-accept : IsUnfit → log_length s < sync_start_of report s
    unfit-accept (brings-past t e) = absurd (not-both {b = brings_past sync} ((brings-exactly sync).1 e) short)
    unfit-accept (built-past k e) = e
    unfit-accept (at-quorum k q) = absurd (not-prepare k.0)

    top-accept : IsTop → AtTop (the_depot from s).seq_num.session
    top-accept (sender-top k e) = e
    top-accept (follower-top k q) = absurd (not-prepare k.0)

    says-accept : Says IsUnfit IsTop (handle_promise_accept report s)
    says-accept = says_map IsUnfit IsTop (log_length s < sync_start_of report s) (AtTop (the_depot from s).seq_num.session) (handle_promise_accept report s) ((λ x. built-past i x), unfit-accept) ((λ x. sender-top i x), top-accept) (says-sender report s c p row)

  -- in no other state, and of no other ballot
  unfit-taken : IsUnfit → PromiseIn LeaderPrepare m s ⊎ PromiseIn LeaderAccept m s
  unfit-taken (brings-past t e) = t
  unfit-taken (built-past k e) = inr k
  unfit-taken (at-quorum k q) = inl k.0

  top_taken : IsTop → PromiseIn LeaderPrepare m s ⊎ PromiseIn LeaderAccept m s
  top_taken (sender-top k e) = inr k
  top_taken (follower-top k q) = inl k.0

  says-ignored : (PromiseIn LeaderPrepare m s ⊎ PromiseIn LeaderAccept m s → ⊥) → Says IsUnfit IsTop s
  says-ignored f = says_none IsUnfit IsTop s c (λ x. f (unfit-taken x)) (λ x. f (top_taken x))

  pub says-promise : Says IsUnfit IsTop (handle_promise m.n report sync s)
  unfolding handle_promise
  says-promise =
      either (Says IsUnfit IsTop) (same m.n s.leader_state.n_leader) (promise_in (standing s) report sync s) s
      (λ e. by (same-eq m.n s.leader_state.n_leader e) (standing s) refl)
      (λ e. says-ignored (λ t. unequal e t))
    where
      unequal : same m.n s.leader_state.n_leader ≡ false → PromiseIn LeaderPrepare m s ⊎ PromiseIn LeaderAccept m s → ⊥
      unequal e (inl t) = not-both {b = same m.n s.leader_state.n_leader} (rw t.0 (same_refl s.leader_state.n_leader)) e
      unequal e (inr t) = not-both {b = same m.n s.leader_state.n_leader} (rw t.0 (same_refl s.leader_state.n_leader)) e

      past : PromiseIn LeaderPrepare m s ⊎ PromiseIn LeaderAccept m s → brings_past sync ≡ true → Says IsUnfit IsTop (unfit s)
      past t e = says-unfit IsUnfit IsTop (unfit s) refl (brings-past t ((brings-exactly sync).0 e))

      elsewhere : (t : Standing) → standing s ≡ t → (t ≡ LeaderPrepare → ⊥) → (t ≡ LeaderAccept → ⊥) → PromiseIn LeaderPrepare m s ⊎ PromiseIn LeaderAccept m s → ⊥
      elsewhere t e f g (inl k) = f (sym e ∙ k.1)
      elsewhere t e f g (inr k) = g (sym e ∙ k.1)

      other : (t : Standing) → standing s ≡ t → (t ≡ LeaderPrepare → ⊥) → (t ≡ LeaderAccept → ⊥) → Says IsUnfit IsTop s
      other t e f g = says-ignored (elsewhere t e f g)

      by : m.n ≡ s.leader_state.n_leader → (t : Standing) → standing s ≡ t → Says IsUnfit IsTop (promise_in t report sync s)
      by n LeaderPrepare e =
          either (Says IsUnfit IsTop) (brings_past sync) (unfit s) (handle_promise_prepare report sync s) (past (inl (n, e))) (λ f. says-prepare (n, e) f)
      by n LeaderAccept e = either (Says IsUnfit IsTop) (brings_past sync) (unfit s) (handle_promise_accept report s) (past (inr (n, e))) (λ f. says-accept (n, e) f)
      by n FollowerPrepare e = other FollowerPrepare e (λ k. apart k (omega arith)) (λ k. apart k (omega arith))
      by n FollowerAccept e = other FollowerAccept e (λ k. apart k (omega arith)) (λ k. apart k (omega arith))
      by n Other e = other Other e (λ k. apart k (omega arith)) (λ k. apart k (omega arith))
