-- A follower's events: it promises, takes an AcceptSync, takes more entries or a decided index.
use Rattle.std.specs.Prelude.{Option, None, Some}
use Prim.Native.Nat.{ℕ, suc, ◌+◌, ◌≤◌, ◌<◌, min, max}
use mathlib.Core.Path.{◌≡◌, refl, sym, ap, subst, ◌∙◌}
use mathlib.Core.Logic.{◌⊎◌, inl, inr, ◌≢◌}
use mathlib.Core.Bool.{Bool, true, false, ◌&&◌}
use mathlib.Core.List.{List, [], ◌∷◌, ◌++◌, map}
use native.Mathlib.Omega.{arith}
use lib.ListN.{length, take, drop, length-append, length-take}
use Rattle.base.proofs.Tests.{not-both}
use Rattle.ballot.specs.Ballot.{same}
use Rattle.paxos_box.specs.declared.CachedPromise.{CachedPromise}
use Rattle.leader_state.specs.declared.LogSync.{LogSync}
use Rattle.ballot.specs.declared.Ballot.{Ballot}
use Rattle.ballot.proofs.Laws.{same-eq, same_refl as same_self}
use Rattle.sequence.specs.Sequence.{first}
use Rattle.sequence.specs.declared.SequenceNumber.{SequenceNumber}
use Rattle.leader_state.specs.declared.LeaderState.{LeaderState}
use Rattle.paxos_box.specs.declared.InternalStorage.{InternalStorage}
use Rattle.paxos_box.specs.declared.State.{State}
use Rattle.paxos_box.specs.declared.Role.{Role}
use Rattle.paxos_box.specs.declared.Role.TheVariants.{Leader, Follower}
use Rattle.paxos_box.specs.declared.Phase.{Phase}
use Rattle.paxos_box.specs.declared.Phase.TheVariants as phase
use Rattle.paxos_box.specs.Box.{is_leader, is_accept_phase}
use Rattle.agreement.specs.Order.{Below, Upto, leader_of}
use Rattle.agreement.specs.Core.{Sizes, Ghost}
use Rattle.agreement.specs.Moves.{raise, accept}
use Rattle.agreement.specs.Facts.{Comm, Holds, Brought, Taken}
use Rattle.agreement.specs.Report.{from, Asks, Promises, Syncs}
use Rattle.agreement.specs.Stream.{opens, adds, Flow}
use Rattle.agreement.proofs.Update.{ballot-eq}
use Rattle.agreement.proofs.Decided.{decided-up, comm-down, comm-max}
use Rattle.agreement.proofs.Hold.{taken, valid-here, synced, more}
use Rattle.agreement.proofs.Report.{answered}
use Rattle.agreement.proofs.Proposed.{only-raise, only-accept}
use Rattle.agreement.proofs.Flow.{opens-late, took-opens, adds-part, took-adds}
use Rattle.travels.specs.Face.{Face, item, sync_of, taker, takes_in, feeder, feeds_in}
use Rattle.travels.specs.Facts.{Led, InRole, CachedOk}
use Rattle.travels.specs.Inv.{FlowOf}
use Rattle.travels.specs.Near.{Scene, Well, Next}
use Rattle.travels.proofs.Up.{cached-up}
use Rattle.travels.proofs.Moves.{followed, down-idle}
use Rattle.travels.proofs.Tests.{and-false}

-- ---- it promises

-- the face of a depot that has promised n, and caches what it tells
abbrev pub promised_to : Ballot → Option LogSync → List ℕ → Face → Face
promised_to n sync es x =
    record {
      storage = record { promise = n; accepted_round = x.storage.accepted_round; decided_idx = x.storage.decided_idx; accepted_idx = x.storage.accepted_idx };
      log = x.log;
      state = record { role = Follower; phase = phase.Prepare };
      seq = first;
      leader = x.leader;
      best = x.best;
      message = Some (record { n = n; n_accepted = x.storage.accepted_round; decided_idx = x.storage.decided_idx; accepted_idx = x.storage.accepted_idx; sync = sync });
      cached = es;
      buffered = x.buffered;
      meta = x.meta;
      queue = x.queue;
    }

not-leader : {A : Type 0} → false ≡ true → A
not-leader e = absurd (not-both e refl)

module _ {z : Sizes} {P : ℕ → Type 0} {b : ℕ} {c : Scene} {g : Ghost ℕ} {x : Face} (v : Well z P b c g x) where
  holds : Holds z g b x.storage.promise x.storage.accepted_round x.log x.storage.decided_idx
  holds = v.node.own.holds

  pub t-promised : {la ld : ℕ} {n lna : Ballot} (sync : Option LogSync) (es : List ℕ) → Upto x.storage.promise n → Asks z g n lna la ld
      → (Below lna x.storage.accepted_round → sync_of sync es ≡ from ld (drop ld x.log))
      → (lna ≡ x.storage.accepted_round → la < length x.log → sync_of sync es ≡ from la (drop la x.log))
      → Next z P b c g (promised_to n sync es x)
  unfolding raise
  t-promised {n = n} sync es u ask hi lo =
      followed v w.moved (only-raise v.only b n) (promised_to n sync es x) refl refl
      (record {
        own = record { holds = w.holds; length = v.node.own.length };
        role = tt;
        cached = rw v.node.own.length w.answer;
        buffered = v.node.buffered;
        remembers = λ e. not-leader e;
        meta = v.node.meta;
        row = v.node.row;
      })
      (λ m k ne. down-idle v w.moved (promised_to n sync es x) m k ne refl refl)
    where
      w : Promises z g (raise b n g) b n x.storage.accepted_round x.log x.storage.decided_idx (sync_of sync es)
      w = answered v.core holds u ask hi lo

-- ---- it accepts

-- of a ballot that is not the promise nothing is taken
pub takes-other : (n m : Ballot) (x : Face) → x.storage.promise ≡ n → m ≢ n → takes_in m x ≡ false
takes-other n m x p ne = go (same x.storage.promise m) refl (is_accept_phase x.state.phase)
  where
    go : (t : Bool) → same x.storage.promise m ≡ t → (a : Bool) → (a && t) ≡ false
    go true e a = absurd (ne (sym (same-eq x.storage.promise m e) ∙ p))
    go false e a = and-false a

-- in phase Accept the log is of the promise's ballot
pub round-of : (z : Sizes) (g : Ghost ℕ) (b : ℕ) (st : InternalStorage) (log : List ℕ) (l : LeaderState) (best : List ℕ) (r : Role) (p : Phase) → InRole z g b st log l best r p → is_accept_phase p ≡ true
    → st.accepted_round ≡ st.promise
round-of z g b st log l best Leader phase.Prepare o e = absurd (not-both e refl)
round-of z g b st log l best Leader phase.Accept o e = o.round
round-of z g b st log l best Leader phase.Recover o e = absurd o
round-of z g b st log l best Leader phase.None o e = absurd o
round-of z g b st log l best Follower phase.Prepare o e = absurd (not-both e refl)
round-of z g b st log l best Follower phase.Accept o e = o
round-of z g b st log l best Follower phase.Recover o e = absurd (not-both e refl)
round-of z g b st log l best Follower phase.None o e = absurd (not-both e refl)

-- the face of a depot that has accepted a log
abbrev pub took_to : Ballot → ℕ → List ℕ → ℕ → State → SequenceNumber → Option CachedPromise → List ℕ → Face → Face
took_to r d log k s q m es x =
    record {
      storage = record { promise = x.storage.promise; accepted_round = r; decided_idx = d; accepted_idx = k };
      log = log;
      state = s;
      seq = q;
      leader = x.leader;
      best = x.best;
      message = m;
      cached = es;
      buffered = x.buffered;
      meta = x.meta;
      queue = x.queue;
    }

module _ {z : Sizes} {P : ℕ → Type 0} {b : ℕ} {c : Scene} {g : Ghost ℕ} {x : Face} (v : Well z P b c g x) (n : Ballot) (p : x.storage.promise ≡ n) where
  -- it accepts what it was brought in ballot n, and has the decided index d; what is left under way of that ballot follows it
  took : {r : Ballot} {d₀ d k : ℕ} {log : List ℕ} {s : State} (q : SequenceNumber) (m : Option CachedPromise) (es : List ℕ) → r ≡ n → k ≡ length log → is_leader s.role ≡ false → is_accept_phase s.phase ≡ true
      → Brought z g b n d₀ log → d ≤ length log → Comm z g n d → CachedOk z g b m es
      → ((u : leader_of n < z.depots) → leader_of n ≢ b
      → Flow (g.G n) (length log) (map (item n) (c.inn (leader_of n))) (taker n (took_to r d log k s q m es x) (length log)) (feeder (feeds_in n b (c.others (leader_of n))) n b (c.others (leader_of n))))
      → Next z P b c g (took_to r d log k s q m es x)
  unfolding accept
  took {r} {d₀} {d} {k} {log} {s} q m es er ek es' ea w ld cd co fl =
      followed v t.moved (only-accept v.only b n (length log)) y refl es'
      (record {
        own = record { holds = rw (p, er) (t.holds d ld (λ o. decided-up t.moved.ext (cd o))); length = ek };
        role = role s.role s.phase es' ea;
        cached = cached-up z t.moved.ext b m es co;
        buffered = v.node.buffered;
        remembers = λ e. absurd (not-both e es');
        meta = v.node.meta;
        row = v.node.row;
      })
      (λ k u ne. down k u ne (ballot-eq k n))
    where
      y : Face
      y = took_to r d log k s q m es x

      t : Taken z g (accept b n (length log) g) b n log
      t = taken v.core (v.node.own.holds.promise ∙ p) w.fit

      role : (rl : Role) (ph : Phase) → is_leader rl ≡ false → is_accept_phase ph ≡ true → InRole z (accept b n (length log) g) b y.storage log x.leader x.best rl ph
      role Leader ph e f = absurd (not-both refl e)
      role Follower phase.Accept e f = er ∙ sym p
      role Follower phase.Prepare e f = absurd (not-both f refl)
      role Follower phase.Recover e f = absurd (not-both f refl)
      role Follower phase.None e f = absurd (not-both f refl)

      down : (k : Ballot) → leader_of k < z.depots → leader_of k ≢ b → (k ≡ n) ⊎ (k ≢ n)
          → FlowOf (accept b n (length log) g) (g.G k) (feeds_in k b (c.others (leader_of k))) k b (c.inn (leader_of k)) y (c.others (leader_of k))
      down k u ne (inr e) = down-idle v t.moved y k u ne (takes-other n k y p e) (t.else k e)
      down k u ne (inl e) =
          let mine : (leader_of n < z.depots) → (leader_of n ≢ b) → FlowOf (accept b n (length log) g) (g.G n) (feeds_in n b (c.others (leader_of n))) n b (c.inn (leader_of n)) y (c.others (leader_of n)) =
          λ u' ne'. rw t.here (fl u' ne') in
          subst (λ a. (leader_of a < z.depots) → (leader_of a ≢ b) → FlowOf (accept b n (length log) g) (g.G a) (feeds_in a b (c.others (leader_of a))) a b (c.inn (leader_of a)) y (c.others (leader_of a))) (sym e) mine u ne

  -- an AcceptSync
  pub t-synced : {i d : ℕ} {es : List ℕ} (q : SequenceNumber) → Syncs z g b n i es d → leader_of n < z.depots → leader_of n ≢ b
      → Flow (g.G n) (g.A b n) (opens q.session q.counter i es ∷ map (item n) (c.inn (leader_of n))) (taker n x (length x.log)) (feeder (feeds_in n b (c.others (leader_of n))) n b (c.others (leader_of n)))
      → Next z P b c g (took_to n (max x.storage.decided_idx d) (take i x.log ++ es) (i + length es) (record { role = Follower; phase = phase.Accept }) q None [] x)
  t-synced {i} {d} {es} q w u ne f =
      took q None [] refl (sym len) refl refl br (omega (arith, len, br.fits, w.fits)) (comm-max x.storage.decided_idx d br.decided w.decided) tt
      (λ _ _. took-opens f _ (omega (arith, len)) (record { session = refl; counter = refl; length = len }))
    where
      hd : Holds z g b n x.storage.accepted_round x.log x.storage.decided_idx
      hd = rw p at v.node.own.holds

      fits : i ≤ length x.log
      fits = (valid-here v.core hd w.started w.valid).0

      len : length (take i x.log ++ es) ≡ i + length es
      len = simp (length-append, length-take) (omega (arith, fits))

      br : Brought z g b n x.storage.decided_idx (take i x.log ++ es)
      br = synced v.core hd w (opens-late f)

  -- the next entries, perhaps none, and a decided index, which is cut to the log
  pub t-more : {d d' : ℕ} {es log : List ℕ} (q : SequenceNumber) → Led z g n d → leader_of n < z.depots → leader_of n ≢ b → is_leader x.state.role ≡ false → is_accept_phase x.state.phase ≡ true
      → q.session ≡ x.seq.session → q.counter ≡ suc x.seq.counter → log ≡ x.log ++ es → (d' ≡ x.storage.decided_idx) ⊎ (d' ≡ min d (length log))
      → Flow (g.G n) (g.A b n) (adds q.session q.counter es ∷ map (item n) (c.inn (leader_of n))) (taker n x (length x.log)) (feeder (feeds_in n b (c.others (leader_of n))) n b (c.others (leader_of n)))
      → (k : ℕ) → k ≡ length log → Next z P b c g (took_to x.storage.accepted_round d' log k x.state q x.message x.cached x)
  t-more {d} {d'} {es} {log} q w u ne rl ph qs qc is ch f k ek =
      took q x.message x.cached rn ek rl ph br (low ch) (comm ch) v.node.cached
      (λ _ _. took-adds f tk qs qc _ (omega (arith, len)) (record { session = refl; counter = refl; length = len }))
    where
      tk : takes_in n x ≡ true
      tk = rw (ph, p) (same_self n)

      rn : x.storage.accepted_round ≡ n
      rn = round-of z g b x.storage x.log x.leader x.best x.state.role x.state.phase v.node.role ph ∙ p

      hd : Holds z g b n n x.log x.storage.decided_idx
      hd = rw (p, rn) at v.node.own.holds

      len : length log ≡ length x.log + length es
      len = ap length is ∙ length-append x.log es

      br : Brought z g b n x.storage.decided_idx log
      br = rw is (more v.core hd w.started (adds-part f tk qs qc))

      low : (d' ≡ x.storage.decided_idx) ⊎ (d' ≡ min d (length log)) → d' ≤ length log
      low (inl e) = omega (arith, br.fits)
      low (inr e) = omega arith

      comm : (d' ≡ x.storage.decided_idx) ⊎ (d' ≡ min d (length log)) → Comm z g n d'
      comm (inl e) = rw e br.decided
      comm (inr e) = rw e (comm-down (min d (length log)) (omega arith) w.decided)
