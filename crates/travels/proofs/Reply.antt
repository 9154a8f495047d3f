-- Small changes: what is buffered, what is remembered, a waiting message edited, a depot that is a follower again, a restart.
use Rattle.std.specs.Prelude.{Option, None, Some}
use Prim.Native.Nat.{ℕ, suc, ◌+◌, ◌<◌}
use mathlib.Core.Path.{◌≡◌, refl, sym, ap, subst}
use mathlib.Core.Logic.{◌⊎◌, inl, inr, ◌≢◌}
use mathlib.Core.Bool.{Bool, true, false}
use mathlib.Core.List.{List, [], ◌∷◌, ◌++◌, map, append_assoc, append-nil}
use native.Mathlib.Omega.{arith}
use lib.ListN.{length, take, drop, set}
use Rattle.base.proofs.Tests.{not-both}
use Rattle.base.specs.Limits.{max_depots}
use Rattle.paxos_box.specs.declared.AcceptedAt.{AcceptedAt}
use Rattle.ballot.specs.declared.Ballot.{Ballot}
use Rattle.sequence.specs.Sequence.{first}
use Rattle.leader_state.specs.declared.LeaderState.{LeaderState}
use Rattle.messages.specs.declared.PaxosMsg.TheVariants as msg
use Rattle.paxos_box.specs.declared.Phase.{Phase}
use Rattle.paxos_box.specs.declared.Phase.TheVariants as phase
use Rattle.paxos_box.specs.declared.Role.TheVariants.{Follower}
use Rattle.paxos_box.specs.Box.{is_leader, is_accept_phase}
use Rattle.outgoing.specs.Queue.{Msg}
use Rattle.agreement.specs.Order.{leader_of}
use Rattle.agreement.specs.Core.{Sizes, Ghost}
use Rattle.agreement.specs.Growth.{Moved}
use Rattle.agreement.specs.All.{All, nil, cons}
use Rattle.agreement.specs.Queue.{sel, There}
use Rattle.agreement.proofs.Update.{depot-eq}
use Rattle.agreement.proofs.Growth.{ext_refl}
use Rattle.agreement.proofs.All.{all-sub, sub-front, sub-map}
use Rattle.agreement.proofs.Queue.{sel-cut, sel-set, sel-else, there-new, there-edit}
use Rattle.agreement.proofs.Flow.{flow-sub}
use Rattle.travels.specs.Face.{Face, item, with_queue, with_meta, with_buffered, with_state, push}
use Rattle.travels.specs.Facts.{Ok, Reached, InRole, MetaOk, no_msg}
use Rattle.travels.specs.Inv.{for_depot, FlowOf}
use Rattle.travels.specs.Near.{Scene, Near, Well, Next}
use Rattle.travels.proofs.Queues.{to_of, pushed}
use Rattle.travels.proofs.Moves.{followed, down-idle, up_left}
use Rattle.travels.proofs.Follow.{round-of}

module _ {z : Sizes} {P : ℕ → Type 0} {b : ℕ} {c : Scene} {g : Ghost ℕ} {whole : Ballot → ℕ → List ℕ} {fed : Ballot → ℕ → Bool} {x : Face} (v : Near z P b c g whole fed x) where
  -- other proposals are buffered
  pub rebuffered : {es : List ℕ} → All P es → Near z P b c g whole fed (with_buffered es x)
  rebuffered a =
      record {
        core = v.core;
        only = v.only;
        node = record { own = v.node.own; role = v.node.role; cached = v.node.cached; buffered = a; remembers = v.node.remembers; meta = v.node.meta; row = v.node.row };
        msgs = v.msgs;
        down = v.down;
        up = v.up;
      }

  -- another Accepted is remembered
  remeta : (m : Option AcceptedAt) → MetaOk m x.queue → Near z P b c g whole fed (with_meta m x)
  remeta m o =
      record {
        core = v.core;
        only = v.only;
        node = record { own = v.node.own; role = v.node.role; cached = v.node.cached; buffered = v.node.buffered; remembers = v.node.remembers; meta = o; row = v.node.row };
        msgs = v.msgs;
        down = v.down;
        up = v.up;
      }

-- one message of a list is changed
all-swap : {Q : Msg → Type 0} (pre : List Msg) (m m' : Msg) (post : List Msg) → Q m' → All Q (pre ++ (m ∷ post)) → All Q (pre ++ (m' ∷ post))
all-swap [] m m' post p (cons q qs) = cons p qs
all-swap (x ∷ pre) m m' post p (cons q qs) = cons q (all-swap pre m m' post p qs)

map-swap : (n : Ballot) (pre : List Msg) (m m' : Msg) (post : List Msg) → item n m' ≡ item n m → map (item n) (pre ++ (m' ∷ post)) ≡ map (item n) (pre ++ (m ∷ post))
map-swap n [] m m' post p = ap (λ i. i ∷ map (item n) post) p
map-swap n (x ∷ pre) m m' post p = ap (λ l. item n x ∷ l) (map-swap n pre m m' post p)

-- a waiting message is changed in its place: what its receiver, and what any other, is sent
module _ (t : ℕ) {at : ℕ} {m : Msg} {q : List Msg} (w : There to_of no_msg (t + 1) at m q) (m' : Msg) (to : m'.to ≡ t + 1) (o : List Msg) where
  pub edit-was : o ++ for_depot t q ≡ (o ++ for_depot t (take at q)) ++ (m ∷ for_depot t (drop (suc at) q))
  edit-was = rw (sel-cut to_of w) (sym (append_assoc o (for_depot t (take at q)) (m ∷ for_depot t (drop (suc at) q))))

  pub edit-is : o ++ for_depot t (set q at m') ≡ (o ++ for_depot t (take at q)) ++ (m' ∷ for_depot t (drop (suc at) q))
  edit-is = rw (sel-set to_of w m' to) (sym (append_assoc o (for_depot t (take at q)) (m' ∷ for_depot t (drop (suc at) q))))

  pub edit-all : {Q : Msg → Type 0} → Q m' → All Q (o ++ for_depot t q) → All Q (o ++ for_depot t (set q at m'))
  edit-all {Q} p a = rw edit-is (all-swap (o ++ for_depot t (take at q)) m m' (for_depot t (drop (suc at) q)) p (subst (All Q) edit-was a))

  pub edit-items : (n : Ballot) → item n m' ≡ item n m → map (item n) (o ++ for_depot t (set q at m')) ≡ map (item n) (o ++ for_depot t q)
  edit-items n p = rw (edit-is, edit-was) (map-swap n (o ++ for_depot t (take at q)) m m' (for_depot t (drop (suc at) q)) p)

pub edit-else : (t : ℕ) {at : ℕ} {m : Msg} {q : List Msg} → There to_of no_msg (t + 1) at m q → (m' : Msg) → m'.to ≡ t + 1 → (u : ℕ) → u ≢ t → for_depot u (set q at m') ≡ for_depot u q
edit-else t w m' to u ne = sel-else to_of w m' (λ e. ne (omega arith)) to

-- ---- a reply: a new Accepted that is remembered, or the remembered one with a new index
abbrev pub accepted_msg : Ballot → ℕ → Msg
accepted_msg n k = record { to = n.pid; msg = msg.Accepted (record { n = n; accepted_idx = k }); entries = [] }

module _ {z : Sizes} {P : ℕ → Type 0} {b : ℕ} {c : Scene} {g : Ghost ℕ} {whole : Ballot → ℕ → List ℕ} {fed : Ballot → ℕ → Bool} {x : Face} (v : Near z P b c g whole fed x) {n : Ballot} {k : ℕ} (r : Reached g b n k) where
  pub replied-new : Near z P b c g whole fed (with_meta (Some (record { n = n; at = length x.queue })) (push (accepted_msg n k) x))
  replied-new =
      remeta (pushed (accepted_msg n k) (λ t e. r) (λ m. refl) v) (Some (record { n = n; at = length x.queue }))
      (record { index = k; there = there-new to_of x.queue (accepted_msg n k) refl })

  -- the depot is no leader, so it remembers nothing else
  pub replied-edit : (t : ℕ) → n.pid ≡ t + 1 → is_leader x.state.role ≡ false → {at : ℕ} → x.meta ≡ Some (record { n = n; at = at })
      → Near z P b c g whole fed (with_queue (set x.queue at (accepted_msg n k)) x)
  replied-edit t e l {at} is =
      record {
        core = v.core;
        only = v.only;
        node = record {
          own = v.node.own;
          role = v.node.role;
          cached = v.node.cached;
          buffered = v.node.buffered;
          remembers = λ f. absurd (not-both f l);
          meta = subst (λ m. MetaOk m (set x.queue at (accepted_msg n k))) (sym is) (record { index = k; there = there-edit to_of w.there (accepted_msg n k) refl });
          row = v.node.row;
        };
        msgs = λ u. go u (depot-eq u t);
        down = v.down;
        up = λ m u o lt ne. flow m u o lt ne (depot-eq u t);
      }
    where
      w : MetaOk (Some (record { n = n; at = at })) x.queue
      w = subst (λ m. MetaOk m x.queue) is v.node.meta

      th : There to_of no_msg (t + 1) at (accepted_msg n w.index) x.queue
      th = subst (λ u. There to_of no_msg u at (accepted_msg n w.index) x.queue) e w.there

      go : (u : ℕ) → (u ≡ t) ⊎ (u ≢ t) → All (Ok z P g b u) (c.out u ++ for_depot u (set x.queue at (accepted_msg n k)))
      go u (inl q) = rw q (edit-all t th (accepted_msg n k) e (c.out t) r (v.msgs t))
      go u (inr q) = rw (edit-else t th (accepted_msg n k) e u q) (v.msgs u)

      flow : (m : Ballot) (u : ℕ) → leader_of m ≡ b → u < z.depots → u ≢ b → (u ≡ t) ⊎ (u ≢ t)
          → FlowOf g (whole m u) (fed m u) m u (c.out u ++ for_depot u (set x.queue at (accepted_msg n k))) (c.others u) x
      flow m u o lt ne (inl q) = subst (λ a. (a < z.depots) → (a ≢ b) → FlowOf g (whole m a) (fed m a) m a (c.out a ++ for_depot a (set x.queue at (accepted_msg n k))) (c.others a) x) (sym q)
          (λ lt' ne'. rw (edit-items t th (accepted_msg n k) e (c.out t) m refl) (v.up m t o lt' ne')) lt ne
      flow m u o lt ne (inr q) = rw (edit-else t th (accepted_msg n k) e u q) (v.up m u o lt ne)

-- ---- a follower again
module _ {z : Sizes} {P : ℕ → Type 0} {b : ℕ} {c : Scene} {g : Ghost ℕ} {x : Face} (v : Well z P b c g x) where
  still : Moved z b g g
  still = record { ext = ext_refl b g; core = v.core }

  -- whatever it was, it recovers
  pub t-recovers : Next z P b c g (with_state (record { role = Follower; phase = phase.Recover }) x)
  t-recovers =
      followed v still v.only (with_state (record { role = Follower; phase = phase.Recover }) x) refl refl
      (record { own = v.node.own; role = tt; cached = v.node.cached; buffered = v.node.buffered; remembers = λ e. absurd (not-both e refl); meta = v.node.meta; row = v.node.row })
      (λ n u ne. down-idle v still (with_state (record { role = Follower; phase = phase.Recover }) x) n u ne refl refl)

  -- another leads: the phase stays
  pub t-stands-down : Next z P b c g (with_state (record { role = Follower; phase = x.state.phase }) x)
  t-stands-down =
      followed v still v.only (with_state (record { role = Follower; phase = x.state.phase }) x) refl refl
      (record { own = v.node.own; role = role x.state.phase (λ e. e); cached = v.node.cached; buffered = v.node.buffered; remembers = λ e. absurd (not-both e refl); meta = v.node.meta; row = v.node.row })
      v.down
    where
      role : (p : Phase) → (is_accept_phase p ≡ true → is_accept_phase x.state.phase ≡ true) → InRole z g b x.storage x.log x.leader x.best Follower p
      role phase.Prepare e = tt
      role phase.Accept e = round-of z g b x.storage x.log x.leader x.best x.state.role x.state.phase v.node.role (e refl)
      role phase.Recover e = tt
      role phase.None e = tt

-- ---- a restart: what is durable stays
abbrev pub restarted_to : LeaderState → Face → Face
restarted_to l x =
    record {
      storage = x.storage;
      log = x.log;
      state = record { role = Follower; phase = phase.Recover };
      seq = first;
      leader = l;
      best = [];
      message = None;
      cached = [];
      buffered = [];
      meta = None;
      queue = [];
    }

pub t-restarted : {z : Sizes} {P : ℕ → Type 0} {b : ℕ} {c : Scene} {g : Ghost ℕ} {x : Face} (l : LeaderState) → length l.depots ≡ max_depots → Well z P b c g x → Next z P b c g (restarted_to l x)
unfolding sel
t-restarted {z} {P} {b} {c} {g} {x} l row v =
    record {
      ghost = g;
      moved = still v;
      well = record {
        core = v.core;
        only = v.only;
        node = record { own = v.node.own; role = tt; cached = tt; buffered = nil; remembers = λ e. absurd (not-both e refl); meta = tt; row = row };
        msgs = λ t. rw append-nil (all-sub (sub-front (c.out t) (for_depot t x.queue)) (v.msgs t));
        down = λ n u ne. down-idle v (still v) (restarted_to l x) n u ne refl refl;
        up = λ n t o u ne. rw append-nil (flow-sub (sub-map (item n) (sub-front (c.out t) (for_depot t x.queue))) (up_left v (still v) (restarted_to l x) refl n t o u ne));
      };
    }
