-- The cluster: before every run; messages are lost; a queue is handed to the links; more is proposed; what the invariant says of decided entries.
use Rattle.std.specs.Prelude.{None}
use Prim.Native.Nat.{ℕ, zero, suc, ◌≤◌, ◌<◌}
use mathlib.Core.Path.{◌≡◌, refl, sym, subst, ◌∙◌}
use mathlib.Core.Logic.{◌⊎◌, inl, inr, ◌≢◌}
use mathlib.Core.Bool.{Bool, true, false, cond}
use mathlib.Core.List.{List, [], ◌++◌, append-nil}
use native.Mathlib.Omega.{arith}
use lib.Dec.{eqb}
use lib.ListN.{length, take, get_or}
use lib.Seq.{get_or-take, length-take-le, take_all}
use borrow.Author.Tests.{eq-eqb, ne_eqb}
use Rattle.base.proofs.Tests.{not-both, is_false}
use Rattle.ballot.specs.Ballot.{same}
use Rattle.ballot.specs.declared.Ballot.{Ballot}
use Rattle.ballot.proofs.Laws.{same-eq, default-lowest}
use Rattle.leader_state.specs.declared.LeaderState.{LeaderState}
use Rattle.messages.specs.declared.PaxosMsg.{PaxosMsg}
use Rattle.messages.specs.declared.PaxosMsg.TheVariants as msg
use Rattle.paxos_box.specs.declared.Role.{Role}
use Rattle.paxos_box.specs.declared.Role.TheVariants.{Leader, Follower}
use Rattle.paxos_box.specs.declared.Phase.{Phase}
use Rattle.paxos_box.specs.declared.Phase.TheVariants as phase
use Rattle.paxos_box.specs.Box.{is_leader, is_accept_phase}
use Rattle.outgoing.specs.Queue.{Msg}
use Rattle.agreement.specs.Order.{Below, leader_of}
use Rattle.agreement.specs.Core.{Sizes, Ghost, Same, Mark, nothing, begun}
use Rattle.agreement.specs.Moves.{fresh}
use Rattle.agreement.specs.All.{All, nil, cons, Sub}
use Rattle.agreement.specs.Queue.{sel}
use Rattle.agreement.specs.Stream.{none}
use Rattle.agreement.proofs.Update.{depot-eq}
use Rattle.agreement.proofs.Moves.{begin}
use Rattle.agreement.proofs.Decided.{settled-agree}
use Rattle.agreement.proofs.Hold.{holds-mark, settled-of}
use Rattle.agreement.proofs.Same.{same_refl, same_at}
use Rattle.agreement.proofs.All.{all_map, all-sub, sub-append, sub-map}
use Rattle.agreement.proofs.Flow.{flow-new, flow-sub}
use Rattle.agreement.proofs.Proposed.{only-fresh, only-held}
use Rattle.travels.specs.Face.{Face, place, item, takes_in, feeds_in, with_leader, with_queue, with_meta}
use Rattle.travels.specs.Facts.{MsgOk, InRole, NodeOk}
use Rattle.travels.specs.Inv.{Links, for_depot, chan, FlowOf, Total, whole_now, fed_now, put_face}
use Rattle.travels.specs.Near.{Scene, Well}
use Rattle.travels.proofs.Commit.{face-here, face-other, face-each}
use Rattle.travels.proofs.Moves.{flow-left, leads-none, feeds-none}
use Rattle.travels.proofs.Follow.{round-of}
use Rattle.travels.proofs.Books.{booked}
use Rattle.travels.proofs.Elect.{no-latest}
use Rattle.travels.proofs.Note.{Less, t-less}
use Rattle.travels.proofs.Tests.{both_true}

-- ---- before every run

-- a depot that has done nothing
pub record Idle (z : Sizes) (P : ℕ → Type 0) (b : ℕ) (x : Face) : Type 0 where
  pub node : NodeOk z P fresh b x
  pub phase : is_accept_phase x.state.phase ≡ false
  pub role : is_leader x.state.role ≡ false
  pub log : x.log ≡ []
  pub queue : x.queue ≡ []

pub begins : {z : Sizes} {P : ℕ → Type 0} {xs : ℕ → Face} {link : Links} → ((b : ℕ) → Idle z P b (xs b)) → ((i j : ℕ) → link i j ≡ []) → Total z P fresh xs link
unfolding fresh sel
begins {z} {P} {xs} {link} o e =
    record {
      base = record {
        core = begin;
        only = only-fresh;
        node = λ b u. (o b).node;
        msgs = λ i j u. rw (e i j, (o i).queue) nil;
      };
      flows = record {
        flow = λ n t u w ne.
            rw (e (leader_of n) t, (o (leader_of n)).queue)
            (flow-left {y = record { leads = false; feeds = false; session = 0; counter = 0 }} _ (leads-none n (xs (leader_of n)).state (xs (leader_of n)).leader (o (leader_of n)).role) (feeds-none n t (xs (leader_of n)).state (xs (leader_of n)).leader (o (leader_of n)).role) same_refl
            (flow-new none (rw (o t).phase) refl refl refl));
      };
    }

-- ---- messages are lost
pub loses : {z : Sizes} {P : ℕ → Type 0} {g : Ghost ℕ} {xs : ℕ → Face} {link link' : Links} → ((i j : ℕ) → Sub (link' i j) (link i j)) → Total z P g xs link → Total z P g xs link'
loses {xs = xs} {link = link} {link' = link'} s v =
    record {
      base = record {
        core = v.base.core;
        only = v.base.only;
        node = v.base.node;
        msgs = λ i j u. all-sub (sub-append (for_depot j (xs i).queue) (s i j)) (v.base.msgs i j u);
      };
      flows = record { flow = λ n t u w ne. flow-sub (sub-map (item n) (sub-append (for_depot t (xs (leader_of n)).queue) (s (leader_of n) t))) (v.flows.flow n t u w ne) };
    }

-- ---- more is proposed
module _ (z : Sizes) {P Q : ℕ → Type 0} (f : (e : ℕ) → P e → Q e) where
  more-msg : (g : Ghost ℕ) (i j : ℕ) (m : PaxosMsg) (es : List ℕ) → MsgOk z P g i j m es → MsgOk z Q g i j m es
  more-msg g i j (msg.PrepareReq m) es o = o
  more-msg g i j (msg.Prepare m) es o = o
  more-msg g i j (msg.Promise m) es o = o
  more-msg g i j (msg.AcceptSync m) es o = o
  more-msg g i j (msg.AcceptDecide m) es o = o
  more-msg g i j (msg.Accepted m) es o = o
  more-msg g i j (msg.NotAccepted m) es o = o
  more-msg g i j (msg.Decide m) es o = o
  more-msg g i j msg.ProposalForward es o = all_map f o

  more-node : {g : Ghost ℕ} {b : ℕ} {x : Face} → NodeOk z P g b x → NodeOk z Q g b x
  more-node o = record { own = o.own; role = o.role; cached = o.cached; buffered = all_map f o.buffered; remembers = o.remembers; meta = o.meta; row = o.row }

  pub proposes : {g : Ghost ℕ} {xs : ℕ → Face} {link : Links} → Total z P g xs link → Total z Q g xs link
  proposes {g} v =
      record {
        base = record {
          core = v.base.core;
          only = record { each = λ n. all_map f (v.base.only.each n) };
          node = λ b u. more-node (v.base.node b u);
          msgs = λ i j u. all_map (λ m o. more-msg g i j m.msg m.entries o) (v.base.msgs i j u);
        };
        flows = v.flows;
      }

-- ---- nobody takes items of a ballot that has not started
pub none-takes : {z : Sizes} {P : ℕ → Type 0} {g : Ghost ℕ} {xs : ℕ → Face} {link : Links} {m : Ballot} → Total z P g xs link → (n : Ballot) → g.started n ≡ false → Below m n → (t : ℕ) → t < z.depots → takes_in n (xs t) ≡ false
none-takes {z} {P} {g} {xs} {m = m} v n s l t u = is_false (takes_in n (xs t)) no_way
  where
    x : Face
    x = xs t

    o : NodeOk z P g t (xs t)
    o = v.base.node t u

    of : {k : ℕ} → Mark g n k → ⊥
    of (nothing e _) = default-lowest m (subst (Below m) e l).is
    of (begun q _ _) = not-both q s

    no_way : takes_in n (xs t) ≡ true → ⊥
    no_way e =
        let k : (is_accept_phase x.state.phase ≡ true) × (same x.storage.promise n ≡ true) = both_true e in
        let r : x.storage.accepted_round ≡ n = round-of z g t x.storage x.log x.leader x.best x.state.role x.state.phase o.role k.0 ∙ same-eq x.storage.promise n k.1 in
        of (subst (λ j. Mark g j (length x.log)) r (holds-mark v.base.core o.own.holds))

-- ---- a drain: what is remembered is forgotten, and the queue is handed to the links
pub t-forgets : {z : Sizes} {P : ℕ → Type 0} {b : ℕ} {c : Scene} {g : Ghost ℕ} {x : Face} (l : LeaderState) → Less z x.leader l → ((t : ℕ) → t < z.depots → (place t l).promise ≡ (place t x.leader).promise)
    → ((t : ℕ) → t < z.depots → (place t l).accepted_idx ≡ (place t x.leader).accepted_idx) → Well z P b c g x → Well z P b c g (with_leader l x)
t-forgets {z} {P} {b} {c} {g} {x} l o ep ea v = go (is_leader x.state.role) refl
  where
    role : (r : Role) (p : Phase) → is_leader r ≡ false → InRole z g b x.storage x.log x.leader x.best r p → InRole z g b x.storage x.log l x.best r p
    role Leader p e w = absurd (not-both refl e)
    role Follower phase.Prepare e w = w
    role Follower phase.Accept e w = w
    role Follower phase.Recover e w = w
    role Follower phase.None e w = w

    go : (t : Bool) → is_leader x.state.role ≡ t → Well z P b c g (with_leader l x)
    go true e = t-less v l e o (λ t u. inl (ea t u))
    go false e =
        booked v l x.best (λ n t. feeds_in n t (with_leader l x)) o.ballot o.number (λ n t _ u _ k. absurd (not-both k (feeds-none n t x.state l e)))
        (record { own = v.node.own; role = role x.state.role x.state.phase e v.node.role; cached = v.node.cached; buffered = v.node.buffered; remembers = λ k. absurd (not-both k e); meta = v.node.meta; row = o.row })

-- the links with b's queue handed to them
abbrev pub handed_to : ℕ → List Msg → Links → Links
handed_to b q link i j = cond (eqb i b) (link i j ++ for_depot j q) (link i j)

abbrev pub emptied : Face → Face
emptied x = with_queue [] (with_meta None x)

module _ {z : Sizes} {P : ℕ → Type 0} {g : Ghost ℕ} {xs : ℕ → Face} {link : Links} (v : Total z P g xs link) (b : ℕ) (forgot : (t : ℕ) → t < z.depots → (place t (xs b).leader).latest ≡ None) where
  -- what is under way is what it was
  chan-same : (i j : ℕ) → chan (put_face b (emptied (xs b)) xs) (handed_to b (xs b).queue link) i j ≡ chan xs link i j
  unfolding sel
  chan-same i j = go (depot-eq i b)
    where
      go : (i ≡ b) ⊎ (i ≢ b) → chan (put_face b (emptied (xs b)) xs) (handed_to b (xs b).queue link) i j ≡ chan xs link i j
      go (inl e) = rw (e, eq-eqb b b refl) (append-nil (link b j ++ for_depot j (xs b).queue))
      go (inr e) = rw (ne_eqb i b e)

  pub empties : Total z P g (put_face b (emptied (xs b)) xs) (handed_to b (xs b).queue link)
  empties =
      record {
        base = record {
          core = v.base.core;
          only = v.base.only;
          node = face-each (λ i x. i < z.depots → NodeOk z P g i x) b (emptied (xs b)) xs (λ u. node u) (λ i ne u. v.base.node i u);
          msgs = λ i j u. rw (chan-same i j) (v.base.msgs i j u);
        };
        flows = record { flow = λ n t u w ne. flow n t u w ne (depot-eq (leader_of n) b) (depot-eq t b) };
      }
    where
      node : b < z.depots → NodeOk z P g b (emptied (xs b))
      node u =
          let o : NodeOk z P g b (xs b) = v.base.node b u in
          record { own = o.own; role = o.role; cached = o.cached; buffered = o.buffered; remembers = λ e t w. record { stands = λ at k. no-latest (forgot t w) k }; meta = tt; row = o.row }

      flow : (n : Ballot) (t : ℕ) → leader_of n < z.depots → t < z.depots → t ≢ leader_of n → (leader_of n ≡ b) ⊎ (leader_of n ≢ b) → (t ≡ b) ⊎ (t ≢ b)
          → FlowOf g (whole_now g n t) (fed_now (put_face b (emptied (xs b)) xs) n t) n t (chan (put_face b (emptied (xs b)) xs) (handed_to b (xs b).queue link) (leader_of n) t) (put_face b (emptied (xs b)) xs t) (put_face b (emptied (xs b)) xs (leader_of n))
      flow n t u w ne (inl p) (inl q) = absurd (ne (q ∙ sym p))
      flow n t u w ne (inl p) (inr q) = rw (chan-same (leader_of n) t, face-other b (emptied (xs b)) xs t q, p, face-here b (emptied (xs b)) xs) (rw p at (v.flows.flow n t u w ne))
      flow n t u w ne (inr p) (inl q) = rw (chan-same (leader_of n) t, q, face-here b (emptied (xs b)) xs, face-other b (emptied (xs b)) xs (leader_of n) p) (rw q at (v.flows.flow n t u w ne))
      flow n t u w ne (inr p) (inr q) = rw (chan-same (leader_of n) t, face-other b (emptied (xs b)) xs t q, face-other b (emptied (xs b)) xs (leader_of n) p) (v.flows.flow n t u w ne)

-- ---- what is decided
all-at : {P : ℕ → Type 0} {l : List ℕ} (k : ℕ) → k < length l → All P l → P (get_or l k 0)
all-at k h nil = absurd (omega arith)
all-at zero h (cons p ps) = p
all-at (suc k) h (cons p ps) = all-at k (omega arith) ps

-- lists that are the same as far as both reach
same-all : {k : ℕ} {xs ys : List ℕ} → Same k xs ys → length xs ≤ k → length ys ≤ k → xs ≡ ys
same-all {k} {xs} {ys} e p q = sym (take_all k xs p) ∙ e.eq ∙ take_all k ys q

module _ {z : Sizes} {P : ℕ → Type 0} {g : Ghost ℕ} {xs : ℕ → Face} {link : Links} (v : Total z P g xs link) where
  -- two depots agree below both decided indexes
  pub decided-agree : (i j k : ℕ) → i < z.depots → j < z.depots → k < (xs i).storage.decided_idx → k < (xs j).storage.decided_idx
      → get_or (take (xs i).storage.decided_idx (xs i).log) k 0 ≡ get_or (take (xs j).storage.decided_idx (xs j).log) k 0
  decided-agree i j k u w p q =
      let a : NodeOk z P g i (xs i) = v.base.node i u in
      let c : NodeOk z P g j (xs j) = v.base.node j w in
      let la : length (take (xs i).storage.decided_idx (xs i).log) ≡ (xs i).storage.decided_idx = length-take-le (xs i).storage.decided_idx (xs i).log a.own.holds.fits in
      let lc : length (take (xs j).storage.decided_idx (xs j).log) ≡ (xs j).storage.decided_idx = length-take-le (xs j).storage.decided_idx (xs j).log c.own.holds.fits in
      same_at k 0 (settled-agree v.base.core (settled-of a.own.holds) (settled-of c.own.holds)) (omega (arith, la, lc))

  -- with equal decided indexes, wholly
  pub decided-equal : (i j : ℕ) → i < z.depots → j < z.depots → (xs i).storage.decided_idx ≡ (xs j).storage.decided_idx → take (xs i).storage.decided_idx (xs i).log ≡ take (xs j).storage.decided_idx (xs j).log
  decided-equal i j u w e =
      let a : NodeOk z P g i (xs i) = v.base.node i u in
      let c : NodeOk z P g j (xs j) = v.base.node j w in
      let la : length (take (xs i).storage.decided_idx (xs i).log) ≡ (xs i).storage.decided_idx = length-take-le (xs i).storage.decided_idx (xs i).log a.own.holds.fits in
      let lc : length (take (xs j).storage.decided_idx (xs j).log) ≡ (xs j).storage.decided_idx = length-take-le (xs j).storage.decided_idx (xs j).log c.own.holds.fits in
      same-all (settled-agree v.base.core (settled-of a.own.holds) (settled-of c.own.holds)) (omega (arith, la, lc, e)) (omega (arith, la, lc, e))

  -- and each decided entry was proposed
  pub decided-given : (i k : ℕ) → i < z.depots → k < (xs i).storage.decided_idx → P (get_or (take (xs i).storage.decided_idx (xs i).log) k 0)
  decided-given i k u p =
      let a : NodeOk z P g i (xs i) = v.base.node i u in
      rw (get_or-take (xs i).storage.decided_idx (xs i).log k 0 p) (all-at k (omega (arith, a.own.holds.fits)) (only-held v.base.only a.own.holds))
