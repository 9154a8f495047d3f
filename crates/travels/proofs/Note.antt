-- A leader notes what it is told: a promise, an accepted index, that a depot has promised higher or must be prepared again.
use Rattle.std.specs.Prelude.{None, Some}
use Prim.Native.Nat.{ℕ, ◌<◌}
use mathlib.Core.Path.{◌≡◌, refl, sym, ap, subst, ◌∙◌}
use mathlib.Core.Logic.{◌⊎◌, inl, inr, ◌≢◌}
use mathlib.Core.Bool.{true, false, not, ◌&&◌}
use mathlib.Core.List.{List}
use native.Mathlib.Omega.{arith}
use lib.Dec.{eqb}
use lib.ListN.{length}
use Rattle.base.proofs.Tests.{not-both}
use Rattle.base.specs.Limits.{max_depots}
use Rattle.ballot.specs.declared.Ballot.{Ballot}
use Rattle.leader_state.specs.declared.Depot.{Depot}
use Rattle.leader_state.specs.declared.LeaderState.{LeaderState}
use Rattle.leader_state.specs.declared.MaxPromise.{MaxPromise}
use Rattle.leader_state.specs.declared.PromiseMetaData.{PromiseMetaData}
use Rattle.leader_state.specs.declared.PromiseState.{PromiseState}
use Rattle.leader_state.specs.declared.PromiseState.TheVariants.{Promised}
use Rattle.leader_state.specs.Promises.{is_promised}
use Rattle.leader_state.specs.State.{set_promise_state}
use Rattle.paxos_box.specs.declared.Role.{Role}
use Rattle.paxos_box.specs.declared.Role.TheVariants.{Leader, Follower}
use Rattle.paxos_box.specs.declared.Phase.{Phase}
use Rattle.paxos_box.specs.declared.Phase.TheVariants as phase
use Rattle.paxos_box.specs.declared.State.{State}
use Rattle.paxos_box.specs.Box.{is_leader, is_accept_phase}
use Rattle.outgoing.specs.Queue.{Msg}
use Rattle.agreement.specs.Order.{Within, Beats}
use Rattle.agreement.specs.Core.{Sizes, Ghost}
use Rattle.agreement.specs.Report.{Sync, Answer, Report, Told, Prepares}
use Rattle.agreement.proofs.Order.{within-refl, beats-within}
use Rattle.agreement.proofs.Update.{depot-eq}
use Rattle.agreement.proofs.Report.{told-less}
use Rattle.agreement.proofs.Lead.{prepares-better}
use Rattle.travels.specs.Face.{Face, place, sync_of, leads_by, feeds_by, feeds_in, with_leader, with_best}
use Rattle.travels.specs.Facts.{Reached, Noted, Preparing, Leading, InRole, Remembers, Standing}
use Rattle.travels.specs.Near.{Scene, Near, Well}
use Rattle.travels.proofs.Books.{leads-same, feeds-early, booked}
use Rattle.travels.proofs.Elect.{prepares-in, leads-in, no-latest}
use Rattle.travels.proofs.Tests.{both_true}

-- ---- less than before: the ballot, the best and the numbers stay; a promise or what is remembered may go

pub record Less (z : Sizes) (l l' : LeaderState) : Type 0 where
  pub row : length l'.depots ≡ max_depots
  pub ballot : l'.n_leader ≡ l.n_leader
  pub best : l'.max_promise ≡ l.max_promise
  pub number : (t : ℕ) → t < z.depots → (place t l').seq_num ≡ (place t l).seq_num
  pub promise : (t : ℕ) → t < z.depots → ((place t l').promise ≡ (place t l).promise) ⊎ (is_promised (place t l').promise ≡ false)
  pub latest : (t : ℕ) → t < z.depots → ((place t l').latest ≡ (place t l).latest) ⊎ ((place t l').latest ≡ None)

pub no-promise : {A : Type 0} {p : PromiseState} {m : PromiseMetaData} → is_promised p ≡ false → p ≡ Promised m → A
no-promise {p = p} e q = absurd (not-both (ap is_promised q) e)

-- a promise of the one record is one of the other
less-promise : {p p' : PromiseState} {m : PromiseMetaData} → (p' ≡ p) ⊎ (is_promised p' ≡ false) → p' ≡ Promised m → p ≡ Promised m
less-promise (inl e) q = sym e ∙ q
less-promise (inr e) q = no-promise e q

less-promised : {p p' : PromiseState} → (p' ≡ p) ⊎ (is_promised p' ≡ false) → is_promised p' ≡ true → is_promised p ≡ true
less-promised (inl e) q = sym (ap is_promised e) ∙ q
less-promised (inr e) q = absurd (not-both q e)

pub feeds-less-to : (n : Ballot) (t : ℕ) (s : State) (l l' : LeaderState) → l'.n_leader ≡ l.n_leader → (is_promised (place t l').promise ≡ true → is_promised (place t l).promise ≡ true)
    → feeds_by n t s l' ≡ true → feeds_by n t s l ≡ true
unfolding feeds_by
feeds-less-to n t s l l' en p e =
    let k : (leads_by n s l' ≡ true) × ((is_accept_phase s.phase && is_promised (place t l').promise) ≡ true) = both_true e in
    let j : (is_accept_phase s.phase ≡ true) × (is_promised (place t l').promise ≡ true) = both_true k.1 in
    rw (← leads-same n s l l' en, k.0, j.0) (p j.1)

pub remembers-less : {n n' : Ballot} {t : ℕ} {d d' : Depot} {q : List Msg} → n' ≡ n → d'.seq_num ≡ d.seq_num → (d'.latest ≡ d.latest) ⊎ (d'.latest ≡ None) → Remembers n t d q → Remembers n' t d' q
remembers-less {n} {n'} {t} {d} {d'} {q} en es e o = record { stands = λ at k. one at k e }
  where
    one : (at : ℕ) → d'.latest ≡ Some at → (d'.latest ≡ d.latest) ⊎ (d'.latest ≡ None) → Standing n' t d' at q
    one at k (inr f) = no-latest f k
    one at k (inl f) =
        let s : Standing n t d at q = o.stands at (sym f ∙ k) in
        record { what = s.what; entries = s.entries; there = s.there; ballot = s.ballot ∙ sym en; number = s.number ∙ sym es }

module _ {z : Sizes} {P : ℕ → Type 0} {b : ℕ} {c : Scene} {g : Ghost ℕ} {x : Face} (v : Well z P b c g x) where
  pub t-less : (l : LeaderState) → is_leader x.state.role ≡ true → Less z x.leader l
      → ((t : ℕ) → t < z.depots → ((place t l).accepted_idx ≡ (place t x.leader).accepted_idx) ⊎ Reached g t x.storage.promise (place t l).accepted_idx)
      → Well z P b c g (with_leader l x)
  t-less l r o a =
      booked v l x.best (λ n t. feeds_in n t (with_leader l x)) o.ballot o.number
      (λ n t _ u _ e. feeds-less-to n t x.state x.leader l o.ballot (less-promised (o.promise t u)) e)
      (record {
        own = v.node.own;
        role = role x.state.role x.state.phase r v.node.role;
        cached = v.node.cached;
        buffered = v.node.buffered;
        remembers = λ e t u. remembers-less o.ballot (o.number t u) (o.latest t u) (v.node.remembers e t u);
        meta = v.node.meta;
        row = o.row;
      })
    where
      noted : (t : ℕ) → ((place t l).accepted_idx ≡ (place t x.leader).accepted_idx) ⊎ Reached g t x.storage.promise (place t l).accepted_idx
          → Noted g x.storage.promise t (place t x.leader) → Noted g x.storage.promise t (place t l)
      noted t (inl e) w = record { reached = omega (arith, w.reached) }
      noted t (inr e) w = record { reached = e.has }

      role : (rl : Role) (ph : Phase) → is_leader rl ≡ true → InRole z g b x.storage x.log x.leader x.best rl ph → InRole z g b x.storage x.log l x.best rl ph
      role Follower ph e w = absurd (not-both e refl)
      role Leader phase.Prepare e w =
          record {
            now = o.ballot ∙ w.now;
            own = rw o.ballot w.own;
            prepares = rw o.best w.prepares;
            told = λ t m u k. rw o.best (w.told t m u (less-promise (o.promise t u) k));
            noted = λ t u. noted t (a t u) (w.noted t u);
          }
      role Leader phase.Accept e w =
          record {
            now = o.ballot ∙ w.now;
            own = rw o.ballot w.own;
            round = w.round;
            leads = rw o.best w.leads;
            told = λ t m u k. w.told t m u (less-promise (o.promise t u) k);
            noted = λ t u. noted t (a t u) (w.noted t u);
          }
      role Leader phase.Recover e w = w
      role Leader phase.None e w = w

-- ---- depot f's promise is kept
pub record Keeps (f : ℕ) (m : PromiseMetaData) (l l' : LeaderState) : Type 0 where
  pub row : length l'.depots ≡ max_depots
  pub ballot : l'.n_leader ≡ l.n_leader
  pub here : place f l' ≡ set_promise_state (Promised m) (place f l)
  pub else : (t : ℕ) → t ≢ f → place t l' ≡ place t l

module _ {f : ℕ} {m : PromiseMetaData} {l l' : LeaderState} (o : Keeps f m l l') where
  -- a part of a place that is not the promise
  kept-part : {A : Type 0} (part : Depot → A) → (part (set_promise_state (Promised m) (place f l)) ≡ part (place f l)) → (t : ℕ) → part (place t l') ≡ part (place t l)
  kept-part part e t = go (depot-eq t f)
    where
      go : (t ≡ f) ⊎ (t ≢ f) → part (place t l') ≡ part (place t l)
      go (inl q) = rw q (ap part o.here ∙ e)
      go (inr q) = ap part (o.else t q)

-- the new best: as before, where the promise does not beat it, or the promise with its sync
pub data Best (x : Face) (m : PromiseMetaData) (sync : Sync ℕ) (p : MaxPromise) (best : List ℕ) : Type 0 where
  stays : Within m.n_accepted m.accepted_idx x.leader.max_promise.meta.n_accepted x.leader.max_promise.meta.accepted_idx → p ≡ x.leader.max_promise → best ≡ x.best → Best x m sync p best
  beaten : Beats m.n_accepted m.accepted_idx x.leader.max_promise.meta.n_accepted x.leader.max_promise.meta.accepted_idx → p.meta ≡ m → sync_of p.sync best ≡ sync → Best x m sync p best

pub promised-is : {p : PromiseState} {m m' : PromiseMetaData} → p ≡ Promised m → p ≡ Promised m' → m ≡ m'
promised-is p q = cc

module _ {z : Sizes} {P : ℕ → Type 0} {b : ℕ} {c : Scene} {g : Ghost ℕ} {x : Face} (v : Well z P b c g x) {f : ℕ} {m : PromiseMetaData} {l : LeaderState} (o : Keeps f m x.leader l) where
  -- (Leader, Prepare)
  pub t-noted : {sync : Sync ℕ} (best : List ℕ) → x.state ≡ record { role = Leader; phase = phase.Prepare } → Answer z g x.storage.promise f m.n_accepted m.accepted_idx m.decided_idx sync
      → Best x m sync l.max_promise best → Well z P b c g (with_best best (with_leader l x))
  t-noted {sync} best st ans bst =
      booked v l best (λ n t. feeds_in n t (with_best best (with_leader l x))) o.ballot (λ t u. kept-part o (λ (d : Depot). d.seq_num) refl t)
      (λ n t _ u _ e. absurd (not-both e (feeds-early n t x.state l (ap (λ (s : State). is_accept_phase s.phase) st))))
      (record {
        own = v.node.own;
        role = subst (λ (s : State). InRole z g b x.storage x.log l best s.role s.phase) (sym st) role;
        cached = v.node.cached;
        buffered = v.node.buffered;
        remembers = λ e t u. remembers-less o.ballot (kept-part o (λ (d : Depot). d.seq_num) refl t) (inl (kept-part o (λ (d : Depot). d.latest) refl t)) (v.node.remembers e t u);
        meta = v.node.meta;
        row = o.row;
      })
    where
      w : Preparing z g b x.storage x.log x.leader x.best
      w = prepares-in v.node st

      n : Ballot
      n = x.storage.promise

      prep : Best x m sync l.max_promise best → Prepares g b x.storage.promise x.storage.accepted_round x.log l.max_promise.meta.n_accepted l.max_promise.meta.accepted_idx (sync_of l.max_promise.sync best)
      prep (stays k p q) = rw (p, q) w.prepares
      prep (beaten k p q) = rw (p, q) (prepares-better v.core v.node.own.holds w.prepares ans k)

      up : Best x m sync l.max_promise best → Within x.leader.max_promise.meta.n_accepted x.leader.max_promise.meta.accepted_idx l.max_promise.meta.n_accepted l.max_promise.meta.accepted_idx
      up (stays k p q) = rw p within-refl
      up (beaten k p q) = rw p (beats-within k)

      least : Best x m sync l.max_promise best → Within m.n_accepted m.accepted_idx l.max_promise.meta.n_accepted l.max_promise.meta.accepted_idx
      least (stays k p q) = rw p k
      least (beaten k p q) = rw p within-refl

      told : (t : ℕ) (m' : PromiseMetaData) → t < z.depots → (place t l).promise ≡ Promised m' → (t ≡ f) ⊎ (t ≢ f)
          → Told z g x.storage.promise l.max_promise.meta.n_accepted l.max_promise.meta.accepted_idx t m'.n_accepted m'.accepted_idx m'.decided_idx
      told t m' u e (inr q) = told-less (up bst) (w.told t m' u (ap (λ (d : Depot). d.promise) (sym (o.else t q)) ∙ e))
      told t m' u e (inl q) =
          let k : m ≡ m' = promised-is (subst (λ j. (place j l).promise ≡ Promised m) (sym q) (ap (λ (d : Depot). d.promise) o.here)) e in
          rw (← k, q) (record { report = ans.report; least = least bst })

      role : Preparing z g b x.storage x.log l best
      role =
          record {
            now = o.ballot ∙ w.now;
            own = rw o.ballot w.own;
            prepares = prep bst;
            told = λ t m' u e. told t m' u e (depot-eq t f);
            noted = λ t u. record { reached = omega (arith, (w.noted t u).reached, kept-part o (λ (d : Depot). d.accepted_idx) refl t) };
          }

  -- (Leader, Accept): f counts as fed no more, until it is synced
  pub t-noted-late : x.state ≡ record { role = Leader; phase = phase.Accept } → Report z g x.storage.promise f m.n_accepted m.accepted_idx m.decided_idx → l.max_promise ≡ x.leader.max_promise
      → Near z P b c g (λ n t. g.G n) (λ n t. feeds_in n t x && not (eqb t f)) (with_leader l x)
  t-noted-late st rep eb =
      booked v l x.best (λ n t. feeds_in n t x && not (eqb t f)) o.ballot (λ t u. kept-part o (λ (d : Depot). d.seq_num) refl t)
      (λ n t _ u _ e. (both_true e).0)
      (record {
        own = v.node.own;
        role = subst (λ (s : State). InRole z g b x.storage x.log l x.best s.role s.phase) (sym st) role;
        cached = v.node.cached;
        buffered = v.node.buffered;
        remembers = λ e t u. remembers-less o.ballot (kept-part o (λ (d : Depot). d.seq_num) refl t) (inl (kept-part o (λ (d : Depot). d.latest) refl t)) (v.node.remembers e t u);
        meta = v.node.meta;
        row = o.row;
      })
    where
      w : Leading z g b x.storage x.log x.leader
      w = leads-in v.node st

      told : (t : ℕ) (m' : PromiseMetaData) → t < z.depots → (place t l).promise ≡ Promised m' → (t ≡ f) ⊎ (t ≢ f) → Report z g x.storage.promise t m'.n_accepted m'.accepted_idx m'.decided_idx
      told t m' u e (inr q) = w.told t m' u (ap (λ (d : Depot). d.promise) (sym (o.else t q)) ∙ e)
      told t m' u e (inl q) =
          let k : m ≡ m' = promised-is (subst (λ j. (place j l).promise ≡ Promised m) (sym q) (ap (λ (d : Depot). d.promise) o.here)) e in
          rw (← k, q) rep

      role : Leading z g b x.storage x.log l
      role =
          record {
            now = o.ballot ∙ w.now;
            own = rw o.ballot w.own;
            round = w.round;
            leads = rw eb w.leads;
            told = λ t m' u e. told t m' u e (depot-eq t f);
            noted = λ t u. record { reached = omega (arith, (w.noted t u).reached, kept-part o (λ (d : Depot). d.accepted_idx) refl t) };
          }
