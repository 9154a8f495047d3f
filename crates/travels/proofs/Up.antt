-- What is claimed of a message, and of a depot that does not move, lives on.
use Rattle.std.specs.Prelude.{Option, None, Some}
use Prim.Native.Nat.{ℕ}
use mathlib.Core.Logic.{◌≢◌}
use mathlib.Core.List.{List}
use native.Mathlib.Omega.{arith}
use Rattle.paxos_box.specs.declared.CachedPromise.{CachedPromise}
use Rattle.ballot.specs.declared.Ballot.{Ballot}
use Rattle.leader_state.specs.declared.Depot.{Depot}
use Rattle.leader_state.specs.declared.LeaderState.{LeaderState}
use Rattle.messages.specs.declared.PaxosMsg.{PaxosMsg}
use Rattle.messages.specs.declared.PaxosMsg.TheVariants as msg
use Rattle.paxos_box.specs.declared.InternalStorage.{InternalStorage}
use Rattle.paxos_box.specs.declared.Role.{Role}
use Rattle.paxos_box.specs.declared.Role.TheVariants.{Leader, Follower}
use Rattle.paxos_box.specs.declared.Phase.{Phase}
use Rattle.paxos_box.specs.declared.Phase.TheVariants as phase
use Rattle.outgoing.specs.Queue.{Msg}
use Rattle.agreement.specs.Core.{Sizes, Ghost, Core}
use Rattle.agreement.specs.Growth.{Ext}
use Rattle.agreement.specs.All.{All}
use Rattle.agreement.proofs.Growth.{moves}
use Rattle.agreement.proofs.Decided.{decided-up}
use Rattle.agreement.proofs.Hold.{holds-up}
use Rattle.agreement.proofs.Report.{report-up, asks-up, answer-up, told-up}
use Rattle.agreement.proofs.Lead.{prepares-up, leads-up, syncs-up}
use Rattle.agreement.proofs.All.{all_map}
use Rattle.travels.specs.Face.{Face}
use Rattle.travels.specs.Facts.{Led, Reached, MsgOk, Ok, Own, Noted, Preparing, Leading, InRole, CachedOk, NodeOk}

module _ {b : ℕ} {g h : Ghost ℕ} (e : Ext b g h) where
  led-up : {z : Sizes} {n : Ballot} {d : ℕ} → Led z g n d → Led z h n d
  led-up {n = n} o = record { started = (e.grows n).started o.started; decided = λ p. decided-up e (o.decided p) }

  reached-up : {i k : ℕ} {n : Ballot} → Reached g i n k → Reached h i n k
  reached-up {i} {k} {n} o = record { has = omega (arith, o.has, (moves e i).up n) }

  pub noted-up : {n : Ballot} {t : ℕ} {d : Depot} → Noted g n t d → Noted h n t d
  noted-up {n} {t} o = record { reached = omega (arith, o.reached, (moves e t).up n) }

module _ (z : Sizes) {b : ℕ} {g h : Ghost ℕ} (e : Ext b g h) where
  pub cached-up : (c : ℕ) (m : Option CachedPromise) (es : List ℕ) → CachedOk z g c m es → CachedOk z h c m es
  cached-up c None es o = tt
  cached-up c (Some p) es o = answer-up e o

  module _ (c : ℕ) (ne : c ≢ b) where
    own-up : (st : InternalStorage) (log : List ℕ) → Own z g c st log → Own z h c st log
    own-up st log o = record { holds = holds-up e ne o.holds; length = o.length }

    preparing-up : (st : InternalStorage) (log : List ℕ) (l : LeaderState) (best : List ℕ) → Preparing z g c st log l best → Preparing z h c st log l best
    preparing-up st log l best o =
        record {
          now = o.now;
          own = o.own;
          prepares = prepares-up e ne o.prepares;
          told = λ t m u p. told-up e (o.told t m u p);
          noted = λ t u. noted-up e (o.noted t u);
        }

    leading-up : (st : InternalStorage) (log : List ℕ) (l : LeaderState) → Leading z g c st log l → Leading z h c st log l
    leading-up st log l o =
        record {
          now = o.now;
          own = o.own;
          round = o.round;
          leads = leads-up e ne o.leads;
          told = λ t m u p. report-up e (o.told t m u p);
          noted = λ t u. noted-up e (o.noted t u);
        }

    role-up : (st : InternalStorage) (log : List ℕ) (l : LeaderState) (best : List ℕ) (r : Role) (p : Phase) → InRole z g c st log l best r p → InRole z h c st log l best r p
    role-up st log l best Leader phase.Prepare o = preparing-up st log l best o
    role-up st log l best Leader phase.Accept o = leading-up st log l o
    role-up st log l best Leader phase.Recover o = o
    role-up st log l best Leader phase.None o = o
    role-up st log l best Follower phase.Prepare o = o
    role-up st log l best Follower phase.Accept o = o
    role-up st log l best Follower phase.Recover o = o
    role-up st log l best Follower phase.None o = o

    pub node-up : {P : ℕ → Type 0} (x : Face) → NodeOk z P g c x → NodeOk z P h c x
    node-up x o =
        record {
          own = own-up x.storage x.log o.own;
          role = role-up x.storage x.log x.leader x.best x.state.role x.state.phase o.role;
          cached = cached-up c x.message x.cached o.cached;
          buffered = o.buffered;
          remembers = o.remembers;
          meta = o.meta;
          row = o.row;
        }

  -- of every message
  module _ (core : Core z g) (P : ℕ → Type 0) where
    msg-up : (i j : ℕ) (m : PaxosMsg) (es : List ℕ) → MsgOk z P g i j m es → MsgOk z P h i j m es
    msg-up i j (msg.PrepareReq m) es o = o
    msg-up i j (msg.Prepare m) es o = asks-up e o
    msg-up i j (msg.Promise m) es o = answer-up e o
    msg-up i j (msg.AcceptSync m) es o = syncs-up core e o
    msg-up i j (msg.AcceptDecide m) es o = led-up e o
    msg-up i j (msg.Accepted m) es o = reached-up e o
    msg-up i j (msg.NotAccepted m) es o = o
    msg-up i j (msg.Decide m) es o = led-up e o
    msg-up i j msg.ProposalForward es o = o

    ok-up : (i j : ℕ) (m : Msg) → Ok z P g i j m → Ok z P h i j m
    ok-up i j m o = msg-up i j m.msg m.entries o

    pub oks-up : (i j : ℕ) {l : List Msg} → All (Ok z P g i j) l → All (Ok z P h i j) l
    oks-up i j = all_map (ok-up i j)
