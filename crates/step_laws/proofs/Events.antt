-- A closed fact along every event but a drain and a restart.
use Rattle.std.specs.Prelude.{Option, None, Some}
use Prim.Native.Nat.{ℕ}
use mathlib.Core.Path.{◌≡◌, refl}
use mathlib.Core.Bool.{Bool, true, false, cond}
use mathlib.Core.List.{List}
use native.Mathlib.Omega.{arith}
use lib.Dec.{eqb}
use lib.ListN.{length}
use borrow.Author.Tests.{ne_eqb}
use Rattle.ballot.specs.Ballot.{is_default}
use Rattle.ballot.specs.declared.Ballot.{Ballot}
use Rattle.quorum.specs.declared.Configuration.{Configuration}
use Rattle.messages.specs.declared.Event.{Event}
use Rattle.messages.specs.declared.Event.TheVariants as event
use Rattle.messages.specs.declared.PaxosMsg.{PaxosMsg}
use Rattle.messages.specs.declared.PaxosMsg.TheVariants as msg
use Rattle.paxos_box.specs.declared.SequencePaxos.{SequencePaxos}
use Rattle.paxos_box.specs.declared.Role.{Role}
use Rattle.paxos_box.specs.declared.Role.TheVariants.{Leader, Follower}
use Rattle.sequence_paxos.specs.Decide.{report_of, brought_by, handle, resend_by, taken}
use Rattle.sight.specs.Sight.{sync_in, brought}
use Rattle.refusals.proofs.Taken.{Depot, Real, Brings, Sender, MessageFit, EventFit}
use Rattle.step_laws.proofs.Moves.{Closed, Found}
use Rattle.step_laws.proofs.Leader.{Arrives, along-leader, along-prepare-req, along-proposal, along-promise, along-accepted, along-not-accepted, along-resend-leader}
use Rattle.step_laws.proofs.Follower.{along-reconnected, along-prepare, along-acceptsync, along-acceptdecide, along-told-decided, along-resend-follower}

-- a ballot with a depot's pid is not the default
pub real : (c : Configuration) (n : Ballot) → Depot c n.pid → Real c n
unfolding is_default
real c n d = (by (eqb n.n 0) (eqb n.priority 0), d)
  where
    by : (a b : Bool) → cond a (cond b (eqb n.pid 0) false) false ≡ false
    by true true = ne_eqb n.pid 0 (λ z. omega (arith, d.0))
    by true false = refl
    by false b = refl

pub arrives : (e : Event) (entries : List ℕ) (x : Option ℕ) → brought e ≡ x → Brings x entries → Arrives e entries (brought_by x (length entries))
arrives e entries None p b = tt
arrives e entries (Some start) p b = record { start = p; count = refl; fit = b.1 }

-- the events that leave the queue as it is or add to it
abbrev pub Queues : Event → Type 0
Queues (event.Message m) = Unit {0}
Queues event.Propose = Unit {0}
Queues (event.Leader n) = Unit {0}
Queues (event.Reconnect pid) = Unit {0}
Queues event.Resend = Unit {0}
Queues event.Drain = ⊥
Queues event.Restart = ⊥

module _ (c : Configuration) (entries : List ℕ) (s : SequencePaxos) (I : ℕ → SequencePaxos → Type 0) (f : Found c s) (i : I 0 s) where
  along-resend : (e : Event) → Closed c e entries s I → (r : Role) → I 7 (resend_by r s)
  along-resend e o Leader = along-resend-leader c e entries s I o f i
  along-resend e o Follower = along-resend-follower c e entries s I o f i

  along-message : (e : Event) → Closed c e entries s I → (m : PaxosMsg) (from : ℕ) → brought e ≡ sync_in m → Sender c from → MessageFit c from m entries → I 7 (handle m (length entries) from s)
  along-message e o (msg.PrepareReq m) from b w g = along-prepare-req c e entries s I o f i m.n from w.depot
  along-message e o (msg.Prepare m) from b w g = along-prepare c e entries s I o f i m from g.0
  along-message e o (msg.Promise m) from b w g =
      along-promise c e entries s I o f i m.n (report_of m from) (brought_by m.log_sync (length entries)) g.0.ballot w.depot g.0.round-known (arrives e entries m.log_sync b g.1)
  along-message e o (msg.AcceptSync m) from b w g =
      along-acceptsync c e entries s I o f i m from g.0.ballot (record { start = b; count = refl; fit = g.2 })
  along-message e o (msg.AcceptDecide m) from b w g = along-acceptdecide c e entries s I o f i m.n m.seq_num m.decided_idx g.0.ballot g.1
  along-message e o (msg.Accepted m) from b w g = along-accepted c e entries s I o f i m.n m.accepted_idx from w.depot
  along-message e o (msg.NotAccepted m) from b w g = along-not-accepted c e entries s I o f i m.n from w.depot
  along-message e o (msg.Decide m) from b w g = along-told-decided c e entries s I o f i m.n m.seq_num m.decided_idx g.ballot
  along-message e o msg.ProposalForward from b w g = along-proposal c e entries s I o f i g.fit

  pub along-event : (e : Event) → Closed c e entries s I → Queues e → EventFit c e entries → I 7 (taken e (length entries) s)
  along-event (event.Message m) o q g = along-message (event.Message m) o m.msg m.from refl g.0 g.1
  along-event event.Propose o q g = along-proposal c event.Propose entries s I o f i g.fit
  along-event (event.Leader n) o q g = along-leader c (event.Leader n) entries s I o f i n (real c n g)
  along-event (event.Reconnect pid) o q g = along-reconnected c (event.Reconnect pid) entries s I o f i pid
  along-event event.Resend o q g = along-resend event.Resend o s.state.role
  along-event event.Drain o q g = absurd q
  along-event event.Restart o q g = absurd q
