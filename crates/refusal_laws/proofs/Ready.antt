-- What refusals 1 to 4 leave is all that the laws of deciding ask of a box and an event.
use Rattle.std.specs.Prelude.{Option, None, Some}
use Prim.Native.Nat.{ℕ, ◌≤◌}
use mathlib.Core.Path.{◌≡◌, refl, ap}
use mathlib.Core.Bool.{Bool, true, false}
use mathlib.Core.List.{List}
use native.Mathlib.Omega.{arith}
use lib.ListN.{length}
use Rattle.base.specs.Limits.{max_log, max_depots}
use Rattle.ballot.specs.Ballot.{is_default}
use Rattle.paxos_box.specs.declared.CachedPromise.{CachedPromise}
use Rattle.leader_state.specs.declared.LogSync.{LogSync}
use Rattle.ballot.specs.declared.Ballot.{Ballot}
use Rattle.ballot.proofs.Laws.{default-zero}
use Rattle.quorum.specs.declared.Configuration.{Configuration}
use Rattle.messages.specs.declared.Row.{Row}
use Rattle.messages.specs.declared.Event.{Event}
use Rattle.messages.specs.declared.Event.TheVariants as event
use Rattle.messages.specs.declared.PaxosMsg.{PaxosMsg}
use Rattle.messages.specs.declared.PaxosMsg.TheVariants as msg
use Rattle.paxos_box.specs.Box.{is_leader}
use Rattle.paxos_box.specs.declared.SequencePaxos.{SequencePaxos}
use Rattle.follower.specs.Follower.{count_of}
use Rattle.sequence_paxos.specs.Fit.{fit_event}
use Rattle.decide_laws.proofs.Follower.{CachedWithin}
use Rattle.decide_laws.proofs.Steps.{Unbroken, Unplanned, BallotOf, FromDepot}
use Rattle.table_laws.proofs.Flagged.{Unflagged}
use Rattle.record.specs.declared.Record.{Record}
use Rattle.broken.specs.Lent.{Lent}
use Rattle.broken.specs.Broken.{sync_in}
use Rattle.refusals.proofs.Taken.{Known, SyncFit, CachedFit, MessageFit, EventFit, Taken}
use Rattle.step.specs.Step.{box_of}
use Rattle.step_laws.proofs.Fits.{sound}

-- the pid of a known ballot is within the depots: the default's is 0
known-within : (c : Configuration) (n : Ballot) → Known c n → n.pid ≤ c.depots
known-within c n k = by (is_default n) refl
  where
    by : (t : Bool) → is_default n ≡ t → n.pid ≤ c.depots
    by true q = let z : n.pid ≡ 0 = ap (λ (b : Ballot). b.pid) (default-zero n q) in omega (arith, z)
    by false q = (k q).1

-- a held sync ends within the log's limit, so it has no more entries
few-held : (x : Option LogSync) (buffer : List ℕ) → SyncFit x buffer → count_of x ≤ max_log
few-held None buffer f = omega arith
few-held (Some x) buffer f = omega (arith, f.0)

cached-within : (c : Configuration) (m : Option CachedPromise) (buffer : List ℕ) → SyncFit (sync_in m) buffer → CachedFit c m → CachedWithin c m
cached-within c None buffer f k = tt
cached-within c (Some p) buffer f k = (few-held p.sync buffer f, k.0.1)

ballot-of : (c : Configuration) (from : ℕ) (m : PaxosMsg) (entries : List ℕ) → MessageFit c from m entries → BallotOf m c
ballot-of c from (msg.PrepareReq m) entries f = tt
ballot-of c from (msg.Prepare m) entries f = tt
ballot-of c from (msg.Promise m) entries f = tt
ballot-of c from (msg.AcceptSync m) entries f = f.0.ballot.1
ballot-of c from (msg.AcceptDecide m) entries f = f.0.ballot.1
ballot-of c from (msg.Accepted m) entries f = tt
ballot-of c from (msg.NotAccepted m) entries f = tt
ballot-of c from (msg.Decide m) entries f = f.ballot.1
ballot-of c from msg.ProposalForward entries f = tt

pub from-depot : (c : Configuration) (e : Event) (entries : List ℕ) → EventFit c e entries → FromDepot e c
from-depot c (event.Message m) entries f = (f.0.depot, ballot-of c m.from m.msg entries f.1)
from-depot c event.Propose entries f = tt
from-depot c (event.Leader n) entries f = tt
from-depot c (event.Reconnect pid) entries f = f
from-depot c event.Resend entries f = tt
from-depot c event.Drain entries f = tt
from-depot c event.Restart entries f = tt

-- the hypotheses of the laws of deciding
pub record Ready (e : Event) (count : ℕ) (s : SequencePaxos) : Type 0 where
  pub unbroken : Unbroken s
  pub unplanned : Unplanned s
  pub unflagged : Unflagged s
  pub fit : fit_event e count
  pub from-depot : FromDepot e s.config

module _ (c : Configuration) (r : Record) (row : Row) (l : Lent) (e : Event) (entries : List ℕ) (t : Taken c r row l e entries) where
  unbroken : Unbroken (box_of c e entries r row l.log l.best)
  unfolding box_of
  unbroken =
      record {
        placed = record { positive = t.stands.own.0; own = t.stands.own.1; depots = t.stands.most };
        log = t.whole.ends;
        buffer = t.whole.buffer;
        cached = cached-within c r.cached_promise_message l.cached t.whole.cached t.whole.message;
        own = λ q. t.whole.leader (ap is_leader q);
        promised = known-within c r.internal_storage.promise t.whole.promise;
      }

  pub ready : Ready e (length entries) (box_of c e entries r row l.log l.best)
  unfolding box_of
  ready =
      record {
        unbroken = unbroken;
        unplanned = record { things = refl; messages = refl; entries = refl };
        unflagged = record { fit = refl; below = refl };
        fit = (sound c r row l e entries t).1;
        from-depot = from-depot c e entries t.event;
      }

  -- a leader's record has a place for each of seven depots
  pub seated : max_depots ≤ length r.leader_state.depots → (box_of c e entries r row l.log l.best).config.depots ≤ length (box_of c e entries r row l.log l.best).leader_state.depots
  unfolding box_of
  seated h = omega (arith, t.stands.most, h)
