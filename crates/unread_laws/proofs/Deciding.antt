-- What a step decides reads and changes no place past the depots.
use Prim.Native.Nat.{ℕ}
use mathlib.Core.Path.{◌≡◌, refl}
use mathlib.Core.List.{List}
use lib.ListN.{length}
use Rattle.quorum.specs.declared.Configuration.{Configuration}
use Rattle.leader_state.specs.declared.Depot as place
use Rattle.messages.specs.declared.Event.{Event}
use Rattle.messages.specs.declared.Event.TheVariants as event
use Rattle.messages.specs.declared.PaxosMsg.{PaxosMsg}
use Rattle.messages.specs.declared.PaxosMsg.TheVariants as msg
use Rattle.paxos_box.specs.declared.SequencePaxos.{SequencePaxos}
use Rattle.paxos_box.specs.declared.Role.{Role}
use Rattle.paxos_box.specs.declared.Role.TheVariants.{Leader, Follower}
use Rattle.sequence_paxos.specs.Decide.{report_of, brought_by, handle, resend_by, taken}
use Rattle.refusals.proofs.Taken.{Depot, EventFit}
use Rattle.unread_laws.specs.InUse.{past_box}
use Rattle.unread_laws.proofs.Boxes.{Pair, lift}
use Rattle.unread_laws.proofs.Leading.{leads, requested, proposed, promises, accepted, not-accepted, resends}
use Rattle.unread_laws.proofs.Following.{reconnects, synced, given, decided-told, prepares, resends-following, drains, restarts}

module _ (c : Configuration) (z : List place.Depot) (own : Depot c c.pid) where
  handled : (m : PaxosMsg) (count from : ℕ) → Depot c from → (s t : SequencePaxos) → Pair c z s t → Pair c z (handle m count from s) (handle m count from t)
  handled (msg.PrepareReq m) count from d = requested c z own m.n from d
  handled (msg.Prepare m) count from d = prepares c z own m from
  handled (msg.Promise m) count from d = promises c z own m.n (report_of m from) (brought_by m.log_sync count) d
  handled (msg.AcceptSync m) count from d = synced c z own m count from
  handled (msg.AcceptDecide m) count from d = given c z own m.n m.seq_num m.decided_idx count
  handled (msg.Accepted m) count from d = accepted c z own m.n m.accepted_idx from d
  handled (msg.NotAccepted m) count from d = not-accepted c z own m.n from d
  handled (msg.Decide m) count from d = decided-told c z own m.n m.seq_num m.decided_idx
  handled msg.ProposalForward count from d = proposed c z own count

  resent : (s t : SequencePaxos) → Pair c z s t → Pair c z (resend_by s.state.role s) (resend_by t.state.role t)
  resent = lift c z (λ s. resend_by s.state.role s) (λ s e. by s.state.role s e)
    where
      by : (r : Role) (s : SequencePaxos) → s.config ≡ c → Pair c z (resend_by r s) (resend_by r (past_box c.depots z s))
      by Leader s e = resends c z own s (past_box c.depots z s) (refl, e)
      by Follower s e = resends-following c z own s (past_box c.depots z s) (refl, e)

  -- two boxes that differ only past the depots decide alike, and what they leave differs only there, each with the places that it had
  pub decides-alike : (e : Event) (entries : List ℕ) → EventFit c e entries → (s t : SequencePaxos) → Pair c z s t → Pair c z (taken e (length entries) s) (taken e (length entries) t)
  decides-alike (event.Message m) entries h = handled m.msg (length entries) m.from h.0.depot
  decides-alike event.Propose entries h = proposed c z own (length entries)
  decides-alike (event.Leader n) entries h = leads c z own n
  decides-alike (event.Reconnect pid) entries h = reconnects c z own pid
  decides-alike event.Resend entries h = resent
  decides-alike event.Drain entries h = drains c z own
  decides-alike event.Restart entries h = restarts c z own
