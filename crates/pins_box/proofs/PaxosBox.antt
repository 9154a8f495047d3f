-- Written by tools/pins --write, from the promises of crates/paxos_box/src: any two outcomes that a call's own promise allows are one.
use mathlib.Core.Path.{sym, ◌∙◌}
use Rattle.pins.proofs.One.{OneAnswer}
use Rattle.paxos_box.proofs.Role.is_leader.Reads as is-leader-reads
use Rattle.paxos_box.proofs.Phase.is_recover.Reads as is-recover-reads
use Rattle.paxos_box.proofs.Phase.is_accept.Reads as is-accept-reads
use Rattle.paxos_box.proofs.State.standing.Reads as standing-reads
use Rattle.paxos_box.proofs.SequencePaxos.set_storage.Reads as sequence-paxos-set-storage-reads
use Rattle.paxos_box.proofs.SequencePaxos.set_length.Reads as sequence-paxos-set-length-reads
use Rattle.paxos_box.proofs.SequencePaxos.set_buffered.Reads as sequence-paxos-set-buffered-reads
use Rattle.paxos_box.proofs.Bounded.push_send.Reads as push-send-reads
use Rattle.paxos_box.proofs.Bounded.send_new.Reads as send-new-reads
use Rattle.paxos_box.proofs.Bounded.next_place.Reads as next-place-reads
use Rattle.paxos_box.proofs.Bounded.refuse_unfit.Reads as refuse-unfit-reads
use Rattle.paxos_box.proofs.Bounded.refuse_top.Reads as refuse-top-reads
use Rattle.paxos_box.proofs.Bounded.set_state.Reads as set-state-reads
use Rattle.paxos_box.proofs.Bounded.set_leader_state.Reads as set-leader-state-reads
use Rattle.paxos_box.proofs.Bounded.set_promise.Reads as set-promise-reads
use Rattle.paxos_box.proofs.Bounded.set_decided_idx.Reads as set-decided-idx-reads
use Rattle.paxos_box.proofs.Bounded.set_current_seq_num.Reads as set-current-seq-num-reads
use Rattle.paxos_box.proofs.Bounded.set_cached.Reads as set-cached-reads
use Rattle.paxos_box.proofs.Bounded.set_latest_accepted.Reads as set-latest-accepted-reads
use Rattle.paxos_box.proofs.Bounded.set_writes.Reads as set-writes-reads
use Rattle.paxos_box.proofs.Bounded.set_storage.Reads as bounded-set-storage-reads
use Rattle.paxos_box.proofs.Bounded.set_length.Reads as bounded-set-length-reads
use Rattle.paxos_box.proofs.Bounded.set_buffered.Reads as bounded-set-buffered-reads
use Rattle.paxos_box.proofs.Writes.with_log.Reads as with-log-reads
use Rattle.paxos_box.proofs.Writes.with_cached.Reads as with-cached-reads
use Rattle.paxos_box.proofs.Writes.with_best.Reads as with-best-reads
use Rattle.paxos_box.proofs.Writes.with_buffer.Reads as with-buffer-reads
use Rattle.paxos_box.proofs.Writes.with_buffered.Reads as with-buffered-reads

pub is-leader : (κs : _) (a : _) → OneAnswer (is-leader-reads.Post κs a)
is-leader κs a r₁ r₂ s₁ s₂ p q = p ∙ sym q

pub is-recover : (κs : _) (a : _) → OneAnswer (is-recover-reads.Post κs a)
is-recover κs a r₁ r₂ s₁ s₂ p q = p ∙ sym q

pub is-accept : (κs : _) (a : _) → OneAnswer (is-accept-reads.Post κs a)
is-accept κs a r₁ r₂ s₁ s₂ p q = p ∙ sym q

pub standing : (κs : _) (a : _) → OneAnswer (standing-reads.Post κs a)
standing κs a r₁ r₂ s₁ s₂ p q = p ∙ sym q

pub sequence-paxos-set-storage : (κs : _) (a : _) → OneAnswer (sequence-paxos-set-storage-reads.Post κs a)
sequence-paxos-set-storage κs a r₁ r₂ s₁ s₂ p q = p ∙ sym q

pub sequence-paxos-set-length : (κs : _) (a : _) → OneAnswer (sequence-paxos-set-length-reads.Post κs a)
sequence-paxos-set-length κs a r₁ r₂ s₁ s₂ p q = p ∙ sym q

pub sequence-paxos-set-buffered : (κs : _) (a : _) → OneAnswer (sequence-paxos-set-buffered-reads.Post κs a)
sequence-paxos-set-buffered κs a r₁ r₂ s₁ s₂ p q = p ∙ sym q

pub push-send : (κs : _) (a : _) → OneAnswer (push-send-reads.Post κs a)
push-send κs a r₁ r₂ s₁ s₂ p q = p ∙ sym q

pub send-new : (κs : _) (a : _) → OneAnswer (send-new-reads.Post κs a)
send-new κs a r₁ r₂ s₁ s₂ p q = p ∙ sym q

pub next-place : (κs : _) (a : _) → OneAnswer (next-place-reads.Post κs a)
next-place κs a r₁ r₂ s₁ s₂ p q = p ∙ sym q

pub refuse-unfit : (κs : _) (a : _) → OneAnswer (refuse-unfit-reads.Post κs a)
refuse-unfit κs a r₁ r₂ s₁ s₂ p q = p ∙ sym q

pub refuse-top : (κs : _) (a : _) → OneAnswer (refuse-top-reads.Post κs a)
refuse-top κs a r₁ r₂ s₁ s₂ p q = p ∙ sym q

pub set-state : (κs : _) (a : _) → OneAnswer (set-state-reads.Post κs a)
set-state κs a r₁ r₂ s₁ s₂ p q = p ∙ sym q

pub set-leader-state : (κs : _) (a : _) → OneAnswer (set-leader-state-reads.Post κs a)
set-leader-state κs a r₁ r₂ s₁ s₂ p q = p ∙ sym q

pub set-promise : (κs : _) (a : _) → OneAnswer (set-promise-reads.Post κs a)
set-promise κs a r₁ r₂ s₁ s₂ p q = p ∙ sym q

pub set-decided-idx : (κs : _) (a : _) → OneAnswer (set-decided-idx-reads.Post κs a)
set-decided-idx κs a r₁ r₂ s₁ s₂ p q = p ∙ sym q

pub set-current-seq-num : (κs : _) (a : _) → OneAnswer (set-current-seq-num-reads.Post κs a)
set-current-seq-num κs a r₁ r₂ s₁ s₂ p q = p ∙ sym q

pub set-cached : (κs : _) (a : _) → OneAnswer (set-cached-reads.Post κs a)
set-cached κs a r₁ r₂ s₁ s₂ p q = p ∙ sym q

pub set-latest-accepted : (κs : _) (a : _) → OneAnswer (set-latest-accepted-reads.Post κs a)
set-latest-accepted κs a r₁ r₂ s₁ s₂ p q = p ∙ sym q

pub set-writes : (κs : _) (a : _) → OneAnswer (set-writes-reads.Post κs a)
set-writes κs a r₁ r₂ s₁ s₂ p q = p ∙ sym q

pub bounded-set-storage : (κs : _) (a : _) → OneAnswer (bounded-set-storage-reads.Post κs a)
bounded-set-storage κs a r₁ r₂ s₁ s₂ p q = p ∙ sym q

pub bounded-set-length : (κs : _) (a : _) → OneAnswer (bounded-set-length-reads.Post κs a)
bounded-set-length κs a r₁ r₂ s₁ s₂ p q = p ∙ sym q

pub bounded-set-buffered : (κs : _) (a : _) → OneAnswer (bounded-set-buffered-reads.Post κs a)
bounded-set-buffered κs a r₁ r₂ s₁ s₂ p q = p ∙ sym q

pub with-log : (κs : _) (a : _) → OneAnswer (with-log-reads.Post κs a)
with-log κs a r₁ r₂ s₁ s₂ p q = p ∙ sym q

pub with-cached : (κs : _) (a : _) → OneAnswer (with-cached-reads.Post κs a)
with-cached κs a r₁ r₂ s₁ s₂ p q = p ∙ sym q

pub with-best : (κs : _) (a : _) → OneAnswer (with-best-reads.Post κs a)
with-best κs a r₁ r₂ s₁ s₂ p q = p ∙ sym q

pub with-buffer : (κs : _) (a : _) → OneAnswer (with-buffer-reads.Post κs a)
with-buffer κs a r₁ r₂ s₁ s₂ p q = p ∙ sym q

pub with-buffered : (κs : _) (a : _) → OneAnswer (with-buffered-reads.Post κs a)
with-buffered κs a r₁ r₂ s₁ s₂ p q = p ∙ sym q
