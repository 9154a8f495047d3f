-- Written by tools/pins --write, from the promises of crates/leader_state/src: any two outcomes that a call's own promise allows are one.
use mathlib.Core.Path.{sym, ◌∙◌}
use Rattle.pins.proofs.One.{OneAnswer}
use Rattle.leader_state.proofs.PromiseState.is_promised.Reads as is-promised-reads
use Rattle.leader_state.proofs.PromiseMetaData.beats.Reads as beats-reads
use Rattle.leader_state.proofs.PromiseMetaData.sync_start.Reads as sync-start-reads
use Rattle.leader_state.proofs.MaxPromise.none.Reads as none-reads
use Rattle.leader_state.proofs.Depot.fresh.Reads as fresh-reads
use Rattle.leader_state.proofs.LeaderState.with.Reads as with-reads
use Rattle.leader_state.proofs.LeaderState.reset_latest_accept_meta.Reads as reset-latest-accept-meta-reads
use Rattle.leader_state.proofs.LeaderState.set_accepted_idx.Reads as set-accepted-idx-reads
use Rattle.leader_state.proofs.LeaderState.increment_seq_num_session.Reads as increment-seq-num-session-reads
use Rattle.leader_state.proofs.LeaderState.next_seq_num.Reads as next-seq-num-reads
use Rattle.leader_state.proofs.LeaderState.set_latest_accept_meta.Reads as set-latest-accept-meta-reads
use Rattle.leader_state.proofs.LeaderState.reset_promise.Reads as reset-promise-reads
use Rattle.leader_state.proofs.LeaderState.lost_promise.Reads as lost-promise-reads
use Rattle.leader_state.proofs.LeaderState.get_depot.Reads as get-depot-reads
use Rattle.leader_state.proofs.LeaderState.get_seq_num.Reads as get-seq-num-reads
use Rattle.leader_state.proofs.LeaderState.get_promise_meta.Reads as get-promise-meta-reads
use Rattle.leader_state.proofs.LeaderState.get_latest_accept_meta.Reads as get-latest-accept-meta-reads
use Rattle.leader_state.proofs.LeaderState.beats_best.Reads as beats-best-reads
use Rattle.leader_state.proofs.LeaderState.set_promise.Reads as set-promise-reads
use Rattle.leader_state.proofs.LeaderState.take_max_promise_sync.Reads as take-max-promise-sync-reads
use Rattle.leader_state.proofs.LeaderState.get_max_decided_idx.Reads as get-max-decided-idx-reads
use Rattle.leader_state.proofs.LeaderState.is_chosen.Reads as is-chosen-reads
use Rattle.leader_state.proofs.LeaderState.get_promised_followers.Reads as get-promised-followers-reads
use Rattle.leader_state.proofs.LeaderState.get_preparable_peers.Reads as get-preparable-peers-reads

pub is-promised : (κs : _) (a : _) → OneAnswer (is-promised-reads.Post κs a)
is-promised κs a r₁ r₂ s₁ s₂ p q = p ∙ sym q

pub beats : (κs : _) (a : _) → OneAnswer (beats-reads.Post κs a)
beats κs a r₁ r₂ s₁ s₂ p q = p ∙ sym q

pub sync-start : (κs : _) (a : _) → OneAnswer (sync-start-reads.Post κs a)
sync-start κs a r₁ r₂ s₁ s₂ p q = p ∙ sym q

pub none : (κs : _) (a : _) → OneAnswer (none-reads.Post κs a)
none κs a r₁ r₂ s₁ s₂ p q = p ∙ sym q

pub fresh : (κs : _) (a : _) → OneAnswer (fresh-reads.Post κs a)
fresh κs a r₁ r₂ s₁ s₂ p q = p ∙ sym q

pub with : (κs : _) (a : _) → OneAnswer (with-reads.Post κs a)
with κs a r₁ r₂ s₁ s₂ p q = p ∙ sym q

pub reset-latest-accept-meta : (κs : _) (a : _) → OneAnswer (reset-latest-accept-meta-reads.Post κs a)
reset-latest-accept-meta κs a r₁ r₂ s₁ s₂ p q = p ∙ sym q

pub set-accepted-idx : (κs : _) (a : _) → OneAnswer (set-accepted-idx-reads.Post κs a)
set-accepted-idx κs a r₁ r₂ s₁ s₂ p q = p ∙ sym q

pub increment-seq-num-session : (κs : _) (a : _) → OneAnswer (increment-seq-num-session-reads.Post κs a)
increment-seq-num-session κs a r₁ r₂ s₁ s₂ p q = p ∙ sym q

pub next-seq-num : (κs : _) (a : _) → OneAnswer (next-seq-num-reads.Post κs a)
next-seq-num κs a r₁ r₂ s₁ s₂ p q = p ∙ sym q

pub set-latest-accept-meta : (κs : _) (a : _) → OneAnswer (set-latest-accept-meta-reads.Post κs a)
set-latest-accept-meta κs a r₁ r₂ s₁ s₂ p q = p ∙ sym q

pub reset-promise : (κs : _) (a : _) → OneAnswer (reset-promise-reads.Post κs a)
reset-promise κs a r₁ r₂ s₁ s₂ p q = p ∙ sym q

pub lost-promise : (κs : _) (a : _) → OneAnswer (lost-promise-reads.Post κs a)
lost-promise κs a r₁ r₂ s₁ s₂ p q = p ∙ sym q

pub get-depot : (κs : _) (a : _) → OneAnswer (get-depot-reads.Post κs a)
get-depot κs a r₁ r₂ s₁ s₂ p q = p ∙ sym q

pub get-seq-num : (κs : _) (a : _) → OneAnswer (get-seq-num-reads.Post κs a)
get-seq-num κs a r₁ r₂ s₁ s₂ p q = p ∙ sym q

pub get-promise-meta : (κs : _) (a : _) → OneAnswer (get-promise-meta-reads.Post κs a)
get-promise-meta κs a r₁ r₂ s₁ s₂ p q = p ∙ sym q

pub get-latest-accept-meta : (κs : _) (a : _) → OneAnswer (get-latest-accept-meta-reads.Post κs a)
get-latest-accept-meta κs a r₁ r₂ s₁ s₂ p q = p ∙ sym q

pub beats-best : (κs : _) (a : _) → OneAnswer (beats-best-reads.Post κs a)
beats-best κs a r₁ r₂ s₁ s₂ p q = p ∙ sym q

pub set-promise : (κs : _) (a : _) → OneAnswer (set-promise-reads.Post κs a)
set-promise κs a r₁ r₂ s₁ s₂ p q = p ∙ sym q

pub take-max-promise-sync : (κs : _) (a : _) → OneAnswer (take-max-promise-sync-reads.Post κs a)
take-max-promise-sync κs a r₁ r₂ s₁ s₂ p q = p ∙ sym q

pub get-max-decided-idx : (κs : _) (a : _) → OneAnswer (get-max-decided-idx-reads.Post κs a)
get-max-decided-idx κs a r₁ r₂ s₁ s₂ p q = p ∙ sym q

pub is-chosen : (κs : _) (a : _) → OneAnswer (is-chosen-reads.Post κs a)
is-chosen κs a r₁ r₂ s₁ s₂ p q = p ∙ sym q

pub get-promised-followers : (κs : _) (a : _) → OneAnswer (get-promised-followers-reads.Post κs a)
get-promised-followers κs a r₁ r₂ s₁ s₂ p q = p ∙ sym q

pub get-preparable-peers : (κs : _) (a : _) → OneAnswer (get-preparable-peers-reads.Post κs a)
get-preparable-peers κs a r₁ r₂ s₁ s₂ p q = p ∙ sym q
