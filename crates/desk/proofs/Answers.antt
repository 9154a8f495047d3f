-- Calls that only answer: any two answers that a call's own promise allows are one. `Post κs a r s` is what the promise says of the arguments a, the answer r and what is lent at exit.
use mathlib.Core.Path.{◌≡◌, sym, ◌∙◌}
use Rattle.base.proofs.limits_of_document.Reads as limits-of-document-reads
use Rattle.ballot.proofs.Ballot.default.Reads as ballot-default-reads
use Rattle.ballot.proofs.Ballot.compare.Reads as compare-reads
use Rattle.ballot.proofs.Ballot.same.Reads as same_Reads
use Rattle.ballot.proofs.Ballot.above.Reads as above-reads
use Rattle.ballot.proofs.Ballot.is_default.Reads as is-default-reads
use Rattle.sequence.proofs.SequenceNumber.default.Reads as sequence-default-reads
use Rattle.sequence.proofs.SequenceNumber.check_msg_status.Reads as check-msg-status-reads
use Rattle.quorum.proofs.Quorum.with.Reads as quorum-with-reads
use Rattle.quorum.proofs.Quorum.read_size.Reads as read-size-reads
use Rattle.quorum.proofs.Quorum.write_size.Reads as write-size-reads
use Rattle.quorum.proofs.Quorum.is_prepare_quorum.Reads as is-prepare-quorum-reads
use Rattle.quorum.proofs.Quorum.is_accept_quorum.Reads as is-accept-quorum-reads
use Rattle.quorum.proofs.Configuration.stands.Reads as stands-reads
use Rattle.quorum.proofs.Configuration.is_depot.Reads as is-depot-reads
use Rattle.leader_state.proofs.PromiseState.is_promised.Reads as is-promised-reads
use Rattle.leader_state.proofs.PromiseMetaData.beats.Reads as beats-reads
use Rattle.leader_state.proofs.PromiseMetaData.sync_start.Reads as sync-start-reads
use Rattle.leader_state.proofs.MaxPromise.none.Reads as leader-state-none-reads
use Rattle.leader_state.proofs.Depot.fresh.Reads as leader-state-fresh-reads
use Rattle.leader_state.proofs.LeaderState.with.Reads as leader-state-with-reads
use Rattle.leader_state.proofs.LeaderState.reset_latest_accept_meta.Reads as reset-latest-accept-meta-reads
use Rattle.leader_state.proofs.LeaderState.set_accepted_idx.Reads as set-accepted-idx-reads
use Rattle.leader_state.proofs.LeaderState.increment_seq_num_session.Reads as increment-seq-num-session-reads
use Rattle.leader_state.proofs.LeaderState.next_seq_num.Reads as next-seq-num-reads
use Rattle.leader_state.proofs.LeaderState.set_latest_accept_meta.Reads as set-latest-accept-meta-reads
use Rattle.leader_state.proofs.LeaderState.reset_promise.Reads as reset-promise-reads
use Rattle.leader_state.proofs.LeaderState.lost_promise.Reads as lost-promise-reads
use Rattle.leader_state.proofs.LeaderState.get_depot.Reads as get-depot-reads
use Rattle.leader_state.proofs.LeaderState.get_seq_num.Reads as get-seq-num-reads
use Rattle.leader_state.proofs.LeaderState.get_promise_meta.Reads as get-promise-meta-reads
use Rattle.leader_state.proofs.LeaderState.get_latest_accept_meta.Reads as get-latest-accept-meta-reads
use Rattle.leader_state.proofs.LeaderState.beats_best.Reads as beats-best-reads
use Rattle.leader_state.proofs.LeaderState.set_promise.Reads as set-promise-reads
use Rattle.leader_state.proofs.LeaderState.take_max_promise_sync.Reads as take-max-promise-sync-reads
use Rattle.leader_state.proofs.LeaderState.get_max_decided_idx.Reads as get-max-decided-idx-reads
use Rattle.leader_state.proofs.LeaderState.is_chosen.Reads as is-chosen-reads
use Rattle.leader_state.proofs.LeaderState.get_promised_followers.Reads as get-promised-followers-reads
use Rattle.leader_state.proofs.LeaderState.get_preparable_peers.Reads as get-preparable-peers-reads
use Rattle.hire_book.proofs.is_broken.Reads as is-broken-reads
use Rattle.hire_book.proofs.any_above.Reads as any-above-reads
use Rattle.report.proofs.Reader.fresh.Reads as report-fresh-reads

abbrev pub OneAnswer : {R S : Type 0} → (R → S → Type 0) → Type 0
OneAnswer {R} {S} P = (r₁ r₂ : R) (s₁ s₂ : S) → P r₁ s₁ → P r₂ s₂ → r₁ ≡ r₂

pub limits-of-document : (κs : _) (a : _) → OneAnswer (limits-of-document-reads.Post κs a)
limits-of-document κs a r₁ r₂ s₁ s₂ p q = p ∙ sym q

pub ballot-default : (κs : _) (a : _) → OneAnswer (ballot-default-reads.Post κs a)
ballot-default κs a r₁ r₂ s₁ s₂ p q = p ∙ sym q

pub compare : (κs : _) (a : _) → OneAnswer (compare-reads.Post κs a)
compare κs a r₁ r₂ s₁ s₂ p q = p ∙ sym q

pub same : (κs : _) (a : _) → OneAnswer (same_Reads.Post κs a)
same κs a r₁ r₂ s₁ s₂ p q = p ∙ sym q

pub above : (κs : _) (a : _) → OneAnswer (above-reads.Post κs a)
above κs a r₁ r₂ s₁ s₂ p q = p ∙ sym q

pub is-default : (κs : _) (a : _) → OneAnswer (is-default-reads.Post κs a)
is-default κs a r₁ r₂ s₁ s₂ p q = p ∙ sym q

pub sequence-default : (κs : _) (a : _) → OneAnswer (sequence-default-reads.Post κs a)
sequence-default κs a r₁ r₂ s₁ s₂ p q = p ∙ sym q

pub check-msg-status : (κs : _) (a : _) → OneAnswer (check-msg-status-reads.Post κs a)
check-msg-status κs a r₁ r₂ s₁ s₂ p q = p ∙ sym q

pub quorum-with : (κs : _) (a : _) → OneAnswer (quorum-with-reads.Post κs a)
quorum-with κs a r₁ r₂ s₁ s₂ p q = p ∙ sym q

pub read-size : (κs : _) (a : _) → OneAnswer (read-size-reads.Post κs a)
read-size κs a r₁ r₂ s₁ s₂ p q = p ∙ sym q

pub write-size : (κs : _) (a : _) → OneAnswer (write-size-reads.Post κs a)
write-size κs a r₁ r₂ s₁ s₂ p q = p ∙ sym q

pub is-prepare-quorum : (κs : _) (a : _) → OneAnswer (is-prepare-quorum-reads.Post κs a)
is-prepare-quorum κs a r₁ r₂ s₁ s₂ p q = p ∙ sym q

pub is-accept-quorum : (κs : _) (a : _) → OneAnswer (is-accept-quorum-reads.Post κs a)
is-accept-quorum κs a r₁ r₂ s₁ s₂ p q = p ∙ sym q

pub stands : (κs : _) (a : _) → OneAnswer (stands-reads.Post κs a)
stands κs a r₁ r₂ s₁ s₂ p q = p ∙ sym q

pub is-depot : (κs : _) (a : _) → OneAnswer (is-depot-reads.Post κs a)
is-depot κs a r₁ r₂ s₁ s₂ p q = p ∙ sym q

pub is-promised : (κs : _) (a : _) → OneAnswer (is-promised-reads.Post κs a)
is-promised κs a r₁ r₂ s₁ s₂ p q = p ∙ sym q

pub beats : (κs : _) (a : _) → OneAnswer (beats-reads.Post κs a)
beats κs a r₁ r₂ s₁ s₂ p q = p ∙ sym q

pub sync-start : (κs : _) (a : _) → OneAnswer (sync-start-reads.Post κs a)
sync-start κs a r₁ r₂ s₁ s₂ p q = p ∙ sym q

pub leader-state-none : (κs : _) (a : _) → OneAnswer (leader-state-none-reads.Post κs a)
leader-state-none κs a r₁ r₂ s₁ s₂ p q = p ∙ sym q

pub leader-state-fresh : (κs : _) (a : _) → OneAnswer (leader-state-fresh-reads.Post κs a)
leader-state-fresh κs a r₁ r₂ s₁ s₂ p q = p ∙ sym q

pub leader-state-with : (κs : _) (a : _) → OneAnswer (leader-state-with-reads.Post κs a)
leader-state-with κs a r₁ r₂ s₁ s₂ p q = p ∙ sym q

pub reset-latest-accept-meta : (κs : _) (a : _) → OneAnswer (reset-latest-accept-meta-reads.Post κs a)
reset-latest-accept-meta κs a r₁ r₂ s₁ s₂ p q = p ∙ sym q

pub set-accepted-idx : (κs : _) (a : _) → OneAnswer (set-accepted-idx-reads.Post κs a)
set-accepted-idx κs a r₁ r₂ s₁ s₂ p q = p ∙ sym q

pub increment-seq-num-session : (κs : _) (a : _) → OneAnswer (increment-seq-num-session-reads.Post κs a)
increment-seq-num-session κs a r₁ r₂ s₁ s₂ p q = p ∙ sym q

pub next-seq-num : (κs : _) (a : _) → OneAnswer (next-seq-num-reads.Post κs a)
next-seq-num κs a r₁ r₂ s₁ s₂ p q = p ∙ sym q

pub set-latest-accept-meta : (κs : _) (a : _) → OneAnswer (set-latest-accept-meta-reads.Post κs a)
set-latest-accept-meta κs a r₁ r₂ s₁ s₂ p q = p ∙ sym q

pub reset-promise : (κs : _) (a : _) → OneAnswer (reset-promise-reads.Post κs a)
reset-promise κs a r₁ r₂ s₁ s₂ p q = p ∙ sym q

pub lost-promise : (κs : _) (a : _) → OneAnswer (lost-promise-reads.Post κs a)
lost-promise κs a r₁ r₂ s₁ s₂ p q = p ∙ sym q

pub get-depot : (κs : _) (a : _) → OneAnswer (get-depot-reads.Post κs a)
get-depot κs a r₁ r₂ s₁ s₂ p q = p ∙ sym q

pub get-seq-num : (κs : _) (a : _) → OneAnswer (get-seq-num-reads.Post κs a)
get-seq-num κs a r₁ r₂ s₁ s₂ p q = p ∙ sym q

pub get-promise-meta : (κs : _) (a : _) → OneAnswer (get-promise-meta-reads.Post κs a)
get-promise-meta κs a r₁ r₂ s₁ s₂ p q = p ∙ sym q

pub get-latest-accept-meta : (κs : _) (a : _) → OneAnswer (get-latest-accept-meta-reads.Post κs a)
get-latest-accept-meta κs a r₁ r₂ s₁ s₂ p q = p ∙ sym q

pub beats-best : (κs : _) (a : _) → OneAnswer (beats-best-reads.Post κs a)
beats-best κs a r₁ r₂ s₁ s₂ p q = p ∙ sym q

pub set-promise : (κs : _) (a : _) → OneAnswer (set-promise-reads.Post κs a)
set-promise κs a r₁ r₂ s₁ s₂ p q = p ∙ sym q

pub take-max-promise-sync : (κs : _) (a : _) → OneAnswer (take-max-promise-sync-reads.Post κs a)
take-max-promise-sync κs a r₁ r₂ s₁ s₂ p q = p ∙ sym q

pub get-max-decided-idx : (κs : _) (a : _) → OneAnswer (get-max-decided-idx-reads.Post κs a)
get-max-decided-idx κs a r₁ r₂ s₁ s₂ p q = p ∙ sym q

pub is-chosen : (κs : _) (a : _) → OneAnswer (is-chosen-reads.Post κs a)
is-chosen κs a r₁ r₂ s₁ s₂ p q = p ∙ sym q

pub get-promised-followers : (κs : _) (a : _) → OneAnswer (get-promised-followers-reads.Post κs a)
get-promised-followers κs a r₁ r₂ s₁ s₂ p q = p ∙ sym q

pub get-preparable-peers : (κs : _) (a : _) → OneAnswer (get-preparable-peers-reads.Post κs a)
get-preparable-peers κs a r₁ r₂ s₁ s₂ p q = p ∙ sym q

pub is-broken : (κs : _) (a : _) → OneAnswer (is-broken-reads.Post κs a)
is-broken κs a r₁ r₂ s₁ s₂ p q = p ∙ sym q

pub any-above : (κs : _) (a : _) → OneAnswer (any-above-reads.Post κs a)
any-above κs a r₁ r₂ s₁ s₂ p q = p ∙ sym q

pub report-fresh : (κs : _) (a : _) → OneAnswer (report-fresh-reads.Post κs a)
report-fresh κs a r₁ r₂ s₁ s₂ p q = p ∙ sym q
