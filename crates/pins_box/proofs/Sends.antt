-- Written by tools/pins --write, from the promises of crates/sends/src: any two outcomes that a call's own promise allows are one.
use mathlib.Core.Path.{sym, ◌∙◌}
use Rattle.pins.proofs.One.{OneAnswer}
use Rattle.sends.proofs.suffix_length.Reads as suffix-length-reads
use Rattle.sends.proofs.check_log_sync.Reads as check-log-sync-reads
use Rattle.sends.proofs.set_latest_accept_meta.Reads as set-latest-accept-meta-reads
use Rattle.sends.proofs.send_prepare.Reads as send-prepare-reads
use Rattle.sends.proofs.send_accsync.Reads as send-accsync-reads
use Rattle.sends.proofs.send_acceptdecide.Reads as send-acceptdecide-reads
use Rattle.sends.proofs.send_decide.Reads as send-decide-reads
use Rattle.sends.proofs.send_preparereq.Reads as send-preparereq-reads
use Rattle.sends.proofs.send_each.Reads as send-each-reads
use Rattle.sends.proofs.peers.Reads as peers-reads

pub suffix-length : (κs : _) (a : _) → OneAnswer (suffix-length-reads.Post κs a)
suffix-length κs a r₁ r₂ s₁ s₂ p q = p.0 ∙ sym q.0

pub check-log-sync : (κs : _) (a : _) → OneAnswer (check-log-sync-reads.Post κs a)
check-log-sync κs a r₁ r₂ s₁ s₂ p q = p ∙ sym q

pub set-latest-accept-meta : (κs : _) (a : _) → OneAnswer (set-latest-accept-meta-reads.Post κs a)
set-latest-accept-meta κs a r₁ r₂ s₁ s₂ p q = p ∙ sym q

pub send-prepare : (κs : _) (a : _) → OneAnswer (send-prepare-reads.Post κs a)
send-prepare κs a r₁ r₂ s₁ s₂ p q = p ∙ sym q

pub send-accsync : (κs : _) (a : _) → OneAnswer (send-accsync-reads.Post κs a)
send-accsync κs a r₁ r₂ s₁ s₂ p q = p ∙ sym q

pub send-acceptdecide : (κs : _) (a : _) → OneAnswer (send-acceptdecide-reads.Post κs a)
send-acceptdecide κs a r₁ r₂ s₁ s₂ p q = p ∙ sym q

pub send-decide : (κs : _) (a : _) → OneAnswer (send-decide-reads.Post κs a)
send-decide κs a r₁ r₂ s₁ s₂ p q = p ∙ sym q

pub send-preparereq : (κs : _) (a : _) → OneAnswer (send-preparereq-reads.Post κs a)
send-preparereq κs a r₁ r₂ s₁ s₂ p q = p ∙ sym q

pub send-each : (κs : _) (a : _) → OneAnswer (send-each-reads.Post κs a)
send-each κs a r₁ r₂ s₁ s₂ p q = p ∙ sym q

pub peers : (κs : _) (a : _) → OneAnswer (peers-reads.Post κs a)
peers κs a r₁ r₂ s₁ s₂ p q = p ∙ sym q
