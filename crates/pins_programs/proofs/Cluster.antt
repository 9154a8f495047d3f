-- Written by tools/pins --write, from the promises of crates/cluster/src: any two outcomes that a call's own promise allows are one.
use mathlib.Core.Path.{sym, ◌∙◌}
use Rattle.pins.proofs.One.{OneAnswer, told-by}
use Rattle.cluster.proofs.majority.Reads as majority-reads
use Rattle.cluster.proofs.Site.fresh.Reads as site-fresh-reads
use Rattle.cluster.proofs.Site.step.Reads as site-step-reads
use Rattle.cluster.proofs.Site.head.Reads as head-reads
use Rattle.cluster.proofs.Site.receive.Reads as receive-reads
use Rattle.cluster.proofs.Cluster.fresh.Reads as cluster-fresh-reads
use Rattle.cluster.proofs.Cluster.site.Reads as site-reads
use Rattle.cluster.proofs.Cluster.with_site.Reads as with-site-reads
use Rattle.cluster.proofs.Cluster.step.Reads as cluster-step-reads
use Rattle.cluster.proofs.Cluster.deliver.Reads as deliver-reads
use Rattle.cluster.proofs.same.Reads as same-reads

pub majority : (κs : _) (a : _) → OneAnswer (majority-reads.Post κs a)
majority κs a r₁ r₂ s₁ s₂ p q = p ∙ sym q

pub site-fresh : (κs : _) (a : _) → OneAnswer (site-fresh-reads.Post κs a)
site-fresh κs a r₁ r₂ s₁ s₂ p q = p ∙ sym q

pub site-step : (κs : _) (a : _) → OneAnswer (site-step-reads.Post κs a)
site-step κs a r₁ r₂ s₁ s₂ p q = p ∙ sym q

pub head : (κs : _) (a : _) → OneAnswer (head-reads.Post κs a)
head κs a r₁ r₂ s₁ s₂ p q = p ∙ sym q

pub receive : (κs : _) (a : _) → OneAnswer (receive-reads.Post κs a)
receive κs a r₁ r₂ s₁ s₂ p q = p ∙ sym q

pub cluster-fresh : (κs : _) (a : _) → OneAnswer (cluster-fresh-reads.Post κs a)
cluster-fresh κs a r₁ r₂ s₁ s₂ p q = p ∙ sym q

pub site : (κs : _) (a : _) → OneAnswer (site-reads.Post κs a)
site κs a r₁ r₂ s₁ s₂ p q = p ∙ sym q

pub with-site : (κs : _) (a : _) → OneAnswer (with-site-reads.Post κs a)
with-site κs a r₁ r₂ s₁ s₂ p q = p ∙ sym q

pub cluster-step : (κs : _) (a : _) → OneAnswer (cluster-step-reads.Post κs a)
cluster-step κs a r₁ r₂ s₁ s₂ p q = p ∙ sym q

pub deliver : (κs : _) (a : _) → OneAnswer (deliver-reads.Post κs a)
deliver κs a r₁ r₂ s₁ s₂ p q = p ∙ sym q

pub same : (κs : _) (a : _) → OneAnswer (same-reads.Post κs a)
same κs a r₁ r₂ s₁ s₂ p q = told-by r₁ r₂ p q
