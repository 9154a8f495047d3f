-- No drain left, nobody to drain, and one drain more.
use Rattle.std.proofs.Common.{◌≡◌, ℕ, zero, suc, ◌≤◌, arith, refl, None, Some}
use Rattle.cluster.specs.declared.Cluster.{Cluster}
use Rattle.rounds.specs.Drains.{drained, next_sender, settled}

pub settled-end : (n : ℕ) (c : Cluster) → n ≤ 0 → settled n c ≡ c
unfolding settled
settled-end zero c h = refl
settled-end (suc n) c h = absurd (omega arith)

pub settled-none : (n : ℕ) (c : Cluster) → next_sender c ≡ None → settled n c ≡ c
unfolding settled
settled-none zero c p = refl
settled-none (suc n) c p = rw p

pub settled-again : (n m k : ℕ) (c d : Cluster) → n ≡ suc m → next_sender c ≡ Some k → d ≡ drained k None c → settled m d ≡ settled n c
unfolding settled
settled-again n m k c d e p q = rw (e, p, q)
