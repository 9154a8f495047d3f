-- A message of the own session whose counter is not above the own one is outdated.
use Prim.Native.Nat.{◌+◌, ◌≤◌}
use mathlib.Core.Path.{◌≡◌}
use native.Mathlib.Omega.{arith}
use borrow.Author.Tests.{le-ltb, le-leb, eq-eqb, ne_eqb}
use Rattle.sequence.specs.Sequence.{status_of}
use Rattle.sequence.specs.declared.SequenceNumber.{SequenceNumber}
use Rattle.sequence.specs.declared.MessageStatus.TheVariants.{Outdated}

module _ (own m : SequenceNumber) (same : m.session ≡ own.session) where
  pub same-outdated : m.counter ≤ own.counter → Outdated ≡ status_of own m
  unfolding status_of
  same-outdated h =
      simp (eq-eqb m.session own.session same, ne_eqb m.counter (own.counter + 1) (λ q. omega arith), le-leb m.counter own.counter h, le-ltb m.session own.session (omega arith))
