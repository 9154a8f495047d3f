-- A variant's tag and what it holds are read back as the variant.
use Rattle.std.specs.Prelude.{Option, None, Some, unwrap_or}
use mathlib.Core.Path.{◌≡◌, refl}
use mathlib.Core.Bool.{false}
use lib.Dec.{ltb}
use Rattle.leader_state.specs.declared.PromiseState.{PromiseState}
use Rattle.leader_state.specs.declared.PromiseState.TheVariants.{NotPromised, Promised, PromisedHigher}
use Rattle.paxos_box.specs.declared.Role.{Role}
use Rattle.paxos_box.specs.declared.Role.TheVariants as role
use Rattle.paxos_box.specs.declared.Phase.{Phase}
use Rattle.paxos_box.specs.declared.Phase.TheVariants as phase
use Rattle.tags.specs.Tags.{option_tag, promise_tag, promise_meta, role_tag, phase_tag}
use Rattle.tags.specs.Variants.{option_of, promise_of, role_of, phase_of}

-- whatever stands for nothing
pub option-back : {A : Type 0} (o : Option A) (zeros : A) → option_of (option_tag o) (unwrap_or o zeros) ≡ o
option-back None zeros = refl
option-back (Some x) zeros = refl

-- its tag is 0 or 1
pub option-low : {A : Type 0} (o : Option A) → ltb 1 (option_tag o) ≡ false
option-low None = refl
option-low (Some x) = refl

pub promise-back : (p : PromiseState) → promise_of (promise_tag p) (promise_meta p) ≡ p
promise-back NotPromised = refl
promise-back (Promised m) = refl
promise-back PromisedHigher = refl

pub role-back : (r : Role) → role_of (role_tag r) ≡ r
role-back role.Follower = refl
role-back role.Leader = refl

pub phase-back : (p : Phase) → phase_of (phase_tag p) ≡ p
phase-back phase.Prepare = refl
phase-back phase.Accept = refl
phase-back phase.Recover = refl
phase-back phase.None = refl
