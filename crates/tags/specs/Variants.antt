-- The variant that a tag and what it holds mean; a tag above its most is read as the last.
use Rattle.std.specs.Prelude.{ℕ, cond, eqb, Option, None, Some}
use Rattle.leader_state.specs.declared.PromiseState.{PromiseState}
use Rattle.leader_state.specs.declared.PromiseState.TheVariants.{NotPromised, Promised, PromisedHigher}
use Rattle.leader_state.specs.declared.PromiseMetaData.{PromiseMetaData}
use Rattle.paxos_box.specs.declared.Role.{Role}
use Rattle.paxos_box.specs.declared.Role.TheVariants as role
use Rattle.paxos_box.specs.declared.Phase.{Phase}
use Rattle.paxos_box.specs.declared.Phase.TheVariants as phase

abbrev pub option_of : {A : Type 0} → ℕ → A → Option A
option_of tag x = cond (eqb tag 0) None (Some x)

abbrev pub promise_of : ℕ → PromiseMetaData → PromiseState
promise_of tag m = cond (eqb tag 0) NotPromised (cond (eqb tag 1) (Promised m) PromisedHigher)

abbrev pub role_of : ℕ → Role
role_of tag = cond (eqb tag 0) role.Follower role.Leader

abbrev pub phase_of : ℕ → Phase
phase_of tag = cond (eqb tag 0) phase.Prepare (cond (eqb tag 1) phase.Accept (cond (eqb tag 2) phase.Recover phase.None))
