-- The tag of each variant that a record holds, and what a promise holds; where it holds nothing, zeros.
use Rattle.std.specs.Prelude.{ℕ, Option, None, Some}
use Rattle.leader_state.specs.State.{no_best}
use Rattle.leader_state.specs.declared.PromiseState.{PromiseState}
use Rattle.leader_state.specs.declared.PromiseState.TheVariants.{NotPromised, Promised, PromisedHigher}
use Rattle.leader_state.specs.declared.PromiseMetaData.{PromiseMetaData}
use Rattle.paxos_box.specs.declared.Role.{Role}
use Rattle.paxos_box.specs.declared.Role.TheVariants as role
use Rattle.paxos_box.specs.declared.Phase.{Phase}
use Rattle.paxos_box.specs.declared.Phase.TheVariants as phase

abbrev pub option_tag : {A : Type 0} → Option A → ℕ
option_tag None = 0
option_tag (Some x) = 1

abbrev pub promise_tag : PromiseState → ℕ
promise_tag NotPromised = 0
promise_tag (Promised m) = 1
promise_tag PromisedHigher = 2

abbrev pub promise_meta : PromiseState → PromiseMetaData
promise_meta NotPromised = no_best.meta
promise_meta (Promised m) = m
promise_meta PromisedHigher = no_best.meta

abbrev pub role_tag : Role → ℕ
role_tag role.Follower = 0
role_tag role.Leader = 1

abbrev pub phase_tag : Phase → ℕ
phase_tag phase.Prepare = 0
phase_tag phase.Accept = 1
phase_tag phase.Recover = 2
phase_tag phase.None = 3
