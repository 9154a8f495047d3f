-- `reconnected`: a link to a depot came back, or something from it was missed (mod.rs; docs/RULES.md, R8.11). Each definition takes the box last.
-- The function `reconnected` meets `reconnected_of`, `to_recover` meets `recovering`, `left_leader` meets `left_leader`.
use Rattle.std.specs.Prelude.{ℕ, cond, eqb}
use Rattle.paxos_box.specs.declared.SequencePaxos.{SequencePaxos}
use Rattle.paxos_box.specs.declared.Role.TheVariants.{Follower}
use Rattle.paxos_box.specs.declared.Phase.TheVariants as phase
use Rattle.paxos_box.specs.Box.{with_state}
use Rattle.sends.specs.Sends.{send_prepare_req}

-- reconnected(pid): nothing if oneself; if pid is the promise's pid, state becomes (Follower, Recover); then PrepareReq to pid
abbrev pub recovering : SequencePaxos → SequencePaxos
recovering s = with_state (record { role = Follower; phase = phase.Recover }) s

unfoldable pub left_leader : ℕ → SequencePaxos → SequencePaxos
left_leader pid s = cond (eqb pid s.internal_storage.promise.pid) (recovering s) s

unfoldable pub reconnected_of : ℕ → SequencePaxos → SequencePaxos
reconnected_of pid s = cond (eqb pid s.config.pid) s (send_prepare_req pid (left_leader pid s))
