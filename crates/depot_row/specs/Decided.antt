-- What is known of a step once it is decided, and before anything is written.
use Rattle.std.specs.Prelude.{ℕ, ◌≡◌, List, Result, MatchResult}
use Rattle.base.specs.declared.Refusal.{Refusal}
use Rattle.base.specs.Refusal.{number_of}
use Rattle.quorum.specs.declared.Configuration.{Configuration}
use Rattle.messages.specs.declared.Event.{Event}
use Rattle.paxos_box.specs.declared.SequencePaxos.{SequencePaxos}
use Rattle.step.specs.Step.{World, taken_to, refused_with, step_of}
use Rattle.step.specs.Writable.{Writable}

-- the box that was decided fits and is the step's, or the step is refused with the refusal's number
abbrev pub Decided : Configuration → Event → List ℕ → World → Result SequencePaxos Refusal → Type 0
Decided c e entries w r =
    MatchResult r (λ s. Writable entries s w × (step_of c e entries w ≡ taken_to e entries s w)) (λ refusal. step_of c e entries w ≡ refused_with (number_of refusal) w)
