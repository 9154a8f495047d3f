-- Two results that decide the same of a box are the same result.
use mathlib.Core.Bool.{cond}
use mathlib.Core.Path.{◌≡◌, refl, sym, ap, ◌∙◌}
use lib.Dec.{eqb}
use Rattle.std.specs.Prelude.{Result, Ok, Err}
use Rattle.base.proofs.Numbers.{refusal_of}
use Rattle.base.specs.declared.Refusal.{Refusal}
use Rattle.base.specs.declared.Refusal.TheVariants.{WrongCall, Broken, Stranger, Unfit, LogFull, QueueFull, AtTop, BufferFull}
use Rattle.paxos_box.specs.declared.SequencePaxos.{SequencePaxos}
use Rattle.outcome.specs.Outcome.{Decision, as_decision}

-- the result that a decision stands for
meant : Decision → Result SequencePaxos Refusal
meant d = cond (eqb d.no 0) (Ok d.node) (Err (refusal_of d.no))

back : (found : SequencePaxos) (r : Result SequencePaxos Refusal) → meant (as_decision found r) ≡ r
unfolding meant
back found (Ok s) = refl
back found (Err WrongCall) = refl
back found (Err Broken) = refl
back found (Err Stranger) = refl
back found (Err Unfit) = refl
back found (Err LogFull) = refl
back found (Err QueueFull) = refl
back found (Err AtTop) = refl
back found (Err BufferFull) = refl

pub decided-alike : (found : SequencePaxos) (a b : Result SequencePaxos Refusal) → as_decision found a ≡ as_decision found b → a ≡ b
decided-alike found a b e = sym (back found a) ∙ ap meant e ∙ back found b
