-- The refusals by number (R2), and an answer by number: 0 where nothing was refused.
use Rattle.std.specs.Prelude.{ℕ, ◌≡◌, ◌≢◌, Result, Ok, Err, MatchResult}
use Rattle.base.specs.declared.NoRefusal.{NoRefusal}
use Rattle.base.specs.declared.Refusal.{Refusal}
use Rattle.base.specs.declared.Refusal.TheVariants.{WrongCall, Broken, Stranger, Unfit, LogFull, QueueFull, AtTop, BufferFull}

abbrev pub number_of : Refusal → ℕ
number_of WrongCall = 1
number_of Broken = 2
number_of Stranger = 3
number_of Unfit = 4
number_of LogFull = 5
number_of QueueFull = 6
number_of AtTop = 7
number_of BufferFull = 8

abbrev pub answer_number : {T : Type 0} → Result T Refusal → ℕ
answer_number (Ok value) = 0
answer_number (Err refusal) = number_of refusal

-- the refusal with this number, or the number that is no refusal's
abbrev pub Numbered : ℕ → Result Refusal NoRefusal → Type 0
Numbered number r = MatchResult r (λ refusal. number_of refusal ≡ number) (λ e. (e.0 ≡ number) × ((refusal : Refusal) → number_of refusal ≢ number))
