-- What a call comes to: its answer, or the lock that it needs first.
use Rattle.std.specs.Prelude.{⊤, Option, Some, None}
use Rattle.fp_model.specs.declared.calls.Answer.{Answer}
use Rattle.fp_model.specs.Answers.{Needed}
use Rattle.dli_calls.specs.declared.answering.Ready.{Ready}
use Rattle.dli_calls.specs.declared.answering.Ready.TheVariants as ready

-- the lock, if one is needed
abbrev pub needed_in : Ready → Option Needed
needed_in (ready.Answer answer) = None
needed_in (ready.Need resource mode) = Some (record { resource = resource; mode = mode })

-- of an answer
abbrev pub IfAnswer : Ready → (Answer → Type 0) → Type 0
IfAnswer (ready.Answer answer) P = P answer
IfAnswer (ready.Need resource mode) P = ⊤

-- where a lock is needed
abbrev pub OnNeed : Ready → Type 0 → Type 0
OnNeed (ready.Answer answer) P = ⊤
OnNeed (ready.Need resource mode) P = P
