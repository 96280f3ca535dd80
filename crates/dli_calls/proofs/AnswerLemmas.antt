-- What is so of answers.
use Rattle.std.specs.Prelude.{Err, IfOk, Ok, Result}
use Rattle.fp_model.specs.declared.calls.Answer.{Answer}
use Rattle.dli_calls.specs.declared.answering.Ready.{Ready}
use Rattle.dli_calls.specs.declared.answering.Ready.TheVariants as ready
use Rattle.dli_calls.specs.Readiness.{IfAnswer}

pub if_answer : (P Q : Answer → Type 0) (r : Ready) → IfAnswer r P → ((answer : Answer) → P answer → Q answer)
    → IfAnswer r Q
if_answer P Q (ready.Answer answer) p f = f answer p
if_answer P Q (ready.Need resource mode) p f = tt

-- what is so of every answer
pub any_answer : {E : Type 0} (P : Type 0) (r : Result Ready E) → P → IfOk r (λ came. IfAnswer came (λ answer. P))
any_answer P (Ok (ready.Answer answer)) p = p
any_answer P (Ok (ready.Need resource mode)) p = tt
any_answer P (Err e) p = tt
