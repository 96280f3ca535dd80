-- What bodies and proofs need of Readiness, beside what contracts say.
use Rattle.std.specs.Prelude.{ℕ}
use Rattle.dedb_calls.specs.declared.ready.DedbReady.{DedbReady}
use Rattle.dedb_calls.specs.declared.ready.DedbReady.TheVariants as dedb
use Rattle.past_calls.specs.declared.answering.Ready.{Ready}
use Rattle.past_calls.specs.declared.answering.Ready.TheVariants as ready

-- what a call to the data entry database of this number comes to
abbrev pub ready_in : ℕ → DedbReady → Ready
ready_in number (dedb.Answer answer) = ready.Answer answer
ready_in number (dedb.Need anchor mode) = ready.Need number anchor
