-- What bodies and proofs need of Readiness, beside what contracts say.
use Rattle.std.specs.Prelude.{ℕ}
use Rattle.fp_model.specs.declared.calls.Mode.TheVariants.{Exclusive}
use Rattle.fp_model.specs.declared.calls.Resource.{Resource}
use Rattle.fp_model.specs.declared.calls.Resource.TheVariants.{Anchor}
use Rattle.fp_model.specs.Answers.{Needed}
use Rattle.dedb_calls.specs.declared.ready.DedbReady.{DedbReady}
use Rattle.dedb_calls.specs.declared.ready.DedbReady.TheVariants as dedb
use Rattle.dli_calls.specs.declared.answering.Ready.{Ready}
use Rattle.dli_calls.specs.declared.answering.Ready.TheVariants as ready

-- a resource that is needed Exclusive
abbrev pub needed_exclusive : Resource → Needed
needed_exclusive resource = record { resource = resource; mode = Exclusive }

-- what a call to a data entry database of this number comes to
abbrev pub ready_in : ℕ → DedbReady → Ready
ready_in number (dedb.Answer answer) = ready.Answer answer
ready_in number (dedb.Need anchor mode) = ready.Need (Anchor number anchor) mode
