-- What bodies and proofs need of FitCalls, beside what contracts say.
use Rattle.std.specs.Prelude.{◌≡◌, ⊤, List, [], true}
use Rattle.fp_model.specs.declared.definitions.MsdbDef.{MsdbDef}
use Rattle.fp_model.specs.declared.calls.Answer.{Answer}
use Rattle.fp_model.specs.declared.calls.Call.{Call}
use Rattle.fp_model.specs.declared.calls.Call.TheVariants as call
use Rattle.fp_model.specs.declared.scripts.Statement.TheOpen.{Get}
use Rattle.fp_model.specs.Texts.{same_text, trimmed}
use Rattle.fp_model.specs.FitCalls.{OfMsdb, IsShownOn}

-- ---- answers

-- where the call is a get, and its answer says that it found, the answer shows a segment of the database
abbrev pub FitsAnswer : List MsdbDef → Call → Answer → Type 0
FitsAnswer defs (call.Get get hold db ssas) answer =
    same_text (trimmed answer.status) [] ≡ true → OfMsdb defs db (IsShownOn answer.segment answer.bytes)
FitsAnswer defs c answer = ⊤
