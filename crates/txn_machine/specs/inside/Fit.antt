-- What bodies and proofs need of Fit, beside what contracts say.
use Rattle.std.specs.Prelude.{◌≡◌, ⊤, [], true}
use Rattle.fp_model.specs.declared.definitions.Defs.{Defs}
use Rattle.fp_model.specs.declared.calls.Answer.{Answer}
use Rattle.fp_model.specs.Texts.{same_text, trimmed}
use Rattle.txn_machine.specs.declared.known.Lesson.{Lesson}
use Rattle.txn_machine.specs.declared.known.Lesson.TheVariants as lesson
use Rattle.txn_machine.specs.Fit.{IsShownSegment}

-- where the lesson is a segment, and the answer says that it found, the answer shows one
abbrev pub FitsLesson : Defs → Lesson → Answer → Type 0
FitsLesson defs (lesson.Segment db) answer =
    same_text (trimmed answer.status) [] ≡ true → IsShownSegment defs
    (record { db = db; type_number = answer.segment; bytes = answer.bytes })
FitsLesson defs lesson.Letters answer = ⊤
FitsLesson defs lesson.Nothing answer = ⊤
