-- What bodies and proofs need of Knowing, beside what contracts say.
use Rattle.std.specs.Prelude.{[], ◌∷◌, Option, Some, None, if◌then◌else◌}
use Rattle.fp_model.specs.declared.calls.Answer.{Answer}
use Rattle.fp_model.specs.Texts.{same_text, trimmed}
use Rattle.fp_model.specs.Operands.{Env, ShownSegment}
use Rattle.txn_machine.specs.declared.shown.Shown.{Shown}
use Rattle.txn_machine.specs.declared.known.Lesson.{Lesson}
use Rattle.txn_machine.specs.declared.known.Lesson.TheVariants as lesson

-- what there is in a place, where there is a place
abbrev pub in_place : Option (Option Shown) → Option Shown
in_place None = None
in_place (Some place) = place

-- ---- lessons

-- with a segment shown
abbrev pub showing : ShownSegment → Env → Env
showing shown env = record env { shown = shown ∷ env.shown }

-- what it adds
abbrev pub taught : Lesson → Answer → Env → Env
taught (lesson.Segment db) answer env =
    if same_text (trimmed answer.status) []
    then showing (record { db = db; type_number = answer.segment; bytes = answer.bytes }) env
    else env
taught lesson.Letters answer env = record env { letters = answer.letters }
taught lesson.Nothing answer env = env
