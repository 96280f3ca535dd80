-- What a program knows, as the definitions see it, and what an answer adds to it.
use Rattle.std.specs.Prelude.{ℕ, ◌+◌, ◌<◌, List, [], ◌∷◌, length, map, Option, Some, None, IfSome}
use Rattle.fp_model.specs.declared.name.Name.{Name}
use Rattle.fp_model.specs.declared.calls.Answer.{Answer}
use Rattle.fp_model.specs.declared.calls.Call.{Call}
use Rattle.fp_model.specs.declared.calls.Call.TheVariants as call
use Rattle.fp_model.specs.Operands.{Env, Setting, ShownSegment}
use Rattle.txn_machine.specs.declared.known.Known.{Known}
use Rattle.txn_machine.specs.declared.shown.Shown.{Shown}
use Rattle.txn_machine.specs.declared.shown.Gets.{Gets}
use Rattle.txn_machine.specs.declared.known.Lesson.{Lesson}
use Rattle.txn_machine.specs.declared.known.Lesson.TheVariants as lesson

-- a variable that was set
abbrev pub setting_in : Name × List ℕ → Setting
setting_in entry = record { variable = entry.0.0; text = entry.1 }

-- a segment that a get on a database showed
abbrev pub segment_on : ℕ → Shown → ShownSegment
segment_on db shown = record { db = db; type_number = shown.segment; bytes = shown.bytes }

-- the segments of a list that has a place for each database, from the database of a number on
abbrev pub segments_from : ℕ → List (Option Shown) → List ShownSegment
segments_from db [] = []
segments_from db (None ∷ others) = segments_from (db + 1) others
segments_from db (Some shown ∷ others) = segment_on db shown ∷ segments_from (db + 1) others

-- the newest segment first
abbrev pub segments_of : Option Gets → List ShownSegment
segments_of None = []
segments_of (Some gets) = segment_on gets.db gets.newest ∷ segments_from 0 gets.older

-- no letters before the first call
abbrev pub status_of : Option (List ℕ) → List ℕ
status_of None = []
status_of (Some letters) = letters

-- what is known, and the answers not given yet
abbrev pub env_of : Known → List Answer → Env
env_of known answers = record {
  settings = map setting_in known.settings.entries;
  status = status_of known.status;
  letters = known.letters;
  shown = segments_of known.gets;
  answers = answers;
}

-- there is a place for the newest segment among the older ones
abbrev pub HasPlace : Option Gets → Type 0
HasPlace gets = IfSome gets (λ g. g.db < length g.older)

-- ---- lessons

-- what the answer to a call is good for, beside its status
abbrev pub lesson_of : Call → Lesson
lesson_of (call.Get get hold db ssas) = lesson.Segment db
lesson_of (call.Fld db key fsas) = lesson.Letters
lesson_of (call.Isrt db ssas bytes) = lesson.Nothing
lesson_of (call.Repl db bytes) = lesson.Nothing
lesson_of (call.Dlet db) = lesson.Nothing
