-- What an answer teaches.
use Rattle.std.proofs.Common.{◌≡◌, refl, subst, ℕ, [], Bool, true, false, ◌&&◌, if◌then◌else◌, Option, Some}
use Rattle.std.specs.Prelude.{◌==◌, find, option_map}
use Rattle.fp_model.specs.declared.calls.Answer.{Answer}
use Rattle.fp_model.specs.declared.calls.Call.{Call}
use Rattle.fp_model.specs.declared.calls.Call.TheVariants as call
use Rattle.fp_model.specs.declared.definitions.Defs.{Defs}
use Rattle.fp_model.specs.Texts.{same_text, trimmed}
use Rattle.fp_model.specs.Operands.{Env, ShownSegment, learned}
use Rattle.fp_model.specs.FitCalls.{FitsAnswerOf, shown_behind}
use Rattle.fp_model.specs.Calls.{database_of, target_of}
use Rattle.txn_machine.specs.declared.known.Lesson.{Lesson}
use Rattle.txn_machine.specs.declared.known.Lesson.TheVariants as lesson
use Rattle.txn_machine.specs.Knowing.{lesson_of}
use Rattle.txn_machine.specs.inside.Knowing.{showing, taught}
use Rattle.txn_machine.specs.inside.Alike.{AreTwins}
use Rattle.txn_machine.specs.Fit.{IsShownSegment}
use Rattle.txn_machine.specs.inside.Fit.{FitsLesson}

-- a get that finds teaches a segment
pub taught_found : (l : Lesson) (db : ℕ) (answer : Answer) (a b : Env) → l ≡ lesson.Segment db
    → same_text (trimmed answer.status) [] ≡ true
    → AreTwins (showing (record { db = db; type_number = answer.segment; bytes = answer.bytes }) a) b
    → AreTwins (taught l answer a) b
taught_found l db answer a b is found h = rw (is, found) h

pub fits_found : (defs : Defs) (l : Lesson) (db : ℕ) (answer : Answer) → l ≡ lesson.Segment db
    → same_text (trimmed answer.status) [] ≡ true
    → FitsLesson defs l answer → IsShownSegment defs
    (record { db = db; type_number = answer.segment; bytes = answer.bytes })
fits_found defs l db answer is found h = subst (λ (l : Lesson). FitsLesson defs l answer) is h found

-- what a call's answer teaches is what it adds
pub learned_taught : (asked : Call) (answer : Answer) (env : Env)
    → learned asked answer env ≡ taught (lesson_of asked) answer env
learned_taught (call.Get get hold db ssas) answer env = refl
learned_taught (call.Fld db key fsas) answer env = refl
learned_taught (call.Isrt db ssas bytes) answer env = refl
learned_taught (call.Repl db bytes) answer env = refl
learned_taught (call.Dlet db) answer env = refl

pub fits_lesson : (defs : Defs) (asked : Call) (answer : Answer) → FitsAnswerOf (target_of defs (database_of asked)) asked answer
    → FitsLesson defs (lesson_of asked) answer
fits_lesson defs (call.Get get hold db ssas) answer h = h
fits_lesson defs (call.Fld db key fsas) answer h = tt
fits_lesson defs (call.Isrt db ssas bytes) answer h = tt
fits_lesson defs (call.Repl db bytes) answer h = tt
fits_lesson defs (call.Dlet db) answer h = tt

-- the types shown last, with what an answer teaches
pub types_taught : (asked : Call) (answer : Answer) (env : Env) (db : ℕ)
    → option_map (λ (s : ShownSegment). s.type_number)
    (find (λ (s : ShownSegment). s.db == db) (taught (lesson_of asked) answer env).shown)
    ≡ shown_behind asked answer (λ n. option_map (λ (s : ShownSegment). s.type_number)
    (find (λ (s : ShownSegment). s.db == n) env.shown)) db
types_taught (call.Get get hold n ssas) answer env db =
    by (same_text (trimmed answer.status) [])
  where
    either : (b : Bool) (x y : Option ShownSegment)
        → option_map (λ (s : ShownSegment). s.type_number) (if b then x else y)
        ≡ (if b then option_map (λ (s : ShownSegment). s.type_number) x
        else option_map (λ (s : ShownSegment). s.type_number) y)
    either true x y = refl
    either false x y = refl

    by : (found : Bool)
        → option_map (λ (s : ShownSegment). s.type_number) (find (λ (s : ShownSegment). s.db == db)
        (if found then showing (record { db = n; type_number = answer.segment; bytes = answer.bytes }) env
        else env).shown)
        ≡ (if found && n == db then Some answer.segment else option_map (λ (s : ShownSegment). s.type_number)
        (find (λ (s : ShownSegment). s.db == db) env.shown))
    by true = either (n == db) (Some (record { db = n; type_number = answer.segment; bytes = answer.bytes }))
        (find (λ (s : ShownSegment). s.db == db) env.shown)
    by false = refl
types_taught (call.Fld n key fsas) answer env db = refl
types_taught (call.Isrt n ssas bytes) answer env db = refl
types_taught (call.Repl n bytes) answer env db = refl
types_taught (call.Dlet n) answer env db = refl
