use Rattle.std.proofs.Common.{◌≡◌, ◌∙◌, ap, sym, subst, Some, []}
use Rattle.txn_machine.specs.declared.known.Lesson.{Lesson}
use Rattle.txn_machine.specs.inside.Fit.{FitsLesson}
use Rattle.txn_machine.proofs.LessonLemmas.{fits_lesson, types_taught}
use Rattle.txn_machine.specs.Knowing.{env_of, lesson_of}
use Rattle.txn_machine.specs.inside.Knowing.{taught}
use Rattle.fp_model.specs.Operands.{Env, ShownSegment}
use Rattle.std.specs.Prelude.{◌==◌, find, option_map}
use Rattle.txn_machine.proofs.PlaceLemmas.{given}
use Rattle.txn_machine.proofs.program.Program.give.Goals as goal

pub returns-clause-at : goal.returns-clause-at
returns-clause-at c = λ defs statements message answers at.
    let is : c.args.self.now.wait ≡ Some c.in-Some.wait = cc in
    let none = c.take.ensures.after in
    rw none (given defs statements message answers c.args.self.now c.in-Some.wait c.learn.new.self c.args.answer at is
    c.learn.ensures.learns)

pub returns-clause-fit : goal.returns-clause-fit
returns-clause-fit c = λ defs asked waits fit answer.
    let is : Some c.in-Some.wait ≡ Some waits.wait = cc in
    let lesson : c.in-Some.wait.lesson ≡ waits.wait.lesson = cc in
    record {
      shown = c.learn.ensures.fit defs fit.shown
          (subst (λ (l : Lesson). FitsLesson defs l c.args.answer) (sym (lesson ∙ waits.lesson))
          (fits_lesson defs asked c.args.answer answer));
    }

pub returns-clause-types : goal.returns-clause-types
returns-clause-types c = λ asked db waits.
    let is : Some c.in-Some.wait ≡ Some waits.wait = cc in
    let same : c.in-Some.wait.lesson ≡ waits.wait.lesson = cc in
    let lesson : c.in-Some.wait.lesson ≡ lesson_of asked = same ∙ waits.lesson in
    let env : Env = record (env_of c.args.self.now.known []) { status = c.args.answer.status } in
    ap (option_map (λ (s : ShownSegment). s.type_number)) (sym ((c.learn.ensures.learns []).alike.shown.each db))
    ∙ ap (λ (l : Lesson). option_map (λ (s : ShownSegment). s.type_number)
    (find (λ (s : ShownSegment). s.db == db) (taught l c.args.answer env).shown)) lesson
    ∙ types_taught asked c.args.answer env db
