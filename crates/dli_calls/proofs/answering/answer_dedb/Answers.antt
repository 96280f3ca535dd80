use Rattle.std.proofs.Common.{◌≡◌, refl, subst, sym}
use Rattle.ci_locks.specs.Table.{standing}
use Rattle.dedb_calls.specs.Anchors.{Sees}
use Rattle.fp_model.specs.Calls.{OnDedb}
use Rattle.fp_model.specs.DedbCalls.{dedb_need, dedb_reply}
use Rattle.fp_model.specs.FitCalls.{FitsAnswerOf}
use Rattle.dli_calls.specs.contracts.work.Work.{the_view}
use Rattle.dli_calls.specs.Progress.{IsWorkOf, Progress}
use Rattle.dli_calls.specs.Readiness.{IfAnswer, needed_in}
use Rattle.dli_calls.proofs.ReadyLemmas.{answers_in, needs_in}
use Rattle.dli_calls.proofs.answering.answer_dedb.Goals as goal

pub returns-clause-need : goal.returns-clause-need
returns-clause-need g c def db there sees =
    let P : Progress → Type 0 = λ w. Sees db w.anchors → needed_in c.ready_in.result
    ≡ dedb_need def c.args.number db w.own ((standing c.args.locks.now).holds c.args.region) c.args.call.now in
    let h : P (the_view c.work.inside) = λ seen. needs_in c.args.number c.in_ok-came.came c.ready_in.result _
    c.ready_in.ensures ((c.in_ok-came.ensures.comes def there).need db (the_view c.work.inside).own seen) in
    subst P c.work.view_is h sees

pub returns-clause-answer : goal.returns-clause-answer
returns-clause-answer g c def db there sees =
    let new : Progress = the_view (record c.work.inside { dedbs = c.answer.new.work }) in
    let P : Progress → Type 0 = λ w. Sees db w.anchors → IfAnswer c.ready_in.result (λ answer.
    dedb_reply def c.args.number db w.own c.args.call.now ≡ record { answer = answer; own = new.own }) in
    let h : P (the_view c.work.inside) = λ seen. answers_in c.args.number c.in_ok-came.came c.ready_in.result _
    c.ready_in.ensures ((c.in_ok-came.ensures.comes def there).answer db (the_view c.work.inside).own seen) in
    subst P c.work.view_is h sees

pub returns-clause-shown : goal.returns-clause-shown
returns-clause-shown g c def there =
    answers_in c.args.number c.in_ok-came.came c.ready_in.result
    (FitsAnswerOf (OnDedb def c.args.number) c.args.call.now) c.ready_in.ensures (c.in_ok-came.ensures.shown def there)

pub returns-clause-of : goal.returns-clause-of
returns-clause-of g c =
    let was : IsWorkOf c.args.defs.now (the_view c.work.inside) =
    subst (IsWorkOf c.args.defs.now) (sym c.work.view_is) c.requires.work in
    record {
      positions = was.positions;
      deferred = was.deferred;
      changes = was.changes;
      dedbs = c.answer.ensures.of;
      edits = refl;
    }
