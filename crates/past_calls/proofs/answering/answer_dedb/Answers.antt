use Rattle.std.proofs.Common.{◌≡◌, refl, subst, sym}
use Rattle.dedb_calls.specs.Anchors.{Sees}
use Rattle.fp_model.specs.Calls.{OnDedb}
use Rattle.fp_model.specs.DedbCalls.{dedb_reply}
use Rattle.fp_model.specs.FitCalls.{FitsAnswerOf}
use Rattle.past_calls.specs.contracts.work.Work.{the_view}
use Rattle.past_calls.specs.Progress.{IsWorkOf, Progress}
use Rattle.past_calls.specs.Readiness.{IfAnswer, needed_in}
use Rattle.past_calls.specs.Targets.{anchor_needed}
use Rattle.past_calls.proofs.AloneLemmas.{knows_alone}
use Rattle.past_calls.proofs.ReadyLemmas.{answers_in, needs_in}
use Rattle.past_calls.proofs.answering.answer_dedb.Goals as goal

pub answer-requires-clause-known : goal.answer-requires-clause-known
answer-requires-clause-known g c = knows_alone (the_view c.work.inside).anchors

pub returns-clause-need : goal.returns-clause-need
returns-clause-need g c def now there sees =
    let P : Progress → Type 0 = λ w. Sees now w.anchors → needed_in c.ready_in.result
    ≡ anchor_needed (OnDedb def c.args.number) now w c.args.call.now in
    let h : P (the_view c.work.inside) = λ seen. needs_in c.args.number c.in_ok-came.came c.ready_in.result _
    c.ready_in.ensures ((c.in_ok-came.ensures.comes def there).need now (the_view c.work.inside).own seen) in
    subst P c.work.view_is h sees

pub returns-clause-answer : goal.returns-clause-answer
returns-clause-answer g c def now there sees =
    let new : Progress = the_view (record c.work.inside { dedbs = c.answer.new.work }) in
    let P : Progress → Type 0 = λ w. Sees now w.anchors → IfAnswer c.ready_in.result (λ answer.
    dedb_reply def c.args.number now w.own c.args.call.now ≡ record { answer = answer; own = new.own }) in
    let h : P (the_view c.work.inside) = λ seen. answers_in c.args.number c.in_ok-came.came c.ready_in.result _
    c.ready_in.ensures ((c.in_ok-came.ensures.comes def there).answer now (the_view c.work.inside).own seen) in
    subst P c.work.view_is h sees

pub returns-clause-shown : goal.returns-clause-shown
returns-clause-shown g c def there =
    answers_in c.args.number c.in_ok-came.came c.ready_in.result
    (FitsAnswerOf (OnDedb def c.args.number) c.args.call.now) c.ready_in.ensures (c.in_ok-came.ensures.shown def there)

pub returns-clause-of : goal.returns-clause-of
returns-clause-of g c =
    let was : IsWorkOf c.args.defs.now (the_view c.work.inside) =
    subst (IsWorkOf c.args.defs.now) (sym c.work.view_is) c.requires.work in
    record {
      positions = was.positions;
      deferred = was.deferred;
      changes = was.changes;
      dedbs = c.answer.ensures.of;
      edits = refl;
    }
