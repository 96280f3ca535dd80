use Rattle.std.proofs.Common.{◌≡◌, ◌++◌, ◌∷◌, [], ap, refl, sym, subst, ◌∙◌, Some, slice_get, if◌then◌else◌}
use Rattle.std.specs.Prelude.{IfOk}
use Rattle.fp_model.specs.declared.calls.Answer.{Answer}
use Rattle.fp_model.specs.Answers.{Replied}
use Rattle.fp_model.specs.Calls.{OnMsdb, Target, looks_unheld, need_of, reply_to}
use Rattle.fp_model.specs.FitCalls.{FitsAnswerOf}
use Rattle.fp_model.specs.MsdbCalls.{msdb_looks, msdb_reply}
use Rattle.ci_locks.specs.Table.{standing}
use Rattle.dli_calls.specs.contracts.work.Work.{the_view}
use Rattle.dli_calls.specs.Progress.{IsWorkOf, Progress}
use Rattle.dli_calls.specs.Readiness.{IfAnswer, needed_in}
use Rattle.dli_calls.specs.Looks.{segments_in}
use Rattle.dli_calls.specs.Targets.{FitsWork}
use Rattle.dli_calls.proofs.AnswerLemmas.{if_answer}
use Rattle.dli_calls.proofs.MsdbLemmas.{msdbs_of}
use Rattle.dli_calls.proofs.answering.answer_msdb.Goals as goal
use Rattle.msdb_calls.proofs.AnswerLemmas.{looks, names_it, needs, replies, target}
use Rattle.msdb_calls.proofs.WorkLemmas.{fits_msdb}
use Rattle.plain_laws.proofs.Results.{if_ok_then}

pub ready_msdb-requires-clause-stored : goal.ready_msdb-requires-clause-stored
ready_msdb-requires-clause-stored c = record {
  defs = c.args.defs.now.msdbs;
  of = c.requires.store;
  there = subst (λ n. slice_get c.args.defs.now.msdbs n ≡ Some c.of-database.result.def.now)
      c.of-database.ensures.number c.of-database.ensures.there;
}

pub ready_msdb-requires-clause-call : goal.ready_msdb-requires-clause-call
ready_msdb-requires-clause-call c =
    subst (λ (t : Target). FitsWork t c.args.work.now c.args.call.now)
    (target c.args.defs.now c.args.call.now _ _ (names_it _ _ _ _ (c.of-database.ensures.number ∙ c.requires.named)
    c.of-database.ensures.there)) c.requires.call

pub ready_msdb-requires-clause-work : goal.ready_msdb-requires-clause-work
ready_msdb-requires-clause-work c =
    fits_msdb c.args.defs.now.msdbs c.work.inside.msdbs _ _ (msdbs_of c.args.defs.now (the_view c.work.inside)
    (subst (IsWorkOf c.args.defs.now) (sym c.work.view_is) c.requires.work)) c.of-database.ensures.there

pub returns-clause-on : goal.returns-clause-on
returns-clause-on c = (
  c.of-database.result.def.now,
  target c.args.defs.now c.args.call.now _ _ (names_it _ _ _ _ (c.of-database.ensures.number ∙ c.requires.named)
      c.of-database.ensures.there)
      ∙ ap (λ n. OnMsdb c.of-database.result.def.now n) c.of-database.ensures.number,
)

pub returns-clause-need : goal.returns-clause-need
returns-clause-need c db same =
    let held = (standing c.args.locks.now).holds c.args.region in
    let own = (the_view c.work.inside).own in
    subst (λ (work : Progress). IfOk c.ready_msdb.result (λ ready. needed_in ready
    ≡ need_of c.args.defs.now db work.own held c.args.call.now)) c.work.view_is
    (if_ok_then c.ready_msdb.result (c.ready_msdb.ensures.need own)
    (λ ready is. is ∙ sym (needs c.args.defs.now c.args.call.now _ _ (names_it _ _ _ _ (c.of-database.ensures.number
    ∙ c.requires.named) c.of-database.ensures.there) db own held)))

pub returns-clause-answer : goal.returns-clause-answer
returns-clause-answer c db same =
    let n = c.of-database.result.number in
    let def = c.of-database.result.def.now in
    let own = (the_view c.work.inside).own in
    let new : Progress = the_view (record c.work.inside { msdbs = c.ready_msdb.new.msdbs; notes = c.ready_msdb.new.notes }) in
    let segments = segments_in c.args.msdbs.now c.args.number in
    let replied : Answer → Replied = λ answer. record { answer = answer; own = new.own } in
    let here = ap (segments_in c.args.msdbs.now) (sym c.of-database.ensures.number) in
    subst (λ (work : Progress). IfOk c.ready_msdb.result (λ ready. IfAnswer ready (λ answer.
    reply_to c.args.defs.now db db work.own c.args.call.now ≡ replied answer))) c.work.view_is
    (if_ok_then c.ready_msdb.result (c.ready_msdb.ensures.answer own) (λ ready is.
    if_answer (λ answer. msdb_reply def n segments segments own c.args.call.now ≡ replied answer)
    (λ answer. reply_to c.args.defs.now db db own c.args.call.now ≡ replied answer) ready is
    (λ answer so. replies c.args.defs.now c.args.call.now _ _ (names_it _ _ _ _ (c.of-database.ensures.number
    ∙ c.requires.named) c.of-database.ensures.there) db db c.args.msdbs.now.msdbs c.args.msdbs.now.msdbs own same same
    ∙ sym (ap (λ msdb. msdb_reply def n msdb msdb own c.args.call.now) here) ∙ so)))

pub returns-clause-notes : goal.returns-clause-notes
returns-clause-notes c =
    let own = (the_view c.work.inside).own in
    let n = c.of-database.result.number in
    let def = c.of-database.result.def.now in
    let new = c.ready_msdb.new.notes in
    subst (λ (work : Progress). IfOk c.ready_msdb.result (λ ready. IfAnswer ready (λ answer.
    new ≡ (if looks_unheld c.args.defs.now work.own c.args.call.now then work.notes ++ c.args.count ∷ [] else
    work.notes)))) c.work.view_is
    (if_ok_then c.ready_msdb.result (c.ready_msdb.ensures.notes own) (λ ready is.
    let notes = (the_view c.work.inside).notes in
    if_answer (λ answer. new ≡ (if msdb_looks def n own c.args.call.now then notes ++ c.args.count ∷ [] else notes))
    (λ answer. new ≡ (if looks_unheld c.args.defs.now own c.args.call.now then notes ++ c.args.count ∷ [] else notes))
    ready is
    (λ answer so. so ∙ ap (λ looked. if looked then notes ++ c.args.count ∷ [] else notes)
    (sym (looks c.args.defs.now c.args.call.now _ _ (names_it _ _ _ _ (c.of-database.ensures.number
    ∙ c.requires.named) c.of-database.ensures.there) own)))))

pub returns-clause-shown : goal.returns-clause-shown
returns-clause-shown c =
    subst (λ (t : Target). IfOk c.ready_msdb.result (λ came. IfAnswer came (FitsAnswerOf t c.args.call.now)))
    (sym (target c.args.defs.now c.args.call.now _ _ (names_it _ _ _ _ (c.of-database.ensures.number
    ∙ c.requires.named) c.of-database.ensures.there))) c.ready_msdb.ensures.shown

pub returns-clause-of : goal.returns-clause-of
returns-clause-of c =
    let was : IsWorkOf c.args.defs.now (the_view c.work.inside) =
    subst (IsWorkOf c.args.defs.now) (sym c.work.view_is) c.requires.work in
    let kept = c.ready_msdb.ensures.of c.args.defs.now.msdbs c.of-database.ensures.there
    (msdbs_of c.args.defs.now (the_view c.work.inside) was) in
    record {
      positions = kept.positions;
      deferred = kept.deferred;
      changes = kept.changes;
      dedbs = was.dedbs;
      edits = refl;
    }
