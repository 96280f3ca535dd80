use Rattle.std.proofs.Common.{◌∙◌, refl, ap, sym, subst, ◌++◌, ◌∷◌, []}
use Rattle.std.specs.Prelude.{IfOk, if◌then◌else◌}
use Rattle.ci_locks.specs.Table.{standing}
use Rattle.dedb_calls.specs.Anchors.{Sees}
use Rattle.dedb_calls.specs.Progress.{Knows}
use Rattle.fp_model.specs.Calls.{Target}
use Rattle.fp_model.specs.FitCalls.{FitsAnswerOf}
use Rattle.dli_calls.specs.Readiness.{IfAnswer}
use Rattle.dli_calls.specs.Targets.{IfDedb, LeavesOthers}
use Rattle.dli_calls.proofs.AnswerLemmas.{any_answer, if_answer}
use Rattle.dedb_calls.proofs.TargetLemmas.{dedb_looks, dedb_needs, dedb_replies}
use Rattle.dli_calls.proofs.TargetLemmas.{dedb_fits, names_dedb}
use Rattle.dli_calls.proofs.answering.answer.Goals as goal
use Rattle.plain_laws.proofs.Results.{if_ok_then}
use Rattle.std.proofs.lemmas.Option.{slice_get_within}

pub returns-then-at-msdb_count-clause-answer : goal.returns-then-at-msdb_count-clause-answer
returns-then-at-msdb_count-clause-answer g c db same sees = c.answer_msdb.ensures.answer db same

pub answer_dedb-requires-clause-number : goal.answer_dedb-requires-clause-number
answer_dedb-requires-clause-number g c =
    let it = (names_dedb c.args.defs.now c.args.call.now c.args.work.now c.database_of-number.result c.from-at.result
    c.len-msdb_count.result _ c.database_of-number.ensures c.from-at.ensures c.len-msdb_count.ensures
    c.if-at-msdb_count.false refl c.requires.call) in
    slice_get_within c.args.defs.now.dedbs _ it.def it.there

pub answer_dedb-requires-clause-call : goal.answer_dedb-requires-clause-call
answer_dedb-requires-clause-call g c =
    let it = (names_dedb c.args.defs.now c.args.call.now c.args.work.now c.database_of-number.result c.from-at.result
    c.len-msdb_count.result _ c.database_of-number.ensures c.from-at.ensures c.len-msdb_count.ensures
    c.if-at-msdb_count.false refl c.requires.call) in
    dedb_fits c.args.defs.now c.args.call.now _ it c.args.work.now c.requires.call

pub answer_dedb-requires-clause-known : goal.answer_dedb-requires-clause-known
answer_dedb-requires-clause-known g c =
    let it = (names_dedb c.args.defs.now c.args.call.now c.args.work.now c.database_of-number.result c.from-at.result
    c.len-msdb_count.result _ c.database_of-number.ensures c.from-at.ensures c.len-msdb_count.ensures
    c.if-at-msdb_count.false refl c.requires.call) in
    subst (λ (t : Target). IfDedb t (Knows ((standing c.args.locks.now).holds c.args.region) c.args.work.now.anchors))
    it.target c.requires.known

pub returns-else-at-msdb_count-clause-need : goal.returns-else-at-msdb_count-clause-need
returns-else-at-msdb_count-clause-need g c db same sees =
    let it = (names_dedb c.args.defs.now c.args.call.now c.args.work.now c.database_of-number.result c.from-at.result
    c.len-msdb_count.result _ c.database_of-number.ensures c.from-at.ensures c.len-msdb_count.ensures
    c.if-at-msdb_count.false refl c.requires.call) in
    let has = subst (λ (t : Target). IfDedb t (Sees db c.args.work.now.anchors)) it.target sees in
    if_ok_then c.answer_dedb.result (c.answer_dedb.ensures.need it.def db it.there has)
    (λ came is. is ∙ sym (dedb_needs c.args.defs.now c.args.call.now _ it db c.args.work.now.own
    ((standing c.args.locks.now).holds c.args.region)))

pub returns-else-at-msdb_count-clause-answer : goal.returns-else-at-msdb_count-clause-answer
returns-else-at-msdb_count-clause-answer g c db same sees =
    let it = (names_dedb c.args.defs.now c.args.call.now c.args.work.now c.database_of-number.result c.from-at.result
    c.len-msdb_count.result _ c.database_of-number.ensures c.from-at.ensures c.len-msdb_count.ensures
    c.if-at-msdb_count.false refl c.requires.call) in
    let has = subst (λ (t : Target). IfDedb t (Sees db c.args.work.now.anchors)) it.target sees in
    if_ok_then c.answer_dedb.result (c.answer_dedb.ensures.answer it.def db it.there has)
    (λ came is. if_answer _ _ came is
    (λ answer so. dedb_replies c.args.defs.now c.args.call.now _ it db db c.args.work.now.own ∙ so))

pub returns-else-at-msdb_count-clause-notes : goal.returns-else-at-msdb_count-clause-notes
returns-else-at-msdb_count-clause-notes g c =
    let it = (names_dedb c.args.defs.now c.args.call.now c.args.work.now c.database_of-number.result c.from-at.result
    c.len-msdb_count.result _ c.database_of-number.ensures c.from-at.ensures c.len-msdb_count.ensures
    c.if-at-msdb_count.false refl c.requires.call) in
    let notes = c.args.work.now.notes in
    any_answer _ c.answer_dedb.result (c.answer_dedb.ensures.leaves.notes
    ∙ sym (ap (λ looked. if looked then notes ++ c.args.count ∷ [] else notes)
    (dedb_looks c.args.defs.now c.args.call.now _ it c.args.work.now.own)))

pub returns-else-at-msdb_count-clause-shown : goal.returns-else-at-msdb_count-clause-shown
returns-else-at-msdb_count-clause-shown g c =
    let it = (names_dedb c.args.defs.now c.args.call.now c.args.work.now c.database_of-number.result c.from-at.result
    c.len-msdb_count.result _ c.database_of-number.ensures c.from-at.ensures c.len-msdb_count.ensures
    c.if-at-msdb_count.false refl c.requires.call) in
    subst (λ (t : Target). IfOk c.answer_dedb.result (λ came. IfAnswer came (FitsAnswerOf t c.args.call.now)))
    (sym it.target) (c.answer_dedb.ensures.shown it.def it.there)

pub returns-else-at-msdb_count-clause-others : goal.returns-else-at-msdb_count-clause-others
returns-else-at-msdb_count-clause-others g c =
    let it = (names_dedb c.args.defs.now c.args.call.now c.args.work.now c.database_of-number.result c.from-at.result
    c.len-msdb_count.result _ c.database_of-number.ensures c.from-at.ensures c.len-msdb_count.ensures
    c.if-at-msdb_count.false refl c.requires.call) in
    subst (λ (t : Target). LeavesOthers t c.args.work.now c.answer_dedb.new.work) (sym it.target)
    (c.answer_dedb.ensures.leaves, c.answer_dedb.ensures.goes)
