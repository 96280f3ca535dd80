use Rattle.std.proofs.Common.{◌∙◌, refl, ap, sym, subst}
use Rattle.std.specs.Prelude.{IfOk}
use Rattle.dedb_calls.specs.Anchors.{Sees}
use Rattle.dedb_calls.proofs.TargetLemmas.{dedb_has, dedb_replies, named_dedb, named_msdb}
use Rattle.fp_model.specs.Calls.{Target}
use Rattle.fp_model.specs.FitCalls.{FitsAnswerOf}
use Rattle.past_calls.specs.Readiness.{IfAnswer}
use Rattle.past_calls.specs.Targets.{FitsWork, IfDedb, LeavesOthers, anchor_needed}
use Rattle.past_calls.proofs.NeedLemmas.{lacks}
use Rattle.past_calls.proofs.ReadyLemmas.{if_answer}
use Rattle.past_calls.proofs.answering.answer.Goals as goal
use Rattle.plain_laws.proofs.Results.{if_ok_then}
use Rattle.std.proofs.lemmas.Option.{slice_get_within}

-- ---- a main storage database

pub answer_msdb-requires-clause-call : goal.answer_msdb-requires-clause-call
answer_msdb-requires-clause-call g c =
    named_msdb c.args.defs.now c.args.call.now (λ t. FitsWork t c.args.work.now c.args.call.now) (λ p. p)
    c.requires.call c.database_of-number.result c.from-at.result c.len-msdb_count.result c.database_of-number.ensures
    c.from-at.ensures c.len-msdb_count.ensures c.if-at-msdb_count.true

-- ---- a data entry database

pub answer_dedb-requires-clause-number : goal.answer_dedb-requires-clause-number
answer_dedb-requires-clause-number g c =
    let it = (named_dedb c.args.defs.now c.args.call.now (λ t. FitsWork t c.args.work.now c.args.call.now) (λ p. p)
    c.requires.call c.database_of-number.result c.from-at.result c.len-msdb_count.result _ c.database_of-number.ensures
    c.from-at.ensures c.len-msdb_count.ensures c.if-at-msdb_count.false refl) in
    slice_get_within c.args.defs.now.dedbs _ it.def it.there

pub answer_dedb-requires-clause-call : goal.answer_dedb-requires-clause-call
answer_dedb-requires-clause-call g c =
    let it = (named_dedb c.args.defs.now c.args.call.now (λ t. FitsWork t c.args.work.now c.args.call.now) (λ p. p)
    c.requires.call c.database_of-number.result c.from-at.result c.len-msdb_count.result _ c.database_of-number.ensures
    c.from-at.ensures c.len-msdb_count.ensures c.if-at-msdb_count.false refl) in
    dedb_has c.args.defs.now c.args.call.now _ it (λ t. FitsWork t c.args.work.now c.args.call.now) c.requires.call

pub returns-else-at-msdb_count-clause-answer : goal.returns-else-at-msdb_count-clause-answer
returns-else-at-msdb_count-clause-answer g c now visible same other sees =
    let it = (named_dedb c.args.defs.now c.args.call.now (λ t. FitsWork t c.args.work.now c.args.call.now) (λ p. p)
    c.requires.call c.database_of-number.result c.from-at.result c.len-msdb_count.result _ c.database_of-number.ensures
    c.from-at.ensures c.len-msdb_count.ensures c.if-at-msdb_count.false refl) in
    let has = subst (λ (t : Target). IfDedb t (Sees now c.args.work.now.anchors)) it.target sees in
    if_ok_then c.answer_dedb.result (c.answer_dedb.ensures.answer it.def now it.there has)
    (λ came is. if_answer _ _ came is
    (λ answer so. dedb_replies c.args.defs.now c.args.call.now _ it now visible c.args.work.now.own ∙ so))

pub returns-else-at-msdb_count-clause-need : goal.returns-else-at-msdb_count-clause-need
returns-else-at-msdb_count-clause-need g c now sees =
    let it = (named_dedb c.args.defs.now c.args.call.now (λ t. FitsWork t c.args.work.now c.args.call.now) (λ p. p)
    c.requires.call c.database_of-number.result c.from-at.result c.len-msdb_count.result _ c.database_of-number.ensures
    c.from-at.ensures c.len-msdb_count.ensures c.if-at-msdb_count.false refl) in
    let has = subst (λ (t : Target). IfDedb t (Sees now c.args.work.now.anchors)) it.target sees in
    if_ok_then c.answer_dedb.result (c.answer_dedb.ensures.need it.def now it.there has)
    (λ came is. is ∙ ap (λ t. anchor_needed t now c.args.work.now c.args.call.now) (sym it.target))

pub returns-else-at-msdb_count-clause-lacks : goal.returns-else-at-msdb_count-clause-lacks
returns-else-at-msdb_count-clause-lacks g c now sees =
    let it = (named_dedb c.args.defs.now c.args.call.now (λ t. FitsWork t c.args.work.now c.args.call.now) (λ p. p)
    c.requires.call c.database_of-number.result c.from-at.result c.len-msdb_count.result _ c.database_of-number.ensures
    c.from-at.ensures c.len-msdb_count.ensures c.if-at-msdb_count.false refl) in
    let has = subst (λ (t : Target). IfDedb t (Sees now c.args.work.now.anchors)) it.target sees in
    if_ok_then c.answer_dedb.result (c.answer_dedb.ensures.need it.def now it.there has)
    (λ came is. lacks it.def _ now c.args.work.now c.args.call.now came is)

pub returns-else-at-msdb_count-clause-shown : goal.returns-else-at-msdb_count-clause-shown
returns-else-at-msdb_count-clause-shown g c =
    let it = (named_dedb c.args.defs.now c.args.call.now (λ t. FitsWork t c.args.work.now c.args.call.now) (λ p. p)
    c.requires.call c.database_of-number.result c.from-at.result c.len-msdb_count.result _ c.database_of-number.ensures
    c.from-at.ensures c.len-msdb_count.ensures c.if-at-msdb_count.false refl) in
    subst (λ (t : Target). IfOk c.answer_dedb.result (λ came. IfAnswer came (FitsAnswerOf t c.args.call.now)))
    (sym it.target) (c.answer_dedb.ensures.shown it.def it.there)

pub returns-else-at-msdb_count-clause-others : goal.returns-else-at-msdb_count-clause-others
returns-else-at-msdb_count-clause-others g c =
    let it = (named_dedb c.args.defs.now c.args.call.now (λ t. FitsWork t c.args.work.now c.args.call.now) (λ p. p)
    c.requires.call c.database_of-number.result c.from-at.result c.len-msdb_count.result _ c.database_of-number.ensures
    c.from-at.ensures c.len-msdb_count.ensures c.if-at-msdb_count.false refl) in
    subst (λ (t : Target). LeavesOthers t c.args.work.now c.answer_dedb.new.work) (sym it.target)
    (c.answer_dedb.ensures.leaves, c.answer_dedb.ensures.goes)
