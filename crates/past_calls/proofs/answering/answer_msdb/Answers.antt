use Rattle.std.proofs.Common.{◌≡◌, ap, refl, sym, subst, ◌∙◌, Some, slice_get, unwrap_or, []}
use Rattle.std.specs.Prelude.{IfOk}
use Rattle.fp_model.specs.declared.database.Msdb.{Msdb}
use Rattle.fp_model.specs.Calls.{Target, reply_to}
use Rattle.fp_model.specs.declared.definitions.MsdbDef.{MsdbDef}
use Rattle.fp_model.specs.FitCalls.{FitsAnswerOf, FitsCall}
use Rattle.fp_model.specs.MsdbCalls.{msdb_reply}
use Rattle.fp_model.specs.WellFormed.{IsMsdbDef}
use Rattle.msdb_calls.proofs.AnswerLemmas.{names_it, replies, target}
use Rattle.msdb_calls.proofs.WorkLemmas.{fits_msdb}
use Rattle.past_segments.specs.Pasts.{databases_at}
use Rattle.past_segments.specs.Times.{database_at}
use Rattle.past_segments.proofs.OfPasts.{past_of}
use Rattle.past_calls.specs.contracts.work.Work.{the_view}
use Rattle.past_calls.specs.Progress.{IsWorkOf, Progress}
use Rattle.past_calls.proofs.MsdbLemmas.{msdbs_of}
use Rattle.past_calls.proofs.PastLemmas.{as_many, def_good, shown_at}
use Rattle.past_calls.proofs.answering.answer_msdb.Goals as goal
use Rattle.plain_laws.proofs.Results.{if_ok_then}
use Rattle.std.proofs.lemmas.Option.{same_Some, slice_get_within}

pub past_of-past-requires : goal.past_of-past-requires
past_of-past-requires c =
    as_many c.args.defs.now.msdbs c.args.pasts.now c.database_of-number.result c.requires.pasts
    (slice_get_within c.args.defs.now.msdbs c.database_of-number.result c.of-database.result.def.now
    (subst (λ n. slice_get c.args.defs.now.msdbs n ≡ Some c.of-database.result.def.now) c.of-database.ensures.number
    c.of-database.ensures.there))

pub is_changed-requires : goal.is_changed-requires
is_changed-requires c =
    fits_msdb c.args.defs.now.msdbs c.work.inside.msdbs _ _ (msdbs_of c.args.defs.now (the_view c.work.inside)
    (subst (IsWorkOf c.args.defs.now) (sym c.work.view_is) c.requires.work)) c.of-database.ensures.there

pub answer-requires-clause-looks : goal.answer-requires-clause-looks
answer-requires-clause-looks c =
    let n = c.of-database.result.number in
    let def = c.of-database.result.def.now in
    let past = c.past_of-past.result.now in
    let is = past_of c.args.defs.now.msdbs c.args.pasts.now n def past c.requires.pasts c.of-database.ensures.there
    (subst (λ m. slice_get c.args.pasts.now m ≡ Some past) (sym c.of-database.ensures.number) c.past_of-past.ensures) in
    record {
      good = def_good IsMsdbDef c.args.defs.now.msdbs n def c.requires.defs c.of-database.ensures.there;
      finds = is;
      standing = is.each c.args.place;
      visible = is.each c.args.note;
    }

pub answer-requires-clause-call : goal.answer-requires-clause-call
answer-requires-clause-call c =
    subst (λ (def : MsdbDef). FitsCall c.args.call.now def) (same_Some c.requires.call.0 c.of-database.result.def.now
    (sym c.requires.call.1 ∙ ap (λ n. slice_get c.args.defs.now.msdbs n) (sym (c.of-database.ensures.number
    ∙ c.database_of-number.ensures)) ∙ c.of-database.ensures.there)) c.requires.call.2

pub answer-requires-clause-work : goal.answer-requires-clause-work
answer-requires-clause-work c =
    fits_msdb c.args.defs.now.msdbs c.work.inside.msdbs _ _ (msdbs_of c.args.defs.now (the_view c.work.inside)
    (subst (IsWorkOf c.args.defs.now) (sym c.work.view_is) c.requires.work)) c.of-database.ensures.there

pub returns-clause-answer : goal.returns-clause-answer
returns-clause-answer c now visible same other =
    let n = c.of-database.result.number in
    let def = c.of-database.result.def.now in
    let past = c.past_of-past.result.now in
    let there : slice_get c.args.pasts.now n ≡ Some past =
    subst (λ m. slice_get c.args.pasts.now m ≡ Some past) (sym c.of-database.ensures.number) c.past_of-past.ensures in
    let segments = shown_at c.args.place c.args.pasts.now n past there in
    let noted = shown_at c.args.note c.args.pasts.now n past there in
    let own = (the_view c.work.inside).own in
    let new : Progress = the_view (record c.work.inside { msdbs = c.answer.new.work }) in
    let found : Msdb = unwrap_or (slice_get (databases_at c.args.note c.args.pasts.now) n) (record { segments = [] }) in
    subst (λ (work : Progress). IfOk c.answer.result (λ answer. reply_to c.args.defs.now now visible work.own
    c.args.call.now ≡ record { answer = answer; own = new.own })) c.work.view_is
    (if_ok_then c.answer.result c.answer.ensures.answer (λ answer so.
    replies c.args.defs.now c.args.call.now n def (names_it _ _ _ _ (c.of-database.ensures.number
    ∙ c.database_of-number.ensures) c.of-database.ensures.there) now visible (databases_at c.args.place c.args.pasts.now)
    (databases_at c.args.note c.args.pasts.now) own same other
    ∙ ap (λ msdb. msdb_reply def n msdb found own c.args.call.now) segments
    ∙ ap (λ msdb. msdb_reply def n (database_at c.args.place past) msdb own c.args.call.now) noted
    ∙ so own))

pub returns-clause-shown : goal.returns-clause-shown
returns-clause-shown c =
    subst (λ (t : Target). IfOk c.answer.result (FitsAnswerOf t c.args.call.now))
    (sym (target c.args.defs.now c.args.call.now _ _ (names_it _ _ _ _ (c.of-database.ensures.number
    ∙ c.database_of-number.ensures) c.of-database.ensures.there))) c.answer.ensures.shown

pub returns-clause-of : goal.returns-clause-of
returns-clause-of c =
    let was : IsWorkOf c.args.defs.now (the_view c.work.inside) =
    subst (IsWorkOf c.args.defs.now) (sym c.work.view_is) c.requires.work in
    let kept = c.answer.ensures.of c.args.defs.now.msdbs c.of-database.ensures.there
    (msdbs_of c.args.defs.now (the_view c.work.inside) was) in
    record {
      positions = kept.positions;
      deferred = kept.deferred;
      changes = kept.changes;
      dedbs = was.dedbs;
      edits = refl;
    }
