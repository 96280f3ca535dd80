use Rattle.std.proofs.Common.{◌≡◌, ◌∙◌, sym, subst}
use Rattle.fp_model.specs.Calls.{looks_unheld}
use Rattle.msdb_calls.proofs.AnswerLemmas.{looks, names_it}
use Rattle.msdb_calls.proofs.WorkLemmas.{fits_msdb}
use Rattle.past_calls.specs.contracts.work.Work.{the_view}
use Rattle.past_calls.specs.Progress.{IsWorkOf, Progress}
use Rattle.past_calls.proofs.MsdbLemmas.{msdbs_of}
use Rattle.past_calls.proofs.answering.looks_msdb.Goals as goal

pub is_changed-requires : goal.is_changed-requires
is_changed-requires c =
    fits_msdb c.args.defs.now.msdbs c.work.inside.msdbs _ _ (msdbs_of c.args.defs.now (the_view c.work.inside)
    (subst (IsWorkOf c.args.defs.now) (sym c.work.view_is) c.requires.work)) c.of-database.ensures.there

pub returns : goal.returns
returns c =
    let own = (the_view c.work.inside).own in
    let n = c.of-database.result.number in
    let def = c.of-database.result.def.now in
    subst (λ (work : Progress). c.looks.result ≡ looks_unheld c.args.defs.now work.own c.args.call.now) c.work.view_is
    (c.looks.ensures def n own (c.in_ok-changed.ensures own)
    ∙ sym (looks c.args.defs.now c.args.call.now n def (names_it _ _ _ _ (c.of-database.ensures.number
    ∙ c.database_of.ensures) c.of-database.ensures.there) own))
