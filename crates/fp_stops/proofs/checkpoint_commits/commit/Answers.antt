use Rattle.std.proofs.Common.{◌∙◌, rules, subst, sym}
use Rattle.std.specs.List.{AllZip}
use Rattle.fp_model.specs.CheckpointText.{IsMsdbOf}
use Rattle.msdb_store.specs.Settling.{CanSettle, IsStaged}
use Rattle.fp_stops.proofs.checkpoint_commits.commit.Goals as goal

pub returns-clause-of : goal.returns-clause-of
returns-clause-of c =
    let defs = c.args.defs.now.msdbs in
    let of = c.requires.of in
    let can : CanSettle defs c.args.store.now c.push.new.self =
    record { of = of; defined = c.requires.rules.each_msdb; fit = search rules } in
    c.publish.ensures.of defs (record {
      layouts = c.in_ok-reserve.ensures.layouts ∙ of.layouts;
      each = subst (AllZip IsMsdbOf defs) (sym c.in_ok-reserve.ensures.msdbs) of.each;
    })
    (subst (λ msdbs. IsStaged defs msdbs c.in_ok-staged.staged) (sym c.in_ok-reserve.ensures.msdbs)
    (c.in_ok-staged.ensures.staged defs can))
