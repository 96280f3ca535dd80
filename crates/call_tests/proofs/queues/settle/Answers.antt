use Rattle.std.proofs.Common.{◌∙◌, subst, sym}
use Rattle.std.specs.List.{AllZip}
use Rattle.fp_model.specs.CheckpointText.{IsMsdbOf}
use Rattle.msdb_store.specs.Settling.{IsStaged}
use Rattle.call_tests.proofs.queues.settle.Goals as goal

pub returns : goal.returns
returns c defs can =
    c.publish.ensures.of defs (record {
      layouts = c.in_ok-reserve.ensures.layouts ∙ can.of.layouts;
      each =
          subst (AllZip IsMsdbOf defs) (sym c.in_ok-reserve.ensures.msdbs) can.of.each;
    })
    (subst (λ msdbs. IsStaged defs msdbs c.in_ok-staged.staged) (sym c.in_ok-reserve.ensures.msdbs)
    (c.in_ok-staged.ensures.staged defs can))
