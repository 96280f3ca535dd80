use Rattle.std.proofs.Common.{◌∙◌, ap}
use Rattle.fp_model.specs.Items.{with_items}
use Rattle.msdb_store.specs.Store.{IsFitSegment}
use Rattle.fp_restart.proofs.Fits.{all-of, put-next}
use Rattle.fp_restart.proofs.reading.put_entries.Goals as goal

pub returns-in_err-apply-clause-of : goal.returns-in_err-apply-clause-of
returns-in_err-apply-clause-of c defs of fit =
    let so_far = c.loop-entry.invariant defs of fit in
    c.apply.ensures.of defs so_far.0 (all-of (IsFitSegment defs) c.args.entries.now c.loop-entry.entry-index
    c.entry-item.result c.loop-entry-test.true c.entry-item.is fit)

pub loop-entry-preserved : goal.loop-entry-preserved
loop-entry-preserved c defs of fit =
    let so_far = c.loop-entry.invariant defs of fit in
    let here = all-of (IsFitSegment defs) c.args.entries.now c.loop-entry.entry-index c.entry-item.result
    c.loop-entry-test.true c.entry-item.is fit in (
      c.apply.ensures.of defs so_far.0 here,
      c.in_ok-apply.ensures.msdbs defs so_far.0 here ∙ ap (λ ms. with_items defs ms c.entry-item.result.items) so_far.1
          ∙ put-next defs c.args.store.now.msdbs c.args.entries.now c.loop-entry.entry-index c.entry-item.result
          c.loop-entry-test.true c.entry-item.is,
    )
