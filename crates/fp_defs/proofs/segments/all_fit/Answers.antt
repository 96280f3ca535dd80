use Rattle.std.proofs.Common.{◌∙◌, sym}
use Rattle.fp_defs.proofs.PlaceLemmas.{fit_goes_on, fit_stops}
use Rattle.fp_defs.proofs.segments.all_fit.Goals as goal

pub returns-in-Err : goal.returns-in-Err
returns-in-Err c = λ real.
    sym c.loop-place.invariant
    ∙ fit_stops c.args.room c.args.drafts.now c.loop-place.place c.stored_length-needed.result c.loop-place-test.true
    c.stored_length-needed.ensures.exact _ (c.in-Err.ensures.exact real)

pub loop-place-preserved : goal.loop-place-preserved
loop-place-preserved c =
    sym (fit_goes_on c.args.room c.args.drafts.now c.loop-place.place c.stored_length-needed.result
    c.loop-place-test.true c.stored_length-needed.ensures.exact _ c.in_default.ensures.exact)
    ∙ c.loop-place.invariant
