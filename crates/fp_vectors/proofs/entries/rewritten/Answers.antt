use Rattle.log_format.proofs.Lists.{element}
use Rattle.fp_model.specs.LogText.{HasSpelling}
use Rattle.fp_vectors.proofs.entries.rewritten.Goals as goal

-- what was read has a spelling
pub put_entry-requires : goal.put_entry-requires
put_entry-requires c =
    let each = rw (← c.as_slice-e-items.ensures) at c.in_ok-found.ensures.found.each in
    let one = element HasSpelling c.as_slice-e-items.result.now c.loop-e.e-index c.e-item.result c.loop-e-test.true
    c.e-item.is each in
    record { rules = one.rules; fits = one.fits }
