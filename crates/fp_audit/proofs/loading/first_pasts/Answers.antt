use Rattle.fp_audit.proofs.Loads.{loaded_more}
use Rattle.fp_audit.proofs.loading.first_pasts.Goals as goal

pub loop-def-preserved : goal.loop-def-preserved
loop-def-preserved c = record {
  items = c.loop-def.invariant.items;
  loaded = loaded_more c.as_slice-def-items.result.now c.loop-def.def-index c.def-item.result c.loop-def.pasts.items
      c.push.new.self.items c.in_ok-loaded.field-0 c.loop-def-test.true c.def-item.is c.loop-def.invariant.loaded
      c.in_ok-push.ensures.items c.in_ok-loaded.ensures.is c.in_ok-loaded.ensures.settled
      c.in_ok-loaded.ensures.loaded;
}
