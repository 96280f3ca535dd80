use Rattle.std.proofs.Common.{◌∙◌, ap}
use Rattle.memory_site.specs.Sets.{set_bytes}
use Rattle.memory_site.proofs.DataSets.{set_bytes-push_empty}
use Rattle.memory_site.proofs.sets.reach_set.Goals as goal

pub loop-alloc-preserved : goal.loop-alloc-preserved
loop-alloc-preserved c k =
    ap (λ sets. set_bytes sets k) c.in_ok-push.ensures.items ∙ set_bytes-push_empty c.loop-alloc.sets.items c.new.result
    k c.new.ensures.items ∙ c.loop-alloc.invariant k
