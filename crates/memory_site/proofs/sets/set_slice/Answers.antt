use Rattle.std.proofs.Common.{sym, ◌∙◌}
use Rattle.memory_site.proofs.DataSets.{set_bytes_read, set_bytes_past}
use Rattle.memory_site.proofs.sets.set_slice.Goals as goal

pub returns-then-set-sets : goal.returns-then-set-sets
returns-then-set-sets c = c.as_slice.ensures.value ∙ sym
    (set_bytes_read c.args.sets.now c.args.set c.index-sets-set.result c.if-set-sets.true c.index-sets-set.is)

pub returns-else-set-sets : goal.returns-else-set-sets
returns-else-set-sets c = sym (set_bytes_past c.args.sets.now c.args.set c.if-set-sets.false)
