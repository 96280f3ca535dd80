use Rattle.fp_restart.proofs.NumbersBehind.{numbers_next}
use Rattle.fp_restart.proofs.numbers.Numbers.add.Goals as goal

pub loop-entry-preserved : goal.loop-entry-preserved
loop-entry-preserved c =
    numbers_next c.args.entries.now c.loop-entry.entry-index c.entry-item.result c.loop-entry-test.true c.entry-item.is
    c.args.self.now c.loop-entry.self _ c.loop-entry.invariant c.next_format-self.ensures c.in_ok-add_one.ensures
