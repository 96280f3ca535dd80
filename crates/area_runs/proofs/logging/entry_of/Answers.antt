use Rattle.std.proofs.Common.{length, arith, ap}
use Rattle.area_runs.proofs.BankLemmas.{all_spelled}
use Rattle.area_runs.proofs.logging.entry_of.Goals as goal

pub returns-clause-rules : goal.returns-clause-rules
returns-clause-rules c = record { in_order = c.requires.order; parts = tt }

pub returns-clause-fits : goal.returns-clause-fits
returns-clause-fits c = record {
  outcome = tt;
  line = omega (arith, ap length c.new.ensures);
  reply = omega (arith, ap length c.new-2.ensures);
  notes = omega (arith, ap length c.new-3.ensures);
  items = c.requires.count;
  each_item = all_spelled c.args.items c.requires.fit;
}
