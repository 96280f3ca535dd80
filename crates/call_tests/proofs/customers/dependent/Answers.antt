use Rattle.std.proofs.Common.{sym}
use Rattle.fp_model.specs.WellFormed.{IsDedbDef}
use Rattle.state_laws.proofs.Lists.{all_at}
use Rattle.call_tests.proofs.customers.dependent.Goals as goal

pub anchor_of-requires : goal.anchor_of-requires
anchor_of-requires c =
    all_at IsDedbDef c.args.defs.now.dedbs 0 c.in-Some.def.now c.requires.each_dedb (sym c.in-Some.ensures.value)
