use Rattle.std.proofs.Common.{sym}
use Rattle.dli_tree.specs.InOrder.{AreTypes}
use Rattle.fp_model.specs.WellFormed.{IsDedbDef}
use Rattle.fp_model.specs.declared.definitions.DedbDef.{DedbDef}
use Rattle.state_laws.proofs.Lists.{all_at}
use Rattle.call_tests.proofs.trees.answer_on.Goals as goal

-- a database that is defined has types
types_of : (def : DedbDef) → IsDedbDef def → AreTypes def.segments
types_of def good = record { some = good.types.0; few = good.types.1; places = good.places }

pub each_answers-requires : goal.each_answers-requires
each_answers-requires c =
    types_of c.in-Some.def.now
    (all_at IsDedbDef c.args.defs.now.dedbs 0 c.in-Some.def.now c.requires.each_dedb (sym c.in-Some.ensures.value))
