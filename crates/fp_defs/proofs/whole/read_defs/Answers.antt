use Rattle.std.proofs.Common.{◌∙◌, sym}
use Rattle.fp_defs.proofs.ReadLemmas.{randomizers_there}
use Rattle.fp_defs.proofs.whole.read_defs.Goals as goal

pub returns-in-None-clause-randomizers : goal.returns-in-None-clause-randomizers
returns-in-None-clause-randomizers g c = randomizers_there _ c.in_ok-defs.defs (sym c.lacking.ensures ∙ c.in-None.is)
