use Rattle.std.proofs.Common.{List, refl, subst, sym}
use Rattle.std.specs.List.{AllByRecursion}
use Rattle.fp_model.specs.WellFormed.{IsMsdbDef}
use Rattle.fp_model.specs.declared.definitions.MsdbDef.{MsdbDef}
use Rattle.dedb_storm.proofs.alone.ask_once.Goals as goal

pub answer-requires-clause-defs : goal.answer-requires-clause-defs
answer-requires-clause-defs g c = subst (λ (ds : List MsdbDef). AllByRecursion IsMsdbDef ds) (sym c.requires.none) tt

pub answer-requires-clause-call : goal.answer-requires-clause-call
answer-requires-clause-call g c = c.if-not-fits.ensures refl
