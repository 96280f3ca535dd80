use Rattle.std.proofs.Common.{◌≡◌, subst, sym, true}
use Rattle.std.specs.List.{AllByRecursion}
use Rattle.dli_calls.proofs.TargetLemmas.{msdb_fits, msdb_only}
use Rattle.fp_exits.specs.Kinds.{has_kind, kinds_of}
use Rattle.fp_model.specs.WellFormed.{IsDedbDef}
use Rattle.call_tests.proofs.transactions.ask_once.Goals as goal

pub answer-requires-clause-call : goal.answer-requires-clause-call
answer-requires-clause-call g c = msdb_fits c.args.defs.now c.args.work.now c.args.call.now c.requires.call

pub answer-requires-clause-known : goal.answer-requires-clause-known
answer-requires-clause-known g c = msdb_only c.args.defs.now _ c.args.call.now c.requires.call

-- there are no data entry databases
pub answer-requires-clause-dedbs : goal.answer-requires-clause-dedbs
answer-requires-clause-dedbs g c = subst (AllByRecursion IsDedbDef) (sym c.requires.alone) tt

pub answer-requires-clause-exits : goal.answer-requires-clause-exits
answer-requires-clause-exits g c =
    subst (AllByRecursion (λ dedb. has_kind (kinds_of c.args.exits.now).spreaders dedb.randomizer ≡ true))
    (sym c.requires.alone) tt
