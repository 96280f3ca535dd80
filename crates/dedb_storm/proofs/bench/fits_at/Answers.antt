use Rattle.std.proofs.Common.{◌∙◌, sym, subst, arith}
use Rattle.fp_model.specs.declared.definitions.DedbDef.{DedbDef}
use Rattle.dedb_calls.specs.Calls.{FitsCallOn}
use Rattle.dedb_calls.proofs.ArgumentLemmas.{indexed}
use Rattle.dedb_storm.proofs.bench.fits_at.Goals as goal
use Rattle.std.proofs.lemmas.Option.{same_Some}

pub held_type-requires : goal.held_type-requires
held_type-requires c = omega (arith, c.requires.some, c.requires.positions)

pub returns : goal.returns
returns c fits def at =
    let here = indexed c.args.defs.now.dedbs c.as_slice.result.now c.index-as_slice-from.result c.args.number c.from.result
    c.as_slice.ensures c.from.ensures c.index-as_slice-from.is c.requires.some in
    subst (λ (d : DedbDef). FitsCallOn d c.args.number c.args.work.now c.args.call.now)
    (same_Some c.index-as_slice-from.result def (sym here ∙ at)) (c.fits_call.ensures fits c.args.work.now (c.held_type.ensures c.index-as_slice-from.result))
