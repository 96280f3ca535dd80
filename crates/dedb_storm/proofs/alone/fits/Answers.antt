use Rattle.std.proofs.Common.{◌≡◌, ◌<◌, List, ap, arith, length, subst, sym}
use Rattle.fp_model.specs.Calls.{Target, database_of}
use Rattle.fp_model.specs.declared.definitions.MsdbDef.{MsdbDef}
use Rattle.dedb_calls.proofs.ArgumentLemmas.{indexed}
use Rattle.dedb_calls.proofs.TargetLemmas.{on_dedb}
use Rattle.past_calls.specs.Progress.{dedbs_in}
use Rattle.past_calls.specs.Targets.{FitsWork}
use Rattle.dedb_storm.proofs.alone.fits.Goals as goal

pub held_type-requires : goal.held_type-requires
held_type-requires c = omega (arith, c.if-at-len.false, c.len.ensures, c.requires.positions, c.from-at.ensures)

pub returns : goal.returns
returns c fits =
    let none : length c.args.defs.now.msdbs ≡ 0 = ap (λ (ds : List MsdbDef). length ds) c.requires.none in
    let some : c.database_of-number.result < length c.args.defs.now.dedbs =
    omega (arith, c.if-at-len.false, c.len.ensures, c.from-at.ensures) in
    let there = indexed c.args.defs.now.dedbs c.as_slice.result.now c.index-as_slice-at.result c.database_of-number.result
    c.from-at.result c.as_slice.ensures c.from-at.ensures c.index-as_slice-at.is some in
    subst (λ (t : Target). FitsWork t c.args.work.now c.args.call.now)
    (sym (on_dedb c.args.defs.now (database_of c.args.call.now) c.database_of-number.result c.index-as_slice-at.result
    (omega (arith, none)) (omega (arith, none, c.database_of-number.ensures)) there))
    (c.fits_call.ensures fits (dedbs_in c.args.work.now) (c.held_type.ensures c.index-as_slice-at.result))
