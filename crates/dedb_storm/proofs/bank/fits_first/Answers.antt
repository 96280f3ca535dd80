use Rattle.std.proofs.Common.{◌≡◌, ◌<◌, arith, length}
use Rattle.fp_model.specs.Calls.{database_of}
use Rattle.dedb_calls.proofs.ArgumentLemmas.{indexed}
use Rattle.dli_calls.specs.Progress.{dedbs_in}
use Rattle.dedb_storm.proofs.bank.fits_first.Goals as goal

pub held_type-requires : goal.held_type-requires
held_type-requires c = omega (arith, c.if-count-lt1.false, c.len-count.ensures, c.requires)

pub returns : goal.returns
returns c fits =
    let some : 0 < length c.args.defs.now.dedbs = omega (arith, c.if-count-lt1.false, c.len-count.ensures) in
    let number : database_of c.args.call.now ≡ length c.args.defs.now.msdbs =
    omega (arith, c.if-number-behind.false, c.from-number.ensures, c.database_of.ensures, c.len-behind.ensures) in (
      c.index-as_slice-0.result,
      indexed c.args.defs.now.dedbs c.as_slice.result.now c.index-as_slice-0.result 0 0 c.as_slice.ensures (omega arith)
          c.index-as_slice-0.is some,
      number,
      c.fits_call.ensures fits (dedbs_in c.args.work.now) (c.held_type.ensures c.index-as_slice-0.result),
    )
