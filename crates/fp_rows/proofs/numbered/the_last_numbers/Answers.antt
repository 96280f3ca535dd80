use Rattle.std.proofs.Common.{refl}
use Rattle.std.specs.Fmt.{digits}
use Rattle.fp_rows.proofs.numbered.the_last_numbers.Goals as goal

pub returns-clause-both_runs : goal.returns-clause-both_runs
unfolding digits
returns-clause-both_runs c = refl
