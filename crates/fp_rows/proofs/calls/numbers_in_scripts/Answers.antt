use Rattle.std.proofs.Common.{refl}
use Rattle.std.specs.Fmt.{digits}
use Rattle.fp_rows.proofs.calls.numbers_in_scripts.Goals as goal

pub returns-clause-sum : goal.returns-clause-sum
unfolding digits
returns-clause-sum c = refl

pub returns-clause-zero : goal.returns-clause-zero
unfolding digits
returns-clause-zero c = refl

pub returns-clause-product : goal.returns-clause-product
unfolding digits
returns-clause-product c = refl

pub returns-clause-no_number : goal.returns-clause-no_number
unfolding digits
returns-clause-no_number c = refl

pub returns-clause-too_great : goal.returns-clause-too_great
unfolding digits
returns-clause-too_great c = refl

pub returns-clause-too_long : goal.returns-clause-too_long
unfolding digits
returns-clause-too_long c = refl
