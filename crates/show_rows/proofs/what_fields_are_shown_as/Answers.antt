use Rattle.std.proofs.Common.{refl}
use Rattle.std.specs.Fmt.{digits}
use Rattle.show_rows.proofs.what_fields_are_shown_as.Goals as goal

pub returns-clause-unsigned : goal.returns-clause-unsigned
unfolding digits
returns-clause-unsigned c = refl

pub returns-clause-half : goal.returns-clause-half
unfolding digits
returns-clause-half c = refl

pub returns-clause-full : goal.returns-clause-full
unfolding digits
returns-clause-full c = refl

pub returns-clause-packed : goal.returns-clause-packed
unfolding digits
returns-clause-packed c = refl

pub returns-clause-minus : goal.returns-clause-minus
unfolding digits
returns-clause-minus c = refl
