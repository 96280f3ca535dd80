use Rattle.std.proofs.Common.{refl}
use Rattle.std.specs.Fmt.{digits}
use Rattle.fp_rows.proofs.numbered.the_reply_lines_of_numbers_and_formats.Goals as goal

pub returns-clause-old : goal.returns-clause-old
unfolding digits
returns-clause-old c = refl

pub returns-clause-old_text : goal.returns-clause-old_text
unfolding digits
returns-clause-old_text c = refl
