use Rattle.std.proofs.Common.{refl}
use Rattle.std.specs.Fmt.{digits}
use Rattle.show_rows.proofs.audits_are_shown_newest_first.Goals as goal

pub returns : goal.returns
unfolding digits
returns c = refl
