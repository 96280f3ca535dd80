use Rattle.std.proofs.Common.{refl}
use Rattle.std.specs.Fmt.{digits}
use Rattle.show_rows.proofs.a_group_is_shown.Goals as goal

pub returns : goal.returns
unfolding digits
returns c = refl
