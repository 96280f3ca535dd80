use Rattle.std.proofs.Common.{refl}
use Rattle.std.specs.Fmt.{digits}
use Rattle.show_rows.proofs.what_is_empty_is_a_dash.Goals as goal

pub returns-clause-unknown : goal.returns-clause-unknown
unfolding digits
returns-clause-unknown c = refl

pub returns-clause-again : goal.returns-clause-again
unfolding digits
returns-clause-again c = refl

pub returns-clause-change : goal.returns-clause-change
unfolding digits
returns-clause-change c = refl

pub returns-clause-notes : goal.returns-clause-notes
unfolding digits
returns-clause-notes c = refl
