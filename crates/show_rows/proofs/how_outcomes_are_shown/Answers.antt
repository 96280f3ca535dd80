use Rattle.std.proofs.Common.{refl}
use Rattle.std.specs.Fmt.{digits}
use Rattle.show_rows.proofs.how_outcomes_are_shown.Goals as goal

pub returns-clause-verify : goal.returns-clause-verify
unfolding digits
returns-clause-verify c = refl

pub returns-clause-absent : goal.returns-clause-absent
unfolding digits
returns-clause-absent c = refl

pub returns-clause-roll : goal.returns-clause-roll
unfolding digits
returns-clause-roll c = refl

pub returns-clause-full : goal.returns-clause-full
unfolding digits
returns-clause-full c = refl

pub returns-clause-deadlock : goal.returns-clause-deadlock
unfolding digits
returns-clause-deadlock c = refl

pub returns-clause-old : goal.returns-clause-old
unfolding digits
returns-clause-old c = refl

pub returns-clause-purge : goal.returns-clause-purge
unfolding digits
returns-clause-purge c = refl
