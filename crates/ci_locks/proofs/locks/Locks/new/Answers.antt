use Rattle.std.proofs.Common.{[], ◌∙◌}
use Rattle.ci_locks.specs.inside.Regions.{standing_of}
use Rattle.ci_locks.proofs.Bridge.{rows_long, shows_rows}
use Rattle.ci_locks.proofs.Shown.{nothing}
use Rattle.ci_locks.proofs.locks.Locks.new.Goals as goal

pub returns-clause-regions : goal.returns-clause-regions
returns-clause-regions c = rows_long c.in_ok-new.field-0.holdings 0 c.in_ok-new.field-0.regions.items ∙
    c.in_ok-new.ensures.regions

pub returns-clause-none : goal.returns-clause-none
returns-clause-none c = shows_rows c.in_ok-new.field-0 [] [] c.in_ok-new.ensures.sound
    (nothing (standing_of c.in_ok-new.field-0) c.in_ok-new.ensures.holds c.in_ok-new.ensures.asks)
