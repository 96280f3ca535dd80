use Rattle.std.proofs.Common.{arith, ◌∙◌, sym}
use Rattle.ci_locks.specs.inside.Regions.{standing_of}
use Rattle.ci_locks.proofs.Bridge.{long_rows, rows_long, shows_code, shows_rows}
use Rattle.ci_locks.proofs.Shown.{freed}
use Rattle.ci_locks.proofs.locks.Locks.release_all.Goals as goal

pub free-requires-clause-within : goal.free-requires-clause-within
free-requires-clause-within c = let l = long_rows c.self.inside.state c.args.self.now c.self.view_is in
    omega (arith, c.requires.within, l)

pub returns-clause-lists : goal.returns-clause-lists
returns-clause-lists c locks requests shows =
    shows_rows c.free.new.self _ _ c.free.ensures.sound
    (freed (standing_of c.self.inside.state) (standing_of c.free.new.self) c.args.region locks requests
    c.free.ensures.after (shows_code c.self.inside.state c.args.self.now locks requests c.self.invariant
    c.self.view_is shows))

pub returns-clause-regions : goal.returns-clause-regions
returns-clause-regions c = rows_long c.free.new.self.holdings 0 c.free.new.self.regions.items ∙
    c.free.ensures.after.regions ∙ sym (long_rows c.self.inside.state c.args.self.now c.self.view_is)
