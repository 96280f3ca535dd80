use Rattle.std.proofs.Common.{arith, ◌∙◌, ap}
use Rattle.ci_locks.specs.Standing.{Standing}
use Rattle.ci_locks.specs.Table.{standing}
use Rattle.ci_locks.proofs.Bridge.{long_rows, stands}
use Rattle.ci_locks.proofs.Shown.{held_is}
use Rattle.ci_locks.proofs.locks.Locks.holds.Goals as goal

pub mode_of-requires-clause-most : goal.mode_of-requires-clause-most
mode_of-requires-clause-most c =
    let l = long_rows c.self.inside.state c.args.self.now c.self.view_is in
    let few = c.self.invariant.few in
    omega (arith, c.requires.within, l, few)

pub returns-clause-exact : goal.returns-clause-exact
returns-clause-exact c =
    c.mode_of.ensures ∙ ap (λ (s : Standing). s.holds c.args.region c.args.resource.now)
    (stands c.self.inside.state c.args.self.now c.self.invariant c.self.view_is)

pub returns-clause-of_lists : goal.returns-clause-of_lists
returns-clause-of_lists c locks requests shows =
    c.mode_of.ensures ∙ ap (λ (s : Standing). s.holds c.args.region c.args.resource.now)
    (stands c.self.inside.state c.args.self.now c.self.invariant c.self.view_is)
    ∙ held_is (standing c.args.self.now) locks requests shows c.args.region c.args.resource.now
