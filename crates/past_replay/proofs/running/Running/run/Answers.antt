use Rattle.std.proofs.Common.{◌≤◌, arith}
use Rattle.fp_model.specs.Asking.{full_cost}
use Rattle.past_replay.proofs.ListLemmas.{each_has}
use Rattle.past_replay.proofs.running.Running.run.Goals as goal

pub returns-in-Some : goal.returns-in-Some
returns-in-Some g c = rw c.in-Some.is at (c.in_ok-end.ensures.ends c.loop.counter c.loop.invariant)

pub unreachable-requires : goal.unreachable-requires
unreachable-requires g c =
    let s = c.loop.invariant in
    let cheap : full_cost s.script.statements ≤ 10000
    = each_has (λ script. full_cost script.statements ≤ 10000) c.args.it.now.scripts.now.scripts
    c.loop.self.program.number s.script c.requires.can.setup.cheap s.numbered in
    omega (arith, cheap, s.budget, c.loop-test.false)
