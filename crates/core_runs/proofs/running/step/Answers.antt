-- A step is a turn, and each turn keeps what the end of a drain rests on.
use Rattle.std.proofs.Common.{◌≡◌}
use Rattle.core_runs.proofs.Reached.{on_ok_by}
use Rattle.core_runs.proofs.running.step.Goals as goal
use Rattle.fp_core.proofs.ReachLemmas.{reached_step}

pub returns-clause-reached : goal.returns-clause-reached
returns-clause-reached g c =
    let before = c.requires.reached.1 in
    let same : c.step.new.self.engine.defs.now ≡ c.args.core.now.engine.defs.now = cc in
    on_ok_by _ _ c.step.result
    (λ did given. reached_step c.args.core.now.engine c.step.new.self.engine c.args.event.now c.requires.reached.0
    given.0 did
    c.step.ensures.rules same before given.1.turned)
    (c.step.ensures.turned c.requires.reached.0 before.stands)
