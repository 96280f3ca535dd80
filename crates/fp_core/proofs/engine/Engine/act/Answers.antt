use Rattle.fp_core.proofs.engine.Engine.act.Goals as goal

pub returns-in-Err-clause-turned : goal.returns-in-Err-clause-turned
returns-in-Err-clause-turned g c m t w = c.refuse_for_memory.ensures.turned m t (c.in-Err.ensures.err m t w)
