use Rattle.std.proofs.Common.{sym, subst}
use Rattle.fp_model.specs.Rules.{Rules}
use Rattle.fp_model.specs.Turns.{refused_with}
use Rattle.fp_model.specs.declared.log.Outcome.TheVariants as outcome
use Rattle.fp_core.specs.Relation.{StandsFor}
use Rattle.fp_core.proofs.Turns.{starved}
use Rattle.fp_core.proofs.engine.Engine.refuse_for_memory.Goals as goal

pub returns-clause-turned : goal.returns-clause-turned
returns-clause-turned c m t u =
    let engine = c.refuse_bare.new.self in
    starved engine m c.args.region t u.active
    (subst (λ (rules : Rules). StandsFor engine (refused_with rules m c.args.region t outcome.Memory))
    (sym c.refuse_bare.ensures.rules) (c.refuse_bare.ensures.refused m t u))
