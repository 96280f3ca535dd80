use Rattle.std.proofs.Common.{◌+◌, ◌∙◌, ap, arith}
use Rattle.ci_overflow.proofs.Knowns.{listed-full}
use Rattle.ci_overflow.proofs.tried.try_listed.Goals as goal

pub returns-clause-none : goal.returns-clause-none
returns-clause-none g c = λ t shape l k.
    listed-full shape _ _ (c.args.uow + 1) _ c.args.ci c.in_ok-tried.tried (c.in_ok-tried.ensures.tried t) l
    (omega (arith, c.in_ok-tried.ensures.below, g.met.I.Intervals.numbered c.args.i.now t))
    (c.in_ok-tried.ensures.owner t ∙ ap (λ k. k + 1) c.from.ensures)
