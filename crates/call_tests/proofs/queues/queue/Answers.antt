use Rattle.std.proofs.Common.{◌≡◌, ◌∷◌, [], rules, subst, sym}
use Rattle.std.specs.List.{AllByRecursion}
use Rattle.fp_model.specs.FitCalls.{IsFitDeferred}
use Rattle.call_tests.proofs.queues.queue.Goals as goal

pub returns-clause-fit : goal.returns-clause-fit
returns-clause-fit c defs def is long short =
    let both : c.push-2.new.self ≡ c.in_ok-call.field-0 ∷ c.in_ok-call-2.field-0 ∷ [] = search rules in
    subst (AllByRecursion (IsFitDeferred defs)) (sym both)
    (c.in_ok-call.ensures defs def is long short, (c.in_ok-call-2.ensures defs def is long short, tt))
