use Rattle.std.proofs.Common.{rules, ap}
use Rattle.balancing.proofs.NameLemmas.{all_left, taken_out}
use Rattle.balancing.proofs.queues.Queues.answered.Goals as goal

pub returns-clause-freed : goal.returns-clause-freed
returns-clause-freed c =
    taken_out c.self.inside.waiting.keys c.remove.new.self.keys c.args.self.now.busy c.args.lterm.now
    c.number_of.result (search rules)
    (all_left _ c.self.inside.waiting.keys _ (search rules) c.remove.ensures.keys) (search rules) c.number_of.ensures
    (ap (λ b. b.busy) c.self.view_is) c.remove.ensures.updates.0

pub invariant_of-self : goal.invariant_of-self
invariant_of-self c = (
  c.self.invariant.0,
  c.self.invariant.1,
  all_left _ c.self.inside.waiting.keys _ c.self.invariant.2 c.remove.ensures.keys,
)
