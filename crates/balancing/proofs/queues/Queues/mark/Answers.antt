use Rattle.std.proofs.Common.{rules, ap}
use Rattle.balancing.proofs.NameLemmas.{all_put, put_last}
use Rattle.balancing.proofs.queues.Queues.mark.Goals as goal

pub returns-clause-ok : goal.returns-clause-ok
returns-clause-ok c =
    put_last c.self.inside.waiting.keys c.insert.new.self.keys c.args.self.now.busy c.args.lterm.now
    c.number_of.result (search rules)
    (all_put _ c.self.inside.waiting.keys _ c.number_of.result (search rules) (search rules) c.in_ok-insert.ensures.keys) (search rules)
    c.number_of.ensures
    (ap (λ b. b.busy) c.self.view_is) c.in_ok-insert.ensures.updates.0

pub invariant_of-self-2 : goal.invariant_of-self-2
invariant_of-self-2 c = (
  c.self.invariant.0,
  c.self.invariant.1,
  all_put _ c.self.inside.waiting.keys _ c.number_of.result c.self.invariant.2 c.number_of.type_inv
      c.in_ok-insert.ensures.keys,
)
