use Rattle.ci_locks.proofs.Bridge.{none_held, one_held}
use Rattle.ci_locks.proofs.locks.Locks.any_in.Goals as goal
use Rattle.std.proofs.lemmas.Bool.{true_from_ne_false}

pub returns : goal.returns
returns c = (
  (λ held. one_held c.self.inside.state c.args.self.now c.self.invariant c.self.view_is c.args.dedb c.args.first
      c.args.last (c.any_in.ensures.some held)),
  (λ there. true_from_ne_false c.any_in.result (λ none. none_held c.self.inside.state c.args.self.now c.self.invariant
      c.self.view_is c.args.dedb c.args.first c.args.last (c.any_in.ensures.none none) there)),
)
