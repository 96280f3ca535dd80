use Rattle.root_anchor.proofs.WalkLemmas.{walk_pushed}
use Rattle.root_anchor.proofs.walk.Walk.meet.Goals as goal

pub returns-clause-walk : goal.returns-clause-walk
returns-clause-walk c = λ number w fresh below inside.
    walk_pushed number c.args.self.now _ c.args.standing w fresh below inside c.in_ok-push.ensures.items
    c.in_ok-insert.ensures.updates.0
