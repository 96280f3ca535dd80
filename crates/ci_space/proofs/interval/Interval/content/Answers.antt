use Rattle.std.proofs.Common.{◌≡◌, ◌∙◌}
use Rattle.ci_space.proofs.interval.Interval.content.Goals as goal

pub returns : goal.returns
returns c =
    let v : c.deref.result.now ≡ c.args.self.now = c.deref.ensures.value ∙ c.self.view_is in
    rw (← v, ← c.from.ensures) c.content.ensures
