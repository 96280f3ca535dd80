use Rattle.std.proofs.Common.{rules, ap, ◌∙◌}
use Rattle.fp_model.specs.Machine.{is_among}
use Rattle.balancing.proofs.NameLemmas.{among_is_contained}
use Rattle.balancing.proofs.queues.Queues.busy.Goals as goal

pub returns : goal.returns
returns c =
    c.contains.ensures
    ∙ among_is_contained c.self.inside.waiting.keys c.args.lterm.now c.number_of.result (search rules) (search rules)
    c.number_of.ensures
    ∙ ap (λ b. is_among b.busy c.args.lterm.now) c.self.view_is
