use Rattle.std.proofs.Common.{◌∙◌, ◌-◌, take, length, sym, ap}
use Rattle.dli_tree.specs.Paths.{steps_of}
use Rattle.fp_model.specs.DedbCalls.{type_of_path}
use Rattle.dedb_calls.proofs.ArgumentLemmas.{ends_with, split}
use Rattle.dedb_calls.proofs.get.type_of_path.Goals as goal

pub returns-in-len1-up : goal.returns-in-len1-up
returns-in-len1-up c def dedb =
    sym (ap (λ steps. type_of_path def dedb (steps_of steps))
    (split c.args.steps.now c.last-item.result c.in-len1-up.len_at_least c.last-item.is)
    ∙ ends_with def dedb (take (length c.args.steps.now - 1) c.args.steps.now) c.last-item.result)
