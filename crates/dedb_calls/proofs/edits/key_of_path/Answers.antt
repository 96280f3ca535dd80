use Rattle.std.proofs.Common.{◌∙◌, ◌-◌, List, take, length, sym, ap}
use Rattle.dli_tree.specs.Paths.{steps_of}
use Rattle.dli_tree.specs.declared.path.Step.{Step}
use Rattle.fp_model.specs.DedbCalls.{key_of_path}
use Rattle.dedb_calls.proofs.ArgumentLemmas.{ends_with_key, split}
use Rattle.dedb_calls.proofs.edits.key_of_path.Goals as goal

pub returns-in-len1-up : goal.returns-in-len1-up
returns-in-len1-up c def dedb =
    c.as_slice.ensures
    ∙ sym (ap (λ (steps : List Step). key_of_path def dedb (steps_of steps))
    (split c.args.steps.now c.last-item.result c.in-len1-up.len_at_least c.last-item.is)
    ∙ ends_with_key def dedb (take (length c.args.steps.now - 1) c.args.steps.now) c.last-item.result)
