use Rattle.drain_laws.proofs.Counts.{work_within}
use Rattle.drain_laws.proofs.any_rules.counts_bound_the_work.Goals as goal

pub returns : goal.returns
returns c = λ rules gauge m unread lines messages active unsealed laws h few_lines few_messages few_active
    few_unsealed.
    work_within rules gauge laws m h unread lines messages active unsealed few_lines few_messages few_active
    few_unsealed
