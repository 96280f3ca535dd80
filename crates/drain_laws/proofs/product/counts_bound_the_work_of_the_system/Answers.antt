use Rattle.drain_laws.proofs.OfSystem.{work_bound_of}
use Rattle.drain_laws.proofs.product.counts_bound_the_work_of_the_system.Goals as goal

pub returns : goal.returns
returns c = λ defs scripts m unread lines messages active unsealed are cheap h few_lines few_messages few_active
    few_unsealed.
    work_bound_of defs scripts are cheap m unread lines messages active unsealed h few_lines few_messages few_active
    few_unsealed
