use Rattle.std.proofs.Common.{subst, Option}
use Rattle.fp_model.specs.Machine.{terminal_in}
use Rattle.fp_model.specs.declared.name.Name.{Name}
use Rattle.fp_core.specs.inside.Sealing.{AreFreed}
use Rattle.fp_core.proofs.Tells.{freed_one}
use Rattle.fp_core.proofs.sealing.free.Goals as goal

pub returns-in-Some-clause-freed : goal.returns-in-Some-clause-freed
returns-in-Some-clause-freed c =
    subst (λ (o : Option Name). AreFreed c.args.queues.now.busy c.answered.new.self.busy (terminal_in o))
    c.in-Some.ensures
    (freed_one c.args.queues.now.busy c.answered.new.self.busy c.in-Some.name c.answered.ensures.freed)
