use Rattle.run_laws.proofs.OfMachines.{sealed_of}
use Rattle.run_laws.proofs.machines.sealed_entries_stand.Goals as goal

pub returns : goal.returns
returns c = λ defs scripts m are from. sealed_of defs scripts are m from
