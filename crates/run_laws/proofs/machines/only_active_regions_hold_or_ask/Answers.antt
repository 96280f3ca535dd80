use Rattle.run_laws.proofs.OfMachines.{holders_of, current_of}
use Rattle.run_laws.proofs.machines.only_active_regions_hold_or_ask.Goals as goal

pub returns : goal.returns
returns c = record {
  locks = λ defs scripts m lock are from c. holders_of defs scripts are m from lock c;
  requests = λ defs scripts m request are from c. current_of defs scripts are m from request c;
}
