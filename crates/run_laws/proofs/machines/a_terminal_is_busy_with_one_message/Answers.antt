use Rattle.run_laws.proofs.OfMachines.{busy_of, once_of}
use Rattle.run_laws.proofs.machines.a_terminal_is_busy_with_one_message.Goals as goal

pub returns : goal.returns
returns c = record {
  busy = λ defs scripts m are from name. busy_of defs scripts are m from name;
  once = λ defs scripts m are from name. once_of defs scripts are m from name;
}
