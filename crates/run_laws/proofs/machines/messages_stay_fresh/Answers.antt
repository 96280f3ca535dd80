use Rattle.run_laws.proofs.OfMachines.{queued_fresh, active_fresh}
use Rattle.run_laws.proofs.machines.messages_stay_fresh.Goals as goal

pub returns : goal.returns
returns c = record {
  queued = λ defs scripts m messages message are from c d. queued_fresh defs scripts are m from messages message c d;
  active = λ defs scripts m region t are from at. active_fresh defs scripts are m from region t at;
}
