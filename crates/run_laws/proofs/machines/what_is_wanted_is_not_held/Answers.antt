use Rattle.run_laws.proofs.OfMachines.{isnt_served, isnt_exclusive}
use Rattle.run_laws.proofs.machines.what_is_wanted_is_not_held.Goals as goal

pub returns : goal.returns
returns c = record {
  served = λ defs scripts m region t ask needed e. isnt_served defs scripts m region t needed ask e;
  exclusive = λ defs scripts m region t ask needed e. isnt_exclusive defs scripts m region t needed ask e;
}
