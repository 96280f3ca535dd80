use Rattle.drain_laws.proofs.OfSystem.{rounds_of, drain_of, counts_of, part_of, there_of}
use Rattle.drain_laws.proofs.product.the_drain_of_the_system_ends.Goals as goal

pub returns : goal.returns
returns c = record {
  rounds = λ defs scripts m rounds m2 are cheap from goes. rounds_of defs scripts are cheap m from rounds m2 goes;
  drain = λ defs scripts m rounds m2 are cheap from drains. drain_of defs scripts are cheap m from rounds m2 drains;
  counts = λ defs scripts m rounds m2 are cheap from drains. counts_of defs scripts are cheap m from rounds m2 drains;
  part = λ defs scripts m rounds last m2 are cheap from drains.
      part_of defs scripts are cheap m from rounds last m2 drains;
  there = λ defs scripts m are cheap from. there_of defs scripts are cheap m from;
}
