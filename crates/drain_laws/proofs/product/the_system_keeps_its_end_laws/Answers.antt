use Rattle.drain_laws.proofs.SystemEnds.{end_laws_of, line_weighs}
use Rattle.drain_laws.proofs.product.the_system_keeps_its_end_laws.Goals as goal

pub returns : goal.returns
returns c = record {
  laws = λ defs scripts are cheap. end_laws_of defs scripts are cheap;
  weight = line_weighs;
}
