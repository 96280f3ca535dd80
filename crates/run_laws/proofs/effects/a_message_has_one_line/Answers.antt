use Rattle.run_laws.proofs.Once.{repeats_line}
use Rattle.run_laws.proofs.Lasting.{one_line}
use Rattle.run_laws.proofs.effects.a_message_has_one_line.Goals as goal

pub returns : goal.returns
returns c = record {
  repeats = λ defs scripts h j b name number line serial n repeated.
      repeats_line defs scripts h serial j b name number line n repeated;
  runs = λ defs scripts format before sealed ms m m2 i j a b name number are lives c c2 less less2 n n2 new new2.
      one_line defs scripts are format before sealed ms lives m m2 i j a b name number c c2 less less2 n n2 new new2;
}
