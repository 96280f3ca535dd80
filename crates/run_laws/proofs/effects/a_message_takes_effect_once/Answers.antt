use Rattle.run_laws.proofs.Once.{used_once}
use Rattle.run_laws.proofs.Lasting.{once_in, one_effect}
use Rattle.run_laws.proofs.effects.a_message_takes_effect_once.Goals as goal

pub returns : goal.returns
returns c = record {
  history = λ defs scripts h i j a b name number serial n n2 uses uses2.
      used_once defs scripts h serial i j a b name number n n2 uses uses2;
  run = λ defs scripts format before sealed ms m i j a b name number are lives c n n2 uses uses2.
      once_in defs scripts are format before sealed ms lives m i j a b name number c n n2 uses uses2;
  runs = λ defs scripts format before sealed ms m m2 i j a b name number are lives c c2 less less2 n n2 uses uses2.
      one_effect defs scripts are format before sealed ms lives m m2 i j a b name number c c2 less less2 n n2 uses
      uses2;
}
