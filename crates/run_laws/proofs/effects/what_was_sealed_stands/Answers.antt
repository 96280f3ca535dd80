use Rattle.run_laws.proofs.Lasting.{sealed_before, sealed_later}
use Rattle.run_laws.proofs.effects.what_was_sealed_stands.Goals as goal

pub returns : goal.returns
returns c = record {
  before = λ defs scripts format before sealed ms m i are few lives c less.
      sealed_before defs scripts are format before sealed ms m i few lives c less;
  later = λ defs scripts format before sealed m ms m2 i are lives c less.
      sealed_later defs scripts are format before sealed m ms m2 i lives c less;
}
