use Rattle.state_laws.proofs.Histories.{history_good, last_good}
use Rattle.state_laws.proofs.laws.a_history_keeps_the_shape.Goals as goal

pub returns : goal.returns
returns c = record {
  states = λ defs scripts format entries last are fit serial.
      history_good defs scripts are fit format entries serial.history serial.leads;
  last = λ defs scripts format entries last are fit serial.
      last_good defs scripts are fit format entries serial.history last serial.leads serial.ends;
}
