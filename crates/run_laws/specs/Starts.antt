-- Machines that a run led to behind a serial history.
use Rattle.fp_model.specs.Rules.{Rules}
use Rattle.fp_model.specs.Machine.{Machine}
use Rattle.fp_model.specs.SerialHistory.{IsSerial}
use Rattle.drain_laws.specs.Live.{IsFromRest}

-- A run led to the machine, from one at rest behind a serial history.
pub record IsFromSerial (rules : Rules) (m : Machine) : Type 0 where
  pub from : IsFromRest rules m
  pub is_serial : IsSerial rules from.start
