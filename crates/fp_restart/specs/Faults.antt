-- What a fault of the log is to a caller of this crate.
use Rattle.log_groups.specs.declared.fault.LogFault.{LogFault}
use Rattle.log_groups.specs.declared.fault.LogFault.TheVariants as log
use Rattle.fp_restart.specs.declared.fault.RestartFault.{RestartFault}
use Rattle.fp_restart.specs.declared.fault.RestartFault.TheVariants.{Foreign, SiteFault, Damaged, Memory}

-- damage of the log is damage of data set 0
abbrev pub of_log : LogFault → RestartFault
of_log log.Foreign = Foreign
of_log (log.Damaged at) = Damaged 0 at
of_log log.Failed = SiteFault
of_log log.Memory = Memory
