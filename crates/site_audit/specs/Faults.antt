-- Faults of the log and of the site, as an audit tells them.
use Rattle.log_groups.specs.declared.fault.LogFault.{LogFault}
use Rattle.log_groups.specs.declared.fault.LogFault.TheVariants as log
use Rattle.site_audit.specs.declared.fault.AuditFault.{AuditFault}
use Rattle.site_audit.specs.declared.fault.AuditFault.TheVariants as fault

abbrev pub of_log : LogFault → AuditFault
of_log log.Foreign = fault.Foreign
of_log (log.Damaged at) = fault.Damaged at
of_log log.Failed = fault.SiteFault
of_log log.Memory = fault.Memory
