-- The answer to each fault of the parts.
use Rattle.def_tables.specs.declared.fault.DefsFault.{DefsFault}
use Rattle.def_tables.specs.declared.fault.DefsFault.TheVariants as bad
use Rattle.fp_schedule.specs.declared.fault.ScheduleFault.{ScheduleFault}
use Rattle.fp_schedule.specs.declared.fault.ScheduleFault.TheVariants as unfit
use Rattle.command_tasks.specs.declared.status.Status.{Status}
use Rattle.command_tasks.specs.declared.status.Status.TheVariants.{Definitions, Scripts, Schedule, NoMemory}
use Rattle.txn_lang.specs.declared.fault.ScriptFault.{ScriptFault}
use Rattle.txn_lang.specs.declared.fault.ScriptFault.TheVariants as wrong

-- of the definitions
abbrev pub status_of_definitions : DefsFault → Status
status_of_definitions bad.Memory = NoMemory
status_of_definitions fault = Definitions fault

-- of the scripts
abbrev pub status_of_scripts : ScriptFault → Status
status_of_scripts wrong.Memory = NoMemory
status_of_scripts fault = Scripts fault

-- of the schedule
abbrev pub status_of_schedule : ScheduleFault → Status
status_of_schedule unfit.Memory = NoMemory
status_of_schedule fault = Schedule fault
