-- Answers of commands, and what they come of.
use Rattle.std.specs.Prelude.{◌≡◌, Err, Ok, Result}
use Rattle.command_tasks.specs.Answers.{IsEarly}
use Rattle.command_tasks.specs.declared.status.Status.{Status}
use Rattle.command_tasks.specs.declared.status.Status.TheVariants.{Done, ReadFault, SiteFault, Foreign, Damaged, Line, NoMemory, Illegal}
use Rattle.fp_core.specs.declared.stop.Stop.{Stop}
use Rattle.fp_core.specs.declared.stop.Stop.TheVariants as stop
use Rattle.fp_restart.specs.declared.fault.RestartFault.{RestartFault}
use Rattle.fp_restart.specs.declared.fault.RestartFault.TheVariants as fault
use Rattle.site_audit.specs.declared.fault.AuditFault.{AuditFault}
use Rattle.site_audit.specs.declared.fault.AuditFault.TheVariants as unsound

-- an answer of a command that reads no line: it isn't early, and no read fault
abbrev pub IsOfSite : Status → Type 0
IsOfSite answer = (IsEarly answer → ⊥) × (answer ≡ ReadFault → ⊥)

-- ---- the answer to each fault

-- of a step that ended the run
abbrev pub status_of_stop : Stop → Status
status_of_stop stop.LogFault = SiteFault
status_of_stop stop.ReadFault = ReadFault
status_of_stop (stop.LineFault number) = Line number
status_of_stop stop.Memory = NoMemory

-- of storage
abbrev pub status_of_fault : RestartFault → Status
status_of_fault fault.Foreign = Foreign
status_of_fault fault.SiteFault = SiteFault
status_of_fault (fault.Damaged set at) = Damaged set at
status_of_fault fault.Memory = NoMemory

-- ---- the answer to what a call came to

-- of storage
abbrev pub answer_of : {A : Type 0} → Result A RestartFault → Status
answer_of (Ok x) = Done
answer_of (Err why) = status_of_fault why

-- of a seal
abbrev pub status_of_seal : {A E : Type 0} → Result A E → Status
status_of_seal (Ok x) = Done
status_of_seal (Err why) = SiteFault

-- of an audit
abbrev pub status_of_audit : {A : Type 0} → Result A AuditFault → Status
status_of_audit (Ok x) = Done
status_of_audit (Err unsound.Foreign) = Foreign
status_of_audit (Err unsound.SiteFault) = SiteFault
status_of_audit (Err (unsound.Damaged at)) = Damaged 0 at
status_of_audit (Err (unsound.Illegal entry)) = Illegal entry
status_of_audit (Err unsound.Memory) = NoMemory
