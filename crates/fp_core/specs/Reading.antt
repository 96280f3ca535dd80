-- What IN reads: what a line asks for, and why none is read.
use Rattle.message_lines.specs.declared.lines.LineFault.{LineFault}
use Rattle.message_lines.specs.declared.lines.LineFault.TheVariants as fault
use Rattle.fp_core.specs.declared.stop.Stop.{Stop}
use Rattle.fp_core.specs.declared.stop.Stop.TheVariants as stop

-- ---- why none is read

-- a line that isn't read stops the run
abbrev pub stop_of : LineFault → Stop
stop_of (fault.TooLong number) = stop.LineFault number
stop_of (fault.TooMany number) = stop.LineFault number
stop_of fault.Failed = stop.ReadFault
stop_of fault.Memory = stop.Memory
