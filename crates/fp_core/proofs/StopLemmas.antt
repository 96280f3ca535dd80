-- Which event a stop tells of: LOG or CKPT where the log failed, and an IN that reads a line where the source did.
use Rattle.std.proofs.Common.{◌≡◌, refl, ℕ, List, Option, None}
use Rattle.fp_model.specs.declared.events.Event.{Event}
use Rattle.fp_model.specs.declared.events.Event.TheVariants as event
use Rattle.fp_core.specs.declared.stop.Stop.{Stop}
use Rattle.fp_core.specs.declared.stop.Stop.TheVariants as stop
use Rattle.fp_core.specs.Sparing.{IsSealing}
use Rattle.fp_core.specs.Standing.{MayStop}

pub log_fault_seals : (e : Event) (held : Option (List ℕ)) → MayStop e held stop.LogFault → IsSealing e
log_fault_seals event.In held may = absurd may
log_fault_seals (event.Region region) held may = absurd may
log_fault_seals event.Log held may = tt
log_fault_seals event.Out held may = absurd may
log_fault_seals event.Ckpt held may = tt
log_fault_seals (event.Purge set n) held may = absurd may

pub read_fault_reads : (e : Event) (held : Option (List ℕ)) → MayStop e held stop.ReadFault
    → (e ≡ event.In) × (held ≡ None)
read_fault_reads event.In held may = (refl, may)
read_fault_reads (event.Region region) held may = absurd may
read_fault_reads event.Log held may = absurd may
read_fault_reads event.Out held may = absurd may
read_fault_reads event.Ckpt held may = absurd may
read_fault_reads (event.Purge set n) held may = absurd may

pub line_fault_reads : (e : Event) (held : Option (List ℕ)) (number : ℕ) → MayStop e held (stop.LineFault number)
    → (e ≡ event.In) × (held ≡ None)
line_fault_reads event.In held number may = (refl, may)
line_fault_reads (event.Region region) held number may = absurd may
line_fault_reads event.Log held number may = absurd may
line_fault_reads event.Out held number may = absurd may
line_fault_reads event.Ckpt held number may = absurd may
line_fault_reads (event.Purge set n) held number may = absurd may

-- OUT stops nothing
pub never_out : (held : Option (List ℕ)) (given : Stop) → MayStop event.Out held given → ⊥
never_out held given may = may
