use Rattle.std.proofs.Common.{subst, sym}
use Rattle.fp_model.specs.LogText.{FitsEntry, KeepsRules}
use Rattle.fp_system.proofs.Migrations.{format_fits, format_keeps}
use Rattle.fp_system.proofs.acting.append_format.Goals as goal

pub append-requires-clause-rules : goal.append-requires-clause-rules
append-requires-clause-rules c = subst KeepsRules (sym c.format_entry-entry.ensures) (format_keeps _)

pub append-requires-clause-fits : goal.append-requires-clause-fits
append-requires-clause-fits c = subst FitsEntry (sym c.format_entry-entry.ensures) (format_fits _)
