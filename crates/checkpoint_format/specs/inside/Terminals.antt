-- A terminal that was read, as the model has it.
use Rattle.fp_model.specs.Lasts.{Last}
use Rattle.checkpoint_format.specs.declared.terminals.Terminal.{Terminal}

abbrev pub as_last : Terminal → Last
as_last t = record { lterm = t.lterm; number = t.number; line = t.line }
