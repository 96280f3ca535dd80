-- A number that an entry used up, as the model has it.
use Rattle.fp_model.specs.Lasts.{Last}
use Rattle.fp_restart.specs.declared.numbers.Used.{Used}

abbrev pub as_last : Used → Last
as_last used = record { lterm = used.lterm; number = used.number; line = used.line }
