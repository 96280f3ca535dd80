-- What a transaction keeps of main storage databases, as a part of all that it keeps.
use Rattle.fp_model.specs.declared.definitions.Defs.{Defs}
use Rattle.msdb_calls.specs.Progress.{IsMsdbWorkOf, MsdbProgress}
use Rattle.dli_calls.specs.Progress.{IsWorkOf, Progress}

abbrev pub msdbs_in : Progress → MsdbProgress
msdbs_in work = record { positions = work.own.msdbs; deferred = work.own.deferred; changed = work.changed }

pub msdbs_of : (defs : Defs) (work : Progress) → IsWorkOf defs work → IsMsdbWorkOf defs.msdbs (msdbs_in work)
msdbs_of defs work is = record { positions = is.positions; deferred = is.deferred; changes = is.changes }
