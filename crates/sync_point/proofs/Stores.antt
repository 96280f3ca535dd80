-- A store with the same databases is of the same definitions.
use Rattle.std.proofs.Common.{◌≡◌, List}
use Rattle.fp_model.specs.declared.definitions.MsdbDef.{MsdbDef}
use Rattle.msdb_store.specs.Store.{IsOf, Stored}

pub same_store : (defs : List MsdbDef) (old new : Stored) → new.layouts ≡ old.layouts → new.msdbs ≡ old.msdbs
    → IsOf defs old → IsOf defs new
same_store defs old new layouts msdbs of = record { layouts = rw layouts of.layouts; each = rw msdbs of.each }
