-- A transaction as it begins.
use Rattle.std.proofs.Common.{refl, List, [], ◌∷◌, map}
use Rattle.std.specs.List.{AllZip}
use Rattle.fp_model.specs.declared.definitions.MsdbDef.{MsdbDef}
use Rattle.fp_model.specs.Workspace.{no_msdb_position}
use Rattle.msdb_calls.specs.Progress.{FitsPosition, IsMsdbWorkOf, MsdbProgress}

-- as it begins
abbrev pub begun : List MsdbDef → MsdbProgress
begun defs = record { positions = map (λ def. no_msdb_position) defs; deferred = []; changed = [] }

fresh_fit : (defs : List MsdbDef) → AllZip FitsPosition defs (map (λ (def : MsdbDef). no_msdb_position) defs)
fresh_fit [] = tt
fresh_fit (d ∷ ds) = (tt, fresh_fit ds)

pub begun_fits : (defs : List MsdbDef) → IsMsdbWorkOf defs (begun defs)
begun_fits defs = record {
  positions = fresh_fit defs;
  deferred = tt;
  changes = λ msdb def there key. refl;
}
