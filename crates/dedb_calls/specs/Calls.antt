-- Parts of what calls are answered.
use Rattle.std.specs.Prelude.{◌≡◌, ⊤, ℕ, true, Some}
use Rattle.fp_model.specs.declared.calls.Call.{Call}
use Rattle.fp_model.specs.declared.calls.Call.TheVariants as call
use Rattle.fp_model.specs.declared.calls.Get.{Get}
use Rattle.fp_model.specs.declared.definitions.DedbDef.{DedbDef}
use Rattle.fp_model.specs.DedbCalls.{type_of_path}
use Rattle.fp_model.specs.FitCalls.{AreFitSsas}
use Rattle.fp_model.specs.Order.{Place, last_type}
use Rattle.fp_model.specs.Shape.{has_length}
use Rattle.dedb_calls.specs.Progress.{DedbProgress, held_in}

-- A call fits the database, by the place that is held: types are in range, keys and segments have their lengths, and a
-- replacement that of the segment that is held.
abbrev pub FitsCallOn : DedbDef → ℕ → DedbProgress → Call → Type 0
FitsCallOn def dedb work (call.Get get hold db ssas) = AreFitSsas def.segments ssas
FitsCallOn def dedb work (call.Fld db key fsas) = ⊤
FitsCallOn def dedb work (call.Isrt db ssas bytes) =
    AreFitSsas def.segments ssas × (has_length def.segments (last_type 0 ssas) bytes ≡ true)
FitsCallOn def dedb work (call.Repl db bytes) =
    (place : Place) → held_in work dedb ≡ Some place
    → has_length def.segments (type_of_path def dedb place.path) bytes ≡ true
FitsCallOn def dedb work (call.Dlet db) = ⊤
