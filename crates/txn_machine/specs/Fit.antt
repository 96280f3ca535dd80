-- Segments shown that fit the database which they come from.
use Rattle.std.specs.Prelude.{ℕ, ◌==◌, Option, find, option_map}
use Rattle.std.specs.List.{AllByRecursion}
use Rattle.fp_model.specs.declared.definitions.Defs.{Defs}
use Rattle.fp_model.specs.Operands.{ShownSegment}
use Rattle.fp_model.specs.Calls.{target_of}
use Rattle.fp_model.specs.FitCalls.{IsShownOf}
use Rattle.txn_machine.specs.declared.shown.Gets.{Gets}
use Rattle.txn_machine.specs.Knowing.{segments_of}

-- a whole segment of a type of its database
abbrev pub IsShownSegment : Defs → ShownSegment → Type 0
IsShownSegment defs shown = IsShownOf (target_of defs shown.db) shown.type_number shown.bytes

-- each is one
pub record AreShown (defs : Defs) (gets : Option Gets) : Type 0 where
  pub each : AllByRecursion (IsShownSegment defs) (segments_of gets)

-- the type of the segment that was shown last of a database
abbrev pub type_shown : Option Gets → ℕ → Option ℕ
type_shown gets db = option_map (λ s. s.type_number) (find (λ s. s.db == db) (segments_of gets))
