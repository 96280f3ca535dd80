use Rattle.std.proofs.Common.{◌≡◌, List, true}
use Rattle.fp_model.specs.declared.definitions.SegDef.{SegDef}
use Rattle.area_tests.specs.Types.{AreFamilyTypes}
use Rattle.root_anchor.specs.inside.Stored.{row_has_form}
use Rattle.area_tests.proofs.families.loans.Given as goal

abbrev pub invariant-loop-place : goal.invariant-loop-place
invariant-loop-place l = (types : List SegDef) → AreFamilyTypes types → row_has_form types 1 l.row ≡ true
