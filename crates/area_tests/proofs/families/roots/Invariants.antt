use Rattle.std.proofs.Common.{◌≡◌, List, true}
use Rattle.fp_model.specs.declared.definitions.SegDef.{SegDef}
use Rattle.area_tests.specs.Types.{AreFamilyTypes}
use Rattle.root_anchor.specs.Stored.{are_storable}
use Rattle.area_tests.proofs.families.roots.Given as goal

abbrev pub invariant-loop-parent : goal.invariant-loop-parent
invariant-loop-parent l = (types : List SegDef) → AreFamilyTypes types → are_storable types l.roots ≡ true
