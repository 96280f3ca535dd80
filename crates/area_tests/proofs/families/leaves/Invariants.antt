use Rattle.std.proofs.Common.{◌≡◌, List, true}
use Rattle.fp_model.specs.declared.definitions.SegDef.{SegDef}
use Rattle.area_tests.specs.Types.{AreFamilyTypes}
use Rattle.root_anchor.specs.inside.Stored.{row_has_form}
use Rattle.area_tests.proofs.families.leaves.Given as goal

abbrev pub invariant-loop-key : goal.invariant-loop-key
invariant-loop-key l = record {
  payments : (types : List SegDef) → AreFamilyTypes types → l.size ≡ 4 → row_has_form types 2 l.row ≡ true;
  addresses : (types : List SegDef) → AreFamilyTypes types → l.size ≡ 9 → row_has_form types 3 l.row ≡ true;
}
