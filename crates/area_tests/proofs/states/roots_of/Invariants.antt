use Rattle.std.proofs.Common.{◌≡◌, List, true, map}
use Rattle.fp_model.specs.declared.definitions.SegDef.{SegDef}
use Rattle.root_anchor.specs.Stored.{are_storable}
use Rattle.area_states.specs.Changes.{kept_root}
use Rattle.area_runs.specs.Types.{AreCustomerTypes}
use Rattle.area_tests.proofs.states.roots_of.Given as goal

abbrev pub invariant-loop-one : goal.invariant-loop-one
invariant-loop-one l = (types : List SegDef) → AreCustomerTypes types → are_storable types (map kept_root l.roots) ≡ true
