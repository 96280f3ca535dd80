use Rattle.std.proofs.Common.{◌≡◌, List, true}
use Rattle.fp_model.specs.declared.definitions.SegDef.{SegDef}
use Rattle.area_runs.specs.Types.{AreCustomerTypes}
use Rattle.root_anchor.specs.Stored.{are_storable}
use Rattle.area_tests.proofs.customers.roots.Given as goal

abbrev pub invariant-loop-customer : goal.invariant-loop-customer
invariant-loop-customer l = (types : List SegDef) → AreCustomerTypes types → are_storable types l.roots ≡ true
