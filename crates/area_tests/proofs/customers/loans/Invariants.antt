use Rattle.std.proofs.Common.{◌≡◌, List, true}
use Rattle.fp_model.specs.declared.definitions.SegDef.{SegDef}
use Rattle.area_runs.specs.Types.{AreCustomerTypes}
use Rattle.root_anchor.specs.inside.Stored.{row_has_form}
use Rattle.area_tests.proofs.customers.loans.Given as goal

abbrev pub invariant-loop-loan : goal.invariant-loop-loan
invariant-loop-loan l = (types : List SegDef) → AreCustomerTypes types → row_has_form types 2 l.row ≡ true
