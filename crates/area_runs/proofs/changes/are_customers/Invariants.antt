use Rattle.std.proofs.Common.{◌≡◌, List, drop, map}
use Rattle.fp_model.specs.declared.definitions.SegDef.{SegDef}
use Rattle.area_states.specs.Changes.{kept_root}
use Rattle.area_runs.specs.Types.{AreCustomerTypes}
use Rattle.root_anchor.specs.Stored.{are_storable}
use Rattle.area_runs.proofs.changes.are_customers.Given as goal

-- what is left decides
abbrev pub invariant-loop-root : goal.invariant-loop-root
invariant-loop-root l = (types : List SegDef) → AreCustomerTypes types
    → are_storable types (map kept_root l.roots) ≡ are_storable types (map kept_root (drop l.root-index l.roots))
