use Rattle.std.proofs.Common.{drop, sym, subst}
use Rattle.std.specs.List.{AllByRecursion}
use Rattle.fp_model.specs.WellFormed.{IsAreaDef}
use Rattle.dedb_area.proofs.Defined.{first_left}
use Rattle.dedb_area.proofs.opening.add_places.Goals as goal

pub add_place-requires-clause-area : goal.add_place-requires-clause-area
add_place-requires-clause-area c =
    first_left (IsAreaDef c.args.def.now.segments) c.as_slice-area-items.result.now c.loop-area.area-index _
    c.loop-area-test.true
    (subst (λ l. AllByRecursion (IsAreaDef c.args.def.now.segments) (drop c.loop-area.area-index l))
    (sym c.as_slice-area-items.ensures) c.loop-area.invariant.left)
