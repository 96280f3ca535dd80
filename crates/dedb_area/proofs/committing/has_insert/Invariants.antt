use Rattle.std.proofs.Common.{◌≡◌, drop}
use Rattle.std.specs.List.{list_any}
use Rattle.area_states.specs.Places.{has_anchor}
use Rattle.dedb_area.proofs.committing.has_insert.Given as goal

-- none of those before is one of the area
abbrev pub invariant-loop-insert : goal.invariant-loop-insert
invariant-loop-insert l =
    list_any (λ x. has_anchor l.place x.dedb x.anchor) l.inserts
    ≡ list_any (λ x. has_anchor l.place x.dedb x.anchor) (drop l.insert-index l.inserts)
