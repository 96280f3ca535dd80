use Rattle.std.proofs.Common.{◌≡◌, ◌++◌, take}
use Rattle.std.specs.Prelude.{flat_map}
use Rattle.fp_show.specs.DbText.{typed_line}
use Rattle.fp_show.proofs.walk.put_sequentials.Given as goal

-- the dependents so far are there
abbrev pub invariant-loop-item : goal.invariant-loop-item
invariant-loop-item l =
    l.into ≡ l.initial.into ++ flat_map (λ item. typed_line l.types l.number 2 item.bytes) (take l.item-index l.items)
