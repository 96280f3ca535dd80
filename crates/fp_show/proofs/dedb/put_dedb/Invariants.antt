use Rattle.std.proofs.Common.{◌≡◌, ◌++◌, drop}
use Rattle.fp_show.specs.DbText.{anchors_text}
use Rattle.fp_show.proofs.dedb.put_dedb.Given as goal

-- the anchors from this one on are left
abbrev pub invariant-loop-anchor : goal.invariant-loop-anchor
invariant-loop-anchor l =
    l.into ++ anchors_text l.def.segments l.anchor (drop l.anchor l.dedb.anchors)
    ≡ l.initial.into ++ anchors_text l.def.segments 0 l.dedb.anchors
