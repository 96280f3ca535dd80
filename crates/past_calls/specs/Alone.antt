-- How a transaction that runs alone holds anchors.
use Rattle.std.specs.Prelude.{List, if◌then◌else◌, Option, Some, None, is_some}
use Rattle.fp_model.specs.declared.calls.Mode.{Mode}
use Rattle.fp_model.specs.declared.calls.Mode.TheVariants.{Exclusive}
use Rattle.fp_model.specs.declared.calls.Resource.{Resource}
use Rattle.fp_model.specs.declared.calls.Resource.TheVariants.{Anchor, Segment}
use Rattle.dedb_calls.specs.Anchors.{held_at}
use Rattle.dedb_calls.specs.declared.anchors.HeldAnchor.{HeldAnchor}

-- It holds Exclusive each anchor whose roots it has, and nothing else.
abbrev pub held_alone : List HeldAnchor → Resource → Option Mode
held_alone anchors (Anchor dedb anchor) = if is_some (held_at anchors dedb anchor) then Some Exclusive else None
held_alone anchors (Segment msdb key) = None
