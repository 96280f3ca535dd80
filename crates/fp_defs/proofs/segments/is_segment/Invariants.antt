use Rattle.std.proofs.Common.{◌≡◌, drop}
use Rattle.def_tables.specs.Keys.{occurs}
use Rattle.fp_defs.specs.Segments.{segment_names}
use Rattle.fp_defs.proofs.segments.is_segment.Given as goal

abbrev pub invariant-loop-draft : goal.invariant-loop-draft
invariant-loop-draft l = occurs (segment_names (drop l.draft-index l.drafts)) l.name.0 ≡ occurs (segment_names l.drafts)
    l.name.0
